-- A reply that a copy sends ends the link of the request that it had in hand.
use Rattle.std.proofs.Common.{◌≡◌, ℕ, ◌<◌, ℤ, List, [], ◌∷◌, length, map, Some, slice_get, refl, ap, sym, ◌∙◌}
use Rattle.gd_words.specs.Members.{IsAmong}
use Rattle.gd_words.specs.declared.message.Reply.{Reply}
use Rattle.tal_tree.specs.declared.act.Act.{Act}
use Rattle.tal_tree.specs.declared.site.Site.{Site}
use Rattle.schedule.specs.declared.event.Event.{Event}
use Rattle.checkpoint_image.specs.declared.receive.OpenerBlock.{OpenerBlock}
use Rattle.process_semantics.specs.declared.point.Point.TheVariants as point
use Rattle.process_semantics.specs.Process as process
use Rattle.process_histories.proofs.Steady.{answered-calm, calm-away, done-steady}
use Rattle.plain_semantics.specs.Openers.{openers_of}
use Rattle.world_semantics.specs.declared.role.Role.TheVariants.{Acting}
use Rattle.world_semantics.specs.declared.which.Which.{Which}
use Rattle.world_semantics.specs.Core.{Core, Deed, Advances, goes, takes, asks, gets, answers, acts, core_replied}
use Rattle.world_semantics.specs.Follows.{IsRun}
use Rattle.world_semantics.specs.Kept.{Enters}
use Rattle.world_semantics.specs.Messages.{Message, Asking, Replying, Checkpointing, Taking, Sending, sent_at, Cause}
use Rattle.world_semantics.specs.Messages.{Running}
use Rattle.world_semantics.specs.Own.{Around, around, Causes, by_inner, by_take, by_ask, by_answer, by_device, by_write}
use Rattle.world_semantics.specs.Own.{by_reply, asked_on}
use Rattle.world_semantics.specs.Passes.{Passes, by_send, by_pass_again, by_pass, by_end, by_apply, by_apply_behind}
use Rattle.world_semantics.specs.Passes.{by_acknowledge}
use Rattle.world_semantics.specs.Passes.{checkpoint_of, taken_of}
use Rattle.world_semantics.specs.Rules.{Change, by_own, by_checkpoint, by_request, by_early_request, by_enter, by_print}
use Rattle.world_semantics.specs.Rules.{by_stop, by_mark, by_reload, after_own}
use Rattle.world_semantics.specs.World.{Copy, Down, Pair, World, copy_of}
use Rattle.world_semantics.proofs.Lists.{some-same}
use Rattle.served_requests.specs.letter_laws.specs.takeover_laws.specs.Fit.{IsFit}
use Rattle.served_requests.specs.letter_laws.proofs.Awaited.{acting-done}
use Rattle.served_requests.specs.letter_laws.proofs.Given.{only}
use Rattle.node_needs.specs.NodeNeeds.{in_hand_by, last_taken, needs_at}
use Rattle.link_laws.specs.Effects.{HasHeldMore, answered_name}
use Rattle.link_laws.proofs.Copies.{IsSeatedAs, acts-none, acts-there, at-none, awaited-stays, entered-seat, own-held}
use Rattle.link_laws.proofs.Copies.{rests-none, run-good, waiting-stays}
use Rattle.link_laws.proofs.Lists.{one-gone}
use Rattle.link_laws.proofs.Messages.{answered_in, no-answer, not-answered, sent-one}

module _ (site : Site) (fit : IsFit site) (events : List Event) (w : World) (few : length events < 4294967296)
    (run : IsRun site events w) (node : ℕ) (reply : Reply) where
  abbrev Tells : List Sending → Type 0
  Tells sendings = IsAmong (record { node = node; message = Replying reply }) sendings

  abbrev IsEnded : World → Type 0
  IsEnded next = HasHeldMore (answered_name reply) (needs_at site next node) (needs_at site w node)

  -- a copy answers the opener at a place
  module _ (number : ℕ) (k : Which) (pair : Pair) (there : slice_get w.processes number ≡ Some pair)
      (role : (copy_of k pair).role ≡ Acting) (place depth : ℕ) (words : List ℤ) (block : OpenerBlock)
      (at : process.point (copy_of k pair).core.state ≡ point.Answer)
      (hand : (copy_of k pair).core.receive.in_hand ≡ Some place)
      (stood : slice_get (copy_of k pair).core.receive.openers place ≡ Some block) where
    abbrev before : Core
    before = (copy_of k pair).core

    abbrev now : Core
    now = core_replied depth place block words before

    answered-ended : (entered : Copy) (kept : List Act) (after : Around) (last : ℕ) → last ≡ block.taken
        → IsSeatedAs (copy_of k pair) entered
        → after.waiting ≡ (copy_of k pair).waiting
        → Tells (sent_at (copy_of k pair).processor
        (Replying (record { process = number; opener = place; number = last; words = words }) ∷ []))
        → IsEnded (after_own number k pair now entered after kept w)
    answered-ended entered kept after last taken seat waits among =
        let sent = sent-one (copy_of k pair).processor node (Replying reply)
        (Replying (record { process = number; opener = place; number = last; words = words }) ∷ []) among in
        let named = ap answered_in (only (Replying reply) _ sent.among) in
        let is = acting-done site (length events) w (run-good site fit events w few run) number pair k there role in
        let steady = done-steady (fit.regular number is.spec is.there) is.done in
        record {
          in_hand =
              one-gone (answered_name reply) (own-held site w number k pair there now entered after kept node)
              (acts-none node entered.role entered.processor (in_hand_by number now.receive now.receive.in_hand) refl)
              (acts-there node (copy_of k pair).role (copy_of k pair).processor
              (in_hand_by number before.receive before.receive.in_hand) (answered_name reply ∷ []) role (sym sent.here)
              (ap (in_hand_by number before.receive) hand ∙ ap (last_taken number place) stood
              ∙ ap (λ (n : ℕ). record { process = number; opener = place; number = n } ∷ []) (sym taken)
              ∙ sym named));
          waiting = sym (waiting-stays site w number k pair there now entered after kept node seat waits);
          awaited =
              sym (awaited-stays site w number k pair there now entered after kept node seat
              (rests-none site number now (calm-away _ (answered-calm before.state steady at)))
              (at-none site number before point.Answer at (λ same. cc)));
        }

  own-ended : (number : ℕ) (k : Which) (pair : Pair) → slice_get w.processes number ≡ Some pair
      → (copy_of k pair).role ≡ Acting → {cause : Cause} {deed : Deed} {done : Act} {messages : List Message}
      {after : Around}
      → Causes site number (copy_of k pair).processor (copy_of k pair).core (around (copy_of k pair) pair w) cause deed
      done messages after
      → {core : Core} {entered : Copy} {kept : List Act}
      → Advances (openers_of site number) (copy_of k pair).core deed core
      → Enters number done w.kept (copy_of k pair) entered kept → Tells (sent_at (copy_of k pair).processor messages)
      → IsEnded (after_own number k pair core entered after kept w)
  own-ended number k pair there role by_inner (goes at) enters among = absurd among
  own-ended number k pair there role (by_take chosen) (takes block at known) enters among = absurd among
  own-ended number k pair there role (by_ask {file = file} {words = words}) (asks at named said) enters among =
      absurd (no-answer reply (asked_on site number (copy_of k pair).core file words)
      (sent-one (copy_of k pair).processor node (Replying reply)
      (map Asking (asked_on site number (copy_of k pair).core file words)) among).among)
  own-ended number k pair there role (by_device stood) (acts at call) enters among = absurd among
  own-ended number k pair there role (by_write new) (acts at call) enters among = absurd among
  own-ended number k pair there role (by_reply sent opens same said) (gets at named) enters among = absurd among
  own-ended number k pair there role {after = after} (by_answer {place = place} {words = words} {block = block} known)
      {entered = entered} {kept = kept} (answers opener stands at hand opens stood said) enters among =
      let one : block ≡ stands = some-same (sym known ∙ stood) in
      answered-ended number k pair there role place opener.depth words stands at hand stood entered kept after
      block.taken (ap (λ (b : OpenerBlock). b.taken) one) (entered-seat enters) refl among

  passes-none : {number : ℕ} {downs : List Down} {kept after : List Act} {pair next : Pair} {cause : Cause}
      {sendings : List Sending} → Passes number downs kept pair cause sendings next after → Tells sendings → ⊥
  passes-none {number = number} {pair = pair} (by_send k role may unsent unmarked) among =
      not-answered reply (Checkpointing (checkpoint_of number (copy_of k pair))) refl
      (sent-one (copy_of k pair).processor node (Replying reply)
      (Checkpointing (checkpoint_of number (copy_of k pair)) ∷ []) among).among
  passes-none (by_pass_again k role at may less) among = absurd among
  passes-none (by_pass k role at may most) among = absurd among
  passes-none (by_end k role sent away may) among = absurd among
  passes-none {pair = pair} (by_apply_behind k message applied role known era number put at) among =
      not-answered reply (Taking (taken_of message)) refl
      (sent-one (copy_of k pair).processor node (Replying reply) (Taking (taken_of message) ∷ []) among).among
  passes-none {pair = pair} (by_apply k message applied role known era number put at) among =
      not-answered reply (Taking (taken_of message)) refl
      (sent-one (copy_of k pair).processor node (Replying reply) (Taking (taken_of message) ∷ []) among).among
  passes-none (by_acknowledge k taken role sent known era same) among = absurd among

  -- a run tells replies by answering alone
  pub told-ended : (next : World) (number : ℕ) (cause : Cause) (sendings : List Sending)
      → Change site w cause sendings next → cause ≡ Running number → Tells sendings → IsEnded next
  told-ended next number cause sendings (by_own one k pair there role causes advances enters free) is among =
      own-ended one k pair there role causes advances enters among
  told-ended next number cause sendings (by_checkpoint one pair there passes) is among =
      absurd (passes-none passes among)
  told-ended next number cause sendings (by_request asked k pair known there role) is among = absurd (cc)
  told-ended next number cause sendings (by_early_request asked k pair known there role) is among = absurd among
  told-ended next number cause sendings (by_enter one terminal opener there even asked opens) is among = absurd (cc)
  told-ended next number cause sendings (by_print one terminal told there odd known opens same) is among = absurd among
  told-ended next number cause sendings (by_stop processor runs whole) is among = absurd among
  told-ended next number cause sendings (by_mark marking processor down runs unmarked) is among = absurd (cc)
  told-ended next number cause sendings (by_reload processor gone is_marked there less) is among = absurd among
