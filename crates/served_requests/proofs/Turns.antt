-- What a change makes of a copy of a process, so far as requests and replies go: said once for each rule.
use Rattle.std.proofs.Common.{◌≡◌, ◌≢◌, inl, ℕ, ◌+◌, true, ℤ, List, [], ◌∷◌, ◌++◌, map, Some, None, slice_get}
use Rattle.std.proofs.Common.{slice_set, refl, ap, sym, ◌∙◌, subst, arith}
use Rattle.std.specs.Option.{unwrap_or}
use Rattle.gd_words.specs.Members.{IsAmong}
use Rattle.gd_words.specs.declared.message.Request.{Request}
use Rattle.gd_words.specs.declared.message.Reply.{Reply}
use Rattle.tal_tree.specs.declared.act.Act.{Act}
use Rattle.tal_tree.specs.declared.site.Site.{Site}
use Rattle.tal_tree.specs.declared.site.Who.TheVariants as who
use Rattle.process_semantics.specs.declared.point.Point.TheVariants as point
use Rattle.process_semantics.specs.Process as process
use Rattle.plain_semantics.specs.declared.slot.Opener.{Opener}
use Rattle.plain_semantics.specs.Openers.{openers_of, opener_of}
use Rattle.checkpoint_image.specs.declared.message.ImageMessage.{ImageMessage}
use Rattle.checkpoint_image.specs.declared.receive.OpenerBlock.{OpenerBlock}
use Rattle.checkpoint_image.specs.Receive.{waits, came, reply_sent_again, still_waiting, all_repeated, after_taking}
use Rattle.checkpoint_image.specs.Receive.{after_answering, Chosen, choice_among}
use Rattle.world_semantics.specs.declared.role.Role.TheVariants.{Acting, Watching}
use Rattle.world_semantics.specs.declared.which.Which.{Which}
use Rattle.world_semantics.specs.declared.which.Which.TheVariants.{First, Second}
use Rattle.world_semantics.specs.Core.{Core, Deed, Advances, goes, takes, asks, gets, answers, acts, next_on}
use Rattle.world_semantics.specs.World.{Copy, Pair, World, copy_of, other_of, with_copy, receives}
use Rattle.world_semantics.specs.Kept.{Enters, holds_on, repeats, begins, keeps, own_acts}
use Rattle.world_semantics.specs.Messages.{Message, Asking, Replying, Sending, sent_at, Cause, Handing}
use Rattle.world_semantics.specs.Own.{Around, around, Causes, by_inner, by_take, by_ask, by_answer, by_device, by_write}
use Rattle.world_semantics.specs.Own.{by_reply, asked_on}
use Rattle.world_semantics.specs.Passes.{Passes, by_send, by_pass_again, by_pass, by_end, by_apply_behind, by_apply}
use Rattle.world_semantics.specs.Passes.{by_acknowledge, checkpoint_of, taken_of, after_sending, copy_at_checkpoint}
use Rattle.world_semantics.specs.Passes.{kept_at_checkpoint, kept_at, point_at, after_sent, after_told, after_getting}
use Rattle.world_semantics.specs.Shares.{acts_at}
use Rattle.world_semantics.proofs.Becoming.{acting-gets-none}
use Rattle.world_semantics.proofs.Lists.{some-same}
use Rattle.letter_laws.specs.process_histories.proofs.Counts.{take-free}
use Rattle.letter_laws.specs.process_histories.proofs.Steady.{IsSteady, IsCalm, done-steady, calm-away, inner-calm}
use Rattle.letter_laws.specs.process_histories.proofs.Steady.{took-calm, asked-same}
use Rattle.letter_laws.specs.process_histories.proofs.Steady.{got-calm, answered-calm, checkpointed-calm, device-calm}
use Rattle.letter_laws.specs.takeover_laws.specs.Fit.{IsFit}
use Rattle.letter_laws.specs.takeover_laws.proofs.Kept.{IsGood}
use Rattle.letter_laws.specs.awaited_requests.specs.Served.{request_of}
use Rattle.letter_laws.specs.Known.{WatchersAreCalm}
use Rattle.letter_laws.proofs.Awaited.{acting-done, asked-next}

-- a change bears on no request at a copy: if that receives checkpoints afterwards, it did before; if it acts it did,
-- with the same table, and as the same core if it awaits; and the same requests wait
pub record IsQuiet (before after : Copy) : Type 0 where
  pub watches : receives after.role ≡ true → receives before.role ≡ true
  pub acts : after.role ≡ Acting → before.role ≡ Acting
  pub table : after.role ≡ Acting → after.core.receive ≡ before.core.receive
  pub awaits : after.role ≡ Acting → process.point after.core.state ≡ point.Await → after.core ≡ before.core
  pub waits : after.waiting ≡ before.waiting

-- what a change makes of a copy of the process of a number, and what it sends of that: it is quiet; it has asked; it
-- has taken, or answered; a request came, or came early; or it took over
pub data Turns (site : Site) (number : ℕ) (cause : Cause) (sendings : List Sending) (before after : Copy) : Type 0 where
  is_quiet : IsQuiet before after → Turns site number cause sendings before after
  has_asked : (words : List ℤ) → before.role ≡ Acting → after.role ≡ Acting → after.core.receive ≡ before.core.receive
      → after.waiting ≡ before.waiting
      → ((file n : ℕ) (opener : Opener) → process.asked_file after.core.state ≡ file → next_on after.core file ≡ n + 1
      → opener_of site (who.File number file) ≡ Some opener
      → IsAmong (record { node = before.processor; message = Asking (request_of opener n words) }) sendings)
      → Turns site number cause sendings before after
  has_taken : (found : Chosen) (block : OpenerBlock) → before.role ≡ Acting → after.role ≡ Acting
      → process.point after.core.state ≢ point.Await
      → before.core.receive.in_hand ≡ None → choice_among before.core.receive before.waiting ≡ Some found
      → slice_get before.core.receive.openers found.request.opener ≡ Some block
      → after.core.receive ≡ after_taking found.request.opener block before.core.receive → after.waiting ≡ found.rest
      → Turns site number cause sendings before after
  has_answered : (place depth : ℕ) (words : List ℤ) (block : OpenerBlock) → before.role ≡ Acting → after.role ≡ Acting
      → process.point after.core.state ≢ point.Await
      → before.core.receive.in_hand ≡ Some place → slice_get before.core.receive.openers place ≡ Some block
      → after.core.receive ≡ after_answering depth place block words before.core.receive
      → after.waiting ≡ before.waiting
      → IsAmong (record {
        node = before.processor;
        message = Replying (record { process = number; opener = place; number = block.taken; words = words });
      }) sendings
      → Turns site number cause sendings before after
  has_heard : (request : Request) → before.role ≡ Acting → after.role ≡ Acting → after.core ≡ before.core
      → request.process ≡ number
      → after.waiting ≡ came before.core.receive before.waiting request
      → ((reply : Reply) → IsAmong reply (reply_sent_again before.core.receive request)
      → IsAmong (record { node = before.processor; message = Replying reply }) sendings)
      → cause ≡ Handing before.processor (Asking request) → Turns site number cause sendings before after
  has_heard_early : (request : Request) → receives before.role ≡ true → receives after.role ≡ true
      → request.process ≡ number
      → after.waiting ≡ waits before.waiting request
      → cause ≡ Handing before.processor (Asking request) → Turns site number cause sendings before after
  has_taken_over : before.role ≡ Watching → after.role ≡ Acting → process.point after.core.state ≢ point.Await
      → after.core.receive ≡ before.core.receive
      → after.waiting ≡ still_waiting before.core.receive before.waiting
      → ((reply : Reply) → IsAmong reply (all_repeated before.core.receive before.waiting)
      → IsAmong (record { node = before.processor; message = Replying reply }) sendings)
      → Turns site number cause sendings before after

-- a copy in its place, after what a change makes of it
abbrev pub Goes : Site → ℕ → Cause → List Sending → Pair → Which → Copy → Type 0
Goes site number cause sendings pair k after =
    (after.processor ≡ (copy_of k pair).processor) × Turns site number cause sendings (copy_of k pair) after

-- One copy changes

pub like : (before after : Copy) → after.role ≡ before.role → after.core ≡ before.core → after.waiting ≡ before.waiting
    → IsQuiet before after
like before after role core waiting = record {
  watches = λ r. ap receives (sym role) ∙ r;
  acts = λ r. sym role ∙ r;
  table = λ r. ap (λ (c : Core). c.receive) core;
  awaits = λ r at. core;
  waits = waiting;
}

pub each : (P : Which → Copy → Type 0) (k : Which) (copy : Copy) (pair : Pair) → P k copy → P First pair.first
    → P Second pair.second → (j : Which)
    → P j (copy_of j (with_copy k copy pair))
each P First copy pair new first second First = new
each P First copy pair new first second Second = second
each P Second copy pair new first second First = first
each P Second copy pair new first second Second = new

pub enters-seat : {number : ℕ} {act : Act} {kept after : List Act} {copy entered : Copy}
    → Enters number act kept copy entered after
    → entered.processor ≡ copy.processor
enters-seat (holds_on held) = refl
enters-seat (repeats empty less) = refl
enters-seat (begins empty most take) = refl
enters-seat (keeps empty most step) = refl

module _ (site : Site) (fit : IsFit site) (events : ℕ) (w : World) (good : IsGood site events w)
    (calm : WatchersAreCalm w) where
  pub steady : (number : ℕ) (pair : Pair) (k : Which) → slice_get w.processes number ≡ Some pair
      → (copy_of k pair).role ≡ Acting
      → IsSteady (copy_of k pair).core.state
  steady number pair k there role = let is = acting-done site events w good number pair k there role in
      done-steady (fit.regular number is.spec is.there) is.done

  -- A deed

  module _ (number : ℕ) (pair : Pair) (k : Which) (there : slice_get w.processes number ≡ Some pair)
      (role : (copy_of k pair).role ≡ Acting)
      (entered : Copy) (acting : entered.role ≡ Acting) where
    rests : {cause : Cause} {sendings : List Sending} (core : Core) → core.receive ≡ (copy_of k pair).core.receive
        → IsCalm core.state
        → Turns site number cause sendings (copy_of k pair)
        (record entered { core = core; waiting = (copy_of k pair).waiting })
    rests core same away = is_quiet (record {
      watches = λ r. absurd (acting-gets-none entered.role acting r);
      acts = λ r. role;
      table = λ r. same;
      awaits = λ r at. absurd (calm-away core.state away at);
      waits = refl;
    })

    pub own-turns : {cause : Cause} {deed : Deed} {done : Act} {messages : List Message} {after : Around} {core : Core}
        → Causes site number (copy_of k pair).processor (copy_of k pair).core (around (copy_of k pair) pair w) cause
        deed done messages after
        → Advances (openers_of site number) (copy_of k pair).core deed core
        → Turns site number cause (sent_at (copy_of k pair).processor messages) (copy_of k pair)
        (record entered { core = core; waiting = after.waiting })
    own-turns by_inner (goes at) =
        rests _ refl (inner-calm (copy_of k pair).core.state (steady number pair k there role))
    own-turns (by_device old) (acts {found = found} at call) =
        rests _ refl (device-calm (copy_of k pair).core.state found (steady number pair k there role) at)
    own-turns (by_write new) (acts {found = found} at call) =
        rests _ refl (device-calm (copy_of k pair).core.state found (steady number pair k there role) at)
    own-turns (by_reply {words = words} among is last said) (gets at file) =
        rests _ refl (got-calm (copy_of k pair).core.state words (steady number pair k there role) at)
    own-turns (by_take {found = found} is) (takes block at known) =
        has_taken found block role acting (calm-away _
        (took-calm (copy_of k pair).core.state found.request.words (steady number pair k there role) at))
        (take-free (acting-done site events w good number pair k there role).done at) is known refl refl
    own-turns (by_answer {place = place} {words = words} {block = block} known)
        (answers opener old at hand is stood said) =
        let same : old ≡ block = some-same (sym stood ∙ known) in
        has_answered place opener.depth words block role acting
        (calm-away _ (answered-calm (copy_of k pair).core.state (steady number pair k there role) at)) hand known
        (ap (λ b. after_answering opener.depth place b words (copy_of k pair).core.receive) same) refl (inl refl)
    own-turns (by_ask {file = asked} {words = words}) (asks at named said) = has_asked words role acting refl refl sent
      where
        core : Core
        core = (copy_of k pair).core

        sent : (file n : ℕ) (opener : Opener) → process.asked_file (process.after_asked core.state) ≡ file
            → unwrap_or (slice_get (slice_set core.next asked (next_on core asked + 1)) file) 1 ≡ n + 1
            → opener_of site (who.File number file) ≡ Some opener
            → IsAmong (record { node = (copy_of k pair).processor; message = Asking (request_of opener n words) })
            (sent_at (copy_of k pair).processor (map Asking (asked_on site number (copy_of k pair).core asked words)))
        sent file n opener on next opens =
            let here : asked ≡ file = named ∙ sym (asked-same core.state) ∙ on in
            let more = asked-next site fit.regular number core _
            (acting-done site events w good number pair k there role) asked words opener (asks at named said)
            (subst (λ f. opener_of site (who.File number f) ≡ Some opener) (sym here) opens) in
            let count : unwrap_or (slice_get (slice_set core.next asked (next_on core asked + 1)) asked) 1 ≡ n + 1 =
            subst (λ f. unwrap_or (slice_get (slice_set core.next asked (next_on core asked + 1)) f) 1 ≡ n + 1)
            (sym here) next in
            let number_is : next_on core file ≡ n = subst (λ f. next_on core f ≡ n) here (omega (arith, count, more)) in
            rw (here, opens, number_is) (inl refl)

  -- A checkpoint

  pub passes-turn : (number : ℕ) (pair : Pair) → slice_get w.processes number ≡ Some pair
      → {next : Pair} {kept : List Act} {cause : Cause} {sendings : List Sending}
      → Passes number w.downs w.kept pair cause sendings next kept → (k : Which)
      → Goes site number cause sendings pair k (copy_of k next)
  passes-turn number pair there = go
    where
      still : {cause : Cause} {sendings : List Sending} (j : Which)
          → Goes site number cause sendings pair j (copy_of j pair)
      still j = (refl, is_quiet (like (copy_of j pair) (copy_of j pair) refl refl refl))

      marked : {cause : Cause} {sendings : List Sending} (k : Which) (position : ℕ) (held : List Act)
          → (copy_of k pair).role ≡ Acting
          → process.point (copy_of k pair).core.state ≡ point.AtCheckpoint
          → Goes site number cause sendings pair k
          (record (copy_at_checkpoint (copy_of k pair)) { position = position; held = held })
      marked k position held role at = (
        refl,
        is_quiet (record {
          watches = λ r. r;
          acts = λ r. r;
          table = λ r. refl;
          awaits = λ r awaits. absurd (calm-away _
              (checkpointed-calm (copy_of k pair).core.state (steady number pair k there role) at) awaits);
          waits = refl;
        }),
      )

      -- a copy that gets a checkpoint watches then
      got : {cause : Cause} {sendings : List Sending} (k : Which) (message : ImageMessage) (applied : Core)
          → receives (copy_of k pair).role ≡ true
          → Goes site number cause sendings pair k (after_getting message.number applied (copy_of k pair))
      got k message applied role = (
        refl,
        is_quiet (record {
          watches = λ r. role;
          acts = λ r. absurd (cc);
          table = λ r. absurd (cc);
          awaits = λ r at. absurd (cc);
          waits = refl;
        }),
      )

      go : {next : Pair} {kept : List Act} {cause : Cause} {sendings : List Sending}
          → Passes number w.downs w.kept pair cause sendings next kept
          → (k : Which) → Goes site number cause sendings pair k (copy_of k next)
      go {cause = cause} {sendings = sendings} (by_send k role at unsent unmarked) =
          each (Goes site number cause sendings pair) k (after_sending (copy_of k pair))
          (record pair { checkpoints = checkpoint_of number (copy_of k pair) ∷ pair.checkpoints })
          (refl, is_quiet (like (copy_of k pair) (after_sending (copy_of k pair)) refl refl refl)) (still First)
          (still Second)
      go {cause = cause} {sendings = sendings} (by_pass_again k role at may less) =
          each (Goes site number cause sendings pair) k
          (record (copy_at_checkpoint (copy_of k pair)) { position = (copy_of k pair).position + 1 }) pair
          (marked k _ _ role at) (still First) (still Second)
      go {cause = cause} {sendings = sendings} (by_pass k role at may most) =
          each (Goes site number cause sendings pair) k
          (record (copy_at_checkpoint (copy_of k pair))
          { position = own_acts number (kept_at_checkpoint number (copy_of k pair) w.kept); held = [] }) pair
          (marked k _ _ role at) (still First) (still Second)
      go {cause = cause} {sendings = sendings} (by_end k role sent at may) =
          each (Goes site number cause sendings pair) k (after_sent (copy_of k pair)) pair
          (refl, is_quiet (like (copy_of k pair) (after_sent (copy_of k pair)) refl refl refl)) (still First)
          (still Second)
      go {cause = cause} {sendings = sendings} (by_apply_behind k message applied role among era is put less) =
          let base : Pair = record pair {
            base = (copy_of (other_of k) pair).position
                + own_acts number (acts_at number (point_at (copy_of (other_of k) pair)));
            takens = taken_of message ∷ pair.takens;
          } in
          let others = each (Goes site number cause sendings pair) (other_of k) (copy_of (other_of k) pair) base
          (still (other_of k)) (still First) (still Second) in
          each (Goes site number cause sendings pair) k (after_getting message.number applied (copy_of k pair))
          (with_copy (other_of k) (copy_of (other_of k) pair) base) (got k message applied role) (others First)
          (others Second)
      go {cause = cause} {sendings = sendings} (by_apply k message applied role among era is put most) =
          let base : Pair = record pair {
            base = own_acts number (kept_at number (copy_of (other_of k) pair) w.kept);
            takens = taken_of message ∷ pair.takens;
          } in
          let freed : Copy = record (copy_of (other_of k) pair)
          { position = own_acts number ((copy_of (other_of k) pair).held ++ w.kept); held = [] } in
          let others = each (Goes site number cause sendings pair) (other_of k) freed base
          (refl, is_quiet (like (copy_of (other_of k) pair) freed refl refl refl)) (still First) (still Second) in
          each (Goes site number cause sendings pair) k (after_getting message.number applied (copy_of k pair))
          (with_copy (other_of k) freed base) (got k message applied role) (others First) (others Second)
      go {cause = cause} {sendings = sendings} (by_acknowledge k taken role sent among era is) =
          each (Goes site number cause sendings pair) k (after_told (copy_of k pair)) pair
          (refl, is_quiet (like (copy_of k pair) (after_told (copy_of k pair)) refl refl refl)) (still First)
          (still Second)
