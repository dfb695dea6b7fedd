-- A reply that is got or printed ends the link of its request.
use Rattle.std.proofs.Common.{◌≡◌, ℕ, ◌+◌, ◌-◌, ◌<◌, ℤ, Bool, if◌then◌else◌, List, [], ◌∷◌}
use Rattle.std.proofs.Common.{length, Option, Some, slice_get, slice_set, refl, ap, subst, sym, ◌∙◌, arith}
use Rattle.std.proofs.lemmas.Bool.{eq-eqb, ne_eqb}
use Rattle.gd_words.specs.declared.message.Reply.{Reply}
use Rattle.tal_tree.specs.declared.act.Act.{Act}
use Rattle.tal_tree.specs.declared.site.Site.{Site}
use Rattle.tal_tree.specs.declared.site.Who.TheVariants as who
use Rattle.schedule.specs.declared.event.Event.{Event}
use Rattle.process_semantics.specs.declared.point.Point.TheVariants as point
use Rattle.process_semantics.specs.Process as process
use Rattle.process_histories.proofs.Steady.{calm-away, done-steady, got-calm}
use Rattle.plain_semantics.specs.declared.slot.Opener.{Opener}
use Rattle.plain_semantics.specs.Machine.{next_request}
use Rattle.plain_semantics.specs.Openers.{openers_of, opener_of}
use Rattle.world_semantics.specs.declared.role.Role.TheVariants.{Acting}
use Rattle.world_semantics.specs.declared.which.Which.{Which}
use Rattle.world_semantics.specs.Core.{Core, Deed, Advances, gets, core_getting, next_on}
use Rattle.world_semantics.specs.Follows.{IsRun}
use Rattle.world_semantics.specs.Kept.{Enters}
use Rattle.world_semantics.specs.Messages.{Message, Replying, Sending, Cause, Handing}
use Rattle.world_semantics.specs.Own.{Around, around, Causes, by_inner, by_take, by_ask, by_answer, by_device, by_write}
use Rattle.world_semantics.specs.Own.{by_reply, request_to}
use Rattle.world_semantics.specs.Passes.{Passes, by_send, by_pass_again, by_pass, by_end, by_apply, by_apply_behind}
use Rattle.world_semantics.specs.Passes.{by_acknowledge}
use Rattle.world_semantics.specs.Rules.{Change, by_own, by_checkpoint, by_request, by_early_request, by_enter, by_print}
use Rattle.world_semantics.specs.Rules.{by_stop, by_mark, by_reload, after_own}
use Rattle.world_semantics.specs.World.{Copy, Down, Pair, Terminal, World, copy_of, terminal_node}
use Rattle.world_semantics.proofs.Runs.{holds-on}
use Rattle.letters.specs.Again as again
use Rattle.letters.specs.Again.{awaited_by, awaited_from, entered_last}
use Rattle.served_requests.specs.letter_laws.specs.Known.{TerminalsEnterTheirs}
use Rattle.served_requests.specs.letter_laws.specs.takeover_laws.specs.Fit.{IsFit}
use Rattle.served_requests.specs.letter_laws.proofs.Awaited.{acting-done}
use Rattle.served_requests.specs.letter_laws.proofs.Entered.{change-entered, entered-begins}
use Rattle.node_needs.specs.NodeNeeds.{needs_at}
use Rattle.link_laws.specs.Effects.{HasAskedMore, request_for}
use Rattle.link_laws.proofs.Copies.{IsSeatedAs, acts-none, acts-there, entered-seat, held-stays, own-awaited}
use Rattle.link_laws.proofs.Copies.{rests-none, run-good, terminal-awaited, terminal-held, terminal-waiting}
use Rattle.link_laws.proofs.Copies.{waiting-stays}
use Rattle.link_laws.proofs.Lists.{one-gone}

-- a cause by which a reply is handed over
same-reply : {node at : ℕ} {one other : Reply} → Handing node (Replying one) ≡ Handing at (Replying other)
    → (node ≡ at) × (one ≡ other)
same-reply same = (cc, cc)

passes-none : {number at : ℕ} {downs : List Down} {kept after : List Act} {pair next : Pair} {cause : Cause}
    {sendings : List Sending} {reply : Reply}
    → Passes number downs kept pair cause sendings next after → cause ≡ Handing at (Replying reply) → ⊥
passes-none (by_send k role at unsent unmarked) same = cc
passes-none (by_pass_again k role at may less) same = cc
passes-none (by_pass k role at may most) same = cc
passes-none (by_end k role sent away may) same = cc
passes-none (by_apply_behind k message applied role among era is put at) same = cc
passes-none (by_apply k message applied role among era is put at) same = cc
passes-none (by_acknowledge k taken role sent among era is) same = cc

module _ (site : Site) (fit : IsFit site) (events : List Event) (w : World) (few : length events < 4294967296)
    (run : IsRun site events w) where
  -- the request of a reply was awaited, and isn't any more
  abbrev IsOver : World → ℕ → Reply → Type 0
  IsOver next node reply =
      (words : List ℤ) × HasAskedMore (request_for reply words) (needs_at site next node) (needs_at site w node)

  over-as : (next : World) (node at : ℕ) (one reply : Reply)
      → Handing node (Replying one) ≡ Handing at (Replying reply) → IsOver next node one → IsOver next at reply
  over-as next node at one reply same over =
      let parts = same-reply same in
      subst (λ (n : ℕ). IsOver next n reply) parts.0 (subst (IsOver next node) parts.1 over)

  -- a copy gets the reply that it awaits
  module _ (number : ℕ) (k : Which) (pair : Pair) (there : slice_get w.processes number ≡ Some pair)
      (role : (copy_of k pair).role ≡ Acting) (file : ℕ) (words : List ℤ) (reply : Reply)
      (at : process.point (copy_of k pair).core.state ≡ point.Await)
      (named : file ≡ process.asked_file (copy_of k pair).core.state)
      (opens : opener_of site (who.File number file)
      ≡ Some (record { server = reply.process; place = reply.opener }))
      (last : reply.number + 1 ≡ next_on (copy_of k pair).core file) where
    abbrev before : Core
    before = (copy_of k pair).core

    abbrev now : Core
    now = core_getting words before

    got-over : (entered : Copy) (kept : List Act) (after : Around) → IsSeatedAs (copy_of k pair) entered
        → after.waiting ≡ (copy_of k pair).waiting
        → IsOver (after_own number k pair now entered after kept w) (copy_of k pair).processor reply
    got-over entered kept after seat waits =
        let node : ℕ = (copy_of k pair).processor in
        let asked : List ℤ = process.asked_words before.state in
        let is = acting-done site (length events) w (run-good site fit events w few run) number pair k there role in
        let steady = done-steady (fit.regular number is.spec is.there) is.done in
        let number_is : next_on before file - 1 ≡ reply.number = omega (arith, last) in
        let was : awaited_by site number before ≡ request_for reply asked ∷ [] =
        ap (again.awaited_at site number before) at
        ∙ ap (λ (f : ℕ). request_to (next_on before f - 1) asked (opener_of site (who.File number f))) (sym named)
        ∙ ap (λ (n : ℕ). request_to n asked (opener_of site (who.File number file))) number_is
        ∙ ap (request_to reply.number asked) opens in (
          asked,
          record {
            awaited =
                one-gone (request_for reply asked) (own-awaited site w number k pair there now entered after kept node)
                (acts-none node entered.role entered.processor (awaited_by site number now)
                (rests-none site number now (calm-away _ (got-calm before.state words steady at))))
                (acts-there node (copy_of k pair).role (copy_of k pair).processor (awaited_by site number before)
                (request_for reply asked ∷ []) role refl was);
            waiting = sym (waiting-stays site w number k pair there now entered after kept node seat waits);
            in_hand = sym (held-stays site w number k pair there now entered after kept node seat refl);
          },
        )

  own-over : (number : ℕ) (k : Which) (pair : Pair) → slice_get w.processes number ≡ Some pair
      → (copy_of k pair).role ≡ Acting → {cause : Cause} {deed : Deed} {done : Act} {messages : List Message}
      {after : Around}
      → Causes site number (copy_of k pair).processor (copy_of k pair).core (around (copy_of k pair) pair w) cause deed
      done messages after
      → {core : Core} {entered : Copy} {kept : List Act}
      → Advances (openers_of site number) (copy_of k pair).core deed core
      → Enters number done w.kept (copy_of k pair) entered kept → (at : ℕ) (reply : Reply)
      → cause ≡ Handing at (Replying reply)
      → IsOver (after_own number k pair core entered after kept w) at reply
  own-over number k pair there role by_inner advances enters at reply same = absurd (cc)
  own-over number k pair there role (by_take is) advances enters at reply same = absurd (cc)
  own-over number k pair there role by_ask advances enters at reply same = absurd (cc)
  own-over number k pair there role (by_answer known) advances enters at reply same = absurd (cc)
  own-over number k pair there role (by_device old) advances enters at reply same = absurd (cc)
  own-over number k pair there role (by_write new) advances enters at reply same = absurd (cc)
  own-over number k pair there role {after = after}
      (by_reply {file = file} {words = words} {reply = one} among opens last said) {entered = entered} {kept = kept}
      (gets stands named) enters at reply same =
      over-as (after_own number k pair (core_getting words (copy_of k pair).core) entered after kept w)
      (copy_of k pair).processor at one reply same
      (got-over number k pair there role file words one stands named opens last entered kept after
      (entered-seat enters) refl)

  -- a terminal prints the reply that it awaits
  print-over : (next : World) (number : ℕ) (terminal : Terminal) (reply : Reply)
      → slice_get w.terminals number ≡ Some terminal → terminal.entered ≡ terminal.printed + 1
      → opener_of site (who.Terminal number) ≡ Some (record { server = reply.process; place = reply.opener })
      → reply.number ≡ terminal.entered → next.processes ≡ w.processes
      → next.terminals ≡ slice_set w.terminals number (record terminal { printed = terminal.printed + 1 })
      → IsOver next terminal_node reply
  print-over next number terminal reply there odd opens last processes terminals =
      let following : Terminal = record terminal { printed = terminal.printed + 1 } in
      let theirs : TerminalsEnterTheirs site w =
      holds-on (TerminalsEnterTheirs site) change-entered run (entered-begins site) in
      let asked = theirs number terminal there (omega (arith, odd)) in
      let was : awaited_from site number terminal ≡ request_for reply asked.0 ∷ [] =
      ap (λ (b : Bool). if b then entered_last terminal.entered (opener_of site (who.Terminal number))
      (next_request site number (terminal.entered - 1)) else [])
      (eq-eqb terminal.entered (terminal.printed + 1) odd)
      ∙ ap (entered_last terminal.entered (opener_of site (who.Terminal number))) asked.1
      ∙ ap (λ (o : Option Opener). entered_last terminal.entered o (Some asked.0)) opens
      ∙ ap (λ (n : ℕ). entered_last n (Some (record { server = reply.process; place = reply.opener })) (Some asked.0))
      (sym last) in
      let none : awaited_from site number following ≡ [] =
      ap (λ (b : Bool). if b then entered_last terminal.entered (opener_of site (who.Terminal number))
      (next_request site number (terminal.entered - 1)) else [])
      (ne_eqb terminal.entered (terminal.printed + 1 + 1) (λ same. absurd (omega (arith, same, odd)))) in (
        asked.0,
        record {
          awaited =
              one-gone (request_for reply asked.0)
              (terminal-awaited site w next terminal_node number terminal following there refl processes terminals) none
              was;
          waiting =
              sym (terminal-waiting site w next terminal_node number terminal following there refl processes terminals);
          in_hand =
              sym (terminal-held site w next terminal_node number terminal following there refl processes terminals);
        },
      )

  pub handed-over : (next : World) (cause : Cause) (sendings : List Sending) → Change site w cause sendings next
      → (node : ℕ) (reply : Reply) → cause ≡ Handing node (Replying reply) → IsOver next node reply
  handed-over next cause sendings (by_own number k pair there role causes advances enters free) node reply is =
      own-over number k pair there role causes advances enters node reply is
  handed-over next cause sendings (by_checkpoint number pair there passes) node reply is =
      absurd (passes-none passes is)
  handed-over next cause sendings (by_request asked k pair known there role) node reply is = absurd (cc)
  handed-over next cause sendings (by_early_request asked k pair known there role) node reply is = absurd (cc)
  handed-over next cause sendings (by_enter number terminal opener there even asked opens) node reply is = absurd (cc)
  handed-over next cause sendings (by_print number terminal one there odd known opens same) node reply is =
      over-as next terminal_node node one reply is
      (print-over next number terminal one there odd opens same refl refl)
  handed-over next cause sendings (by_stop processor runs whole) node reply is = absurd (cc)
  handed-over next cause sendings (by_mark marking processor down runs unmarked) node reply is = absurd (cc)
  handed-over next cause sendings (by_reload processor gone is_marked there less) node reply is = absurd (cc)
