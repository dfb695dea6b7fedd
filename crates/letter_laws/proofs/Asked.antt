-- Each change leaves what is awaited among what was sent.
use Rattle.std.proofs.Common.{◌≡◌, ◌≢◌, ◌==◌, inl, ℕ, ◌+◌, ◌-◌, ℤ, Bool, true, false, if◌then◌else◌, List, [], ◌∷◌}
use Rattle.std.proofs.Common.{Option, Some, None, slice_get, refl, ap, subst, arith}
use Rattle.std.proofs.lemmas.Bool.{eqb-true}
use Rattle.gd_words.specs.Members.{IsAmong}
use Rattle.gd_words.specs.declared.message.Request.{Request}
use Rattle.tal_tree.specs.declared.act.Act.{Act}
use Rattle.tal_tree.specs.declared.site.Site.{Site}
use Rattle.tal_tree.specs.declared.site.Who.TheVariants as who
use Rattle.process_semantics.specs.declared.point.Point.TheVariants as point
use Rattle.process_semantics.specs.Process as process
use Rattle.plain_semantics.specs.declared.slot.Opener.{Opener}
use Rattle.plain_semantics.specs.Machine.{next_request}
use Rattle.plain_semantics.specs.Openers.{opener_of}
use Rattle.world_semantics.specs.disc_device.specs.Sectors.{Stored}
use Rattle.world_semantics.specs.declared.role.Role.TheVariants.{Acting}
use Rattle.world_semantics.specs.declared.which.Which.{Which}
use Rattle.world_semantics.specs.declared.which.Which.TheVariants.{First, Second}
use Rattle.world_semantics.specs.Core.{Core, after_passing}
use Rattle.world_semantics.specs.Laws.{HasGrown}
use Rattle.world_semantics.specs.Messages.{Sending, Cause}
use Rattle.world_semantics.specs.Passes.{Passes, by_send, by_pass_again, by_pass, by_end, by_apply_behind}
use Rattle.world_semantics.specs.Passes.{by_apply, by_acknowledge}
use Rattle.world_semantics.specs.Rules.{Change, by_own, by_checkpoint, by_request, by_early_request, by_enter, by_print}
use Rattle.world_semantics.specs.Rules.{by_stop, by_mark, by_reload, stopped_copy, stopped_pair, taker}
use Rattle.world_semantics.specs.Rules.{pair_after_down, pair_at_down, renewals_ended, entered_request, new_core}
use Rattle.world_semantics.specs.Rules.{reloaded_by}
use Rattle.world_semantics.specs.World.{Copy, Pair, Terminal, World, boot, copy_of, receives, with_copy}
use Rattle.world_semantics.proofs.Becoming.{was-role}
use Rattle.world_semantics.proofs.Growing.{causes-grow}
use Rattle.world_semantics.proofs.Lists.{set-all, map-all, grown-none, grown-one}
use Rattle.world_semantics.proofs.Roles.{taker-is, reload-all}
use Rattle.awaited_requests.specs.process_histories.proofs.Steady.{calm-away, checkpointed-calm, done-steady}
use Rattle.awaited_requests.specs.plain_histories.specs.Agreeing.{AreRegular}
use Rattle.awaited_requests.specs.takeover_laws.proofs.Kept.{IsGood}
use Rattle.awaited_requests.specs.letters.specs.Again.{awaited_by, entered_last, awaited_from}
use Rattle.letter_laws.specs.Known.{WatchersAreCalm, AwaitedWereSent}
use Rattle.letter_laws.proofs.Awaited.{awaited-last, acting-done, own-awaited}
use Rattle.letter_laws.proofs.Calm.{begins-resting}
use Rattle.letter_laws.proofs.Entered.{begins-even}
use Rattle.letter_laws.proofs.Given.{only}
use Rattle.letter_laws.proofs.Sent.{among-grown}

-- what a copy that acts awaits was sent
abbrev CopySent : Site → List Request → ℕ → Copy → Type 0
CopySent site requests number copy = copy.role ≡ Acting → (request : Request)
    → IsAmong request (awaited_by site number copy.core) → IsAmong request requests

abbrev PairSent : Site → List Request → ℕ → Pair → Type 0
PairSent site requests number pair = (k : Which) → CopySent site requests number (copy_of k pair)

abbrev TerminalSent : Site → List Request → ℕ → Terminal → Type 0
TerminalSent site requests number terminal =
    (request : Request) → IsAmong request (awaited_from site number terminal) → IsAmong request requests

-- a terminal that awaits a reply has entered one request more than it printed replies
pub awaited-odd : (site : Site) (number : ℕ) (terminal : Terminal) (request : Request)
    → IsAmong request (awaited_from site number terminal)
    → (terminal.entered ≡ terminal.printed + 1)
    × IsAmong request (entered_last terminal.entered (opener_of site (who.Terminal number))
    (next_request site number (terminal.entered - 1)))
awaited-odd site number terminal request among = by (terminal.entered == terminal.printed + 1) refl among
  where
    last : List Request
    last = entered_last terminal.entered (opener_of site (who.Terminal number))
        (next_request site number (terminal.entered - 1))

    by : (odd : Bool) → (terminal.entered == terminal.printed + 1) ≡ odd → IsAmong request (if odd then last else [])
        → (terminal.entered ≡ terminal.printed + 1) × IsAmong request last
    by true odd among = (eqb-true _ _ odd, among)
    by false odd none = absurd none

module _ (site : Site) (regular : AreRegular site) (events : ℕ) (w : World) (good : IsGood site events w)
    (calm : WatchersAreCalm w) (sent : AwaitedWereSent site w) where
  pairs-sent : (number : ℕ) (pair : Pair) → slice_get w.processes number ≡ Some pair
      → PairSent site w.requests number pair
  pairs-sent number pair there k role request among = sent.copies number pair k request there role among

  pairs-more : (more : List Request) → HasGrown w.requests more
      → (number : ℕ) (pair : Pair) → slice_get w.processes number ≡ Some pair → PairSent site more number pair
  pairs-more more grown number pair there k role request among =
      among-grown request grown (sent.copies number pair k request there role among)

  -- a process with one copy changed
  one-sent : (requests : List Request) (number : ℕ) (k : Which) (pair : Pair) (copy : Copy) (sectors : List Stored)
      → CopySent site requests number copy
      → PairSent site requests number pair → PairSent site requests number
      (with_copy k copy (record pair { sectors = sectors }))
  one-sent requests number First pair copy sectors one all First = one
  one-sent requests number First pair copy sectors one all Second = all Second
  one-sent requests number Second pair copy sectors one all First = all First
  one-sent requests number Second pair copy sectors one all Second = one

  -- past its checkpoint a copy awaits nothing
  passed-none : (number : ℕ) (pair : Pair) (k : Which) → slice_get w.processes number ≡ Some pair
      → (copy_of k pair).role ≡ Acting
      → process.point (copy_of k pair).core.state ≡ point.AtCheckpoint
      → process.point (process.after_checkpoint (copy_of k pair).core.state) ≢ point.Await
  passed-none number pair k there role at =
      let is = acting-done site events w good number pair k there role in
      calm-away _ (checkpointed-calm (copy_of k pair).core.state
      (done-steady (regular number is.spec is.there) is.done) at)

  passes-sent : (number : ℕ) (pair : Pair) → slice_get w.processes number ≡ Some pair
      → {next : Pair} {kept : List Act} {cause : Cause} {sendings : List Sending}
      → Passes number w.downs w.kept pair cause sendings next kept → PairSent site w.requests number next
  passes-sent number pair there (by_send First role at unsent unmarked) First = pairs-sent number pair there First
  passes-sent number pair there (by_send First role at unsent unmarked) Second = pairs-sent number pair there Second
  passes-sent number pair there (by_send Second role at unsent unmarked) First = pairs-sent number pair there First
  passes-sent number pair there (by_send Second role at unsent unmarked) Second = pairs-sent number pair there Second
  passes-sent number pair there (by_pass_again First role at may less) First = λ _ request among.
      absurd (passed-none number pair First there role at
      (awaited-last site number (after_passing (copy_of First pair).core) request among).stands)
  passes-sent number pair there (by_pass_again First role at may less) Second = pairs-sent number pair there Second
  passes-sent number pair there (by_pass_again Second role at may less) First = pairs-sent number pair there First
  passes-sent number pair there (by_pass_again Second role at may less) Second = λ _ request among.
      absurd (passed-none number pair Second there role at
      (awaited-last site number (after_passing (copy_of Second pair).core) request among).stands)
  passes-sent number pair there (by_pass First role at may most) First = λ _ request among.
      absurd (passed-none number pair First there role at
      (awaited-last site number (after_passing (copy_of First pair).core) request among).stands)
  passes-sent number pair there (by_pass First role at may most) Second = pairs-sent number pair there Second
  passes-sent number pair there (by_pass Second role at may most) First = pairs-sent number pair there First
  passes-sent number pair there (by_pass Second role at may most) Second = λ _ request among.
      absurd (passed-none number pair Second there role at
      (awaited-last site number (after_passing (copy_of Second pair).core) request among).stands)
  passes-sent number pair there (by_end First role sent away may) First = pairs-sent number pair there First
  passes-sent number pair there (by_end First role sent away may) Second = pairs-sent number pair there Second
  passes-sent number pair there (by_end Second role sent away may) First = pairs-sent number pair there First
  passes-sent number pair there (by_end Second role sent away may) Second = pairs-sent number pair there Second
  passes-sent number pair there (by_apply_behind First message applied role among era next put less) First =
      λ acting. absurd (cc)
  passes-sent number pair there (by_apply_behind First message applied role among era next put less) Second =
      pairs-sent number pair there Second
  passes-sent number pair there (by_apply_behind Second message applied role among era next put less) First =
      pairs-sent number pair there First
  passes-sent number pair there (by_apply_behind Second message applied role among era next put less) Second =
      λ acting. absurd (cc)
  passes-sent number pair there (by_apply First message applied role among era next put most) First =
      λ acting. absurd (cc)
  passes-sent number pair there (by_apply First message applied role among era next put most) Second =
      pairs-sent number pair there Second
  passes-sent number pair there (by_apply Second message applied role among era next put most) First =
      pairs-sent number pair there First
  passes-sent number pair there (by_apply Second message applied role among era next put most) Second =
      λ acting. absurd (cc)
  passes-sent number pair there (by_acknowledge First taken role sent among era same) First =
      pairs-sent number pair there First
  passes-sent number pair there (by_acknowledge First taken role sent among era same) Second =
      pairs-sent number pair there Second
  passes-sent number pair there (by_acknowledge Second taken role sent among era same) First =
      pairs-sent number pair there First
  passes-sent number pair there (by_acknowledge Second taken role sent among era same) Second =
      pairs-sent number pair there Second

  stopped-sent : (processor number : ℕ) (pair : Pair) (k : Which) → slice_get w.processes number ≡ Some pair
      → CopySent site w.requests number (stopped_copy processor (copy_of k pair))
  stopped-sent processor number pair k there acting request among =
      pairs-sent number pair there k (was-role ((copy_of k pair).processor == processor) (copy_of k pair).role Acting
      (λ same. cc) acting) request among

  -- a copy that takes over awaits nothing
  marked-sent : (node processor number : ℕ) (pair : Pair) (k : Option Which) → taker node processor pair ≡ k
      → slice_get w.processes number ≡ Some pair
      → PairSent site w.requests number (renewals_ended node processor (pair_after_down k pair))
  marked-sent node processor number pair None is there First = pairs-sent number pair there First
  marked-sent node processor number pair None is there Second = pairs-sent number pair there Second
  marked-sent node processor number pair (Some First) is there First = λ _ request among.
      absurd (calm number pair First there (ap receives (taker-is node processor pair First is).watching)
      (awaited-last site number (copy_of First pair).core request among).stands)
  marked-sent node processor number pair (Some First) is there Second = pairs-sent number pair there Second
  marked-sent node processor number pair (Some Second) is there First = pairs-sent number pair there First
  marked-sent node processor number pair (Some Second) is there Second = λ _ request among.
      absurd (calm number pair Second there (ap receives (taker-is node processor pair Second is).watching)
      (awaited-last site number (copy_of Second pair).core request among).stands)

  -- a copy that has to send everything awaits what it did, and one that is blank doesn't act
  reloaded-sent : (core : Core) (number : ℕ) (pair : Pair) (one two : Bool)
      → slice_get w.processes number ≡ Some pair → PairSent site w.requests number (reloaded_by core pair one two)
  reloaded-sent core number pair false false there k = pairs-sent number pair there k
  reloaded-sent core number pair true false there First = λ acting. absurd (cc)
  reloaded-sent core number pair true false there Second = pairs-sent number pair there Second
  reloaded-sent core number pair false true there First = pairs-sent number pair there First
  reloaded-sent core number pair false true there Second = λ acting. absurd (cc)
  reloaded-sent core number pair true true there First = λ acting. absurd (cc)
  reloaded-sent core number pair true true there Second = λ acting. absurd (cc)

  copies-after : (next : World) (cause : Cause) (sendings : List Sending) → Change site w cause sendings next
      → (number : ℕ) (pair : Pair) → slice_get next.processes number ≡ Some pair
      → PairSent site next.requests number pair
  copies-after next cause sendings (by_own {after = after} {core = core} {entered = entered} number k pair there role
      causes advances enters free) =
      set-all (PairSent site after.requests) w.processes number _
      (pairs-more after.requests (causes-grow causes).requests)
      (one-sent after.requests number k pair (record entered { core = core; waiting = after.waiting }) after.sectors
      (λ _ request among. own-awaited site regular number (acting-done site events w good number pair k there role)
      causes advances request among)
      (pairs-more after.requests (causes-grow causes).requests number pair there))
  copies-after next cause sendings (by_checkpoint number pair there passes) =
      set-all (PairSent site w.requests) w.processes number _ pairs-sent (passes-sent number pair there passes)
  copies-after next cause sendings (by_request request k pair sent there role) =
      set-all (PairSent site w.requests) w.processes request.process _ pairs-sent
      (one-sent w.requests request.process k pair _ _ (pairs-sent request.process pair there k)
      (pairs-sent request.process pair there))
  copies-after next cause sendings (by_early_request request k pair sent there role) =
      set-all (PairSent site w.requests) w.processes request.process _ pairs-sent
      (one-sent w.requests request.process k pair _ _ (pairs-sent request.process pair there k)
      (pairs-sent request.process pair there))
  copies-after next cause sendings (by_enter {words = words} number terminal opener there even is opens) =
      pairs-more (entered_request opener terminal words ∷ w.requests) (grown-one _ w.requests)
  copies-after next cause sendings (by_print number terminal reply there odd among opens same) = pairs-sent
  copies-after next cause sendings (by_stop processor runs whole) =
      map-all (PairSent site w.requests) (stopped_pair processor) w.processes
      (λ number pair there k. stopped-sent-both processor number pair there k)
    where
      stopped-sent-both : (processor number : ℕ) (pair : Pair) → slice_get w.processes number ≡ Some pair
          → PairSent site w.requests number (stopped_pair processor pair)
      stopped-sent-both processor number pair there First = stopped-sent processor number pair First there
      stopped-sent-both processor number pair there Second = stopped-sent processor number pair Second there
  copies-after next cause sendings (by_mark node processor down runs unmarked) =
      map-all (PairSent site w.requests) (pair_at_down node processor) w.processes
      (λ number pair there. marked-sent node processor number pair (taker node processor pair) refl there)
  copies-after next cause sendings (by_reload x down marked counted less) =
      reload-all (PairSent site w.requests) site x w.processes
      (λ number pair there.
      reloaded-sent (new_core site number (slice_get site.processes number) pair.first.core) number
      pair (pair.first.processor == x) (pair.second.processor == x) there)

  terminals-more : (more : List Request) → HasGrown w.requests more
      → (number : ℕ) (terminal : Terminal) → slice_get w.terminals number ≡ Some terminal
      → TerminalSent site more number terminal
  terminals-more more grown number terminal there request among =
      among-grown request grown (sent.terminals number terminal request there among)

  -- a terminal that enters a request has just sent it
  entered-sent : (number : ℕ) (terminal : Terminal) (opener : Opener) (words : List ℤ)
      → next_request site number terminal.entered ≡ Some words
      → opener_of site (who.Terminal number) ≡ Some opener
      → TerminalSent site (entered_request opener terminal words ∷ w.requests) number
      (record terminal { entered = terminal.entered + 1 })
  entered-sent number terminal opener words is opens request among =
      let last = (awaited-odd site number (record terminal { entered = terminal.entered + 1 }) request among).1 in
      let back : terminal.entered + 1 - 1 ≡ terminal.entered = omega arith in
      let said : next_request site number (terminal.entered + 1 - 1) ≡ Some words = rw back is in
      inl (only request (entered_request opener terminal words)
      (subst (λ o. IsAmong request (entered_last (terminal.entered + 1) o (Some words))) opens
      (subst (λ o. IsAmong request (entered_last (terminal.entered + 1) (opener_of site (who.Terminal number)) o)) said
      last)))

  terminals-after : (next : World) (cause : Cause) (sendings : List Sending) → Change site w cause sendings next
      → (number : ℕ) (terminal : Terminal) → slice_get next.terminals number ≡ Some terminal
      → TerminalSent site next.requests number terminal
  terminals-after next cause sendings (by_own {after = after} number k pair there role causes advances enters free) =
      terminals-more after.requests (causes-grow causes).requests
  terminals-after next cause sendings (by_checkpoint number pair there passes) =
      terminals-more w.requests (grown-none w.requests)
  terminals-after next cause sendings (by_request request k pair sent there role) =
      terminals-more w.requests (grown-none w.requests)
  terminals-after next cause sendings (by_early_request request k pair sent there role) =
      terminals-more w.requests (grown-none w.requests)
  terminals-after next cause sendings (by_enter {words = words} number terminal opener there even is opens) =
      set-all (TerminalSent site (entered_request opener terminal words ∷ w.requests)) w.terminals number
      (record terminal { entered = terminal.entered + 1 })
      (terminals-more (entered_request opener terminal words ∷ w.requests) (grown-one _ w.requests))
      (entered-sent number terminal opener words is opens)
  terminals-after next cause sendings (by_print number terminal reply there odd among opens same) =
      set-all (TerminalSent site w.requests) w.terminals number (record terminal { printed = terminal.printed + 1 })
      (terminals-more w.requests (grown-none w.requests))
      (λ request still. (let again = (awaited-odd site number (record terminal { printed = terminal.printed + 1 })
      request still).0 in absurd (omega (arith, odd, again))))
  terminals-after next cause sendings (by_stop processor runs whole) =
      terminals-more w.requests (grown-none w.requests)
  terminals-after next cause sendings (by_mark node processor down runs unmarked) =
      terminals-more w.requests (grown-none w.requests)
  terminals-after next cause sendings (by_reload x down marked counted less) =
      terminals-more w.requests (grown-none w.requests)

  pub change-awaited : (next : World) (cause : Cause) (sendings : List Sending) → Change site w cause sendings next
      → AwaitedWereSent site next
  change-awaited next cause sendings change = record {
    copies = λ number pair k request there role among.
        copies-after next cause sendings change number pair there k role request among;
    terminals = λ number terminal request there among.
        terminals-after next cause sendings change number terminal there request among;
  }

-- at the beginning nothing is awaited
pub awaited-begins : (site : Site) → AwaitedWereSent site (boot site)
awaited-begins site = record {
  copies = λ number pair k request there role among.
      absurd (begins-resting site number pair k there
      (awaited-last site number (copy_of k pair).core request among).stands);
  terminals = λ number terminal request there among.
      (let odd = (awaited-odd site number terminal request among).0 in
      let even = begins-even site number terminal there in
      absurd (omega (arith, odd, even.0, even.1)));
}
