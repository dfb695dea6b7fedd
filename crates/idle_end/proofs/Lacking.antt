-- An idle end closed: an opener that lacks a reply awaits it, and so no reply waits for an opener and no request for a
-- process that could take it.
use Rattle.std.proofs.Common.{◌≡◌, inl, inr, ℕ, ◌+◌, ◌==◌, ℤ, Bool, true, false, List, ◌∷◌, length, Some, slice_get}
use Rattle.std.proofs.Common.{refl, ap, sym, ◌∙◌, subst, arith}
use Rattle.std.proofs.lemmas.Bool.{eqb-true}
use Rattle.tal_tree.specs.declared.act.Act.TheVariants as act
use Rattle.tal_tree.specs.declared.site.Site.{Site}
use Rattle.tal_tree.specs.declared.site.ProcessSpec.{ProcessSpec}
use Rattle.tal_tree.specs.declared.site.Who.{Who}
use Rattle.tal_tree.specs.declared.site.Who.TheVariants as who
use Rattle.process_semantics.specs.declared.point.Point.{Point}
use Rattle.process_semantics.specs.declared.point.Point.TheVariants as point
use Rattle.process_semantics.specs.Process as process
use Rattle.plain_semantics.specs.declared.slot.Opener.{Opener}
use Rattle.plain_semantics.specs.declared.slot.Slot.{Slot}
use Rattle.plain_semantics.specs.Openers.{opener_of}
use Rattle.checkpoint_image.specs.declared.receive.ReceiveBlock.{ReceiveBlock}
use Rattle.checkpoint_image.specs.declared.receive.RequestStanding.TheVariants.{Next, InHand}
use Rattle.checkpoint_image.specs.Receive.{is_place, standing_by, standing_at, request_standing}
use Rattle.world_semantics.specs.Core.{takes}
use Rattle.world_semantics.specs.Own.{by_take}
use Rattle.world_semantics.specs.Rules.{by_own}
use Rattle.world_semantics.specs.World.{Pair, Terminal, terminal_node, copy_of}
use Rattle.world_semantics.proofs.Lists.{some-same}
use Rattle.world_semantics.proofs.Roles.{both-true}
use Rattle.world_semantics.proofs.Running.{enters-as}
use Rattle.process_histories.specs.Histories.{HasDone}
use Rattle.process_histories.specs.Words.{is_await, awaits_on, one_if}
use Rattle.process_histories.proofs.Counts.{asked-count, take-free}
use Rattle.plain_histories.specs.Ledgers.{requests_of, taken_of, answered_of, replies_of}
use Rattle.plain_histories.specs.Slots.{IsSlot, is_empty, is_waiting, is_taken, is_answered}
use Rattle.plain_histories.proofs.Openers.{opener-is, opener-opened, opener-terminal}
use Rattle.letters.specs.Posts.{Post}
use Rattle.awaited_requests.specs.Awaited.{IsAwaited, by_copy, by_terminal}
use Rattle.awaited_requests.specs.Served.{WaitsFor}
use Rattle.awaited_requests.specs.takeover_laws.proofs.Backed.{next-is}
use Rattle.awaited_requests.specs.takeover_laws.proofs.Waiting.{chosen-is}
use Rattle.idle_end.proofs.Closed.{IsClosed}
use Rattle.idle_end.proofs.Doing.{free}
use Rattle.idle_end.proofs.Ends.{IsEnd, who_acts, acting}
use Rattle.idle_end.proofs.Awaited.{unanswered, at-server}
use Rattle.idle_end.proofs.Unanswered.{none-in-hand, chosen-there}

-- Slots

-- an opener whose request waits has one reply less than it has requests
waiting-counts : {requests taken answered replies : List (List ℤ)} {slot : Slot} {words : List ℤ}
    → IsSlot requests taken answered replies slot
    → requests ≡ words ∷ taken → length requests ≡ length replies + 1
waiting-counts (is_empty asked even last) waits = absurd (omega (arith, ap length asked, ap length waits))
waiting-counts (is_waiting asked even last) waits = omega (arith, even, ap length asked, ap length last)
waiting-counts (is_taken asked even last) waits = absurd (omega (arith, ap length asked, ap length waits))
waiting-counts (is_answered asked even last) waits = absurd (omega (arith, ap length asked, ap length waits))

-- and so has one whose answer waits, all of whose requests were answered
answered-counts : {requests taken answered replies : List (List ℤ)} {slot : Slot} {words : List ℤ}
    → IsSlot requests taken answered replies slot
    → answered ≡ words ∷ replies → (length requests ≡ length replies + 1) × (length requests ≡ length answered)
answered-counts (is_empty asked even last) ready = absurd (omega (arith, ap length last, ap length ready))
answered-counts (is_waiting asked even last) ready = absurd (omega (arith, ap length last, ap length ready))
answered-counts (is_taken asked even last) ready = absurd (omega (arith, ap length last, ap length ready))
answered-counts (is_answered asked even last) ready =
    (omega (arith, even, ap length asked, ap length last), omega (arith, even, ap length asked))

-- Where a process awaits a reply

one-true : (test : Bool) → one_if test ≡ 1 → test ≡ true
one-true true is = refl
one-true false is = absurd (cc)

await-is : (at : Point) → is_await at ≡ true → at ≡ point.Await
await-is point.Await is = refl
await-is point.Inner is = absurd (cc)
await-is point.Take is = absurd (cc)
await-is point.Ask is = absurd (cc)
await-is point.Answer is = absurd (cc)
await-is point.AtCheckpoint is = absurd (cc)
await-is point.Device is = absurd (cc)
await-is point.Ended is = absurd (cc)

awaits-is : (state : process.ProcessState) (file : ℕ) → one_if (awaits_on state file) ≡ 1
    → (process.point state ≡ point.Await) × (process.asked_file state ≡ file)
awaits-is state file one =
    let both = both-true (is_await (process.point state)) (process.asked_file state == file)
    (one-true (awaits_on state file) one) in
    (await-is (process.point state) both.0, eqb-true (process.asked_file state) file both.1)

module _ {site : Site} {events : ℕ} {post : Post} (end : IsEnd site events post)
    (all : IsClosed site post end.good.invariant.ledger) where
  pub copy-done : (number : ℕ) (spec : ProcessSpec) (pair : Pair) → slice_get site.processes number ≡ Some spec
      → slice_get post.world.processes number ≡ Some pair
      → HasDone site number spec (all.last.deeds number) (copy_of (who_acts pair) pair).core
  copy-done number spec pair known there =
      let has = all.each number pair there in
      subst (λ (s : ProcessSpec). HasDone site number s (all.last.deeds number) (copy_of (who_acts pair) pair).core)
      (some-same (sym has.there ∙ known)) has.done

  -- a terminal has entered and printed as often as the ledger says
  pub terminal-there : (number : ℕ) (opener : Opener) → opener_of site (who.Terminal number) ≡ Some opener
      → (terminal : Terminal) × (slice_get post.world.terminals number ≡ Some terminal)
      × (terminal.entered ≡ length (all.last.entered number))
      × (terminal.printed ≡ length (all.last.printed number))
  terminal-there number opener opens =
      let spec = opener-terminal site number opener opens in
      let seat = end.seated.terminals number spec.0 spec.1 in
      let sound = end.good.invariant.terminals number seat.0 seat.1 in (
        seat.0,
        seat.1,
        sound.entered ∙ ap (λ (f : ℕ → List (List ℤ)). length (f number)) (sym all.entered),
        sound.printed ∙ ap (λ (f : ℕ → List (List ℤ)). length (f number)) (sym all.printed),
      )

  -- an opener that lacks a reply awaits it
  awaits-last : (one : Who) (opener : Opener) → opener_of site one ≡ Some opener
      → length (requests_of all.last one) ≡ length (replies_of all.last one) + 1
      → (asker : ℕ) × IsAwaited site post.world asker one (length (requests_of all.last one))
  awaits-last (who.Terminal number) opener opens lacks =
      let has = terminal-there number opener opens in (
        terminal_node,
        subst (λ n. IsAwaited site post.world terminal_node (who.Terminal number) n) has.2
            (by_terminal has.0 has.1 (omega (arith, lacks, has.2, has.3))),
      )
  awaits-last (who.File number file) opener opens lacks =
      let opened = opener-opened site number file opener opens in
      let seat = end.seated.processes number opened.spec opened.there in
      let done = copy-done number opened.spec seat.0 opened.there seat.1 in
      let count = asked-count (end.fit.regular number opened.spec opened.there) done file in
      let stands = awaits-is (copy_of (who_acts seat.0) seat.0).core.state file (omega (arith, lacks, count)) in (
        (copy_of (who_acts seat.0) seat.0).processor,
        by_copy seat.0 (who_acts seat.0) seat.1 (acting end number seat.0 seat.1) stands.0 stands.1
            (next-is site end.fit.regular number opened.spec opened.there (all.last.deeds number) file opener opens
            done),
      )

  -- so no answer waits
  pub none-answered : (one : Who) (opener : Opener) (words : List ℤ) → opener_of site one ≡ Some opener
      → answered_of all.last opener ≡ words ∷ replies_of all.last one → ⊥
  none-answered one opener words opens ready =
      let counts = answered-counts (all.agrees.slots one opener opens).2 ready in
      let last = awaits-last one opener opens counts.0 in
      let is = opener-is site one opener opens in
      let seat = end.seated.processes opener.server is.server is.named in
      let has = at-server end last.0 one (length (requests_of all.last one)) opener seat.0 (who_acts seat.0) opens
      seat.1 (acting end opener.server seat.0 seat.1) last.1 in
      let fewer = unanswered (copy_of (who_acts seat.0) seat.0) opener (length (requests_of all.last one))
      (copy-done opener.server is.server seat.0 is.named seat.1) has in
      omega (arith, fewer, counts.1)

  -- and no request waits for a process at Take
  pub none-waiting : (number place : ℕ) (pair : Pair) (one : Who) (words : List ℤ)
      → slice_get post.world.processes number ≡ Some pair
      → process.point (copy_of (who_acts pair) pair).core.state ≡ point.Take
      → opener_of site one ≡ Some (record { server = number; place = place })
      → requests_of all.last one ≡ words ∷ taken_of all.last (record { server = number; place = place }) → ⊥
  none-waiting number place pair one words there at opens waits =
      let opener : Opener = record { server = number; place = place } in
      let role = acting end number pair there in
      let last = awaits-last one opener opens (waiting-counts (all.agrees.slots one opener opens).2 waits) in
      elim (at-server end last.0 one (length (requests_of all.last one)) opener pair (who_acts pair) opens there role
      last.1) [
        | inl (next, asks_it) ↦ takes-none (length (requests_of all.last one)) next asks_it
        | inr hand ↦ none-in-hand (slice_get (copy_of (who_acts pair) pair).core.receive.openers place)
            (length (requests_of all.last one))
            (subst (λ held. standing_by (is_place held place)
            (slice_get (copy_of (who_acts pair) pair).core.receive.openers place)
            (length (requests_of all.last one)) ≡ InHand)
            (take-free (all.each number pair there).done at) hand)
      ]
    where
      takes-none : (n : ℕ) → standing_at (copy_of (who_acts pair) pair).core.receive place n ≡ Next
          → WaitsFor (copy_of (who_acts pair) pair).waiting (record { server = number; place = place }) n → ⊥
      takes-none n next (request, among, server, placed, numbered) =
          let table : ReceiveBlock = (copy_of (who_acts pair) pair).core.receive in
          let stands : request_standing table request ≡ Next = rw (placed, numbered) next in
          let found = chosen-there table (copy_of (who_acts pair) pair).waiting request among stands in
          let is = chosen-is table (copy_of (who_acts pair) pair).waiting found.0 found.1 in
          end.idle.runs number _ _ (by_own number (who_acts pair) pair there (acting end number pair there)
          (by_take found.1) (takes is.block at is.there)
          (enters-as number (act.Take number found.0.request.opener) post.world.kept (copy_of (who_acts pair) pair))
          (free end number pair (who_acts pair) there (acting end number pair there) (λ awaits. cc)))
