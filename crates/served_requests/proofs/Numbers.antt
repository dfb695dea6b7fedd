-- The numbers of requests: what was asked isn't past the next one at a copy, nor is what is awaited, and what came
-- early isn't past what is awaited.
use Rattle.std.proofs.Common.{◌≡◌, ℕ, ◌+◌, ◌-◌, ◌≤◌, ◌<◌, Bool, true, false, length, length-drop, reverse, Some}
use Rattle.std.proofs.Common.{slice_get, refl, ap, sym, ◌∙◌, subst, arith}
use Rattle.gd_words.specs.declared.message.Request.{Request}
use Rattle.std.proofs.lemmas.List.{length-reverse}
use Rattle.tal_tree.specs.declared.site.OpenerSpec.{OpenerSpec}
use Rattle.tal_tree.specs.declared.site.Site.{Site}
use Rattle.tal_tree.specs.declared.site.Who.{Who}
use Rattle.tal_tree.specs.declared.site.Who.TheVariants as who
use Rattle.plain_semantics.specs.declared.slot.Opener.{Opener}
use Rattle.plain_semantics.specs.Openers.{openers_of, opener_of}
use Rattle.checkpoint_image.specs.declared.receive.OpenerBlock.{OpenerBlock}
use Rattle.checkpoint_image.specs.Receive.{holds, answered}
use Rattle.world_semantics.specs.declared.role.Role.TheVariants.{Acting, Blank, Gone}
use Rattle.world_semantics.specs.declared.which.Which.{Which}
use Rattle.world_semantics.specs.declared.which.Which.TheVariants.{First, Second}
use Rattle.world_semantics.specs.Core.{next_on}
use Rattle.world_semantics.specs.World.{Pair, World, copy_of}
use Rattle.world_semantics.proofs.Lists.{some-same}
use Rattle.world_semantics.proofs.Reached.{one-acts}
use Rattle.letter_laws.specs.process_histories.specs.Words.{taken_from, answered_to, one_if}
use Rattle.letter_laws.specs.process_histories.proofs.Counts.{taken-number, taken-count}
use Rattle.letter_laws.specs.process_histories.proofs.Kept.{kept-last}
use Rattle.letter_laws.specs.plain_histories.specs.Ledgers.{requests_of}
use Rattle.letter_laws.specs.plain_histories.proofs.Entries.{entry-most}
use Rattle.letter_laws.specs.plain_histories.proofs.Openers.{opener-one}
use Rattle.letter_laws.specs.plain_histories.proofs.Possible.{booked-ran}
use Rattle.letter_laws.specs.takeover_laws.specs.Fit.{IsFit}
use Rattle.letter_laws.specs.takeover_laws.specs.Invariant.{IsAsked}
use Rattle.letter_laws.specs.takeover_laws.proofs.Kept.{IsGood}
use Rattle.letter_laws.specs.awaited_requests.specs.Awaited.{IsAwaited, by_copy, by_terminal}
use Rattle.letter_laws.specs.Known.{IsEarly}
use Rattle.letter_laws.proofs.Awaited.{acting-done}
use Rattle.served_requests.proofs.Standings.{stands-low}
use Rattle.letter_laws.specs.awaited_requests.proofs.Awaited.{slot-counts, awaited-stands}
use Rattle.letter_laws.specs.awaited_requests.proofs.Leads.{copy-takes}

module _ (site : Site) (fit : IsFit site) (events : ℕ) (w : World) (good : IsGood site events w) where
  -- of the copies of a process one acts at most
  pub same-acting : (number : ℕ) (pair : Pair) (j k : Which) → slice_get w.processes number ≡ Some pair
      → (copy_of j pair).role ≡ Acting
      → (copy_of k pair).role ≡ Acting → j ≡ k
  same-acting number pair First First there one other = refl
  same-acting number pair Second Second there one other = refl
  same-acting number pair First Second there one other =
      absurd (one-acts w.stopped pair (good.roles number pair there) one other)
  same-acting number pair Second First there one other =
      absurd (one-acts w.stopped pair (good.roles number pair there) other one)

  pub asked-low : (number : ℕ) (pair : Pair) (k : Which) → slice_get w.processes number ≡ Some pair
      → (copy_of k pair).role ≡ Acting → (request : Request)
      → request.process ≡ number → IsAsked site good.invariant.ledger request → (block : OpenerBlock)
      → slice_get (copy_of k pair).core.receive.openers request.opener ≡ Some block → request.number ≤ block.taken + 1
  asked-low number pair k there role request server asked block at =
      let has = copy-takes pair k (good.invariant.processes number pair there).2.led
      (λ gone. let same : Acting ≡ Gone = sym role ∙ gone in cc)
      (λ blank. let same : Acting ≡ Blank = sym role ∙ blank in cc) in
      let opener : Opener = record { server = request.process; place = request.opener } in
      let counts = slot-counts ((booked-ran fit.regular good.invariant.booked).agrees.slots asked.0 opener asked.1).2 in
      let most = entry-most asked.2 in
      let taken = taken-number has.done request.opener block at in
      let all = has.takes request.opener in
      let same = ap (λ n. length (taken_from request.opener (good.invariant.ledger.deeds n))) server in
      omega (arith, most, counts.0, taken, all, same)

  pub awaited-low : (asker : ℕ) (one : Who) (n : ℕ) (opener : Opener) (pair : Pair) (k : Which)
      → opener_of site one ≡ Some opener
      → slice_get w.processes opener.server ≡ Some pair → IsAwaited site w asker one n → (copy_of k pair).role ≡ Acting
      → (block : OpenerBlock) → slice_get (copy_of k pair).core.receive.openers opener.place ≡ Some block
      → n ≤ block.taken + 1
  awaited-low asker one n opener pair k opens there awaited role block at =
      stands-low (copy_of k pair).core.receive opener.place n block at
      (awaited-stands site fit events w good.invariant asker one n opener pair k opens there awaited
      (λ gone. let same : Acting ≡ Gone = sym role ∙ gone in cc)
      (λ blank. let same : Acting ≡ Blank = sym role ∙ blank in cc))

  pub early-low : (k : Which) (request : Request) (asker : ℕ) (one : Who) (n : ℕ) (opener : Opener)
      → IsEarly site w k request
      → IsAsked site good.invariant.ledger request
      → opener_of site one ≡ Some opener → IsAwaited site w asker one n → request.process ≡ opener.server
      → request.opener ≡ opener.place → request.number ≤ n
  early-low k request asker one n opener early asked opens awaited server place = of awaited opens
    where
      same : opener ≡ record { server = request.process; place = request.opener }
      same = rw (server, place) refl

      of : {asker : ℕ} {one : Who} {n : ℕ} → IsAwaited site w asker one n → opener_of site one ≡ Some opener
          → request.number ≤ n
      of (by_copy {number = number} {file = file} pair k there role at on last) opens =
          let is = early.asker number file (opens ∙ ap Some same) in
          let pair_is : is.0 ≡ pair = some-same (sym is.2 ∙ there) in
          let here : (copy_of is.1 pair).role ≡ Acting = subst (λ p. (copy_of is.1 p).role ≡ Acting) pair_is is.3 in
          let k_is = same-acting number pair is.1 k there here role in
          let core : (copy_of is.1 is.0).core ≡ (copy_of k pair).core =
          ap (λ p. (copy_of is.1 p).core) pair_is ∙ ap (λ j. (copy_of j pair).core) k_is in
          let less : request.number < next_on (copy_of k pair).core file =
          subst (λ c. request.number < next_on c file) core is.4 in
          omega (arith, less, last)
      of (by_terminal {number = number} terminal there odd) opens =
          let asker_is = opener-one site asked.0 (who.Terminal number) opener (asked.1 ∙ ap Some (sym same)) opens in
          let most = entry-most asked.2 in
          let count = ap (λ asker. length (requests_of good.invariant.ledger asker)) asker_is in
          let entered = (good.invariant.terminals number terminal there).entered in
          omega (arith, most, count, entered)

  -- no more replies are kept for an opener than were answered
  pub few-kept : (number : ℕ) (pair : Pair) (k : Which) → slice_get w.processes number ≡ Some pair
      → (copy_of k pair).role ≡ Acting
      → (place : ℕ) (spec : OpenerSpec)
      (block : OpenerBlock) → slice_get (openers_of site number) place ≡ Some spec
      → slice_get (copy_of k pair).core.receive.openers place ≡ Some block
      → length block.kept ≤ answered (holds (copy_of k pair).core.receive place) block
  few-kept number pair k there role place spec block placed at =
      let is = acting-done site events w good number pair k there role in
      let all = reverse (answered_to place is.deeds) in
      let kept = ap length (kept-last is.done place block at spec placed) in
      let fewer = length-drop (length all - spec.depth) all in
      let turned = length-reverse (answered_to place is.deeds) in
      let number = taken-number is.done place block at in
      let count = taken-count is.done place in
      by (holds (copy_of k pair).core.receive place) (length (answered_to place is.deeds))
      (omega (arith, kept, fewer, turned)) (omega (arith, number, count))
    where
      by : (held : Bool) (count : ℕ) → length block.kept ≤ count → block.taken ≡ count + one_if held
          → length block.kept ≤ answered held block
      by true count few taken = omega (arith, few, taken)
      by false count few taken = omega (arith, few, taken)
