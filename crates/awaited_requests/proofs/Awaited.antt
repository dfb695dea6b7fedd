-- A request that is awaited stands next, in hand or kept at each copy of its server that isn't gone.
use Rattle.std.proofs.Common.{◌≡◌, ◌≢◌, ℕ, ◌+◌, ◌≤◌, ℤ, List, length, Some, slice_get, ap, arith}
use Rattle.tal_tree.specs.declared.site.Site.{Site}
use Rattle.tal_tree.specs.declared.site.Who.{Who}
use Rattle.world_semantics.specs.plain_semantics.specs.declared.slot.Opener.{Opener}
use Rattle.world_semantics.specs.plain_semantics.specs.declared.slot.Slot.{Slot}
use Rattle.world_semantics.specs.plain_semantics.specs.Openers.{opener_of}
use Rattle.world_semantics.specs.World.{Pair, World, copy_of}
use Rattle.world_semantics.specs.declared.role.Role.TheVariants.{Gone, Blank}
use Rattle.world_semantics.specs.declared.which.Which.{Which}
use Rattle.takeover_laws.specs.plain_histories.specs.Slots.{IsSlot, is_empty, is_waiting, is_taken, is_answered}
use Rattle.takeover_laws.specs.plain_histories.proofs.Openers.{opener-is}
use Rattle.takeover_laws.specs.plain_histories.proofs.Possible.{booked-ran}
use Rattle.takeover_laws.specs.Fit.{IsFit}
use Rattle.takeover_laws.specs.Invariant.{Invariant}
use Rattle.awaited_requests.specs.Awaited.{IsAwaited, StandsThere}
use Rattle.awaited_requests.proofs.Leads.{copy-takes}
use Rattle.awaited_requests.proofs.Near.{awaited-near}
use Rattle.awaited_requests.proofs.Standing.{near-stands}

-- of the requests of an opener all but one were taken at least, and no more were answered
pub slot-counts : {requests taken answered replies : List (List ℤ)} {slot : Slot}
    → IsSlot requests taken answered replies slot
    → (length requests ≤ length taken + 1) × (length answered ≤ length requests)
slot-counts (is_empty asked even last) =
    let n = ap (length {A = List ℤ}) asked in (omega (arith, n), omega (arith, n, even))
slot-counts (is_waiting asked even last) =
    let n = ap (length {A = List ℤ}) asked in (omega (arith, n), omega (arith, n, even))
slot-counts (is_taken asked one last) =
    let n = ap (length {A = List ℤ}) asked in (omega (arith, n), omega (arith, n, one))
slot-counts (is_answered asked even last) =
    let n = ap (length {A = List ℤ}) asked in (omega (arith, n), omega (arith, n, even))

pub awaited-stands : (site : Site) → IsFit site → (events : ℕ) (w : World) → Invariant site events w
    → (asker : ℕ) (one : Who) (n : ℕ) (opener : Opener)
    (pair : Pair) (k : Which) → opener_of site one ≡ Some opener → slice_get w.processes opener.server ≡ Some pair
    → IsAwaited site w asker one n
    → (copy_of k pair).role ≢ Gone → (copy_of k pair).role ≢ Blank → StandsThere (copy_of k pair).core opener.place n
awaited-stands site fit events w inv asker one n opener pair k opens there awaited not_gone full =
    let near = awaited-near site fit events w inv asker one n opener opens awaited in
    let is = opener-is site one opener opens in
    let last = near.last is.spec is.placed in
    let counts = slot-counts ((booked-ran fit.regular inv.booked).agrees.slots one opener opens).2 in
    let server = inv.processes opener.server pair there in
    let has = copy-takes pair k server.2.led not_gone full in
    let takes = has.takes opener.place in
    let answers = has.answers opener.place in
    near-stands has.done opener.place is.spec n is.placed near.some (omega (arith, near.asked, counts.0, takes))
    (omega (arith, last, counts.1, answers))
