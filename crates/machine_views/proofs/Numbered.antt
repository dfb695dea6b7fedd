-- Processes in their places, each of which has the number of its place.
use Rattle.std.proofs.Common.{◌≡◌, ℕ, zero, suc, ◌+◌, ◌<◌, List, [], ◌∷◌, ◌++◌, drop, get_or, length, Some, slice_get}
use Rattle.std.proofs.Common.{refl, ap, sym, ◌∙◌, arith, append_assoc}
use Rattle.std.proofs.lemmas.Option.{slice_get_read}
use Rattle.tal_tree.specs.declared.site.Site.{Site}
use Rattle.world_semantics.proofs.Lists.{some-same}
use Rattle.world_semantics.specs.World.{Pair}
use Rattle.site_machine.specs.process_copies.specs.Seen.{Placed}
use Rattle.site_machine.specs.world_copies.specs.Seen.{ArePlaced, pairs_in}
use Rattle.machine_views.specs.Seen.{AreNumbered}
use Rattle.machine_views.specs.Views.{each_at}

pub placed-numbered : (site : Site) (places : List Placed) → ArePlaced site places → AreNumbered places
placed-numbered site places placed number one there = (placed number one there).1

-- what is left at a place begins with the one that stands there
left : {A : Type 0} (xs : List A) (k : ℕ) (x : A) → slice_get xs k ≡ Some x → drop k xs ≡ x ∷ drop (k + 1) xs
left [] k x there = absurd (cc)
left (y ∷ xs) zero x there = ap (λ one. one ∷ xs) (some-same there)
left (y ∷ xs) (suc k) x there = let e : suc k + 1 ≡ suc (k + 1) = omega arith in rw e (left xs k x there)

-- once what a process gives was added, what is left comes after it
pub process-step : {B : Type 0} (give : ℕ → Pair → List B) (places : List Placed) (k : ℕ) (one : Placed)
    (told more : List B) → AreNumbered places
    → k < length places → one ≡ get_or places k one → more ≡ told ++ give one.number one.pair
    → told ++ each_at give k (pairs_in (drop k places)) ≡ more ++ each_at give (k + 1) (pairs_in (drop (k + 1) places))
process-step give places k one told more numbered within at says =
    let there : slice_get places k ≡ Some one = slice_get_read places (length places) k one refl within at in
    let rest = each_at give (k + 1) (pairs_in (drop (k + 1) places)) in
    ap (λ (all : List Placed). told ++ each_at give k (pairs_in all)) (left places k one there)
    ∙ ap (λ (number : ℕ). told ++ (give number one.pair ++ rest)) (sym (numbered k one there))
    ∙ sym (append_assoc told (give one.number one.pair) rest)
    ∙ ap (λ all. all ++ rest) (sym says)
