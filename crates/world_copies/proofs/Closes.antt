-- All processes are closed where they are one after another.
use Rattle.std.proofs.Common.{◌≡◌, ℕ, zero, suc, ◌+◌, ◌≤◌, ◌<◌, List, [], ◌∷◌, ◌++◌, drop, length, map, take, Option}
use Rattle.std.proofs.Common.{Some, None, slice_get, slice_set, refl, ap, ap₂, sym, ◌∙◌, arith, length-set}
use Rattle.tal_tree.specs.declared.act.Act.{Act}
use Rattle.world_semantics.specs.World.{Pair, World}
use Rattle.world_semantics.proofs.Lists.{some-same}
use Rattle.world_semantics.specs.Shares.{closed_by, closed_by_all, let_go}
use Rattle.world_copies.specs.SiteWorld.{SiteWorld}
use Rattle.process_copies.specs.Seen.{Placed}
use Rattle.world_semantics.specs.Records.{Records, records_of}
use Rattle.world_copies.specs.Closing.{closed_at, closed_from, closed_with}
use Rattle.world_copies.specs.Seen.{drives_in, pairs_in}
use Rattle.world_copies.proofs.Places.{drives-same, pair-at, pairs-set}
use Rattle.world_copies.proofs.Steps.{put_back}
use Rattle.std.specs.Option.{option_map}

past : {A : Type 0} (xs : List A) (k : ℕ) → slice_get xs k ≡ None → length xs ≤ k
past [] k gone = omega arith
past (x ∷ xs) zero gone = absurd (cc)
past (x ∷ xs) (suc k) gone = omega (arith, past xs k gone)

-- one more place is passed where what stands there was changed
front-set : {A : Type 0} (f : A → A) (xs : List A) (k : ℕ) (x : A) → slice_get xs k ≡ Some x
    → take (suc k) (slice_set xs k (f x)) ++ map f (drop (suc k) (slice_set xs k (f x)))
    ≡ take k xs ++ map f (drop k xs)
front-set f [] k x found = absurd (cc)
front-set f (y ∷ xs) zero x found = ap (λ one. f one ∷ map f xs) (sym (some-same found))
front-set f (y ∷ xs) (suc k) x found = ap (λ rest. y ∷ rest) (front-set f xs k x found)

kept-set : (kept : List Act) (pairs : List Pair) (k : ℕ) (pair after : Pair) → slice_get pairs k ≡ Some pair
    → closed_by_all (closed_by kept pair) (drop (suc k) (slice_set pairs k after)) ≡ closed_by_all kept (drop k pairs)
kept-set kept [] k pair after found = absurd (cc)
kept-set kept (first ∷ pairs) zero pair after found =
    ap (λ one. closed_by_all (closed_by kept one) pairs) (sym (some-same found))
kept-set kept (first ∷ pairs) (suc k) pair after found = kept-set kept pairs k pair after found

front-all : {A : Type 0} (f : A → A) (xs : List A) (k : ℕ) → length xs ≤ k → take k xs ++ map f (drop k xs) ≡ xs
front-all f [] zero past = refl
front-all f [] (suc k) past = refl
front-all f (x ∷ xs) zero past = absurd (omega arith)
front-all f (x ∷ xs) (suc k) past = ap (λ rest. x ∷ rest) (front-all f xs k (omega (arith, past)))

kept-all : (kept : List Act) (pairs : List Pair) (k : ℕ) → length pairs ≤ k → closed_by_all kept (drop k pairs) ≡ kept
kept-all kept [] zero past = refl
kept-all kept [] (suc k) past = refl
kept-all kept (pair ∷ pairs) zero past = absurd (omega arith)
kept-all kept (pair ∷ pairs) (suc k) past = kept-all kept pairs k (omega (arith, past))

closes-found : (w : World) (k : ℕ) (there : Option Pair) → slice_get w.processes k ≡ there → k < length w.processes
    → closed_from (suc k) (closed_with k w there) ≡ closed_from k w
closes-found w k None gone within = absurd (omega (arith, within, past w.processes k gone))
closes-found w k (Some pair) found within =
    ap₂ (λ kept processes. record w { kept = kept; processes = processes })
    (kept-set w.kept w.processes k pair (let_go pair) found) (front-set let_go w.processes k pair found)

-- after the process at a place was closed, those from the next one on are left
pub closes-next : (w : World) (k : ℕ) → k < length w.processes → closed_from (k + 1) (closed_at k w) ≡ closed_from k w
closes-next w k within =
    let next : k + 1 ≡ suc k = omega arith in
    ap (λ n. closed_from n (closed_at k w)) next ∙ closes-found w k (slice_get w.processes k) refl within

-- past all processes none is left
pub closes-last : (w : World) (k : ℕ) → length w.processes ≤ k → closed_from k w ≡ w
closes-last w k past =
    ap₂ (λ kept processes. record w { kept = kept; processes = processes }) (kept-all w.kept w.processes k past)
    (front-all let_go w.processes k past)

count-with : (w : World) (k : ℕ) (there : Option Pair) → length (closed_with k w there).processes ≡ length w.processes
count-with w k None = refl
count-with w k (Some pair) = length-set w.processes k (let_go pair)

-- as many processes stand there as before
pub closes-count : (w : World) (k : ℕ) → length (closed_at k w).processes ≡ length w.processes
closes-count w k = count-with w k (slice_get w.processes k)

closes-there : (s : SiteWorld) (places : List Placed) (k : ℕ) (before : Placed) → s.world.processes ≡ pairs_in places
    → s.drives ≡ drives_in places → slice_get places k ≡ Some before
    → put_back s places k (record before { pair = let_go before.pair })
    (record (records_of s.world) { kept = closed_by s.world.kept before.pair })
    ≡ record s { world = closed_at k s.world }
closes-there s places k before pairs drives there =
    ap₂ (λ processes drives. record s {
      world = record s.world
          { kept = closed_by s.world.kept before.pair; processes = processes };
      drives = drives;
    })
    (pairs-set places k (record before { pair = let_go before.pair })
    ∙ ap (λ all. slice_set all k (let_go before.pair)) (sym pairs))
    (drives-same places k before (record before { pair = let_go before.pair }) there refl ∙ sym drives)
    ∙ ap (λ found. record s { world = closed_with k s.world found })
    (sym (ap (λ all. slice_get all k) pairs ∙ pair-at places k
    ∙ ap (option_map (λ (placed : Placed). placed.pair)) there))

-- a process that is found in its place, closed and put back, with the records after it
pub closes-put : (s : SiteWorld) (places : List Placed) (k : ℕ) (before after : Placed) (records : Records)
    → s.world.processes ≡ pairs_in places → s.drives ≡ drives_in places
    → slice_get places k ≡ Some before → after ≡ record before { pair = let_go before.pair }
    → records ≡ record (records_of s.world) { kept = closed_by s.world.kept before.pair }
    → put_back s places k after records ≡ record s { world = closed_at k s.world }
closes-put s places k before after records pairs drives there closed recorded =
    ap₂ (put_back s places k) closed recorded ∙ closes-there s places k before pairs drives there
