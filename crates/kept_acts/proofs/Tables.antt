-- A table that says how many acts are each process's own: where it is read, and what one more act makes of it.
use Rattle.std.proofs.Common.{◌≡◌, ◌<◌, ◌≤◌, ◌∙◌, ℕ, ◌+◌, ◌==◌, Bool, true, false, if◌then◌else◌, List, [], ◌∷◌, length}
use Rattle.std.proofs.Common.{min, reverse, take, slice_get, slice_set, slice_index_or, Some, None, refl, sym, ap}
use Rattle.std.proofs.Common.{subst, arith}
use Rattle.std.proofs.lemmas.Bool.{eqb-true, eq-eqb, ne_eqb}
use Rattle.std.proofs.lemmas.List.{take_more, reverse-append, length-reverse, length-take}
use Rattle.std.proofs.lemmas.Option.{slice_get_within, get_or_from_slice_get}
use Rattle.std.proofs.Math.Nat.{min-le_left}
use Rattle.tal_tree.specs.declared.act.Act.{Act}
use Rattle.tal_tree.specs.declared.act.Act.TheVariants.{Step, Take, Enter, Print}
use Rattle.world_semantics.specs.Kept.{is_own, own_acts}
use Rattle.world_semantics.proofs.Lists.{some-same, set-there, set-other}
use Rattle.kept_acts.specs.Counts.{Counts, owner}

pub within : (table : List ℕ) (acts : List Act) → Counts table acts → (number : ℕ) → number < 256
    → number < length table
within table acts counts number few = slice_get_within table number (own_acts number acts) (counts number few)

pub read : (table : List ℕ) (acts : List Act) → Counts table acts → (number : ℕ) → number < 256
    → slice_index_or table number 0 ≡ own_acts number acts
read table acts counts number few = get_or_from_slice_get table number (own_acts number acts) 0 (counts number few)

one-most : (test : Bool) → (if test then 1 else 0) ≤ 1
one-most true = omega arith
one-most false = omega arith

pub own-most : (number : ℕ) (acts : List Act) → own_acts number acts ≤ length acts
own-most number [] = omega arith
own-most number (act ∷ acts) =
    let one = one-most (is_own number act) in let rest = own-most number acts in omega (arith, one, rest)

own-by : (number process : ℕ) (act : Act) → owner act ≡ Some process → is_own number act ≡ (number == process)
own-by number process (Step q) e = ap (λ (p : ℕ). number == p) (some-same e)
own-by number process (Take q place) e = ap (λ (p : ℕ). number == p) (some-same e)
own-by number process (Enter t) e = absurd (cc)
own-by number process (Print t) e = absurd (cc)

own-here : (process : ℕ) (act : Act) (acts : List Act) → owner act ≡ Some process
    → own_acts process (act ∷ acts) ≡ own_acts process acts + 1
own-here process act acts e =
    let own : is_own process act ≡ true = own-by process process act e ∙ eq-eqb process process refl in
    rw own (omega arith)

own-elsewhere : (number process : ℕ) (act : Act) (acts : List Act) → owner act ≡ Some process → (number ≡ process → ⊥)
    → own_acts number (act ∷ acts) ≡ own_acts number acts
own-elsewhere number process act acts e differ =
    let own : is_own number act ≡ false = own-by number process act e ∙ ne_eqb number process differ in
    rw own (omega arith)

own-never : (number : ℕ) (act : Act) (acts : List Act) → owner act ≡ None
    → own_acts number (act ∷ acts) ≡ own_acts number acts
own-never number (Step q) acts e = absurd (cc)
own-never number (Take q place) acts e = absurd (cc)
own-never number (Enter t) acts e = omega arith
own-never number (Print t) acts e = omega arith

-- an act of no process leaves the table
pub counts-none : (table : List ℕ) (acts : List Act) (act : Act) → owner act ≡ None → Counts table acts
    → Counts table (act ∷ acts)
counts-none table acts act e counts number few = counts number few ∙ ap Some (sym (own-never number act acts e))

-- an act of a process raises its count by one
pub counts-one : (table : List ℕ) (acts : List Act) (act : Act) (process : ℕ) → owner act ≡ Some process
    → process < 256 → Counts table acts
    → Counts (slice_set table process (slice_index_or table process 0 + 1)) (act ∷ acts)
counts-one table acts act process e small counts number few = by-test (number == process) refl
  where
    count : slice_index_or table process 0 + 1 ≡ own_acts process (act ∷ acts)
    count = ap (λ (n : ℕ). n + 1) (read table acts counts process small) ∙ sym (own-here process act acts e)

    here : slice_get (slice_set table process (slice_index_or table process 0 + 1)) process
        ≡ Some (own_acts process (act ∷ acts))
    here = set-there table process (own_acts process acts) (slice_index_or table process 0 + 1) (counts process small)
        ∙ ap Some count

    differ : (number == process) ≡ false → number ≡ process → ⊥
    differ f same = let t : (number == process) ≡ true = eq-eqb number process same in absurd (cc)

    by-test : (test : Bool) → (number == process) ≡ test
        → slice_get (slice_set table process (slice_index_or table process 0 + 1)) number
        ≡ Some (own_acts number (act ∷ acts))
    by-test true t =
        subst (λ (n : ℕ). slice_get (slice_set table process (slice_index_or table process 0 + 1)) n
        ≡ Some (own_acts n (act ∷ acts)))
        (sym (eqb-true number process t)) here
    by-test false f =
        set-other table process number (slice_index_or table process 0 + 1) (λ same. differ f (sym same))
        ∙ counts number few
        ∙ ap Some (sym (own-elsewhere number process act acts e (differ f)))

-- the acts up to a place and the one that stands there, the newest first
pub one-more : (acts : List Act) (place : ℕ) (d : Act) → place < length acts
    → reverse (take (place + 1) acts) ≡ slice_index_or acts place d ∷ reverse (take place acts)
one-more acts place d within =
    ap (λ (front : List Act). reverse front) (take_more acts place d within)
    ∙ reverse-append (take place acts) (slice_index_or acts place d ∷ [])

-- a count of the acts up to a place is no more than the place
pub count-most : (table : List ℕ) (acts : List Act) (place : ℕ) → Counts table (reverse (take place acts))
    → (number : ℕ) → number < 256
    → slice_index_or table number 0 ≤ place
count-most table acts place counts number few =
    let count = read table (reverse (take place acts)) counts number few in
    let most = own-most number (reverse (take place acts)) in
    let long : length (reverse (take place acts)) ≡ min place (length acts) =
    length-reverse (take place acts) ∙ length-take place acts in
    let least : min place (length acts) ≤ place = min-le_left place (length acts) in
    omega (arith, count, most, long, least)

-- a table of the acts before a place, and what it is after the act at that place
pub counts-next : (table next : List ℕ) (acts : List Act) (place process : ℕ) (d : Act) → place < length acts
    → owner (slice_index_or acts place d) ≡ Some process → process < 256
    → next ≡ slice_set table process (slice_index_or table process 0 + 1)
    → Counts table (reverse (take place acts)) → Counts next (reverse (take (place + 1) acts))
counts-next table next acts place process d within own small is counts =
    subst (λ (t : List ℕ). Counts t (reverse (take (place + 1) acts))) (sym is)
    (subst (λ (front : List Act). Counts (slice_set table process (slice_index_or table process 0 + 1)) front)
    (sym (one-more acts place d within))
    (counts-one table (reverse (take place acts)) (slice_index_or acts place d) process own small counts))

pub counts-same : (table next : List ℕ) (acts : List Act) (place : ℕ) (d : Act) → place < length acts
    → owner (slice_index_or acts place d) ≡ None → next ≡ table
    → Counts table (reverse (take place acts)) → Counts next (reverse (take (place + 1) acts))
counts-same table next acts place d within own is counts =
    subst (λ (t : List ℕ). Counts t (reverse (take (place + 1) acts))) (sym is)
    (subst (λ (front : List Act). Counts table front) (sym (one-more acts place d within))
    (counts-none table (reverse (take place acts)) (slice_index_or acts place d) own counts))
