-- Loops that keep the least of the faults of a list, item by item.
use Rattle.std.proofs.Common.{◌≡◌, ℕ, ◌+◌, ◌<◌, ◌≤◌, List, [], ◌∷◌, ◌++◌, Option, length, drop, get_or, sym, ap, ◌∙◌}
use Rattle.std.proofs.Common.{add-one, drop-cons, suc}
use Rattle.std.proofs.lemmas.List.{drop_all}
use Rattle.tal_names.specs.declared.fault.RuleFault.{RuleFault}
use Rattle.tal_names.specs.Faults.{least}
use Rattle.tal_names.proofs.Parts.{least-append}

-- the items from one on begin with it
pub next_item : {T : Type 0} (xs : List T) (i : ℕ) (x : T) → x ≡ get_or xs i x → i < length xs
    → drop i xs ≡ x ∷ drop (i + 1) xs
next_item xs i x is there = rw add-one (drop-cons xs i x there ∙ ap (λ (y : _). y ∷ drop (suc i) xs) (sym is))

module _ {T : Type 0} (faults_of : List T → List RuleFault) (one : T → List RuleFault)
    (more : (x : T) (xs : List T) → faults_of (x ∷ xs) ≡ one x ++ faults_of xs) where
  -- one turn of the loop
  pub turn : (xs : List T) (i : ℕ) (x : T) (before next whole : Option RuleFault) → x ≡ get_or xs i x → i < length xs
      → next ≡ least before (one x)
      → least before (faults_of (drop i xs)) ≡ whole → least next (faults_of (drop (i + 1) xs)) ≡ whole
  turn xs i x before next whole is there step kept =
      ap (λ (o : Option RuleFault). least o (faults_of (drop (i + 1) xs))) step
      ∙ sym (least-append before (one x) (faults_of (drop (i + 1) xs)))
      ∙ ap (least before) (sym (more x (drop (i + 1) xs)))
      ∙ ap (λ (ys : List T). least before (faults_of ys)) (sym (next_item xs i x is there))
      ∙ kept

-- the end of the loop
pub ended : {T : Type 0} (faults_of : List T → List RuleFault) → faults_of [] ≡ []
    → (xs : List T) (i : ℕ) (last whole : Option RuleFault)
    → length xs ≤ i → least last (faults_of (drop i xs)) ≡ whole → last ≡ whole
ended faults_of none xs i last whole past kept =
    ap (least last) (sym none) ∙ ap (λ (ys : List _). least last (faults_of ys)) (sym (drop_all i xs past)) ∙ kept

-- loops that keep the least of the faults and what stands before the items that are left
pub turn_faults : {T D : Type 0} (faults_of : D → List T → List RuleFault) (one : D → T → List RuleFault)
    (step : D → T → D)
    → ((d : D) (x : T) (xs : List T) → faults_of d (x ∷ xs) ≡ one d x ++ faults_of (step d x) xs)
    → (xs : List T) (i : ℕ) (x : T) (d d' : D) (before next whole : Option RuleFault) → x ≡ get_or xs i x
    → i < length xs
    → next ≡ least before (one d x) → d' ≡ step d x → least before (faults_of d (drop i xs)) ≡ whole
    → least next (faults_of d' (drop (i + 1) xs)) ≡ whole
turn_faults faults_of one step more xs i x d d' before next whole is there least_is step_is kept =
    ap (λ e. least next (faults_of e (drop (i + 1) xs))) step_is
    ∙ ap (λ o. least o (faults_of (step d x) (drop (i + 1) xs))) least_is
    ∙ sym (least-append before (one d x) (faults_of (step d x) (drop (i + 1) xs)))
    ∙ ap (least before) (sym (more d x (drop (i + 1) xs)))
    ∙ ap (λ ys. least before (faults_of d ys)) (sym (next_item xs i x is there))
    ∙ kept

pub turn_after : {T D R : Type 0} (after_of : D → List T → R) (step : D → T → D)
    → ((d : D) (x : T) (xs : List T) → after_of d (x ∷ xs) ≡ after_of (step d x) xs)
    → (xs : List T) (i : ℕ) (x : T) (d d' : D) (whole : R) → x ≡ get_or xs i x → i < length xs
    → d' ≡ step d x → after_of d (drop i xs) ≡ whole → after_of d' (drop (i + 1) xs) ≡ whole
turn_after after_of step rest xs i x d d' whole is there step_is kept =
    ap (λ e. after_of e (drop (i + 1) xs)) step_is
    ∙ sym (rest d x (drop (i + 1) xs))
    ∙ ap (after_of d) (sym (next_item xs i x is there))
    ∙ kept

-- what stands after the last item
pub ended_after : {T D : Type 0} (after_of : D → List T → D) → ((d : D) → after_of d [] ≡ d)
    → (xs : List T) (i : ℕ) (last whole : D)
    → length xs ≤ i → after_of last (drop i xs) ≡ whole → last ≡ whole
ended_after after_of none xs i last whole past kept =
    sym (none last) ∙ ap (after_of last) (sym (drop_all i xs past)) ∙ kept
