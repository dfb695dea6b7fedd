-- Numbers of procedures in their order, each from those of the procedures before it.
use Rattle.std.proofs.Common.{◌≡◌, inl, inr, ℕ, zero, suc, ◌+◌, ◌<◌, arith, List, [], ◌∷◌, ◌++◌, map, length, Option}
use Rattle.std.proofs.Common.{Some, slice_get, refl, ap, ap₂, sym, ◌∙◌}
use Rattle.std.specs.Prelude.{sum}
use Rattle.std.specs.Option.{unwrap_or}
use Rattle.tal_tree.specs.declared.program.Program.{Program}
use Rattle.tal_tree.specs.declared.program.Procedure.{Procedure}
use Rattle.tal_tree.specs.declared.statement.Statement.{Statement}
use Rattle.path_semantics.specs.Bounds.{greatest, of_called, depth_from, size_from, in_order, depths, sizes}
use Rattle.tal_tree.specs.Ordered.{IsOrdered}
use Rattle.gd_words.specs.Members.{IsAmong}
use Rattle.tal_tree.specs.Statements.{numbers_of, calls_of}

get-left : (xs ys : List ℕ) (k : ℕ) → k < length xs → slice_get (xs ++ ys) k ≡ slice_get xs k
get-left [] ys k within = absurd (omega arith)
get-left (x ∷ xs) ys zero within = refl
get-left (x ∷ xs) ys (suc k) within = get-left xs ys k (omega arith)

get-last : (xs : List ℕ) (x : ℕ) → slice_get (xs ++ x ∷ []) (length xs) ≡ Some x
get-last [] x = refl
get-last (y ∷ xs) x = get-last xs x

longer : (xs : List ℕ) (x : ℕ) → length (xs ++ x ∷ []) ≡ length xs + 1
longer [] x = refl
longer (y ∷ xs) x = let rest : length (xs ++ x ∷ []) ≡ length xs + 1 = longer xs x in omega arith

-- what is there already stays
in_order-keeps : (number : List ℕ → List Statement → ℕ) (before : List ℕ) (procedures : List Procedure) (k : ℕ)
    → k < length before
    → slice_get (in_order number before procedures) k ≡ slice_get before k
in_order-keeps number before [] k within = refl
in_order-keeps number before (procedure ∷ rest) k within =
    let more : length (before ++ number before procedure.body ∷ []) ≡ length before + 1 =
    longer before (number before procedure.body) in
    in_order-keeps number (before ++ number before procedure.body ∷ []) rest k (omega arith)
    ∙ get-left before (number before procedure.body ∷ []) k within

-- a procedure's number comes from a list that agrees with the whole on the procedures before it
record ComesFrom (number : List ℕ → List Statement → ℕ) (whole : List ℕ) (place : ℕ) (body : List Statement) :
    Type 0 where
  early : List ℕ
  is : slice_get whole place ≡ Some (number early body)
  agrees : (k : ℕ) → k < place → slice_get early k ≡ slice_get whole k

in_order-at : (number : List ℕ → List Statement → ℕ) (before : List ℕ) (procedures : List Procedure) (k place : ℕ)
    (procedure : Procedure)
    → slice_get procedures k ≡ Some procedure → place ≡ length before + k
    → ComesFrom number (in_order number before procedures) place procedure.body
in_order-at number before [] k place procedure found at = absurd (cc)
in_order-at number before (first ∷ rest) zero place procedure found at =
    let same : first ≡ procedure = cc in
    let here' : place ≡ length before = omega arith in
    let more : length (before ++ number before first.body ∷ []) ≡ length before + 1 =
    longer before (number before first.body) in
    record {
      early = before;
      is = ap (slice_get (in_order number (before ++ number before first.body ∷ []) rest)) here'
          ∙ in_order-keeps number (before ++ number before first.body ∷ []) rest (length before) (omega arith)
          ∙ get-last before (number before first.body)
          ∙ ap (λ (p : Procedure). Some (number before p.body)) same;
      agrees = λ k earlier. sym (in_order-keeps number (before ++ number before first.body ∷ []) rest k (omega arith)
          ∙ get-left before (number before first.body ∷ []) k (omega arith));
    }
in_order-at number before (first ∷ rest) (suc k) place procedure found at =
    let more : length (before ++ number before first.body ∷ []) ≡ length before + 1 =
    longer before (number before first.body) in
    in_order-at number (before ++ number before first.body ∷ []) rest k place procedure found (omega arith)

map-same : (f g : ℕ → ℕ) (xs : List ℕ) → ((x : ℕ) → IsAmong x xs → f x ≡ g x) → map f xs ≡ map g xs
map-same f g [] same = refl
map-same f g (x ∷ xs) same =
    ap₂ (λ (y : ℕ) (ys : List ℕ). y ∷ ys) (same x (inl refl)) (map-same f g xs (λ y among. same y (inr among)))

called-same : (early whole : List ℕ) (body : List Statement) (k : ℕ)
    → ((called : ℕ) → IsAmong called (calls_of body) → called < k)
    → ((called : ℕ) → called < k → slice_get early called ≡ slice_get whole called)
    → of_called early body ≡ of_called whole body
called-same early whole body k before agrees =
    map-same (λ called. unwrap_or (slice_get early called) 0) (λ called. unwrap_or (slice_get whole called) 0)
    (calls_of body)
    (λ called among. ap (λ (found : Option ℕ). unwrap_or found 0) (agrees called (before called among)))

pub depth-is : (program : Program) (k : ℕ) (procedure : Procedure) → IsOrdered program
    → slice_get program.procedures k ≡ Some procedure
    → slice_get (depths program) k ≡ Some (depth_from (depths program) procedure.body)
depth-is program k procedure ordered found =
    let from : ComesFrom depth_from (depths program) k procedure.body =
    in_order-at depth_from [] program.procedures k k procedure found (omega arith) in
    from.is
    ∙ ap (λ (called : List ℕ). Some (greatest called + 1))
    (called-same from.early (depths program) procedure.body k (ordered.calls k procedure found) from.agrees)

pub size-is : (program : Program) (k : ℕ) (procedure : Procedure) → IsOrdered program
    → slice_get program.procedures k ≡ Some procedure
    → slice_get (sizes program) k ≡ Some (size_from (sizes program) procedure.body)
size-is program k procedure ordered found =
    let from : ComesFrom size_from (sizes program) k procedure.body =
    in_order-at size_from [] program.procedures k k procedure found (omega arith) in
    from.is
    ∙ ap (λ (called : List ℕ). Some (length (numbers_of procedure.body) + sum called))
    (called-same from.early (sizes program) procedure.body k (ordered.calls k procedure found) from.agrees)
