-- Sizes as far as they are told: sums of told sizes tell the sums.
use Rattle.std.proofs.Common.{◌≡◌, ℕ, zero, suc, ◌+◌, ◌<◌, ◌≤◌, arith, List, [], ◌∷◌, ◌++◌, map, length, drop, get_or}
use Rattle.std.proofs.Common.{refl, ap, sym, ◌∙◌}
use Rattle.std.proofs.lemmas.List.{map-append, at_drop_more, drop_all}
use Rattle.tal_tree.specs.ByStatements.{HoldsInside, by-statements}
use Rattle.tal_tree.specs.Rows.{rows}
use Rattle.tal_tree.specs.declared.program.Procedure.{Procedure}
use Rattle.tal_tree.specs.declared.statement.Statement.{Statement}
use Rattle.tal_tree.specs.declared.statement.What.{What, What-F, out-What}
use Rattle.path_semantics.specs.Bounds.{size_from, in_order, told}
use Rattle.flow_paths.specs.Layout.{size_in, size_row, size_at}
use Rattle.flow_paths.proofs.Called.{sized}
use Rattle.flow_paths.proofs.Layers.{size_of, size_by, size-is}

-- where both tell the same of each procedure, they tell the same of statements
module _ (one other : ℕ → ℕ) (same : (procedure : ℕ) → told (one procedure) ≡ told (other procedure)) where
  abbrev Alike : List Statement → Type 0
  Alike statements = told (size_of one statements) ≡ told (size_of other statements)

  alike-by : (layer : What-F What Statement) → HoldsInside Alike layer
      → told (size_by one layer) ≡ told (size_by other layer)
  alike-by (What-F.If test first second) parts =
      let left : Alike first = parts.0 in let right : Alike second = parts.1 in omega arith
  alike-by (What-F.While test body) parts = let inner : Alike body = parts in omega arith
  alike-by (What-F.DoUntil body test) parts = let inner : Alike body = parts in omega arith
  alike-by (What-F.For variable from to down step body last) parts = let inner : Alike body = parts in omega arith
  alike-by (What-F.AssignCall to procedure arguments) parts =
      let called : told (one procedure) ≡ told (other procedure) = same procedure in omega arith
  alike-by (What-F.Call procedure arguments) parts =
      let called : told (one procedure) ≡ told (other procedure) = same procedure in omega arith
  alike-by (What-F.Assign to value) parts = refl
  alike-by (What-F.Return value) parts = refl
  alike-by (What-F.ReadUpdate buffer most got) parts = refl
  alike-by (What-F.Reply buffer count) parts = refl
  alike-by (What-F.WriteRead file buffer send room got) parts = refl
  alike-by (What-F.Checkpoint items files) parts = refl
  alike-by What-F.CheckMonitor parts = refl
  alike-by (What-F.Open file) parts = refl
  alike-by What-F.Stop parts = refl

  alike-more : (statement : Statement) (rest : List Statement) → HoldsInside Alike (out-What statement.what)
      → Alike rest → Alike (statement ∷ rest)
  alike-more statement rest parts later =
      let first : told (size_in one statement.what) ≡ told (size_in other statement.what) =
      ap told (size-is one statement.what) ∙ alike-by (out-What statement.what) parts
      ∙ sym (ap told (size-is other statement.what)) in
      let others : told (size_of one rest) ≡ told (size_of other rest) = later in
      omega arith

  alike : (statements : List Statement) → Alike statements
  alike statements = by-statements Alike (record { none = refl; more = alike-more }) statements

-- a size that is told and not too large is exact
pub told-exact : (sizes : List ℕ) (procedure : ℕ) → size_at (map told sizes) procedure ≡ told (size_at sizes procedure)
told-exact [] procedure = refl
told-exact (n ∷ sizes) zero = refl
told-exact (n ∷ sizes) (suc procedure) = told-exact sizes procedure

told-at : (before : List ℕ) (procedure : ℕ)
    → told (size_at (map told before) procedure) ≡ told (size_at before procedure)
told-at [] procedure = refl
told-at (n ∷ before) zero = let e : told (told n) ≡ told n = omega arith in e
told-at (n ∷ before) (suc procedure) = told-at before procedure

-- the size from sizes that are told, told, is that of the procedure
pub told-size : (before : List ℕ) (body : List Statement)
    → told (size_row (size_at (map told before)) (rows body)) ≡ told (size_from before body)
told-size before body =
    alike (size_at (map told before)) (size_at before) (told-at before) body ∙ ap told (sized before body)

-- the sizes so far, as they are told, where from the exact ones come all
pub record TellsSizes (procedures : List Procedure) (k : ℕ) (whole told_sizes : List ℕ) : Type 0 where
  pub before : List ℕ
  pub tells : map told before ≡ told_sizes
  pub leads : in_order size_from before (drop k procedures) ≡ whole

pub one-more-told : (procedures : List Procedure) (k : ℕ) (whole told_sizes : List ℕ) (procedure : Procedure)
    (size : ℕ) → procedure ≡ get_or procedures k procedure → k < length procedures
    → size ≡ told (size_row (size_at told_sizes) (rows procedure.body)) → TellsSizes procedures k whole told_sizes
    → TellsSizes procedures (k + 1) whole (told_sizes ++ size ∷ [])
one-more-told procedures k whole told_sizes procedure size is inside sized so_far =
    let next : in_order size_from so_far.before (drop k procedures)
    ≡ in_order size_from so_far.before (get_or procedures k procedure ∷ drop (k + 1) procedures) =
    at_drop_more (in_order size_from so_far.before) procedures k procedure inside in
    let new : size ≡ told (size_from so_far.before procedure.body) =
    sized ∙ ap (λ (sizes : List ℕ). told (size_row (size_at sizes) (rows procedure.body))) (sym so_far.tells)
    ∙ told-size so_far.before procedure.body in
    record {
      before = so_far.before ++ size_from so_far.before procedure.body ∷ [];
      tells = map-append told so_far.before (size_from so_far.before procedure.body ∷ [])
          ∙ ap (λ (front : List ℕ). front ++ told (size_from so_far.before procedure.body) ∷ []) so_far.tells
          ∙ ap (λ (n : ℕ). told_sizes ++ n ∷ []) (sym new);
      leads = ap (λ (p : Procedure). in_order size_from so_far.before (p ∷ drop (k + 1) procedures)) is ∙ sym next
          ∙ so_far.leads;
    }

pub all-told : (procedures : List Procedure) (k : ℕ) (whole told_sizes : List ℕ) → length procedures ≤ k
    → TellsSizes procedures k whole told_sizes → told_sizes ≡ map told whole
all-told procedures k whole told_sizes past so_far =
    sym so_far.tells ∙ ap (map told) (ap (in_order size_from so_far.before) (sym (drop_all k procedures past))
    ∙ so_far.leads)
