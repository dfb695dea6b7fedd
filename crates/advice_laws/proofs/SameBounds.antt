-- Lists and depths change neither a program's numbers and calls, nor how deep its calls go, nor its size.
use Rattle.std.proofs.Common.{◌≡◌, ◌≤◌, ℕ, ◌+◌, List, [], ◌∷◌, ◌++◌, map, flat_map, slice_get, refl, ap, ap₂, subst}
use Rattle.std.proofs.Common.{sym, ◌∙◌}
use Rattle.std.specs.Option.{unwrap_or}
use Rattle.tal_tree.specs.Rows.{rows}
use Rattle.tal_tree.specs.Statements.{all_of, numbers_row, numbers_before, numbers_within, numbers_of, call_in}
use Rattle.tal_tree.specs.Statements.{own_calls, calls_of}
use Rattle.tal_tree.specs.declared.program.Procedure.{Procedure}
use Rattle.tal_tree.specs.declared.program.Program.{Program}
use Rattle.tal_tree.specs.declared.statement.Statement.{Statement}
use Rattle.tal_tree.specs.declared.statement.What.{What, What-F, out-What, If', While', For', DoUntil', Assign}
use Rattle.tal_tree.specs.declared.statement.What.{AssignCall}
use Rattle.tal_tree.specs.declared.statement.What.{Call, Return, ReadUpdate, Reply, WriteRead, Checkpoint, CheckMonitor}
use Rattle.tal_tree.specs.declared.statement.What.{Open, Stop, Row_of-Statement, end_of-Statement, more_of-Statement}
use Rattle.path_semantics.specs.Bounds.{depth_from, size_from, in_order, depths, sizes, IsWithinBounds}
use Rattle.advice.specs.Choice.{Choice, what_with, row_with, statement_with, body_with, procedure_with, with_choice}
use Rattle.advice_laws.proofs.Layers.{Row, row-is, layer_with, layer-is}
use Rattle.advice_laws.proofs.SameStatements.{all-kept}

module _ (choice : Choice) where
  mutual
    numbers-row : {n : _} (row : Row_of-Statement n) → numbers_row (row_with choice row) ≡ numbers_row row
    numbers-row end_of-Statement = refl
    numbers-row (more_of-Statement number line what rest) =
        ap₂ (λ (before own : List ℕ). before ++ (number ∷ own ++ numbers_row (row_with choice rest)))
        (numbers-before number what) (numbers-within number what)
        ∙ ap (λ (later : List ℕ). numbers_before what ++ (number ∷ numbers_within number what ++ later))
        (numbers-row rest)

    numbers-before : (number : ℕ) (what : What) → numbers_before (what_with choice number what) ≡ numbers_before what
    numbers-before number (DoUntil' s body test) = numbers-row body
    numbers-before number (If' test s first t second) = refl
    numbers-before number (While' test s body) = refl
    numbers-before number (For' variable from to down step s body last) = refl
    numbers-before number (Assign to value) = refl
    numbers-before number (AssignCall to procedure arguments) = refl
    numbers-before number (Call procedure arguments) = refl
    numbers-before number (Return value) = refl
    numbers-before number (ReadUpdate buffer most got) = refl
    numbers-before number (Reply buffer count) = refl
    numbers-before number (WriteRead file buffer send room got) = refl
    numbers-before number (Checkpoint items files) = refl
    numbers-before number CheckMonitor = refl
    numbers-before number (Open file) = refl
    numbers-before number Stop = refl

    numbers-within : (number : ℕ) (what : What)
        → numbers_within number (what_with choice number what) ≡ numbers_within number what
    numbers-within number (If' test s first t second) =
        ap₂ (λ (one other : List ℕ). one ++ other) (numbers-row first) (numbers-row second)
    numbers-within number (While' test s body) = numbers-row body
    numbers-within number (For' variable from to down step s body last) =
        ap (λ (inner : List ℕ). (number + 1) ∷ inner ++ last ∷ []) (numbers-row body)
    numbers-within number (DoUntil' s body test) = refl
    numbers-within number (Assign to value) = refl
    numbers-within number (AssignCall to procedure arguments) = refl
    numbers-within number (Call procedure arguments) = refl
    numbers-within number (Return value) = refl
    numbers-within number (ReadUpdate buffer most got) = refl
    numbers-within number (Reply buffer count) = refl
    numbers-within number (WriteRead file buffer send room got) = refl
    numbers-within number (Checkpoint items files) = refl
    numbers-within number CheckMonitor = refl
    numbers-within number (Open file) = refl
    numbers-within number Stop = refl

  numbers-kept : (body : List Statement) → numbers_of (body_with choice body) ≡ numbers_of body
  numbers-kept body = ap (λ (row : Row). numbers_row row.1) (sym (row-is choice body)) ∙ numbers-row (rows body)

  call-layer : (number : ℕ) (layer : What-F What Statement) → call_in (layer_with choice number layer) ≡ call_in layer
  call-layer number (What-F.Checkpoint items files) = refl
  call-layer number _ = refl

  call-kept : (number : ℕ) (what : What) → call_in (out-What (what_with choice number what)) ≡ call_in (out-What what)
  call-kept number what = ap call_in (layer-is choice number what) ∙ call-layer number (out-What what)

  calls-same : (statements : List Statement)
      → flat_map own_calls (map (statement_with choice) statements) ≡ flat_map own_calls statements
  calls-same [] = refl
  calls-same (statement ∷ rest) =
      ap₂ (λ (own later : List ℕ). own ++ later) (call-kept statement.number statement.what) (calls-same rest)

  calls-kept : (body : List Statement) → calls_of (body_with choice body) ≡ calls_of body
  calls-kept body = ap (flat_map own_calls) (all-kept choice body) ∙ calls-same (all_of body)

  in-order-kept : (number : List ℕ → List Statement → ℕ)
      → ((before : List ℕ) (body : List Statement) → number before (body_with choice body) ≡ number before body)
      → (before : List ℕ) (procedures : List Procedure)
      → in_order number before (map (procedure_with choice) procedures) ≡ in_order number before procedures
  in-order-kept number same before [] = refl
  in-order-kept number same before (procedure ∷ rest) =
      ap (λ (own : ℕ). in_order number (before ++ own ∷ []) (map (procedure_with choice) rest))
      (same before procedure.body)
      ∙ in-order-kept number same (before ++ number before procedure.body ∷ []) rest

  depth-kept : (before : List ℕ) (body : List Statement)
      → depth_from before (body_with choice body) ≡ depth_from before body
  depth-kept before body = rw (calls-kept body) refl

  size-kept : (before : List ℕ) (body : List Statement)
      → size_from before (body_with choice body) ≡ size_from before body
  size-kept before body = rw (calls-kept body, numbers-kept body) refl

  module _ (program : Program) where
    depths-kept : depths (with_choice program choice) ≡ depths program
    depths-kept = in-order-kept depth_from depth-kept [] program.procedures

    sizes-kept : sizes (with_choice program choice) ≡ sizes program
    sizes-kept = in-order-kept size_from size-kept [] program.procedures

    pub bounds-chosen : IsWithinBounds program → IsWithinBounds (with_choice program choice)
    bounds-chosen bounds = record {
      depth = subst (λ (ns : List ℕ). unwrap_or (slice_get ns program.main) 0 ≤ 16) (sym depths-kept) bounds.depth;
      size = subst (λ (ns : List ℕ). unwrap_or (slice_get ns program.main) 0 ≤ 8192) (sym sizes-kept) bounds.size;
    }

    pub bounds-own : IsWithinBounds (with_choice program choice) → IsWithinBounds program
    bounds-own bounds = record {
      depth = subst (λ (ns : List ℕ). unwrap_or (slice_get ns program.main) 0 ≤ 16) depths-kept bounds.depth;
      size = subst (λ (ns : List ℕ). unwrap_or (slice_get ns program.main) 0 ≤ 8192) sizes-kept bounds.size;
    }
