-- The statements of a program with chosen lists are its own, at any level and in the same order, but for what they
-- name; so are its CHECKPOINTs.
use Rattle.std.proofs.Common.{◌≡◌, ℕ, Bool, true, false, cond, List, [], ◌∷◌, ◌++◌, map, flat_map, filter, refl, ap}
use Rattle.std.proofs.Common.{ap₂, sym, ◌∙◌}
use Rattle.std.proofs.lemmas.List.{map-append}
use Rattle.tal_tree.specs.Statements.{within, within_row, all_of}
use Rattle.tal_tree.specs.declared.program.Procedure.{Procedure}
use Rattle.tal_tree.specs.declared.program.Program.{Program}
use Rattle.tal_tree.specs.declared.statement.Statement.{Statement}
use Rattle.tal_tree.specs.declared.statement.What.{What, What-F, out-What, If', While', For', DoUntil', Assign}
use Rattle.tal_tree.specs.declared.statement.What.{AssignCall, Call, Return, ReadUpdate, Reply, WriteRead, Checkpoint}
use Rattle.tal_tree.specs.declared.statement.What.{CheckMonitor, Open, Stop, Row_of-Statement, end_of-Statement}
use Rattle.tal_tree.specs.declared.statement.What.{more_of-Statement}
use Rattle.advice.specs.Answer.{statements_of, is_a_checkpoint, checkpoints_of}
use Rattle.advice.specs.Choice.{Choice, what_with, row_with, statement_with, body_with, procedure_with, with_choice}
use Rattle.advice.specs.Due.{is_checkpoint}
use Rattle.advice_laws.proofs.Layers.{layer_with, layer-is}

module _ (choice : Choice) where
  abbrev all_with : List Statement → List Statement
  all_with statements = map (statement_with choice) statements

  both-with : (first second some others : List Statement) → first ≡ all_with some → second ≡ all_with others
      → first ++ second ≡ all_with (some ++ others)
  both-with first second some others one other =
      ap₂ (λ (xs ys : List Statement). xs ++ ys) one other ∙ sym (map-append (statement_with choice) some others)

  mutual
    row-within : {n : _} (row : Row_of-Statement n) → within_row (row_with choice row) ≡ all_with (within_row row)
    row-within end_of-Statement = refl
    row-within (more_of-Statement number line what rest) =
        ap (λ (later : List Statement). record { number = number; line = line; what = what_with choice number what }
        ∷ later)
        (both-with (within (what_with choice number what)) (within_row (row_with choice rest)) (within what)
        (within_row rest) (what-within number what) (row-within rest))

    what-within : (number : ℕ) (what : What) → within (what_with choice number what) ≡ all_with (within what)
    what-within number (If' test s first t second) =
        both-with (within_row (row_with choice first)) (within_row (row_with choice second)) (within_row first)
        (within_row second) (row-within first) (row-within second)
    what-within number (While' test s body) = row-within body
    what-within number (For' variable from to down step s body last) = row-within body
    what-within number (DoUntil' s body test) = row-within body
    what-within number (Assign to value) = refl
    what-within number (AssignCall to procedure arguments) = refl
    what-within number (Call procedure arguments) = refl
    what-within number (Return value) = refl
    what-within number (ReadUpdate buffer most got) = refl
    what-within number (Reply buffer count) = refl
    what-within number (WriteRead file buffer send room got) = refl
    what-within number (Checkpoint items files) = refl
    what-within number CheckMonitor = refl
    what-within number (Open file) = refl
    what-within number Stop = refl

  pub all-kept : (body : List Statement) → all_of (body_with choice body) ≡ all_with (all_of body)
  all-kept [] = refl
  all-kept (statement ∷ rest) =
      ap (λ (later : List Statement). statement_with choice statement ∷ later)
      (both-with (within (what_with choice statement.number statement.what)) (all_of (body_with choice rest))
      (within statement.what) (all_of rest)
      (what-within statement.number statement.what) (all-kept rest))

  program-kept : (procedures : List Procedure)
      → flat_map (λ (procedure : Procedure). all_of procedure.body) (map (procedure_with choice) procedures)
      ≡ all_with (flat_map (λ (procedure : Procedure). all_of procedure.body) procedures)
  program-kept [] = refl
  program-kept (procedure ∷ rest) =
      both-with (all_of (body_with choice procedure.body))
      (flat_map (λ (one : Procedure). all_of one.body) (map (procedure_with choice) rest)) (all_of procedure.body)
      (flat_map (λ (one : Procedure). all_of one.body) rest) (all-kept procedure.body) (program-kept rest)

  checkpoint-layer : (number : ℕ) (layer : What-F What Statement)
      → is_checkpoint (layer_with choice number layer) ≡ is_checkpoint layer
  checkpoint-layer number (What-F.Checkpoint items files) = refl
  checkpoint-layer number _ = refl

  pub checkpoint-kept : (number : ℕ) (what : What)
      → is_checkpoint (out-What (what_with choice number what)) ≡ is_checkpoint (out-What what)
  checkpoint-kept number what = ap is_checkpoint (layer-is choice number what) ∙ checkpoint-layer number (out-What what)

  map-passed : (passes : Bool) (statement : Statement) (rest : List Statement)
      → cond passes (statement_with choice statement ∷ all_with rest) (all_with rest)
      ≡ all_with (cond passes (statement ∷ rest) rest)
  map-passed true statement rest = refl
  map-passed false statement rest = refl

  filter-kept : (statements : List Statement) → filter is_a_checkpoint (all_with statements) ≡ all_with
      (filter is_a_checkpoint statements)
  filter-kept [] = refl
  filter-kept (statement ∷ rest) =
      ap₂ (λ (passes : Bool) (later : List Statement). cond passes (statement_with choice statement ∷ later) later)
      (checkpoint-kept statement.number statement.what) (filter-kept rest)
      ∙ map-passed (is_a_checkpoint statement) statement (filter is_a_checkpoint rest)

  pub checkpoints-kept : (program : Program)
      → checkpoints_of (with_choice program choice) ≡ all_with (checkpoints_of program)
  checkpoints-kept program = ap (filter is_a_checkpoint) (program-kept program.procedures) ∙ filter-kept
      (statements_of program)

  numbers-same : (statements : List Statement)
      → map (λ (one : Statement). one.number) (all_with statements) ≡ map (λ (one : Statement). one.number) statements
  numbers-same [] = refl
  numbers-same (statement ∷ rest) = ap (λ (later : List ℕ). statement.number ∷ later) (numbers-same rest)

  lines-same : (statements : List Statement)
      → map (λ (one : Statement). one.line) (all_with statements) ≡ map (λ (one : Statement). one.line) statements
  lines-same [] = refl
  lines-same (statement ∷ rest) = ap (λ (later : List ℕ). statement.line ∷ later) (lines-same rest)

  -- the CHECKPOINTs have the same numbers and lines
  pub checkpoint-numbers : (program : Program)
      → map (λ (one : Statement). one.number) (checkpoints_of (with_choice program choice))
      ≡ map (λ (one : Statement). one.number) (checkpoints_of program)
  checkpoint-numbers program =
      ap (map (λ (one : Statement). one.number)) (checkpoints-kept program) ∙ numbers-same (checkpoints_of program)

  pub checkpoint-lines : (program : Program)
      → map (λ (one : Statement). one.line) (checkpoints_of (with_choice program choice))
      ≡ map (λ (one : Statement). one.line) (checkpoints_of program)
  checkpoint-lines program =
      ap (map (λ (one : Statement). one.line)) (checkpoints-kept program) ∙ lines-same (checkpoints_of program)
