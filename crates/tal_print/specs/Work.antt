-- What is left to be printed, and how much that is.
use Rattle.std.specs.Prelude.{ℕ, ◌+◌, List, [], ◌∷◌, Bool, true, false}
use Rattle.std.specs.Option.{option_copied}
use Rattle.tal_tree.specs.declared.program.Program.{Program}
use Rattle.tal_tree.specs.declared.statement.Statement.{Statement}
use Rattle.tal_tree.specs.declared.statement.What.{What, What-F, out-What}
use Rattle.tal_pieces.specs.declared.piece.Piece.{Piece}
use Rattle.tal_pieces.specs.declared.piece.Piece.TheVariants as piece
use Rattle.tal_print.specs.declared.work.Part.{Part}
use Rattle.tal_print.specs.declared.work.Part.TheVariants as part
use Rattle.tal_print.specs.declared.work.Work.{Work}
use Rattle.tal_print.specs.declared.work.Work.TheVariants as work
use Rattle.tal_pieces.specs.Weights.{value_weight, spot_weight, test_weight, values_weight, list_weight, what_weight}
use Rattle.tal_pieces.specs.Weights.{statements_weight, items_weight, procedures_weight}
use Rattle.tal_pieces.specs.Printed.Names.{named, target_piece}
use Rattle.tal_pieces.specs.Printed.Expressions.{value_pieces, spot_pieces, test_pieces, more_values, arguments}
use Rattle.tal_pieces.specs.Printed.Statements.{step_pieces, what_pieces, inner_pieces, body_pieces, more_statements}
use Rattle.tal_pieces.specs.Printed.Statements.{checkpoint_list}
use Rattle.tal_pieces.specs.Printed.Statements.{more_items, more_files}
use Rattle.tal_pieces.specs.Printed.Procedures.{word_if, items_pieces, parameters_pieces, more_names, locals_pieces}
use Rattle.tal_pieces.specs.Printed.Procedures.{procedures_pieces, main_pieces}

-- the pieces of a part
abbrev pub part_pieces : Program → List (List ℕ) → Part → List Piece → List Piece
part_pieces p locals (part.Value rank expr) ks = value_pieces p locals rank expr.now ks
part_pieces p locals (part.Spot spot) ks = spot_pieces p locals spot.now ks
part_pieces p locals (part.Test rank cond) ks = test_pieces p locals rank cond.now ks
part_pieces p locals (part.Values exprs) ks = more_values p locals exprs.now ks
part_pieces p locals (part.What what) ks = what_pieces p locals what.now ks
part_pieces p locals (part.Step step) ks = step_pieces step ks
part_pieces p locals (part.Inner statements) ks = inner_pieces p locals statements.now ks
part_pieces p locals (part.Statements statements) ks = more_statements p locals statements.now ks
part_pieces p locals (part.Arguments exprs) ks = arguments p locals exprs.now ks
part_pieces p locals (part.Body statements) ks = body_pieces p locals statements.now ks
part_pieces p locals (part.Checkpoint items files) ks = checkpoint_list p items.now files.now ks
part_pieces p locals (part.Parameters names) ks = parameters_pieces names.now ks
part_pieces p locals (part.Kept items) ks = more_items p items.now ks
part_pieces p locals (part.Files files) ks = more_files p files.now ks
part_pieces p locals (part.Names names) ks = more_names names.now ks
part_pieces p locals (part.Locals names) ks = locals_pieces names.now ks
part_pieces p locals (part.Items items) ks = items_pieces items.now ks
part_pieces p locals (part.Procedures procedures) ks = procedures_pieces p procedures.now ks
part_pieces p locals (part.Main procedures) ks = main_pieces p procedures.now ks

-- the pieces that are left, in a procedure with these locals
abbrev pub pieces_left : Program → List (List ℕ) → List Work → List Piece
pieces_left p locals [] = []
pieces_left p locals (work.Word k ∷ rest) = piece.Keyword k ∷ pieces_left p locals rest
pieces_left p locals (work.Optional wanted k ∷ rest) = word_if wanted k (pieces_left p locals rest)
pieces_left p locals (work.Sign s ∷ rest) = piece.Symbol s ∷ pieces_left p locals rest
pieces_left p locals (work.System s ∷ rest) = piece.System s ∷ pieces_left p locals rest
pieces_left p locals (work.Number n ∷ rest) = piece.Number n ∷ pieces_left p locals rest
pieces_left p locals (work.Target target ∷ rest) = target_piece target.now ∷ pieces_left p locals rest
pieces_left p locals (work.Name name ∷ rest) = named (option_copied name) (pieces_left p locals rest)
pieces_left p locals (work.Enter inner ∷ rest) = pieces_left p inner.now rest
pieces_left p locals (work.Part part ∷ rest) = part_pieces p locals part (pieces_left p locals rest)

abbrev pub part_weight : Part → ℕ
part_weight (part.Value rank expr) = value_weight expr.now
part_weight (part.Spot spot) = spot_weight spot.now
part_weight (part.Test rank cond) = test_weight cond.now
part_weight (part.Values exprs) = values_weight exprs.now
part_weight (part.What what) = what_weight what.now
part_weight (part.Step step) = 3
part_weight (part.Inner statements) = statements_weight statements.now + 3
part_weight (part.Statements statements) = statements_weight statements.now
part_weight (part.Arguments exprs) = values_weight exprs.now + 4
part_weight (part.Body statements) = statements_weight statements.now + 1
part_weight (part.Checkpoint items files) = list_weight items.now + list_weight files.now + 6
part_weight (part.Parameters names) = list_weight names.now + 4
part_weight (part.Kept items) = list_weight items.now
part_weight (part.Files files) = list_weight files.now
part_weight (part.Names names) = list_weight names.now
part_weight (part.Locals names) = list_weight names.now
part_weight (part.Items items) = items_weight items.now
part_weight (part.Main procedures) = procedures_weight procedures.now
part_weight (part.Procedures procedures) = procedures_weight procedures.now

abbrev pub work_left : List Work → ℕ
work_left [] = 0
work_left (work.Part part ∷ rest) = part_weight part + work_left rest
work_left (_ ∷ rest) = 1 + work_left rest

-- whether a statement is a RETURN or a call of the system
abbrev pub system_layer : What-F What Statement → Bool
system_layer (What-F.Assign to expr) = false
system_layer (What-F.AssignCall to number values) = false
system_layer (What-F.If test first second) = false
system_layer (What-F.While test body) = false
system_layer (What-F.For counter from to down step body last) = false
system_layer (What-F.DoUntil body test) = false
system_layer (What-F.Call number values) = false
system_layer (What-F.Return answer) = true
system_layer (What-F.ReadUpdate buffer most got) = true
system_layer (What-F.Reply buffer count) = true
system_layer (What-F.WriteRead file buffer send room got) = true
system_layer (What-F.Checkpoint items files) = true
system_layer What-F.CheckMonitor = true
system_layer (What-F.Open file) = true
system_layer What-F.Stop = true

abbrev pub returns_or_calls_the_system : What → Bool
returns_or_calls_the_system what = system_layer (out-What what)
