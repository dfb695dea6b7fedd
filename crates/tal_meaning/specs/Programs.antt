-- The program that a text without faults stands for.
use Rattle.std.specs.Prelude.{ℕ, min, List, [], ◌∷◌, ◌++◌, length, Option, Some, None, unwrap_or}
use Rattle.tal_syntax.specs.Grammar as g
use Rattle.tal_tree.specs.declared.program.Item.{Item}
use Rattle.tal_tree.specs.declared.program.Procedure.{Procedure}
use Rattle.tal_tree.specs.declared.program.Program.{Program}
use Rattle.tal_tree.specs.declared.program.Shape.{Shape}
use Rattle.tal_tree.specs.declared.program.Shape.TheVariants as shape
use Rattle.tal_tree.specs.declared.statement.Statement.{Statement}
use Rattle.tal_rules.specs.tal_declarations.specs.declared.table.Files.{Files}
use Rattle.tal_names.specs.declared.scope.Named.{Named}
use Rattle.tal_rules.specs.declared.walk.Progress.{Progress}
use Rattle.tal_names.specs.declared.scope.Scope.{Scope}
use Rattle.tal_rules.specs.declared.walk.Walk.{Walk}
use Rattle.tal_rules.specs.Calls.{file_number}
use Rattle.tal_rules.specs.tal_declarations.specs.Globals.{with_lines, nothing_declared}
use Rattle.tal_rules.specs.tal_declarations.specs.Headings.{parameters_of, locals_of}
use Rattle.tal_names.specs.Names.{Declarations, meaning_in}
use Rattle.tal_rules.specs.Statements.{after}
use Rattle.tal_rules.specs.Texts.{scope_of, gives_by, walk_at_entry, after_procedure, first_progress, headed_text}
use Rattle.tal_rules.specs.Texts.{files_by}
use Rattle.tal_meaning.specs.Statements.{statements_of, row_statements}
use Rattle.tal_tree.specs.gd_words.specs.declared.limits.TheConstants.{MOST_LOCALS}

-- the variable of a file has its number
abbrev pub shape_by : Shape → Option ℕ → Shape
shape_by declared None = declared
shape_by declared (Some number) = shape.File number

-- the items in the order of the text
abbrev pub items_with : Declarations → List Item → List Item
items_with files [] = []
items_with files (i ∷ rest) =
    record { name = i.name; shape = shape_by i.shape (file_number (meaning_in i.name files)) } ∷ items_with files rest

abbrev pub texts_of : List Named → List (List ℕ)
texts_of [] = []
texts_of (n ∷ rest) = n.name ∷ texts_of rest

abbrev pub name_by : g.Heading → List ℕ
name_by (g.heading gives proc at name listed main end) = name

abbrev pub parameters_by : g.Heading → List Named
parameters_by (g.heading gives proc at name listed main end) = parameters_of listed

abbrev pub body_statements : Scope → Walk → g.Statement → g.Row → List Statement
body_statements s w first more = statements_of s w first ++ row_statements s (after s w first) more

-- a procedure with the statements of its body, its parameters before its other locals
abbrev pub procedure_with : g.Heading → g.Locals → List Statement → Procedure
procedure_with h inner body = record {
  name = name_by h;
  gives = gives_by h;
  parameters = min MOST_LOCALS (length (parameters_by h));
  locals = texts_of (parameters_by h ++ locals_of inner);
  body = body;
}

abbrev pub tree_of_procedure : Declarations → Declarations → Progress → g.Procedure → Procedure
tree_of_procedure globals files p (g.procedure h outer begin inner first more end last) =
    procedure_with h inner (body_statements (scope_of globals files p.count h inner) (walk_at_entry p h) first more)

-- the procedures from one on, where so much stands before it
abbrev pub trees_of : Declarations → Declarations → Progress → g.Procedures → List Procedure
trees_of globals files p g.no_procedures = []
trees_of globals files p (g.more_procedures q rest) =
    tree_of_procedure globals files p q ∷ trees_of globals files (after_procedure globals files p q) rest

abbrev pub program_by : List Item → Option ℕ → Declarations → Files → g.Procedures → Program
program_by items main globals f ps = record {
  items = items_with f.names items;
  files = f.uses;
  procedures = trees_of globals f.names first_progress ps;
  main = unwrap_or main 0;
}

-- the program of a text
abbrev pub tree_of : g.Text → Program
tree_of (g.text lines procedures finish) =
    program_by (with_lines nothing_declared lines).items (headed_text lines procedures).main
    (headed_text lines procedures).names
    (files_by (headed_text lines procedures) procedures) procedures
