-- What the calls of a text without faults stand for. Where a call has a fault, what is said here plays no part.
use Rattle.std.specs.Prelude.{ℕ, pos, zero, List, [], ◌∷◌, slice_get, Option, Some, None, unwrap_or}
use Rattle.tal_syntax.specs.Grammar as g
use Rattle.tal_tree.specs.declared.expression.Expr.{Expr}
use Rattle.tal_tree.specs.declared.expression.Expr.TheVariants as expr
use Rattle.tal_tree.specs.declared.expression.Variable.{Variable}
use Rattle.tal_tree.specs.declared.expression.Variable.TheVariants as variable
use Rattle.tal_tree.specs.declared.statement.What.{What}
use Rattle.tal_tree.specs.declared.statement.What.TheVariants as what
use Rattle.tal_names.specs.declared.meaning.Meaning.{Meaning}
use Rattle.tal_names.specs.declared.meaning.Meaning.TheVariants as m
use Rattle.tal_names.specs.declared.scope.Named.{Named}
use Rattle.tal_names.specs.declared.scope.Scope.{Scope}
use Rattle.tal_names.specs.declared.system.System.{System}
use Rattle.tal_names.specs.declared.system.System.TheVariants as system
use Rattle.tal_rules.specs.Calls.{file_number}
use Rattle.tal_names.specs.Places.{name_of_argument}
use Rattle.tal_names.specs.Scopes.{meaning_of}
use Rattle.tal_meaning.specs.Expressions.{value_of_expr}

-- the value of an argument
abbrev pub value_of_argument : Scope → g.Argument → Expr
value_of_argument s (g.value e) = value_of_expr s e
value_of_argument s (g.receive at) = expr.Number (pos zero)
value_of_argument s (g.process at name) = expr.Number (pos zero)
value_of_argument s (g.quoted at) = expr.Number (pos zero)

abbrev pub values_of_arguments : Scope → List g.Argument → List Expr
values_of_arguments s [] = []
values_of_arguments s (a ∷ rest) = value_of_argument s a ∷ values_of_arguments s rest

abbrev pub values_of : Scope → g.Values → List Expr
values_of s g.no_values = []
values_of s (g.more_values comma e rest) = value_of_expr s e ∷ values_of s rest

abbrev pub value_at : Scope → Option g.Argument → Expr
value_at s None = expr.Number (pos zero)
value_at s (Some a) = value_of_argument s a

-- what the name that an argument is stands for
abbrev pub meaning_by : Scope → Option Named → Option Meaning
meaning_by s None = None
meaning_by s (Some x) = meaning_of s x.name

abbrev pub meaning_at : Scope → Option g.Argument → Option Meaning
meaning_at s None = None
meaning_at s (Some a) = meaning_by s (name_of_argument a)

-- the item of a global
abbrev pub item_by : Option Meaning → ℕ
item_by (Some (m.Simple item)) = item
item_by (Some (m.Array item)) = item
item_by _ = 0

abbrev pub variable_by : Option Meaning → Variable
variable_by (Some (m.Local number)) = variable.Local number
variable_by (Some (m.Simple item)) = variable.Simple item
variable_by _ = variable.Simple 0

abbrev pub file_by : Option Meaning → ℕ
file_by found = unwrap_or (file_number found) 0

abbrev pub procedure_by : Option Meaning → ℕ
procedure_by (Some (m.Procedure number gives parameters)) = number
procedure_by _ = 0

-- the items that CHECKPOINT names, and the files opened to a process
abbrev pub with_item : Option Meaning → List ℕ → List ℕ
with_item (Some (m.Simple item)) rest = item ∷ rest
with_item (Some (m.Array item)) rest = item ∷ rest
with_item _ rest = rest

abbrev pub with_process : Option Meaning → List ℕ → List ℕ
with_process (Some (m.ProcessFile item number)) rest = number ∷ rest
with_process _ rest = rest

abbrev pub items_named : Scope → List g.Argument → List ℕ
items_named s [] = []
items_named s (a ∷ rest) = with_item (meaning_by s (name_of_argument a)) (items_named s rest)

abbrev pub files_named : Scope → List g.Argument → List ℕ
files_named s [] = []
files_named s (a ∷ rest) = with_process (meaning_by s (name_of_argument a)) (files_named s rest)

-- a call of the system
abbrev pub system_what : Scope → List g.Argument → System → What
system_what s arguments system.CheckMonitor = what.CheckMonitor
system_what s arguments system.Checkpoint = what.Checkpoint (items_named s arguments) (files_named s arguments)
system_what s arguments system.Open = what.Open (file_by (meaning_at s (slice_get arguments 1)))
system_what s arguments system.ReadUpdate =
    what.ReadUpdate (item_by (meaning_at s (slice_get arguments 1))) (value_at s (slice_get arguments 2))
    (variable_by (meaning_at s (slice_get arguments 3)))
system_what s arguments system.Reply =
    what.Reply (item_by (meaning_at s (slice_get arguments 0))) (value_at s (slice_get arguments 1))
system_what s arguments system.Stop = what.Stop
system_what s arguments system.WriteRead =
    what.WriteRead (file_by (meaning_at s (slice_get arguments 0))) (item_by (meaning_at s (slice_get arguments 1)))
    (value_at s (slice_get arguments 2)) (value_at s (slice_get arguments 3))
    (variable_by (meaning_at s (slice_get arguments 4)))

abbrev pub call_what : Scope → List ℕ → List g.Argument → Option System → What
call_what s name arguments (Some system) = system_what s arguments system
call_what s name arguments None = what.Call (procedure_by (meaning_of s name)) (values_of_arguments s arguments)
