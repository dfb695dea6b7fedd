-- The faults of calls: of procedures and of the system.
use Rattle.std.specs.Prelude.{ℕ, ◌+◌, ◌&&◌, ◌||◌, not, ◌==◌, nat_lt, nat_le, Bool, true, false, ℤ, pos, int_le, List}
use Rattle.std.specs.Prelude.{[], ◌∷◌, ◌++◌, length, slice_get, Option, Some, None, is_none}
use Rattle.tal_syntax.specs.tal_tokens.specs.declared.token.At.{At}
use Rattle.tal_syntax.specs.Grammar as g
use Rattle.tal_names.specs.declared.fault.Rule.TheVariants.{Unknown, Twice, WrongKind, NotBefore, Prologue, Limit}
use Rattle.tal_names.specs.declared.fault.RuleFault.{RuleFault}
use Rattle.tal_names.specs.declared.meaning.Meaning.{Meaning}
use Rattle.tal_names.specs.declared.meaning.Meaning.TheVariants as m
use Rattle.tal_names.specs.declared.meaning.Need.{Need}
use Rattle.tal_names.specs.declared.meaning.Need.TheVariants as need
use Rattle.tal_names.specs.declared.scope.Named.{Named}
use Rattle.tal_names.specs.declared.scope.Scope.{Scope}
use Rattle.tal_rules.specs.declared.walk.Stage.{Stage}
use Rattle.tal_rules.specs.declared.walk.Stage.TheVariants as stage
use Rattle.tal_rules.specs.declared.walk.Walk.{Walk}
use Rattle.tal_names.specs.declared.system.System.{System}
use Rattle.tal_names.specs.declared.system.System.TheVariants as system
use Rattle.tal_rules.specs.Expressions.{value_faults}
use Rattle.tal_names.specs.Faults.{fault_at, if_so}
use Rattle.tal_declarations.specs.Files.{named_in, is_receive, depth_value}
use Rattle.tal_declarations.specs.Globals.{atom_of, constant_faults}
use Rattle.tal_names.specs.Names.{Declarations, is_declared, with_name}
use Rattle.tal_names.specs.Places.{first_of_argument, name_of_argument, front_name_of_argument, constant_of}
use Rattle.tal_names.specs.Scopes.{meaning_of, name_faults}
use Rattle.tal_syntax.specs.gd_words.specs.declared.limits.TheConstants.{MOST_FILES}
use Rattle.tal_tree.specs.declared.limit.ProgramLimit.TheVariants as program_limit
use Rattle.tal_syntax.specs.gd_words.specs.declared.limits.TheConstants.{MOST_DEPTH}

-- a procedure is called with as many values as it has parameters, on a right side only where it gives a value, and only
-- after its own declaration has ended
abbrev pub called_faults : Scope → Bool → At → ℕ → Option Meaning → List RuleFault
called_faults s wants at count None = fault_at at Unknown
called_faults s wants at count (Some (m.Procedure number gives parameters)) =
    if_so (not (count == parameters) || (wants && not gives)) (fault_at at WrongKind)
    ++ if_so (nat_le s.number number) (fault_at at NotBefore)
called_faults s wants at count (Some _) = fault_at at WrongKind

-- an argument in the place of a value
abbrev pub argument_faults : Scope → g.Argument → List RuleFault
argument_faults s (g.value e) = value_faults s e
argument_faults s (g.receive at) = fault_at at WrongKind
argument_faults s (g.process at name) = fault_at at WrongKind
argument_faults s (g.quoted at) = fault_at at WrongKind

abbrev pub arguments_faults : Scope → List g.Argument → List RuleFault
arguments_faults s [] = []
arguments_faults s (a ∷ rest) = argument_faults s a ++ arguments_faults s rest

abbrev pub values_faults : Scope → g.Values → List RuleFault
values_faults s g.no_values = []
values_faults s (g.more_values comma e rest) = value_faults s e ++ values_faults s rest

abbrev pub values_count : g.Values → ℕ
values_count g.no_values = 0
values_count (g.more_values comma e rest) = values_count rest + 1

-- a name that isn't declared
abbrev pub undeclared_faults : Scope → Option Named → List RuleFault
undeclared_faults s None = []
undeclared_faults s (Some x) = if_so (is_none (meaning_of s x.name)) (fault_at x.at Unknown)

-- an argument of another form than its place needs is WrongKind where it begins, or Unknown where it begins with a name
-- that isn't declared
abbrev pub misfit_faults : Scope → g.Argument → List RuleFault
misfit_faults s a = undeclared_faults s (front_name_of_argument a) ++ fault_at (first_of_argument a) WrongKind

-- an argument that has to be a name of a kind: it is one token
abbrev pub named_faults : Scope → Need → g.Argument → Option Named → List RuleFault
named_faults s n a None = misfit_faults s a
named_faults s n a (Some x) = name_faults s n x.at x.name

-- the faults of an argument that may be missing
abbrev pub name_in : Scope → Need → Option g.Argument → List RuleFault
name_in s n None = []
name_in s n (Some a) = named_faults s n a (name_of_argument a)

abbrev pub value_in : Scope → Option g.Argument → List RuleFault
value_in s None = []
value_in s (Some a) = argument_faults s a

-- a call of the system has its own count of arguments
abbrev pub count_faults : At → ℕ → List g.Argument → List RuleFault
count_faults at count arguments = if_so (not (length arguments == count)) (fault_at at WrongKind)

-- READUPDATE(rcv, buf, max, got)
abbrev pub read_update_faults : Scope → At → List g.Argument → List RuleFault
read_update_faults s at arguments =
    count_faults at 4 arguments ++ name_in s need.Receive (slice_get arguments 0)
    ++ name_in s need.Array (slice_get arguments 1)
    ++ value_in s (slice_get arguments 2) ++ name_in s need.Variable (slice_get arguments 3)

-- REPLY(buf, count)
abbrev pub reply_faults : Scope → At → List g.Argument → List RuleFault
reply_faults s at arguments =
    count_faults at 2 arguments ++ name_in s need.Array (slice_get arguments 0) ++ value_in s (slice_get arguments 1)

-- WRITEREAD(f, buf, wcount, rcount, got)
abbrev pub write_read_faults : Scope → At → List g.Argument → List RuleFault
write_read_faults s at arguments =
    count_faults at 5 arguments ++ name_in s need.Process (slice_get arguments 0)
    ++ name_in s need.Array (slice_get arguments 1)
    ++ value_in s (slice_get arguments 2) ++ value_in s (slice_get arguments 3)
    ++ name_in s need.Variable (slice_get arguments 4)

-- a name stands once in a CHECKPOINT
abbrev pub repeated_faults : Declarations → Option Named → List RuleFault
repeated_faults before None = []
repeated_faults before (Some x) = if_so (is_declared x.name before) (fault_at x.at Twice)

abbrev pub with_mention : Declarations → Option Named → Declarations
with_mention before None = before
with_mention before (Some x) = with_name before x.name (m.Literal (pos 0))

abbrev pub mention_faults : Scope → Declarations → g.Argument → List RuleFault
mention_faults s before a =
    named_faults s need.Kept a (name_of_argument a) ++ repeated_faults before (name_of_argument a)

abbrev pub checkpoint_faults : Scope → Declarations → List g.Argument → List RuleFault
checkpoint_faults s before [] = []
checkpoint_faults s before (a ∷ rest) =
    mention_faults s before a ++ checkpoint_faults s (with_mention before (name_of_argument a)) rest

-- the string of an OPEN is `$RECEIVE` or the name of a process
abbrev pub string_faults : Scope → Option g.Argument → List RuleFault
string_faults s None = []
string_faults s (Some (g.receive at)) = []
string_faults s (Some (g.process at name)) = []
string_faults s (Some (g.quoted at)) = fault_at at WrongKind
string_faults s (Some (g.value e)) = misfit_faults s (g.value e)

abbrev pub opens_receive : Option g.Argument → Bool
opens_receive None = false
opens_receive (Some a) = is_receive a

-- the number of the file whose variable a name is
abbrev pub file_number : Option Meaning → Option ℕ
file_number (Some (m.ReceiveFile item number)) = Some number
file_number (Some (m.ProcessFile item number)) = Some number
file_number (Some (m.StrayFile item number)) = Some number
file_number _ = None

abbrev pub number_below : Option ℕ → ℕ → Bool
number_below None opened = false
number_below (Some number) opened = nat_lt number opened

abbrev pub name_opened : Scope → ℕ → Option Named → Bool
name_opened s opened None = false
name_opened s opened (Some x) = number_below (file_number (meaning_of s x.name)) opened

-- whether an argument is the variable of one of the files that are opened before; they are numbered in the order of
-- their OPENs
abbrev pub is_opened : Scope → ℕ → Option g.Argument → Bool
is_opened s opened None = false
is_opened s opened (Some a) = name_opened s opened (name_of_argument a)

-- at most 8 files
abbrev pub file_limit : ℕ → Option g.Argument → List RuleFault
file_limit opened None = []
file_limit opened (Some a) = if_so (nat_le MOST_FILES opened)
    (fault_at (first_of_argument a) (Limit program_limit.Files))

-- a depth is from 1 to 4, and 1 for `$RECEIVE`
abbrev pub is_depth : Bool → ℤ → Bool
is_depth true value = int_le (pos 1) value && int_le value (pos 1)
is_depth false value = int_le (pos 1) value && int_le value (pos MOST_DEPTH)

abbrev pub depth_limit : Bool → g.Argument → Option ℤ → List RuleFault
depth_limit receive a None = []
depth_limit receive a (Some value) = if_so (not (is_depth receive value))
    (fault_at (first_of_argument a) (Limit program_limit.KeptReplies))

abbrev pub depth_form : Scope → g.Argument → Option g.Constant → List RuleFault
depth_form s a None = fault_at (first_of_argument a) WrongKind
depth_form s a (Some c) = constant_faults c (named_in s (atom_of c))

abbrev pub depth_faults : Scope → Bool → Option g.Argument → List RuleFault
depth_faults s receive None = []
depth_faults s receive (Some a) = depth_form s a (constant_of a) ++ depth_limit receive a (depth_value s a)

abbrev pub is_start : Stage → Bool
is_start stage.Start = true
is_start _ = false

abbrev pub takes_open : Stage → Bool
takes_open stage.Opens = true
takes_open _ = false

-- OPEN("name", f, depth): only one opens `$RECEIVE`, it stands after CHECKMONITOR and other OPENs alone, and its
-- variable is no file's before
abbrev pub open_faults : Scope → Walk → At → List g.Argument → List RuleFault
open_faults s w at arguments =
    if_so (w.receive && opens_receive (slice_get arguments 0)) (fault_at at Twice)
    ++ count_faults at 3 arguments
    ++ if_so (not (takes_open w.stage) || is_opened s w.files (slice_get arguments 1)) (fault_at at Prologue)
    ++ string_faults s (slice_get arguments 0)
    ++ name_in s need.FileVariable (slice_get arguments 1) ++ file_limit w.files (slice_get arguments 1)
    ++ depth_faults s (opens_receive (slice_get arguments 0)) (slice_get arguments 2)

-- CHECKMONITOR stands first in the main procedure
abbrev pub monitor_faults : Walk → At → List g.Argument → List RuleFault
monitor_faults w at arguments = count_faults at 0 arguments ++ if_so (not (is_start w.stage)) (fault_at at Prologue)

-- the faults of a call of the system
abbrev pub system_faults : Scope → Walk → At → List g.Argument → System → List RuleFault
system_faults s w at arguments system.CheckMonitor = monitor_faults w at arguments
system_faults s w at arguments system.Checkpoint = checkpoint_faults s [] arguments
system_faults s w at arguments system.Open = open_faults s w at arguments
system_faults s w at arguments system.ReadUpdate = read_update_faults s at arguments
system_faults s w at arguments system.Reply = reply_faults s at arguments
system_faults s w at arguments system.Stop = count_faults at 0 arguments
system_faults s w at arguments system.WriteRead = write_read_faults s at arguments

-- the faults of a call of a procedure
abbrev pub procedure_call_faults : Scope → At → List ℕ → List g.Argument → List RuleFault
procedure_call_faults s at name arguments =
    called_faults s false at (length arguments) (meaning_of s name) ++ arguments_faults s arguments

-- the faults of CALL: of the system where the name is its, else of a procedure
abbrev pub call_faults : Scope → Walk → At → List ℕ → List g.Argument → Option System → List RuleFault
call_faults s w at name arguments (Some system) = system_faults s w at arguments system
call_faults s w at name arguments None = procedure_call_faults s at name arguments
