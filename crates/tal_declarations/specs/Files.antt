-- The variables of files: the simple globals that an OPEN names.
use Rattle.std.specs.Prelude.{ℕ, ℤ, pos, min, ◌&&◌, int_le, nat_le, Bool, true, false, List, [], ◌∷◌, ◌++◌, length}
use Rattle.std.specs.Prelude.{Option, Some, None, if◌then◌else◌}
use Rattle.std.specs.Int.{cast_unsigned, w16}
use Rattle.std.specs.Option.{option_and_then}
use Rattle.tal_syntax.specs.Grammar as g
use Rattle.tal_syntax.specs.tal_tree.specs.declared.program.Target.{Target}
use Rattle.tal_syntax.specs.tal_tree.specs.declared.program.Target.TheVariants as target
use Rattle.tal_names.specs.declared.meaning.Meaning.{Meaning}
use Rattle.tal_names.specs.declared.meaning.Meaning.TheVariants as m
use Rattle.tal_declarations.specs.declared.table.Files.{Files}
use Rattle.tal_names.specs.declared.scope.Named.{Named}
use Rattle.tal_names.specs.declared.scope.Scope.{Scope}
use Rattle.tal_names.specs.declared.system.System.{System}
use Rattle.tal_names.specs.declared.system.System.TheVariants.{CheckMonitor, Checkpoint, Open, ReadUpdate, Reply, Stop}
use Rattle.tal_names.specs.declared.system.System.TheVariants.{WriteRead}
use Rattle.tal_declarations.specs.Globals.{atom_of, constant_value}
use Rattle.tal_names.specs.Names.{is_declared, meaning_in, with_name}
use Rattle.tal_names.specs.Places.{constant_of, name_of_argument, arguments_of}
use Rattle.tal_names.specs.Scopes.{meaning_of}
use Rattle.tal_names.specs.Systems.{system_of}
use Rattle.gd_words.specs.declared.limits.TheConstants.{MOST_FILES}
use Rattle.gd_words.specs.declared.limits.TheConstants.{MOST_DEPTH}

-- a procedure that is declared after a place isn't known there as a constant; this one and those before it are
abbrev pub declared_before : ℕ → Option Meaning → Option Meaning
declared_before number (Some (m.Procedure other gives parameters)) =
    if nat_le other number then Some (m.Procedure other gives parameters) else None
declared_before number found = found

-- what the name of a constant stands for in a body
abbrev pub named_in : Scope → g.Atom → Option Meaning
named_in s (g.digits at value) = None
named_in s (g.known at name) = declared_before s.number (meaning_of s name)

abbrev pub is_receive : g.Argument → Bool
is_receive (g.receive at) = true
is_receive _ = false

-- what a string opens a file to; a bad one plays no part
abbrev pub target_of : g.Argument → Target
target_of (g.process at name) = target.Process name
target_of _ = target.Receive

-- the variable of a file by its OPEN's string
abbrev pub file_by : g.Argument → ℕ → ℕ → Meaning
file_by (g.receive at) item number = m.ReceiveFile item number
file_by (g.process at name) item number = m.ProcessFile item number
file_by (g.quoted at) item number = m.StrayFile item number
file_by (g.value e) item number = m.StrayFile item number

-- a depth from 1 to 4; another one plays no part
abbrev pub depth_of : Option ℤ → ℕ
depth_of None = 1
depth_of (Some value) = if int_le (pos 1) value && int_le value (pos MOST_DEPTH) then cast_unsigned w16 value else 1

-- with the variable that an OPEN names, where it isn't one by an OPEN before. Those past the limit have the number 8
abbrev pub with_file : Files → List ℕ → ℕ → g.Argument → ℕ → Files
with_file f name item string depth =
    if is_declared name f.names then f else record {
      names = with_name f.names name (file_by string item (min MOST_FILES (length f.uses)));
      uses = f.uses ++ record { item = item; target = target_of string; depth = depth } ∷ [];
    }

abbrev pub simple_by : Option Meaning → Option ℕ
simple_by (Some (m.Simple item)) = Some item
simple_by _ = None

-- the item of the simple global that a name is, where no local hides it
abbrev pub simple_global : Scope → List ℕ → Option ℕ
simple_global s name = if is_declared name s.locals then None else simple_by (meaning_in name s.globals)

-- the value of an OPEN's depth
abbrev pub depth_value : Scope → g.Argument → Option ℤ
depth_value s a = option_and_then (λ c. constant_value c (named_in s (atom_of c))) (constant_of a)

abbrev pub opened_as : Scope → Files → g.Argument → g.Argument → List ℕ → Option ℕ → Files
opened_as s f string depth name None = f
opened_as s f string depth name (Some item) = with_file f name item string (depth_of (depth_value s depth))

abbrev pub opened_named : Scope → Files → g.Argument → g.Argument → Option Named → Files
opened_named s f string depth None = f
opened_named s f string depth (Some n) = opened_as s f string depth n.name (simple_global s n.name)

abbrev pub opened_by : Scope → Files → g.Argument → g.Argument → g.Argument → Files
opened_by s f string variable depth = opened_named s f string depth (name_of_argument variable)

-- an OPEN with three arguments whose second is the name of a simple global makes that the variable of a file
abbrev pub opened : Scope → Files → List g.Argument → Files
opened s f (string ∷ variable ∷ depth ∷ []) = opened_by s f string variable depth
opened s f _ = f

abbrev pub call_files : Scope → Files → List g.Argument → Option System → Files
call_files s f arguments (Some Open) = opened s f arguments
call_files s f arguments (Some CheckMonitor) = f
call_files s f arguments (Some Checkpoint) = f
call_files s f arguments (Some ReadUpdate) = f
call_files s f arguments (Some Reply) = f
call_files s f arguments (Some Stop) = f
call_files s f arguments (Some WriteRead) = f
call_files s f arguments None = f

-- the variables of files with those of a statement
module _ (s : Scope) where
  abbrev mutual
    pub statement_files : Files → g.Statement → Files
    statement_files f g.nothing = f
    statement_files f (g.block begin first more end) = row_files (statement_files f first) more
    statement_files f (g.if_then head test then_at t o) = else_files (statement_files f t) o
    statement_files f (g.while_do head test do_at t) = statement_files f t
    statement_files f (g.for_do head at name set_at from direction to step do_at t) = statement_files f t
    statement_files f (g.do_until head t at test) = statement_files f t
    statement_files f (g.call head at name a) = call_files s f (arguments_of a) (system_of name)
    statement_files f (g.return head a) = f
    statement_files f (g.assign target at e) = f
    statement_files f (g.assign_call target at name_at name start first more close) = f

    pub else_files : Files → g.Otherwise → Files
    else_files f g.no_else = f
    else_files f (g.otherwise at t) = statement_files f t

    pub row_files : Files → g.Row → Files
    row_files f g.no_row = f
    row_files f (g.more_row semicolon t rest) = row_files (statement_files f t) rest
