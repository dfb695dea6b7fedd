-- What a name stands for in the body of a procedure, and what it has to be where it stands.
use Rattle.std.specs.Prelude.{ℕ, Bool, true, false, List, [], Option, Some, None, if◌then◌else◌}
use Rattle.tal_syntax.specs.tal_tokens.specs.declared.token.At.{At}
use Rattle.tal_names.specs.declared.fault.Rule.TheVariants.{Unknown, WrongKind}
use Rattle.tal_names.specs.declared.fault.RuleFault.{RuleFault}
use Rattle.tal_names.specs.declared.meaning.Meaning.{Meaning}
use Rattle.tal_names.specs.declared.meaning.Meaning.TheVariants as m
use Rattle.tal_names.specs.declared.meaning.Need.{Need}
use Rattle.tal_names.specs.declared.meaning.Need.TheVariants as need
use Rattle.tal_names.specs.declared.scope.Scope.{Scope}
use Rattle.tal_names.specs.Faults.{fault_at}
use Rattle.tal_names.specs.Names.{meaning_in}

-- the first of two that is there
abbrev pub or_else : Option Meaning → Option Meaning → Option Meaning
or_else None other = other
or_else (Some x) other = Some x

-- what a name stands for: a local hides a global; a global that an OPEN names is the variable of a file
abbrev pub meaning_of : Scope → List ℕ → Option Meaning
meaning_of s name = or_else (meaning_in name s.locals) (or_else (meaning_in name s.files) (meaning_in name s.globals))

abbrev pub is_file : Meaning → Bool
is_file (m.ReceiveFile item number) = true
is_file (m.ProcessFile item number) = true
is_file (m.StrayFile item number) = true
is_file _ = false

abbrev pub is_variable : Meaning → Bool
is_variable (m.Local number) = true
is_variable (m.Simple item) = true
is_variable _ = false

abbrev pub is_readable : Meaning → Bool
is_readable (m.Literal value) = true
is_readable x = is_variable x

abbrev pub is_array : Meaning → Bool
is_array (m.Array item) = true
is_array _ = false

abbrev pub is_receive_file : Meaning → Bool
is_receive_file (m.ReceiveFile item number) = true
is_receive_file _ = false

abbrev pub is_process_file : Meaning → Bool
is_process_file (m.ProcessFile item number) = true
is_process_file _ = false

-- whether CHECKPOINT may name it
abbrev pub is_kept : Meaning → Bool
is_kept (m.Simple item) = true
is_kept (m.Array item) = true
is_kept (m.ProcessFile item number) = true
is_kept (m.StrayFile item number) = true
is_kept _ = false

-- whether what a name stands for may stand there
abbrev pub suits : Need → Meaning → Bool
suits need.Variable x = is_variable x
suits need.Readable x = is_readable x
suits need.Array x = is_array x
suits need.FileVariable x = is_file x
suits need.Receive x = is_receive_file x
suits need.Process x = is_process_file x
suits need.Kept x = is_kept x

-- a name that isn't declared is Unknown, and one of another kind is WrongKind
abbrev pub kind_faults : Need → At → Option Meaning → List RuleFault
kind_faults n at None = fault_at at Unknown
kind_faults n at (Some x) = if suits n x then [] else fault_at at WrongKind

-- the faults of a name that stands alone
abbrev pub name_faults : Scope → Need → At → List ℕ → List RuleFault
name_faults s n at name = kind_faults n at (meaning_of s name)
