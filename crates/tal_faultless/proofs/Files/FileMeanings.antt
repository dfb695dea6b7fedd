-- What an OPEN without faults adds to the files, and what the variable of its file is declared as.
use Rattle.std.proofs.Common.{◌≡◌, ℕ, min, true, false, List, [], ◌∷◌, ◌++◌, length, Some, refl}
use Rattle.tal_tree.specs.declared.program.Target.{Target}
use Rattle.tal_tree.specs.declared.program.Target.TheVariants as target
use Rattle.tal_syntax.specs.Grammar as g
use Rattle.tal_names.specs.declared.meaning.Meaning.{Meaning}
use Rattle.tal_names.specs.declared.meaning.Meaning.TheVariants as m
use Rattle.tal_declarations.specs.declared.table.Files.{Files}
use Rattle.tal_names.specs.declared.scope.Scope.{Scope}
use Rattle.tal_meaning.specs.tal_rules.specs.Calls.{string_faults}
use Rattle.tal_declarations.specs.Files as files
use Rattle.tal_declarations.specs.Files.{file_by, target_of, with_file}
use Rattle.tal_names.specs.Names.{is_declared}
use Rattle.tal_tree.specs.Targets.{is_receive}
use Rattle.tal_faultless.proofs.Common.Faultless.{no_fault, split}

-- what the variable of a file opened to a target is declared as
abbrev pub file_meaning : Target → ℕ → ℕ → Meaning
file_meaning target.Receive item number = m.ReceiveFile item number
file_meaning (target.Process name) item number = m.ProcessFile item number

-- a string that opens a file
pub record OpensFile (string : g.Argument) : Type 0 where
  pub meant : (item number : ℕ) → file_by string item number ≡ file_meaning (target_of string) item number
  pub receives : files.is_receive string ≡ is_receive (target_of string)

pub opens_file : (s : Scope) (string : g.Argument) → string_faults s (Some string) ≡ [] → OpensFile string
opens_file s (g.receive at) faultless = record { meant = λ item number. refl; receives = refl }
opens_file s (g.process at name) faultless = record { meant = λ item number. refl; receives = refl }
opens_file s (g.quoted at) faultless = no_fault faultless
opens_file s (g.value e) faultless = no_fault (split faultless).1

-- where the name isn't that of a file before, one file goes last
pub new_file : (f : Files) (name : List ℕ) (item : ℕ) (string : g.Argument) (depth : ℕ)
    → is_declared name f.names ≡ false
    → with_file f name item string depth ≡ record {
      names = f.names ++ (name, file_by string item (min 8 (length f.uses))) ∷ [];
      uses = f.uses ++ record { item = item; target = target_of string; depth = depth } ∷ [];
    }
new_file f name item string depth e = rw e refl

-- where it is, there is none more
pub old_file : (f : Files) (name : List ℕ) (item : ℕ) (string : g.Argument) (depth : ℕ)
    → is_declared name f.names ≡ true → with_file f name item string depth ≡ f
old_file f name item string depth e = rw e refl
