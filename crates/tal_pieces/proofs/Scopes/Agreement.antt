-- What the names of a text's procedure stand for, and what they stand for in the printed text, where the names of
-- LITERALs are gone.
use Rattle.std.specs.Prelude.{◌≡◌, ℕ, Bool, true, false, List, [], ◌∷◌, ◌++◌, length, slice_get, Some}
use Rattle.tal_tree.specs.declared.program.FileUse.{FileUse}
use Rattle.tal_tree.specs.declared.program.Program.{Program}
use Rattle.tal_names.specs.declared.meaning.Meaning.{Meaning}
use Rattle.tal_names.specs.declared.meaning.Meaning.TheVariants as m
use Rattle.tal_declarations.specs.declared.table.Declared.{Declared}
use Rattle.tal_declarations.specs.declared.table.Files.{Files}
use Rattle.tal_declarations.specs.declared.table.Headed.{Headed}
use Rattle.tal_names.specs.declared.scope.Scope.{Scope}
use Rattle.tal_rules.specs.Calls.{file_number}
use Rattle.tal_names.specs.Names.{Declarations, meaning_in}
use Rattle.tal_names.specs.Scopes.{meaning_of}
use Rattle.tal_pieces.specs.Printed.Names.{item_name, procedure_name, file_name, receive_name}

abbrev pub is_literal : Meaning → Bool
is_literal (m.Literal value) = true
is_literal _ = false

-- declarations but for those of LITERALs
abbrev pub kept_by : Bool → (List ℕ × Meaning) → Declarations → Declarations
kept_by true d rest = rest
kept_by false d rest = d ∷ rest

abbrev pub without_literals : Declarations → Declarations
without_literals [] = []
without_literals (d ∷ rest) = kept_by (is_literal d.1) d (without_literals rest)

-- the scope of a procedure in the printed text, and what is declared there before a line and before a heading
abbrev pub printed_scope : Scope → Scope
printed_scope s = record s { globals = without_literals s.globals }

abbrev pub printed_declared : Declared → Declared
printed_declared d = record d { names = without_literals d.names }

abbrev pub printed_headed : Headed → Headed
printed_headed h = record h { names = without_literals h.names }

-- the names of a scope are the program's, and all but those of LITERALs stand for the same in the printed text
pub record Agreement (p : Program) (locals : List (List ℕ)) (s : Scope) : Type 0 where
  pub lasting : (name : List ℕ) (x : Meaning) → is_literal x ≡ false → meaning_of s name ≡ Some x
      → meaning_of (printed_scope s) name ≡ Some x
  pub local : (place : ℕ) (name : List ℕ) → meaning_of s name ≡ Some (m.Local place)
      → slice_get locals place ≡ Some name
  pub simple : (item : ℕ) (name : List ℕ) → meaning_of s name ≡ Some (m.Simple item) → item_name p item ≡ Some name
  pub array : (item : ℕ) (name : List ℕ) → meaning_of s name ≡ Some (m.Array item) → item_name p item ≡ Some name
  pub procedure : (number : ℕ) (gives : Bool) (count : ℕ) (name : List ℕ)
      → meaning_of s name ≡ Some (m.Procedure number gives count)
      → procedure_name p number ≡ Some name
  pub receive : (item number : ℕ) (name : List ℕ) → meaning_of s name ≡ Some (m.ReceiveFile item number)
      → receive_name p ≡ Some name
  pub process : (item number : ℕ) (name : List ℕ) → meaning_of s name ≡ Some (m.ProcessFile item number)
      → file_name p number ≡ Some name
  pub stray : (item number : ℕ) (name : List ℕ) → meaning_of s name ≡ Some (m.StrayFile item number) → ⊥
  pub global : (item : ℕ) (name : List ℕ) → meaning_in name s.globals ≡ Some (m.Simple item)
      → item_name p item ≡ Some name
  pub global_lasts : (item : ℕ) (name : List ℕ) → meaning_in name s.globals ≡ Some (m.Simple item)
      → meaning_in name (without_literals s.globals) ≡ Some (m.Simple item)

-- these files are followed by more
pub record Extends (all front : Files) : Type 0 where
  pub names : Declarations
  pub uses : List FileUse
  pub names_are : all.names ≡ front.names ++ names
  pub uses_are : all.uses ≡ front.uses ++ uses

-- so many files are opened, and each has its number
pub record OpenedSoFar (k : ℕ) (f : Files) : Type 0 where
  pub names_count : length f.names ≡ k
  pub uses_count : length f.uses ≡ k
  pub numbers : (i : ℕ) (d : List ℕ × Meaning) → slice_get f.names i ≡ Some d → file_number (Some d.1) ≡ Some i
