-- What holds of the names of a procedure of a text without faults.
use Rattle.std.specs.Prelude.{◌≡◌, ℕ, Bool, true, List, Some, None}
use Rattle.tal_names.specs.declared.meaning.Meaning.{Meaning}
use Rattle.tal_names.specs.declared.meaning.Meaning.TheVariants as m
use Rattle.tal_names.specs.declared.scope.Scope.{Scope}
use Rattle.tal_declarations.specs.Files.{simple_global}
use Rattle.tal_names.specs.Systems.{system_of}
use Rattle.tal_names.specs.Names.{meaning_in}
use Rattle.tal_names.specs.Scopes.{meaning_of, is_file}

-- a file is a simple global that no local hides, what is listed among the files is one, and no procedure has a name of
-- the system's
pub record SourceNames (s : Scope) : Type 0 where
  pub file : (name : List ℕ) (x : Meaning) → meaning_of s name ≡ Some x → is_file x ≡ true
      → (item : ℕ) × (simple_global s name ≡ Some item)
  pub listed : (name : List ℕ) (x : Meaning) → meaning_in name s.files ≡ Some x → is_file x ≡ true
  pub procedure : (number : ℕ) (gives : Bool) (count : ℕ) (name : List ℕ)
      → meaning_of s name ≡ Some (m.Procedure number gives count) → system_of name ≡ None
