-- Names and what each is declared as: the first declaration of a name counts.
use Rattle.std.specs.Prelude.{ℕ, nat_eq, Bool, List, [], ◌∷◌, ◌++◌, Option, Some, None, if◌then◌else◌}
use Rattle.std.specs.Option.{is_some}
use Rattle.std.specs.Cmp.Lexicographic.{pointwise}
use Rattle.tal_names.specs.declared.meaning.Meaning.{Meaning}

-- names in the order of their declarations
abbrev pub Declarations : Type 0
Declarations = List (List ℕ × Meaning)

-- whether two names are the same
abbrev pub same : List ℕ → List ℕ → Bool
same name other = pointwise nat_eq name other

module _ (name : List ℕ) where
  -- what a name is declared as
  abbrev pub meaning_in : Declarations → Option Meaning
  meaning_in [] = None
  meaning_in (d ∷ ds) = if same name d.0 then Some d.1 else meaning_in ds

-- whether a name is declared
abbrev pub is_declared : List ℕ → Declarations → Bool
is_declared name ds = is_some (meaning_in name ds)

-- with a name declared, where it isn't declared before
abbrev pub with_name : Declarations → List ℕ → Meaning → Declarations
with_name ds name m = if is_declared name ds then ds else ds ++ (name, m) ∷ []
