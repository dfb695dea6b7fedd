-- Names that are the same, and the spellings of names.
use Rattle.std.proofs.Common.{◌≡◌, ℕ, true, List, [], ◌∷◌, ◌++◌, refl, ap}
use Rattle.std.specs.Cmp.Lexicographic.{bytes_decides}
use Rattle.tal_names.specs.declared.scope.Named.{Named}
use Rattle.tal_names.specs.Names.{same}
use Rattle.tal_meaning.specs.Programs.{texts_of}

-- names are the same where they are equal
pub same_is : (name other : List ℕ) → same name other ≡ true → name ≡ other
same_is name other = (bytes_decides name other).0

pub same_self : (name : List ℕ) → same name name ≡ true
same_self name = (bytes_decides name name).1 refl

pub texts_append : (ns ms : List Named) → texts_of (ns ++ ms) ≡ texts_of ns ++ texts_of ms
texts_append [] ms = refl
texts_append (n ∷ ns) ms = ap (λ rest. n.name ∷ rest) (texts_append ns ms)
