-- The values of LITERALs are words.
use Rattle.std.proofs.Common.{ℕ, List, [], ◌∷◌, ◌++◌}
use Rattle.std.specs.Prelude.{Option, Some, None, FitsSigned}
use Rattle.std.specs.Int.{w16}
use Rattle.tal_names.specs.declared.meaning.Meaning.{Meaning}
use Rattle.tal_names.specs.declared.meaning.Meaning.TheVariants as m
use Rattle.tal_names.specs.declared.scope.Scope.{Scope}
use Rattle.tal_names.specs.Names.{Declarations, same, meaning_in, is_declared, with_name}
use Rattle.tal_names.specs.Scopes.{or_else, meaning_of}
use Rattle.tal_pieces.proofs.Spelling.SpelledTokens.{either}
use Rattle.tal_pieces.proofs.Common.Entries.{Each, each_append}

-- where a LITERAL is declared, its value is a word
abbrev pub MeaningFits : Meaning → Type 0
MeaningFits (m.Literal value) = FitsSigned w16 value
MeaningFits _ = Unit {0}

abbrev pub FoundFits : Option Meaning → Type 0
FoundFits None = Unit {0}
FoundFits (Some x) = MeaningFits x

abbrev pub AreFitting : Declarations → Type 0
AreFitting ds = Each (λ d. MeaningFits d.1) ds

abbrev pub ScopeFits : Scope → Type 0
ScopeFits s = (name : List ℕ) → FoundFits (meaning_of s name)

-- names among declarations, one more name, and the names of a scope
pub found_fits : (name : List ℕ) (ds : Declarations) → AreFitting ds → FoundFits (meaning_in name ds)
found_fits name [] h = tt
found_fits name (d ∷ ds) h =
    either FoundFits (same name d.0) (Some d.1) (meaning_in name ds) h.0 (found_fits name ds h.1)

pub with_fits : (ds : Declarations) (name : List ℕ) (x : Meaning) → AreFitting ds → MeaningFits x
    → AreFitting (with_name ds name x)
with_fits ds name x h k =
    either AreFitting (is_declared name ds) ds (ds ++ (name, x) ∷ []) h
    (each_append (λ d. MeaningFits d.1) ds ((name, x) ∷ []) h (k, tt))

or_fits : (first second : Option Meaning) → FoundFits first → FoundFits second → FoundFits (or_else first second)
or_fits None second h k = k
or_fits (Some x) second h k = h

pub scope_fits : (s : Scope) → AreFitting s.locals → AreFitting s.files → AreFitting s.globals → ScopeFits s
scope_fits s locals files globals name =
    or_fits (meaning_in name s.locals) (or_else (meaning_in name s.files) (meaning_in name s.globals))
    (found_fits name s.locals locals)
    (or_fits (meaning_in name s.files) (meaning_in name s.globals) (found_fits name s.files files)
    (found_fits name s.globals globals))
