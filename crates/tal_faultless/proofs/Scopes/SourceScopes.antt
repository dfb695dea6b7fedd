-- The scopes of the procedures of a text.
use Rattle.std.specs.Prelude.{ℕ, []}
use Rattle.tal_syntax.specs.Grammar as g
use Rattle.tal_names.specs.declared.scope.Scope.{Scope}
use Rattle.tal_meaning.specs.tal_rules.specs.Texts.{headed_text, files_by, scope_of}

-- the scope of a procedure of this number in a text
abbrev pub scope_in : g.Lines → g.Procedures → ℕ → g.Heading → g.Locals → Scope
scope_in lines ps number h inner =
    scope_of (headed_text lines ps).names (files_by (headed_text lines ps) ps).names number h inner

-- the same scope before the files are known
abbrev pub without_files : Scope → Scope
without_files s = record s { files = [] }
