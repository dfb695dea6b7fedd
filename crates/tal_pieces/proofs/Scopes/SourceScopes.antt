-- The scopes of the procedures of a text without faults.
use Rattle.std.specs.Prelude.{◌≡◌, ℕ, [], ◌++◌}
use Rattle.tal_tokens.specs.declared.token.At.{At}
use Rattle.tal_syntax.specs.Grammar as g
use Rattle.tal_declarations.specs.Globals.{with_lines, nothing_declared}
use Rattle.tal_declarations.specs.Headings.{locals_of}
use Rattle.tal_rules.specs.Texts.{faults, headed_text, files_by, heading_locals_faults}
use Rattle.tal_meaning.specs.Programs.{tree_of, texts_of, parameters_by}
use Rattle.tal_pieces.proofs.Scopes.Agreement.{Agreement}
use Rattle.tal_pieces.proofs.Declarations.DeclarationsBack.{FilesAreSimple}
use Rattle.tal_faultless.proofs.Scopes.SourceScopes.{scope_in}

-- names stand for what the program has under their numbers, and for the same in the printed text
abbrev pub ScopesAgree : Type 0
ScopesAgree =
    (lines : g.Lines) (ps : g.Procedures) (finish : At) → faults (g.text lines ps finish) ≡ []
    → (number : ℕ) (h : g.Heading) (outer inner : g.Locals) → heading_locals_faults h outer inner ≡ []
    → Agreement (tree_of (g.text lines ps finish)) (texts_of (parameters_by h ++ locals_of inner))
    (scope_in lines ps number h inner)

-- the variables of files are declared as simple items
abbrev pub FileItemsAreSimple : Type 0
FileItemsAreSimple =
    (lines : g.Lines) (ps : g.Procedures) (finish : At) → faults (g.text lines ps finish) ≡ []
    → FilesAreSimple (files_by (headed_text lines ps) ps).names (with_lines nothing_declared lines).items
