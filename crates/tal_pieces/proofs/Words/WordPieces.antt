-- Every piece of a printed program can be spelled.
use Rattle.std.specs.Prelude.{◌≡◌, ℕ, List, [], None}
use Rattle.tal_tokens.specs.Lexer.{tokens_of}
use Rattle.tal_syntax.specs.Grammar as g
use Rattle.tal_rules.specs.Texts.{faults}
use Rattle.tal_meaning.specs.Programs.{tree_of}
use Rattle.tal_pieces.specs.Cuts.{AreSpellable}
use Rattle.tal_pieces.specs.Printed.Procedures.{program_pieces}

abbrev pub PrintedCanBeSpelled : Type 0
PrintedCanBeSpelled =
    (source : List ℕ) (t : g.Text) → tokens_of source ≡ record { list = g.of_text t; fault = None } → faults t ≡ []
    → AreSpellable (program_pieces (tree_of t))
