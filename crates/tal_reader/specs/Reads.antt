-- Which program a text reads as, and for which fault a text is refused that reads as none.
use Rattle.std.specs.Prelude.{◌≡◌, ◌⊎◌, ℕ, List, [], slice_get, Some, None, Result, Ok, Err}
use Rattle.tal_tree.specs.gd_words.specs.Memory.{no_memory}
use Rattle.tal_tokens.specs.declared.token.Token.{Token}
use Rattle.tal_tokens.specs.Lexer.{tokens_of}
use Rattle.tal_builder.specs.tal_syntax.specs.Grammar as g
use Rattle.tal_builder.specs.tal_syntax.specs.Nesting.{nest_text}
use Rattle.tal_builder.specs.tal_syntax.specs.Expected.{AllAtMost, IsUnexpected, IsTooDeep, IsUnfinished}
use Rattle.tal_tree.specs.declared.fault.TalFault.{TalFault}
use Rattle.tal_tree.specs.declared.fault.TalFault.TheVariants as fault
use Rattle.tal_tree.specs.declared.program.Program.{Program}
use Rattle.tal_meaning.specs.tal_names.specs.declared.fault.RuleFault.{RuleFault}
use Rattle.tal_meaning.specs.tal_names.specs.Faults.{answer_of, IsLeast}
use Rattle.tal_meaning.specs.tal_rules.specs.Texts.{faults}
use Rattle.tal_meaning.specs.Programs.{tree_of}
use Rattle.tal_meaning.specs.Judged.{Judged}
use Rattle.tal_builder.specs.Built.{IsSyntax}
use Rattle.tal_reader.specs.Places.{place_of}
use Rattle.tal_tree.specs.gd_words.specs.declared.limits.TheConstants.{MOST_LEVELS}
use Rattle.tal_tree.specs.declared.limit.ProgramLimit.TheVariants as program_limit

-- the text's tokens are those of a syntax of the grammar, and none of them stands deeper than 33 levels, that of a
-- procedure's own statements counted
abbrev pub IsSyntaxOf : List ℕ → g.Text → Type 0
IsSyntaxOf text t =
    g.IsText t × (tokens_of text ≡ record { list = g.of_text t; fault = None }) × AllAtMost MOST_LEVELS (nest_text t)

-- the text reads as the program: it has a syntax that keeps all rules, and the program is its tree
abbrev pub Reads : List ℕ → Program → Type 0
Reads text program = (t : g.Text) × IsSyntaxOf text t × (faults t ≡ []) × (program ≡ tree_of t)

-- the text is refused for a fault. A fault in the spelling of a token comes where the tokens before it begin a text; a
-- token is unexpected where no text goes on with it after the tokens before it, or stands too deep, and none before it
-- does; and a text that has a syntax is refused for the least of its faults
pub data IsRefused (text : List ℕ) : TalFault → Type 0 where
  misspelt : {f : TalFault} → (tokens_of text).fault ≡ Some f → IsUnfinished MOST_LEVELS (tokens_of text).list
      → IsRefused text f
  unexpected : {f : TalFault} (k : ℕ) (token : Token) → IsUnexpected MOST_LEVELS (tokens_of text).list k
      → slice_get (tokens_of text).list k ≡ Some token
      → f ≡ fault.Expected (place_of token) → IsRefused text f
  too_deep : {f : TalFault} (k : ℕ) (token : Token) → IsTooDeep MOST_LEVELS (tokens_of text).list k
      → slice_get (tokens_of text).list k ≡ Some token
      → f ≡ fault.Limit program_limit.Levels (place_of token) → IsRefused text f
  unruly : {f : TalFault} (t : g.Text) (least : RuleFault) → IsSyntaxOf text t → IsLeast least (faults t)
      → f ≡ answer_of least → IsRefused text f

-- the answer of the reader: the program that the text reads as, or the fault for which it is refused, but where memory
-- ran out
abbrev pub IsRead : List ℕ → Result Program TalFault → Type 0
IsRead text (Ok program) = Reads text program
IsRead text (Err f) = (f ≡ fault.NoMemory no_memory → ⊥) → IsRefused text f

-- what comes of tokens: that memory ran out, or of their syntax the tree or the least of its faults
abbrev pub IsJudged : List Token → Result Program TalFault → Type 0
IsJudged ks result = (result ≡ Err (fault.NoMemory no_memory)) ⊎ ((t : g.Text) × IsSyntax ks t × Judged t result)
