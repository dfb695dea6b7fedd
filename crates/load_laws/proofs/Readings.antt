-- The programs of the banks read as these.
use Rattle.std.proofs.Common.{◌≡◌, ℕ, zero, suc, List, [], ◌++◌, ◌%◌, None, length, refl, codes}
use Rattle.std.specs.Fmt.{decimal, digits}
use Rattle.std.specs.Int.{int_wrap}
use Rattle.tal_tokens.specs.Lexer.{tokens_of}
use Rattle.tal_syntax.specs.Grammar as g
use Rattle.tal_syntax.specs.Nesting.{nest_text}
use Rattle.tal_syntax.specs.Expected.{AllAtMost}
use Rattle.tal_rules.specs.Texts.{faults}
use Rattle.tal_meaning.specs.Programs.{tree_of}
use Rattle.deck_reader.specs.tal_reader.specs.Reads.{Reads}
use Rattle.accepted_sites.proofs.Readings.{all-low}
use Rattle.load_deck.specs.LoadText.{line, program_head, program_middle}
use Rattle.load_laws.specs.LoadDeck.{bank_program}
use Rattle.load_laws.proofs.BankSyntax.{program_syntax, syntax_with}
use Rattle.load_laws.proofs.Below.{AllBelow}

-- what stands behind the number of the sector
abbrev program_end : List ℕ
program_end =
    line (codes ";") ++ line (codes "    out[2] := total;") ++ line (codes "    CALL WRITEREAD(disk, out, 3, 1, got);")
    ++ line (codes "    buf[0] := total;")
    ++ line (codes "    CALL REPLY(buf, 1);") ++ line (codes "  END;") ++ line (codes "END;")

abbrev pub program_text : ℕ → ℕ → List ℕ
program_text disc sector = program_head ++ decimal disc ++ program_middle ++ decimal sector ++ program_end

-- the text of a bank's program is cut into the tokens of its syntax
abbrev IsCut : ℕ → Type 0
IsCut number = tokens_of (program_text (number % 2) number)
    ≡ record { list = g.of_text (program_syntax (number % 2) number); fault = None }

each-cut : AllBelow IsCut 12
unfolding int_wrap digits
each-cut = ((((((((((((tt, refl), refl), refl), refl), refl), refl), refl), refl), refl), refl), refl), refl)

free : (disc sector wide : ℕ) → faults (syntax_with disc sector wide) ≡ []
unfolding int_wrap
free disc sector wide = refl

tree : (disc sector wide : ℕ) → bank_program disc sector ≡ tree_of (syntax_with disc sector wide)
unfolding int_wrap
tree disc sector wide = refl

text : (disc sector wide : ℕ) → g.IsText (syntax_with disc sector wide)
text disc sector wide =
    ((tt, (tt, (tt, ((tt, (tt, (tt, (tt, (tt, (tt, (tt, (tt, (tt, (tt, tt)))))))))), (tt, tt))))), tt)

low : (disc sector wide : ℕ) → AllAtMost 33 (nest_text (syntax_with disc sector wide))
low disc sector wide = all-low 33 (nest_text (syntax_with disc sector wide)) refl

reads : (disc sector wide : ℕ) (source : List ℕ)
    → tokens_of source ≡ record { list = g.of_text (syntax_with disc sector wide); fault = None }
    → Reads source (bank_program disc sector)
reads disc sector wide source cut = (
  syntax_with disc sector wide,
  (text disc sector wide, cut, low disc sector wide),
  free disc sector wide,
  tree disc sector wide,
)

-- the text of a bank's program reads as its program
abbrev pub IsRead : ℕ → Type 0
IsRead number = Reads (program_text (number % 2) number) (bank_program (number % 2) number)

from-cut : (bound : ℕ) → AllBelow IsCut bound → AllBelow IsRead bound
from-cut zero all = tt
from-cut (suc number) all = (
  from-cut number all.0,
  reads (number % 2) number (length (decimal number)) (program_text (number % 2) number)
      all.1,
)

pub each-read : AllBelow IsRead 12
each-read = from-cut 12 each-cut
