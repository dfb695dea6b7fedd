-- The printed text of a program that a text reads as, reads as a program that is the same but for lines.
use Rattle.std.proofs.Common.{ℕ, List, refl, sym, ap, ◌∙◌, subst}
use Rattle.std.specs.Prelude.{None}
use Rattle.tal_tree.specs.declared.program.Program.{Program}
use Rattle.tal_meaning.specs.Programs.{tree_of}
use Rattle.tal_reader.specs.Reads.{Reads}
use Rattle.tal_pieces.specs.Printed.Procedures.{program_pieces}
use Rattle.tal_pieces.specs.ReadsAgain.{ReadsAgain}
use Rattle.tal_pieces.specs.Spelling.{text_of_pieces}
use Rattle.tal_pieces.proofs.Standing.BodiesStand.{bodies_stand}
use Rattle.tal_pieces.proofs.Spelling.Cut.{cuts}
use Rattle.tal_pieces.proofs.Declarations.HeadingsBack.{headings_read_back}
use Rattle.tal_pieces.proofs.Declarations.ItemsBack.{lines_read_back}
use Rattle.tal_pieces.proofs.Bodies.RowBack.{bodies_read_back}
use Rattle.tal_pieces.proofs.Scopes.ScopesAgree.{scopes_agree, file_items_are_simple}
use Rattle.tal_pieces.proofs.Texts.TextBack.{text_back}
use Rattle.tal_pieces.proofs.Words.WordsOfTexts.{printed_can_be_spelled}

pub reads_again : (program : Program) (source : List ℕ) → Reads source program
    → ReadsAgain (text_of_pieces (program_pieces program)) program
reads_again program source reads =
    let t = reads.0 in
    let cut = cuts (program_pieces (tree_of t)) (printed_can_be_spelled source t reads.1.1 reads.2) in
    let back = text_back bodies_read_back bodies_stand scopes_agree file_items_are_simple headings_read_back
    lines_read_back
    t cut.list reads.2 reads.1.2 cut.pieces in
    subst (λ p. ReadsAgain (text_of_pieces (program_pieces p)) p) (sym reads.3) (record {
      again = tree_of back.syntax;
      reads = (
        back.syntax,
        (
          back.is,
          cut.tokens
              ∙ ap (λ ks. record { list = ks; fault = None }) back.front,
          back.shallow,
        ),
        back.faultless,
        refl,
      );
      same = back.same;
    })
