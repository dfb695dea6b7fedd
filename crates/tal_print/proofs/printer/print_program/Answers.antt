use Rattle.std.proofs.Common.{◌≡◌, ℕ, List, sym, subst}
use Rattle.std.proofs.lemmas.Result.{IfOk-weaker}
use Rattle.tal_reader.specs.Reads.{Reads}
use Rattle.tal_pieces.specs.Printed.Procedures.{program_pieces}
use Rattle.tal_pieces.specs.ReadsAgain.{ReadsAgain}
use Rattle.tal_pieces.specs.Spelling.{text_of_pieces}
use Rattle.tal_pieces.proofs.Texts.ReadsAgain.{reads_again}
use Rattle.tal_print.proofs.printer.print_program.Goals as goal

pub returns-clause-again : goal.returns-clause-again
returns-clause-again c =
    let program = c.args.program.now in
    IfOk-weaker c.lay_program.result (λ bytes. bytes ≡ text_of_pieces (program_pieces program))
    (λ bytes. (source : List ℕ) → Reads source program → ReadsAgain bytes program)
    (λ bytes e source reads. subst (λ text. ReadsAgain text program) (sym e) (reads_again program source reads))
    c.lay_program.ensures
