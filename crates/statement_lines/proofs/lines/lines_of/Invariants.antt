use Rattle.std.proofs.Common.{◌≡◌, take, flat_map}
use Rattle.statement_lines.specs.Lines.{lines_in}
use Rattle.statement_lines.proofs.lines.lines_of.Given as goal

abbrev pub invariant-loop-procedure : goal.invariant-loop-procedure
invariant-loop-procedure l =
    l.lines ≡ flat_map (λ procedure. lines_in procedure.body) (take l.procedure-index l.procedures)
