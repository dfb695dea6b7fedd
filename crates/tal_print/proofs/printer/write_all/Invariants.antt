use Rattle.std.proofs.Common.{◌≡◌, []}
use Rattle.tal_pieces.specs.Spelling.{lay}
use Rattle.tal_print.specs.Work.{pieces_left, work_left}
use Rattle.tal_print.proofs.printer.write_all.Given as goal

-- what is written and what is left make the whole
abbrev pub invariant-loop-work : goal.invariant-loop-work
invariant-loop-work l = lay l.page (pieces_left l.fn.program l.locals l.list.works.items)
    ≡ lay l.fn.page (pieces_left l.fn.program [] l.fn.list.works.items)

abbrev pub decreases-loop-work : goal.decreases-loop-work
decreases-loop-work l = work_left l.list.works.items
