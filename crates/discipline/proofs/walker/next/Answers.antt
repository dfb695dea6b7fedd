use Rattle.std.proofs.Common.{◌∙◌, ap, sym, slice_get}
use Rattle.discipline.proofs.Walking.{next-none, next-found}
use Rattle.discipline.proofs.walker.next.Goals as goal

pub returns-in-None : goal.returns-in-None
returns-in-None c = next-none c.args.program.now c.args.position
    (ap (slice_get c.args.program.now.procedures) (sym c.from.ensures) ∙ sym c.in-None.ensures.value)

pub returns-in-Some : goal.returns-in-Some
returns-in-Some c =
    next-found c.args.program.now c.args.position c.in-Some.procedure.now c.as_slice.result.now c.find.result
    (ap (slice_get c.args.program.now.procedures) (sym c.from.ensures) ∙ sym c.in-Some.ensures.value)
    c.as_slice.ensures c.find.ensures
