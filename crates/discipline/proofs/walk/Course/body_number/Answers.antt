use Rattle.std.proofs.Common.{◌∙◌, ap, sym, slice_get}
use Rattle.discipline.proofs.Walking.{body-begins}
use Rattle.discipline.proofs.walk.Course.body_number.Goals as goal

pub returns-in-Some : goal.returns-in-Some
returns-in-Some c = body-begins c.args.self.program.now c.args.procedure c.in-Some.procedure.now c.as_slice.result.now
    c.first_number.result c.first_number.ensures c.as_slice.ensures
    (ap (slice_get c.args.self.program.now.procedures) (sym c.from.ensures) ∙ sym c.in-Some.ensures.value)
