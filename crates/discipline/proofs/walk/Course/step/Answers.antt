use Rattle.std.proofs.Common.{inl, refl, Some, None}
use Rattle.discipline.proofs.Stepping.{step-empty, step-none, step-way, step-nowhere, cut-by, one-way, two-ways}
use Rattle.discipline.proofs.Stepping.{second-way}
use Rattle.discipline.proofs.walk.Course.step.Goals as goal

pub returns-in_default : goal.returns-in_default
returns-in_default c = λ stand there at among _.
    step-empty c.args.self.program.now c.args.self.reason c.args.here.now.stack c.args.here.now.due
    c.in_default.ensures stand there at among

pub returns-in_default-next : goal.returns-in_default-next
returns-in_default-next c = λ stand there at among _.
    step-none c.args.self.program.now c.args.self.reason c.args.here.now.stack c.args.here.now.due 0 c.in-Some.top None
    c.in-Some.ensures c.in_default-next.ensures refl stand there at among

pub returns-then-comes_to : goal.returns-then-comes_to
returns-then-comes_to c =
    step-way c.args.self.program.now c.args.self.reason c.args.here.now.stack c.args.here.now.due c.min-due.result
    c.in-Some.top (Some c.in-Some-next.found) c.in-Some.ensures c.in-Some-next.ensures
    c.in-Some-next.found refl c.ways_at-ways.result c.ways_at-ways.ensures
    (cut-by c.args.self.program.now c.args.self.reason c.args.self.most c.args.here.now.due c.min.result
    c.after_entry-after.result c.min-due.result _ c.requires.most c.min.ensures
    c.after_entry-after.ensures.value c.min-due.ensures)
    c.ways_at-ways.result.first (inl refl) c.go-one.result.stack c.go-one.result.due c.args.number c.go-one.ensures
    c.if-comes_to.ensures

pub returns-in_default-second : goal.returns-in_default-second
returns-in_default-second c =
    step-nowhere c.args.self.program.now c.args.self.reason c.args.here.now.stack c.args.here.now.due c.min-due.result
    c.in-Some.top (Some c.in-Some-next.found) c.in-Some.ensures c.in-Some-next.ensures
    c.in-Some-next.found refl c.ways_at-ways.result c.ways_at-ways.ensures
    (cut-by c.args.self.program.now c.args.self.reason c.args.self.most c.args.here.now.due c.min.result
    c.after_entry-after.result c.min-due.result _ c.requires.most c.min.ensures
    c.after_entry-after.ensures.value c.min-due.ensures)
    c.args.number
    (one-way c.args.self.program.now c.args.self.reason c.args.here.now.stack c.min-due.result c.args.number
    c.ways_at-ways.result c.in_default-second.is c.go-one.result.stack c.go-one.result.due c.go-one.ensures
    c.if-comes_to.ensures)

pub returns-then-comes_to-2 : goal.returns-then-comes_to-2
returns-then-comes_to-2 c =
    step-way c.args.self.program.now c.args.self.reason c.args.here.now.stack c.args.here.now.due c.min-due.result
    c.in-Some.top (Some c.in-Some-next.found) c.in-Some.ensures c.in-Some-next.ensures
    c.in-Some-next.found refl c.ways_at-ways.result c.ways_at-ways.ensures
    (cut-by c.args.self.program.now c.args.self.reason c.args.self.most c.args.here.now.due c.min.result
    c.after_entry-after.result c.min-due.result _ c.requires.most c.min.ensures
    c.after_entry-after.ensures.value c.min-due.ensures)
    c.in-Some-second.second (second-way c.ways_at-ways.result c.in-Some-second.second c.in-Some-second.is)
    c.go-other.result.stack c.go-other.result.due c.args.number c.go-other.ensures c.if-comes_to-2.ensures

pub returns-else-comes_to-2 : goal.returns-else-comes_to-2
returns-else-comes_to-2 c =
    step-nowhere c.args.self.program.now c.args.self.reason c.args.here.now.stack c.args.here.now.due c.min-due.result
    c.in-Some.top (Some c.in-Some-next.found) c.in-Some.ensures c.in-Some-next.ensures
    c.in-Some-next.found refl c.ways_at-ways.result c.ways_at-ways.ensures
    (cut-by c.args.self.program.now c.args.self.reason c.args.self.most c.args.here.now.due c.min.result
    c.after_entry-after.result c.min-due.result _ c.requires.most c.min.ensures
    c.after_entry-after.ensures.value c.min-due.ensures)
    c.args.number
    (two-ways c.args.self.program.now c.args.self.reason c.args.here.now.stack c.min-due.result c.args.number
    c.ways_at-ways.result c.in-Some-second.second c.in-Some-second.is c.go-one.result.stack
    c.go-one.result.due c.go-other.result.stack c.go-other.result.due c.go-one.ensures c.if-comes_to.ensures
    c.go-other.ensures c.if-comes_to-2.ensures)
