use Rattle.std.proofs.Common.{◌&&◌, Bool, ap, ◌∙◌}
use Rattle.std.specs.Prelude.{nat_le}
use Rattle.discipline.proofs.Broken.{no-top, no-next, next-breaks}
use Rattle.discipline.proofs.walk.Course.breaks.Goals as goal

pub returns-in_default : goal.returns-in_default
returns-in_default c =
    no-top c.args.self.program.now c.args.self.reason c.args.walker.now.stack c.args.walker.now.due c.in_default.ensures

pub returns-in_default-next : goal.returns-in_default-next
returns-in_default-next c =
    no-next c.args.self.program.now c.args.self.reason c.args.walker.now.stack c.args.walker.now.due c.in-Some.top
    c.in-Some.ensures c.in_default-next.ensures

pub returns-then-may_break_at : goal.returns-then-may_break_at
returns-then-may_break_at c =
    next-breaks c.args.self.program.now c.args.self.reason c.args.walker.now.stack c.args.walker.now.due c.in-Some.top
    c.in-Some.ensures c.in-Some-next.found c.args.self.most _ c.in-Some-next.ensures
    c.requires.most c.requires.there (ap (λ (b : Bool). b && nat_le c.args.self.most c.args.walker.now.due)
    c.if-may_break_at.ensures)

pub returns-else-may_break_at : goal.returns-else-may_break_at
returns-else-may_break_at c =
    next-breaks c.args.self.program.now c.args.self.reason c.args.walker.now.stack c.args.walker.now.due c.in-Some.top
    c.in-Some.ensures c.in-Some-next.found c.args.self.most _ c.in-Some-next.ensures
    c.requires.most c.requires.there (c.if-may_break_at.false
    ∙ ap (λ (b : Bool). b && nat_le c.args.self.most c.args.walker.now.due) c.if-may_break_at.ensures)
