use Rattle.discipline.proofs.Stepping.{started}
use Rattle.discipline.proofs.walk.Course.start.Goals as goal

pub returns : goal.returns
returns c =
    started c.args.self.program.now c.requires.ordered c.requires.limits c.args.self.reason c.new-stack.result
    c.push.new.self c.body_number-number.result c.settled.result.stack c.settled.result.due
    c.new-stack.ensures c.body_number-number.ensures c.push.ensures.entered c.settled.ensures
