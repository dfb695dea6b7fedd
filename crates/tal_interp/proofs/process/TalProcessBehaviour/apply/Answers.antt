use Rattle.tal_interp.proofs.Keeps.{applied-sound}
use Rattle.tal_interp.proofs.process.TalProcessBehaviour.apply.Goals as goal

pub invariant_of-self : goal.invariant_of-self
invariant_of-self c =
    applied-sound c.apply.result c.self.inside.interpreter c.apply.new.self c.args.in_hand c.args.words.now
    c.self.invariant c.apply.ensures.program
    c.apply.ensures.applied c.apply.ensures.unchanged
