use Rattle.std.proofs.Common.{ap, ◌∙◌}
use Rattle.mirror.specs.States.{states_of}
use Rattle.mirror.proofs.States.{states-written}
use Rattle.disc_device.proofs.disc.Disc.write.Goals as goal

pub returns-clause-states : goal.returns-clause-states
returns-clause-states c =
    ap states_of c.write.ensures.drives ∙ states-written c.self.inside.drives _ _ _ ∙ ap states_of c.self.view_is
