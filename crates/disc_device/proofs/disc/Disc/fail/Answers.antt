use Rattle.std.proofs.Common.{List, ap, ◌∙◌}
use Rattle.mirror.specs.Mirror.{DriveHeld}
use Rattle.mirror.specs.States.{states_failed, states_of}
use Rattle.mirror.proofs.States.{states-failed}
use Rattle.disc_device.proofs.disc.Disc.fail.Goals as goal

pub returns-clause-states : goal.returns-clause-states
returns-clause-states c =
    ap states_of c.fail.ensures.drives ∙ states-failed c.fail.result c.args.drive c.self.inside.drives
    ∙ ap (λ (drives : List DriveHeld). states_failed c.fail.result c.args.drive (states_of drives)) c.self.view_is
