use Rattle.std.proofs.Common.{List, ap, ◌∙◌}
use Rattle.mirror.specs.Mirror.{DriveHeld}
use Rattle.mirror.specs.States.{states_of, states_revived}
use Rattle.mirror.proofs.States.{states-revived}
use Rattle.disc_device.proofs.disc.Disc.revive.Goals as goal

pub returns-clause-states : goal.returns-clause-states
returns-clause-states c =
    ap states_of c.revive.ensures.drives ∙ states-revived c.args.drive c.self.inside.drives
    ∙ ap (λ (drives : List DriveHeld). states_revived c.args.drive (states_of drives)) c.self.view_is
