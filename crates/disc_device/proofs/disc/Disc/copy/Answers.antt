use Rattle.std.proofs.Common.{List, ap, length, ◌∙◌}
use Rattle.mirror.specs.Mirror.{DriveHeld, content}
use Rattle.mirror.specs.States.{states_copied, states_of}
use Rattle.mirror.proofs.States.{states-copied}
use Rattle.disc_device.proofs.disc.Disc.copy.Goals as goal

pub returns-clause-states : goal.returns-clause-states
returns-clause-states c =
    ap states_of c.copy.ensures.drives ∙ states-copied c.args.drive c.self.inside.drives c.copy.ensures.mirror
    ∙ ap (λ (drives : List DriveHeld). states_copied (length (content drives)) c.args.drive (states_of drives))
    c.self.view_is
