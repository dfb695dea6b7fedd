use Rattle.std.proofs.Common.{◌<◌, List, length, subst, sym}
use Rattle.mirror.specs.Mirror.{DriveHeld, IsMirror, content, drives_of}
use Rattle.mirror.proofs.Mirrors.{mirror-written}
use Rattle.mirror.proofs.drives.Drives.write.Goals as goal

pub invariant_of-self : goal.invariant_of-self
invariant_of-self g c =
    subst IsMirror (sym c.write_all.ensures)
    (mirror-written c.args.sector _ (drives_of c.self.inside.first c.self.inside.second)
    (subst (λ (drives : List DriveHeld). c.args.sector < length (content drives)) (sym c.self.view_is) c.requires)
    c.self.invariant)
