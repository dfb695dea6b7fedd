use Rattle.std.proofs.Common.{◌∙◌, ap, arith, sym}
use Rattle.mirror.specs.Mirror.{drives_of}
use Rattle.mirror.proofs.Mirrors.{first-copied, second-copied}
use Rattle.mirror.proofs.drives.Drives.copy.Goals as goal

pub invariant_of-self : goal.invariant_of-self
invariant_of-self g c =
    (first-copied c.args.self.now c.args.drive c.in-Reviving.next c.get-stored.result _ c.self.inside.first
    c.self.inside.second c.copy.new.self c.self.view_is c.if-drive-eq0.true c.in-Reviving.ensures.state
    c.working.ensures.sectors c.get-stored.ensures c.copy.ensures c.working.ensures.mirror).mirror

pub invariant_of-self-in-Some : goal.invariant_of-self-in-Some
invariant_of-self-in-Some g c =
    (second-copied c.args.self.now c.args.drive c.in-Reviving.next c.get-stored.result _ c.self.inside.first
    c.in-Some.second c.copy-in-Some.new.self (ap (drives_of c.self.inside.first) (sym c.in-Some.is) ∙ c.self.view_is)
    (omega (arith, c.if-drive-eq0.false, c.requires.there)) c.in-Reviving.ensures.state
    c.working.ensures.sectors c.get-stored.ensures c.copy-in-Some.ensures c.working.ensures.mirror).mirror

pub returns-then-drive-eq0-clause-drives : goal.returns-then-drive-eq0-clause-drives
returns-then-drive-eq0-clause-drives g c =
    (first-copied c.args.self.now c.args.drive c.in-Reviving.next c.get-stored.result _ c.self.inside.first
    c.self.inside.second c.copy.new.self c.self.view_is c.if-drive-eq0.true c.in-Reviving.ensures.state
    c.working.ensures.sectors c.get-stored.ensures c.copy.ensures c.working.ensures.mirror).drives

pub returns-then-drive-eq0-clause-content : goal.returns-then-drive-eq0-clause-content
returns-then-drive-eq0-clause-content g c =
    (first-copied c.args.self.now c.args.drive c.in-Reviving.next c.get-stored.result _ c.self.inside.first
    c.self.inside.second c.copy.new.self c.self.view_is c.if-drive-eq0.true c.in-Reviving.ensures.state
    c.working.ensures.sectors c.get-stored.ensures c.copy.ensures c.working.ensures.mirror).kept

pub returns-in-Some-clause-drives : goal.returns-in-Some-clause-drives
returns-in-Some-clause-drives g c =
    (second-copied c.args.self.now c.args.drive c.in-Reviving.next c.get-stored.result _ c.self.inside.first
    c.in-Some.second c.copy-in-Some.new.self (ap (drives_of c.self.inside.first) (sym c.in-Some.is) ∙ c.self.view_is)
    (omega (arith, c.if-drive-eq0.false, c.requires.there)) c.in-Reviving.ensures.state
    c.working.ensures.sectors c.get-stored.ensures c.copy-in-Some.ensures c.working.ensures.mirror).drives
