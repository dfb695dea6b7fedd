use Rattle.std.proofs.Common.{List, ◌∙◌, ap, rules, subst, sym}
use Rattle.process_semantics.specs.Process.{point}
use Rattle.world_semantics.specs.Running.{own_of}
use Rattle.world_semantics.specs.World.{Copy, copy_of}
use Rattle.disc_device.specs.mirror.specs.declared.state.DriveState.{DriveState}
use Rattle.node_copies.specs.Acting.{HasActed, Scene, own_in}
use Rattle.node_copies.specs.Seen.{CopyAndDepths, drives_on, sectors_on}
use Rattle.process_copies.specs.Acting.{HasStepped, step_by_act}
use Rattle.process_copies.specs.Lending.{one_of, with_one}
use Rattle.process_copies.specs.Seen.{Placed}
use Rattle.process_copies.specs.contracts.copies.ProcessCopies.{the_view}
use Rattle.process_copies.proofs.Steps.{copy-acts, copy-of, depths-of, placed_of, with-device}
use Rattle.process_copies.proofs.copies.ProcessCopies.act.Goals as goal

pub act-requires-clause-point : goal.act-requires-clause-point
act-requires-clause-point c =
    ap (λ (one : CopyAndDepths). point one.copy.core.state) c.of_mut-copy.ensures.value
    ∙ ap (λ (copy : Copy). point copy.core.state)
    (copy-of c.args.which (the_view c.self.inside) c.self.inside.copies
    ∙ ap (λ (p : Placed). copy_of c.args.which p.pair) c.self.view_is)
    ∙ c.requires.point

pub returns-clause-stepped : goal.returns-clause-stepped
returns-clause-stepped c =
    let inside = c.self.inside in
    let k = c.args.which in
    let records = c.args.records.now in
    let before : Placed = the_view c.self.inside in
    let scene : CopyAndDepths → Scene =
    λ one. record { one = one; sectors = before.pair.sectors; records = c.args.records.now } in
    let after : Scene =
    record { one = c.act.new.self; sectors = sectors_on c.act.new.device; records = c.act.new.records } in
    let now : List DriveState → Placed =
    with-device (placed_of before (with_one k inside.copies c.act.new.self)) (sectors_on c.act.new.device) in
    let acted = subst (λ (one : CopyAndDepths). HasActed before.number
    (own_in before.site before.number (scene one) c.args.stands) c.in_ok-step.step (scene one) after)
    c.of_mut-copy.ensures.value
    (c.in_ok-step.ensures.acted inside.site.value (search rules)
    (ap (λ (one : CopyAndDepths). one.depths) c.of_mut-copy.ensures.value
    ∙ depths-of k inside.copies _ c.self.invariant.2 c.self.invariant.3)) in
    let stepped = copy-acts before inside.copies records k c.args.stands c.in_ok-step.step after acted in
    subst (λ (p : Placed). HasStepped (step_by_act p.number k p.pair records
    (own_of p.site p.number k p.pair records c.args.stands)) c.in_ok-step.step p
    (now (drives_on c.act.new.device)) records c.act.new.records) c.self.view_is
    (subst (λ (drives : List DriveState). HasStepped (step_by_act before.number k before.pair records
    (own_of before.site before.number k before.pair records c.args.stands)) c.in_ok-step.step before
    (now drives) records c.act.new.records) (sym c.act.ensures.drives) stepped)
