use Rattle.std.proofs.Common.{◌∙◌, ap, false, subst, sym}
use Rattle.charted_runs.specs.Charts.{Charts}
use Rattle.traced_runs.specs.packet_runs.specs.Runs.{course_on, packet_rules}
use Rattle.schedule_loop.specs.Ends.{CanBePlayed}
use Rattle.traced_runs.specs.site_machine.specs.Needs.{IsReady}
use Rattle.traced_runs.specs.site_machine.specs.Seen.{MachineStanding}
use Rattle.traced_runs.specs.site_machine.specs.packet_wires.specs.Play.{packeted_at_boot}
use Rattle.traced_runs.specs.site_machine.specs.process_copies.specs.Starting.{IsStartable}
use Rattle.tal_tree.specs.declared.site.Site.{Site}
use Rattle.charted_runs.proofs.running.chart_run.Goals as goal

pub played-requires-clause-can : goal.played-requires-clause-can
played-requires-clause-can c =
    subst (λ site. CanBePlayed packet_rules IsReady (course_on site c.args.lines.now c.args.stop))
    (sym c.get.ensures) c.requires.can

pub played-requires-clause-startable : goal.played-requires-clause-startable
played-requires-clause-startable c = subst (λ site. IsStartable site) (sym c.get.ensures) c.requires.startable

pub played-requires-clause-booted : goal.played-requires-clause-booted
played-requires-clause-booted c =
    let booted : Site → MachineStanding = λ site. record { is_broken = false; state = packeted_at_boot site } in
    c.in-Ok.ensures ∙ ap booted (sym c.get.ensures)

pub returns-in-Ok : goal.returns-in-Ok
returns-in-Ok c =
    subst (λ site. Charts site c.args.places.now c.args.lines.now c.args.stop c.args.layout c.args.to c.played.result)
    c.get.ensures c.played.ensures
