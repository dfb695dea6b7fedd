use Rattle.std.proofs.Common.{◌∙◌, ap, false, subst, sym}
use Rattle.packet_runs.specs.Runs.{course_on, packet_rules}
use Rattle.schedule_loop.specs.Ends.{CanBePlayed}
use Rattle.packet_runs.specs.site_machine.specs.Needs.{IsReady}
use Rattle.packet_runs.specs.site_machine.specs.Seen.{MachineStanding}
use Rattle.packet_runs.specs.site_machine.specs.packet_wires.specs.Play.{packeted_at_boot}
use Rattle.packet_runs.specs.site_machine.specs.process_copies.specs.Starting.{IsStartable}
use Rattle.tal_tree.specs.declared.site.Site.{Site}
use Rattle.traced_runs.specs.Traces.{Traces}
use Rattle.traced_runs.proofs.Ends.{without_memory_at_first}
use Rattle.traced_runs.proofs.running.run.Goals as goal

pub played-requires-clause-can : goal.played-requires-clause-can
played-requires-clause-can g c =
    subst (λ site. CanBePlayed packet_rules IsReady (course_on site c.args.lines.now c.args.stop))
    (sym c.get.ensures) c.requires.can

pub played-requires-clause-startable : goal.played-requires-clause-startable
played-requires-clause-startable g c = subst (λ site. IsStartable site) (sym c.get.ensures) c.requires.startable

pub played-requires-clause-booted : goal.played-requires-clause-booted
played-requires-clause-booted g c =
    let booted : Site → MachineStanding = λ site. record { is_broken = false; state = packeted_at_boot site } in
    c.in-Ok.ensures ∙ ap booted (sym c.get.ensures)

pub returns-in-Ok : goal.returns-in-Ok
returns-in-Ok g c =
    subst (λ site. Traces g.K.Sink.held g.K.Sink.faults g.K.Sink.sure c.args.sink.now c.played.new.sink site
    c.args.places.now c.args.lines.now c.args.stop c.args.manner c.played.result) c.get.ensures c.played.ensures

pub returns-in-Err : goal.returns-in-Err
returns-in-Err g c =
    without_memory_at_first g.K.Sink.held g.K.Sink.faults g.K.Sink.sure c.args.sink.now (record {
      site = c.args.site.now;
      places = c.args.places.now;
      lines = c.args.lines.now;
      stop = c.args.stop;
      manner = c.args.manner;
    }) c.in-Err.memory
