use Rattle.std.proofs.Common.{◌∙◌, ap}
use Rattle.site_machine.specs.Seen.{MachineStanding}
use Rattle.packet_runs.specs.Runs.{sizes_of}
use Rattle.packet_runs.proofs.Playing.{can-be-played-from, is-run}
use Rattle.packet_runs.proofs.running.run.Goals as goal

pub run-requires-clause-can : goal.run-requires-clause-can
run-requires-clause-can c =
    can-be-played-from c.args.site.now c.args.lines.now c.args.stop c.sizes_of.result
    c.in_ok-packets.packets.machine.state (c.sizes_of.ensures ∙ ap sizes_of c.get.ensures)
    (ap (λ (m : MachineStanding). m.state) c.in_ok-packets.ensures) c.requires.can

pub returns : goal.returns
returns c =
    is-run c.args.site.now c.args.lines.now c.args.stop c.sizes_of.result c.in_ok-packets.packets.machine.state
    c.in_ok-ran.ran.machine.machine.state c.in_ok-ran.ran.machine.machine.is_broken c.in_ok-ran.ran.asked
    c.in_ok-ran.ran.ending (c.sizes_of.ensures ∙ ap sizes_of c.get.ensures)
    (ap (λ (m : MachineStanding). m.state) c.in_ok-packets.ensures) c.in_ok-ran.ensures
