use Rattle.std.proofs.Common.{◌∙◌, ap}
use Rattle.noted_rules.specs.packet_runs.specs.Runs.{sizes_of}
use Rattle.noted_rules.specs.packet_runs.specs.site_machine.specs.Seen.{MachineStanding}
use Rattle.noted_rules.proofs.Booted.{can_be_played}
use Rattle.noted_runs.specs.Runs.{ends_at_boot}
use Rattle.noted_runs.specs.Steps.{noting_ends}
use Rattle.noted_runs.proofs.Booted.{booted_ends, is_run, none_noted}
use Rattle.noted_runs.proofs.running.run.Goals as goal

pub run-requires-clause-can : goal.run-requires-clause-can
run-requires-clause-can c =
    can_be_played noting_ends (ends_at_boot c.args.site.now)
    (record { site = c.get-site.result.now; steps = c.in_ok-steps.steps }) c.args.site.now c.args.lines.now c.args.stop
    c.sizes_of.result c.in_ok-packets.packets.machine.state (c.sizes_of.ensures ∙ ap sizes_of c.get-site.ensures)
    (booted_ends c.args.site.now c.get-site.result.now c.in_ok-steps.steps c.get-site.ensures
    (c.in_ok-steps.ensures ∙ ap none_noted c.len.ensures))
    (ap (λ (m : MachineStanding). m.state) c.in_ok-packets.ensures) c.requires.can

pub returns : goal.returns
returns c =
    is_run c.args.site.now c.get-site.result.now c.in_ok-ran.ran.machine.site.now c.args.lines.now c.args.stop
    c.sizes_of.result c.in_ok-steps.steps c.in_ok-ran.ran.machine.steps c.in_ok-packets.packets.machine.state
    c.in_ok-ran.ran.machine.packets.machine.state (c.sizes_of.ensures ∙ ap sizes_of c.get-site.ensures)
    c.get-site.ensures
    (c.in_ok-steps.ensures ∙ ap none_noted c.len.ensures)
    (ap (λ (m : MachineStanding). m.state) c.in_ok-packets.ensures)
    c.in_ok-ran.ran.machine.packets.machine.is_broken c.in_ok-ran.ran.asked c.in_ok-ran.ran.ending c.in_ok-ran.ensures
