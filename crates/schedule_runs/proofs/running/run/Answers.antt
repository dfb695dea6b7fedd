use Rattle.std.proofs.Common.{rules, ◌∙◌, ◌≤◌, ap}
use Rattle.pair_machine.specs.Seen.{MachineStanding}
use Rattle.schedule_runs.specs.Runs.{sizes_of}
use Rattle.schedule_runs.proofs.Playing.{can-be-played-from, is-run}
use Rattle.schedule_runs.proofs.running.run.Goals as goal

pub run-requires-clause-can : goal.run-requires-clause-can
run-requires-clause-can c =
    let few : c.sizes_of.result.processors ≤ 255 = search rules in
    can-be-played-from c.args.site.now c.args.lines.now c.args.stop c.sizes_of.result
    c.in_ok-pairs.pairs.machine.state (c.sizes_of.ensures ∙ ap sizes_of c.get.ensures)
    (ap (λ (m : MachineStanding). m.state) c.in_ok-pairs.ensures) c.requires.startable.limits few c.requires.few

pub returns : goal.returns
returns c =
    is-run c.args.site.now c.args.lines.now c.args.stop c.sizes_of.result c.in_ok-pairs.pairs.machine.state
    c.in_ok-ran.ran.machine.machine.state c.in_ok-ran.ran.machine.machine.is_broken c.in_ok-ran.ran.asked
    c.in_ok-ran.ran.ending (c.sizes_of.ensures ∙ ap sizes_of c.get.ensures)
    (ap (λ (m : MachineStanding). m.state) c.in_ok-pairs.ensures) c.in_ok-ran.ensures
