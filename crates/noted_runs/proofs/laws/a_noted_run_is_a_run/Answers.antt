use Rattle.noted_rules.specs.Noted.{with_notes}
use Rattle.noted_rules.proofs.Forgotten.{run_plain}
use Rattle.noted_runs.specs.Runs.{ends_at_boot}
use Rattle.noted_runs.specs.Steps.{noting_ends}
use Rattle.noted_runs.proofs.laws.a_noted_run_is_a_run.Goals as goal

pub returns : goal.returns
returns c = λ site lines stop noted is.
    run_plain noting_ends (ends_at_boot site) site lines stop noted.ran.machine.is_broken
    (with_notes (record { site = site; steps = noted.steps }) noted.ran.machine.state) noted.ran.asked noted.ran.ending
    is
