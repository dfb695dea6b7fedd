use Rattle.break_runs.proofs.Few.{ended-few}
use Rattle.break_runs.proofs.laws.a_run_does_few_acts.Goals as goal

pub returns : goal.returns
returns c = λ site lines stop ran is.
    ended-few site lines stop is.events is.state ran.machine.state ran.asked ran.ending is.few is.ends
