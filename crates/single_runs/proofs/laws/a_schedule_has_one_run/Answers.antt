use Rattle.single_runs.proofs.Runs.{one-run, same-run-played}
use Rattle.single_runs.proofs.laws.a_schedule_has_one_run.Goals as goal

pub returns-clause-run : goal.returns-clause-run
returns-clause-run c = one-run

pub returns-clause-events : goal.returns-clause-events
returns-clause-events c = λ site lines stop ran other one two. (same-run-played site lines stop ran other one two).0

pub returns-clause-state : goal.returns-clause-state
returns-clause-state c = λ site lines stop ran other one two. (same-run-played site lines stop ran other one two).1
