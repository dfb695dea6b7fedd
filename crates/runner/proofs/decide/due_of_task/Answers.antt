use Rattle.std.proofs.Common.{ap}
use Rattle.command_dues.specs.Tasks.{judges}
use Rattle.runner.proofs.decide.due_of_task.Goals as goal

pub due_of_run-requires-clause-accepted : goal.due_of_run-requires-clause-accepted
due_of_run-requires-clause-accepted c = c.requires.accepted (ap judges c.in-Run.is)

pub due_of_sweep-requires-clause-accepted : goal.due_of_sweep-requires-clause-accepted
due_of_sweep-requires-clause-accepted c = c.requires.accepted (ap judges c.in-Sweep.is)
