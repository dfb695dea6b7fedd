use Rattle.machine_states.specs.States.{SecondStop, DiscLoss}
use Rattle.bounded_runs.proofs.Calm.{nobody-held}
use Rattle.bounded_runs.proofs.Runs.{never-harmed}
use Rattle.bounded_runs.proofs.laws.a_clear_run_of_a_calm_schedule_stops_nobody.Goals as goal

pub returns-clause-held : goal.returns-clause-held
returns-clause-held c = λ site few lines stop calm ran run clear moment within plan comes next playing.
    nobody-held site lines stop calm.0 few moment.events moment.agenda moment.state moment.played plan comes next
    playing _ clear within

pub returns-clause-second : goal.returns-clause-second
returns-clause-second c = λ site few lines stop calm ran run clear p.
    never-harmed site few lines stop calm ran run clear (SecondStop p)

pub returns-clause-lost : goal.returns-clause-lost
returns-clause-lost c = λ site few lines stop calm ran run clear p.
    never-harmed site few lines stop calm ran run clear (DiscLoss p)
