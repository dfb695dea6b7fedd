use Rattle.calm_runs.proofs.Calm.{calm-asks, never-harm}
use Rattle.calm_runs.proofs.laws.a_calm_schedule_does_no_harm.Goals as goal

pub returns : goal.returns
returns c site few counts counted shown lines stop calm =
    never-harm site few counts counted shown lines stop calm.0 (calm-asks lines stop calm)
