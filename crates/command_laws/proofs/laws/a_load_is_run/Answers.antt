use Rattle.command_laws.proofs.Commands.{load-run}
use Rattle.command_laws.proofs.laws.a_load_is_run.Goals as goal

pub returns : goal.returns
returns c = load-run
