use Rattle.packets_laws.proofs.Runs.{played-comes}
use Rattle.packets_laws.proofs.laws.what_comes_was_sent.Goals as goal

pub returns : goal.returns
returns c = λ site events s fit small out few played. played-comes site fit small out events s few played
