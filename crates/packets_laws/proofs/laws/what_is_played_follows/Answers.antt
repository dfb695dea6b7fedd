use Rattle.packets_laws.proofs.Runs.{played-post, played-world}
use Rattle.packets_laws.proofs.laws.what_is_played_follows.Goals as goal

pub returns : goal.returns
returns c = record {
  letters = λ site events s fit small out few played. played-post site fit small out events s few played;
  run = λ site events s fit small out few played. played-world site fit small out events s few played;
}
