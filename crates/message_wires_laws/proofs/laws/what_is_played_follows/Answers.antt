use Rattle.message_wires_laws.proofs.Runs.{played-letters, played-world, played-sent}
use Rattle.message_wires_laws.proofs.laws.what_is_played_follows.Goals as goal

pub returns : goal.returns
returns c = record {
  letters = λ site events s fit apart few played. played-letters site fit apart events s few played;
  run = λ site events s fit apart few played. played-world site fit apart events s few played;
  sent = λ site events s one fit apart few played on. played-sent site fit apart events s few played one on;
}
