use Rattle.packet_numbers.proofs.Ready.{is-ready}
use Rattle.packet_numbers.proofs.laws.what_is_played_is_ready.Goals as goal

pub returns : goal.returns
returns c = λ site events s fit small out few played. is-ready site events s fit small out few played
