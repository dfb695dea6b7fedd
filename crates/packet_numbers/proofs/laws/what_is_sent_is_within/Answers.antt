use Rattle.packet_numbers.proofs.Sendings.{sends-within}
use Rattle.packet_numbers.proofs.laws.what_is_sent_is_within.Goals as goal

pub returns : goal.returns
returns c = λ site events post fit small out few played. sends-within site fit small out events post few played
