use Rattle.packet_numbers.proofs.Events.{left-after, played-rests}
use Rattle.packet_numbers.proofs.laws.numbers_are_left.Goals as goal

pub returns : goal.returns
returns c = record {
  few = λ site events s x y node e played there is. let rests = played-rests played x node there y e is in
      (rests.0, rests.1);
  left = λ site events s played few. left-after played few;
}
