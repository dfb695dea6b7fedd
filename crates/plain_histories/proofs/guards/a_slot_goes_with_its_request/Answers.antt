use Rattle.std.proofs.Common.{refl, arith}
use Rattle.plain_histories.specs.Slots.{is_empty, is_waiting, is_taken, is_answered, is_newest, is_older}
use Rattle.plain_histories.proofs.guards.a_slot_goes_with_its_request.Goals as goal

pub returns : goal.returns
returns c = record {
  waits = λ words. is_waiting refl refl refl;
  taken = λ words. is_taken refl (omega arith) refl;
  answered = λ words reply. is_answered refl refl refl;
  got = λ words reply. is_empty refl refl refl;
  first = λ words next. is_older (is_newest (omega arith));
  second = λ words next. is_newest (omega arith);
}
