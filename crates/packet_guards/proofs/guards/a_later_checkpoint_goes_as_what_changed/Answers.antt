use Rattle.std.proofs.Common.{refl}
use Rattle.packet_guards.proofs.Forms.{checkpoints-go-first, checkpoints-go-later, checkpoints-go-words}
use Rattle.packet_guards.proofs.guards.a_later_checkpoint_goes_as_what_changed.Goals as goal

pub returns : goal.returns
returns c = record {
  none = λ message. refl;
  first = checkpoints-go-first;
  later = checkpoints-go-later;
  words = checkpoints-go-words;
}
