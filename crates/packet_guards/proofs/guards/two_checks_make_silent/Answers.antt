use Rattle.packet_guards.proofs.Lines.{two-checks-make-silent-three, two-checks-make-silent-four}
use Rattle.packet_guards.proofs.Lines.{two-checks-make-silent-heard, two-checks-make-silent-unheard}
use Rattle.packet_guards.proofs.guards.two_checks_make_silent.Goals as goal

pub returns : goal.returns
returns c = record {
  three = two-checks-make-silent-three;
  four = two-checks-make-silent-four;
  heard = two-checks-make-silent-heard;
  unheard = two-checks-make-silent-unheard;
}
