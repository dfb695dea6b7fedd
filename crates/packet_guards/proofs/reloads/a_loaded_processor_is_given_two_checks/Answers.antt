use Rattle.packet_guards.proofs.Loading.{a-loaded-processor-is-given-two-checks-three}
use Rattle.packet_guards.proofs.Loading.{a-loaded-processor-is-given-two-checks-four}
use Rattle.packet_guards.proofs.reloads.a_loaded_processor_is_given_two_checks.Goals as goal

pub returns : goal.returns
returns c = record {
  three = a-loaded-processor-is-given-two-checks-three;
  four = a-loaded-processor-is-given-two-checks-four;
}
