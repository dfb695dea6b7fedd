use Rattle.whole_states.proofs.Processes.{stays-whole, start-process, inner-process, took-process, asked-process}
use Rattle.whole_states.proofs.Processes.{got-process, answered-process, checkpointed-process, device-process}
use Rattle.whole_states.proofs.laws.states_stay_whole.Goals as goal

pub returns : goal.returns
returns c = record {
  start = λ what regular. stays-whole _ (start-process what regular);
  inner = λ s is. stays-whole _ (inner-process s is);
  took = λ s words at few is. stays-whole _ (took-process s words at few is);
  asked = asked-process;
  got = λ s words at is. stays-whole _ (got-process s words at is);
  answered = λ s at is. stays-whole _ (answered-process s at is);
  checkpointed = λ s at is. stays-whole _ (checkpointed-process s at is);
  device = device-process;
}
