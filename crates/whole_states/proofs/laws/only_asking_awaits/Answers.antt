use Rattle.whole_states.proofs.Processes.{stays-away, inner-process, took-away, asked-awaits, got-process}
use Rattle.whole_states.proofs.Processes.{answered-process, checkpointed-process, device-away}
use Rattle.whole_states.proofs.laws.only_asking_awaits.Goals as goal

pub returns : goal.returns
returns c = record {
  asked = asked-awaits;
  inner = λ s is. stays-away _ (inner-process s is);
  took = took-away;
  got = λ s words is at. stays-away _ (got-process s words at is);
  answered = λ s is at. stays-away _ (answered-process s at is);
  checkpointed = λ s is at. stays-away _ (checkpointed-process s at is);
  device = device-away;
}
