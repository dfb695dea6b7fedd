use Rattle.path_steps.proofs.Stepping.{inner-steps, took-steps, asked-steps, got-steps, answered-steps}
use Rattle.path_steps.proofs.Stepping.{checkpointed-steps}
use Rattle.path_steps.proofs.Stepping.{asked-room}
use Rattle.path_steps.proofs.laws.steps_follow_paths.Goals as goal

pub returns : goal.returns
returns c = record {
  inner = inner-steps;
  took = took-steps;
  asked = asked-steps;
  got = got-steps;
  answered = answered-steps;
  checkpointed = checkpointed-steps;
  room = asked-room;
}
