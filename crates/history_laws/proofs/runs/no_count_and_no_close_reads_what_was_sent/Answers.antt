use Rattle.history_laws.proofs.Idle.{idle-letters, idle-present}
use Rattle.history_laws.proofs.Schedules.{closed-present, closed-world, counts-present}
use Rattle.history_laws.proofs.runs.no_count_and_no_close_reads_what_was_sent.Goals as goal

pub returns : goal.returns
returns c = record {
  idle = idle-present;
  counts = counts-present;
  close = closed-present;
  idle_over_messages = idle-letters;
  close_of_worlds = closed-world;
}
