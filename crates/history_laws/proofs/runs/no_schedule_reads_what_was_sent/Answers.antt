use Rattle.history_laws.proofs.Schedules.{ends-too, plays-too}
use Rattle.history_laws.proofs.runs.no_schedule_reads_what_was_sent.Goals as goal

pub returns : goal.returns
returns c = record {
  played = λ course other s events agenda alike. plays-too course other alike s events agenda;
  ended = λ course other left is_broken asked ending alike. ends-too course other alike is_broken left asked ending;
}
