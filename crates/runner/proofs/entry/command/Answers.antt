use Rattle.command_dues.proofs.DecidedLemmas.{read_fault_is_due}
use Rattle.runner.proofs.entry.command.Goals as goal

pub returns : goal.returns
returns g c =
    let due = c.decide-due.result in
    let written = c.write_due-written.result in
    let decided = c.decide-due.ensures in
    let puts = c.write_due-written.ensures in
    let is = c.outcome_of.ensures in
    let outcome = c.outcome_of.result in record {
      decided = due;
      is_due = decided.due;
      is_written = record { result = written; puts = puts; is = is };
      unread = decided.unread;
      read_whole = decided.read_whole;
      no_read_fault = λ sure e. decided.unfailing sure (read_fault_is_due due written outcome is e);
    }
