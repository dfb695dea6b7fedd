use Rattle.explain_decks.proofs.DecidedLemmas.{read_fault_is_due}
use Rattle.explain_decks.proofs.entry.tell.Goals as goal

pub returns : goal.returns
returns g c =
    let due = c.due_of_source-due.result in
    let decided = c.due_of_source-due.ensures in
    let comes = c.put_due.ensures in
    record {
      decided = due;
      meanwhile = decided.due.0;
      told = decided.due.1;
      is_due = decided.due.2;
      comes = comes;
      read_whole = decided.read_whole;
      no_read_fault = λ sure e. decided.unfailing sure (read_fault_is_due g.K.Sink.held g.K.Sink.faults g.K.Sink.sure
          due c.args.sink.now c.put_due.new.sink c.put_due.result comes e);
    }
