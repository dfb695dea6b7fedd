use Rattle.process_copies.proofs.copies.ProcessCopies.run_at_checkpoint.Goals as goal

pub returns-clause-stepped : goal.returns-clause-stepped
returns-clause-stepped c = rw (c.if-free.false, c.if-sent.false) (c.in_ok-step-2.ensures.stepped c.args.records.now)
