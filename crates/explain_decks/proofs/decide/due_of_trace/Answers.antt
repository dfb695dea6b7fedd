use Rattle.explain_decks.proofs.decide.due_of_trace.Goals as goal

pub due_of_run-requires-clause-accepted : goal.due_of_run-requires-clause-accepted
due_of_run-requires-clause-accepted c =
    c.unrefused_programs_are_accepted.ensures c.args.bytes.now c.args.deck.site.processes c.in-Ok.judged
    c.in-Ok.ensures c.if-judged.false
