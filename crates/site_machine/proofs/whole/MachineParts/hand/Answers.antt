use Rattle.site_machine.proofs.whole.MachineParts.hand.Goals as goal

pub mark-requires-clause-watching : goal.mark-requires-clause-watching
mark-requires-clause-watching c = λ number pair there k watches. c.requires.hands.room.processes number pair there k
