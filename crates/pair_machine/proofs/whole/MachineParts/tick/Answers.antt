use Rattle.pair_machine.proofs.Room.{watchers-room}
use Rattle.pair_machine.proofs.whole.MachineParts.tick.Goals as goal

pub mark_stopped-requires-clause-watching : goal.mark_stopped-requires-clause-watching
mark_stopped-requires-clause-watching c = watchers-room c.args.self.now c.requires.room
