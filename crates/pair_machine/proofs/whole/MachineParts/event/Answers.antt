use Rattle.schedule.specs.declared.event.Event.TheVariants.{Deliver, Enter, Run, Tick}
use Rattle.pair_machine.proofs.Room.{played-counted}
use Rattle.pair_machine.proofs.whole.MachineParts.event.Goals as goal

pub run-requires-clause-letters : goal.run-requires-clause-letters
run-requires-clause-letters c = played-counted c.args.self.now c.requires.letters (Run c.in-Run.number)

pub enter-requires-clause-letters : goal.enter-requires-clause-letters
enter-requires-clause-letters c = played-counted c.args.self.now c.requires.letters (Enter c.in-Enter.terminal)

pub deliver-requires-clause-letters : goal.deliver-requires-clause-letters
deliver-requires-clause-letters c =
    played-counted c.args.self.now c.requires.letters (Deliver c.in-Deliver.bus c.in-Deliver.k)

pub tick-requires-clause-letters : goal.tick-requires-clause-letters
tick-requires-clause-letters c = played-counted c.args.self.now c.requires.letters (Tick c.in-Tick.node)
