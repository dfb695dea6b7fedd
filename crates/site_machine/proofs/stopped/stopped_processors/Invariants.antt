use Rattle.std.proofs.Common.{◌≡◌, ◌++◌, drop}
use Rattle.site_machine.specs.Stopped.{stopped_from}
use Rattle.site_machine.proofs.stopped.stopped_processors.Given as goal

abbrev pub invariant-loop-processor : goal.invariant-loop-processor
invariant-loop-processor l = stopped_from 0 l.machine.state.world.stopped
    ≡ l.processors ++ stopped_from l.processor (drop l.processor l.machine.state.world.stopped)
