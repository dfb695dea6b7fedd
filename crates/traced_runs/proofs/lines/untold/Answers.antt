use Rattle.std.proofs.Common.{Option, subst, sym}
use Rattle.packet_runs.specs.Runs.{packet_rules}
use Rattle.schedule_loop.specs.Ends.{IsTriedBy}
use Rattle.schedule_loop.specs.declared.ran.Ending.{Ending}
use Rattle.traced_runs.proofs.Tried.{tried_by}
use Rattle.traced_runs.proofs.lines.untold.Goals as goal

pub returns-in-Ok-clause-tried : goal.returns-in-Ok-clause-tried
returns-in-Ok-clause-tried c =
    subst (λ (ending : Option Ending). IsTriedBy packet_rules c.args.machine.now.state c.args.event
    c.event.new.self.state ending)
    (sym c.ending_of.ensures)
    (tried_by c.args.machine.now.state c.event.new.self.state c.args.event c.in-Ok.effect c.in-Ok.ensures.done)
