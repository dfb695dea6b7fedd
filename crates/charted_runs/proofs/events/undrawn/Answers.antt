use Rattle.std.proofs.Common.{Option, subst, sym}
use Rattle.traced_runs.specs.packet_runs.specs.Runs.{packet_rules}
use Rattle.schedule_loop.specs.Ends.{IsTriedBy}
use Rattle.schedule_loop.specs.declared.ran.Ending.{Ending}
use Rattle.traced_runs.proofs.Tried.{tried_by}
use Rattle.charted_runs.proofs.events.undrawn.Goals as goal

pub returns-clause-tried : goal.returns-clause-tried
returns-clause-tried c =
    subst (λ (ending : Option Ending). IsTriedBy packet_rules c.args.machine.now.state c.args.event
    c.event.new.self.state ending)
    (sym c.ending_of.ensures)
    (tried_by c.args.machine.now.state c.event.new.self.state c.args.event c.in_ok-effect.effect
    c.in_ok-effect.ensures.done)
