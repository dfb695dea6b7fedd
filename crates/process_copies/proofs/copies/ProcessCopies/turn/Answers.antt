use Rattle.std.proofs.Common.{length, subst}
use Rattle.node_copies.specs.machine_states.specs.Drives.{outcome_of_drive_change}
use Rattle.node_copies.specs.Seen.{drives_on, sectors_on}
use Rattle.process_copies.specs.Seen.{Placed}
use Rattle.process_copies.specs.Turning.{TurnsPlaced}
use Rattle.process_copies.specs.contracts.copies.ProcessCopies.{the_view}
use Rattle.process_copies.proofs.Turned.{Standing, turns-placed}
use Rattle.process_copies.proofs.copies.ProcessCopies.turn.Goals as goal

pub returns-clause-process : goal.returns-clause-process
returns-clause-process c =
    let before = the_view c.self.inside in
    let sectors = sectors_on c.turn_on.new.device in
    let states = drives_on c.turn_on.new.device in
    subst (λ (p : Placed). TurnsPlaced (outcome_of_drive_change c.args.change (length p.pair.sectors)
    c.args.drive p.drives) p
    c.turn_on.result (Standing before sectors states)) c.self.view_is
    (turns-placed (outcome_of_drive_change c.args.change (length before.pair.sectors) c.args.drive before.drives) before
    c.turn_on.result sectors states c.turn_on.ensures.sectors c.turn_on.ensures.drives)
