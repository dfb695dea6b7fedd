use Rattle.std.proofs.Common.{◌≡◌, ℕ, ap, subst, sym}
use Rattle.schedule.specs.declared.bus_name.BusName.TheVariants as bus
use Rattle.schedule.specs.declared.event.Counts.{Counts}
use Rattle.player.specs.declared.standing.Place.TheVariants as place
use Rattle.schedule_loop.specs.Drained.{IsDueAt, counted, standing_of}
use Rattle.schedule_loop.proofs.drain.Drain.deliver_x.Goals as goal

pub deliver-requires-clause-due : goal.deliver-requires-clause-due
deliver-requires-clause-due g c =
    let told : c.tally-counts.result.x
    ≡ (counted g.M.ScheduleMachine.rules c.args.self.now (g.M.ScheduleMachine.state c.args.machine.now)).x =
    ap (λ (counts : Counts). counts.x)
    (c.tally-counts.ensures (record { sizes = c.args.self.now.sizes; standing = standing_of c.args.self.now })) in
    subst (λ (n : ℕ). IsDueAt g.M.ScheduleMachine.rules c.args.rest c.args.self.now (g.M.ScheduleMachine.state
    c.args.machine.now)
    (place.Delivers bus.X n)) (sym told) c.requires.due
