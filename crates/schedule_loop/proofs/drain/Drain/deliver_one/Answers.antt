use Rattle.std.proofs.Common.{refl, inl, arith, subst, sym}
use Rattle.player.specs.declared.standing.Place.TheVariants as place
use Rattle.schedule.specs.declared.event.Event.TheVariants.{Deliver}
use Rattle.machine_states.specs.States.{State}
use Rattle.schedule_loop.specs.Drained.{Drains, IsDrained, Takes}
use Rattle.player.specs.Rounds.{turn}
use Rattle.schedule_loop.proofs.Draining.{makes}
use Rattle.schedule_loop.proofs.Drained.{delivers-one, due-then, plays-one, told-due, told-onward, stays}
use Rattle.schedule_loop.proofs.drain.Drain.deliver_one.Goals as goal

pub returns-then-deliver_at_once-clause-drains : goal.returns-then-deliver_at_once-clause-drains
returns-then-deliver_at_once-clause-drains g c =
    plays-one g.M.ScheduleMachine.rules c.args.rest c.args.self.now c.stand.new.self (g.M.ScheduleMachine.state
    c.args.machine.now)
    (g.M.ScheduleMachine.state c.deliver_at_once.new.self) (Deliver c.args.bus 0)
    (place.Delivers c.args.bus c.args.left)
    (delivers-one g.M.ScheduleMachine.rules c.args.rest c.args.self.now (g.M.ScheduleMachine.state c.args.machine.now)
    c.args.bus c.args.left
    c.requires.due) (omega (arith, c.if-self.false))
    (inl (makes (g.M.ScheduleMachine.rules.play (g.M.ScheduleMachine.state c.args.machine.now) (Deliver c.args.bus 0))
    (g.M.ScheduleMachine.state c.args.machine.now)
    (g.M.ScheduleMachine.state c.deliver_at_once.new.self) c.if-deliver_at_once.ensures.done)) c.stand.ensures

pub returns-then-deliver_at_once-clause-due : goal.returns-then-deliver_at_once-clause-due
returns-then-deliver_at_once-clause-due g c =
    due-then g.M.ScheduleMachine.rules c.args.rest c.args.self.now c.stand.new.self (g.M.ScheduleMachine.state
    c.deliver_at_once.new.self)
    (place.Delivers c.args.bus c.args.left) refl c.stand.ensures

pub play-requires-clause-can : goal.play-requires-clause-can
play-requires-clause-can g c =
    subst (λ (s : State _). IsDrained g.M.ScheduleMachine.rules g.M.ScheduleMachine.is_ready c.args.self.now s) (sym
    c.if-deliver_at_once.ensures.same)
    c.requires.can

pub play-requires-clause-takes : goal.play-requires-clause-takes
play-requires-clause-takes g c =
    subst (λ (s : State _). Takes g.M.ScheduleMachine.rules c.args.rest c.args.self.now s
    (turn (Deliver c.args.bus 0) (place.Delivers c.args.bus c.args.left))) (sym c.if-deliver_at_once.ensures.same)
    (delivers-one g.M.ScheduleMachine.rules c.args.rest c.args.self.now (g.M.ScheduleMachine.state c.args.machine.now)
    c.args.bus c.args.left
    c.requires.due)

pub returns-clause-drains : goal.returns-clause-drains
returns-clause-drains g c =
    told-onward g.M.ScheduleMachine.rules c.args.self.now c.args.self.now c.play.new.self (g.M.ScheduleMachine.state
    c.args.machine.now)
    (g.M.ScheduleMachine.state c.deliver_at_once.new.self) (g.M.ScheduleMachine.state c.play.new.machine) c.play.result
    (subst (λ (s : State _). Drains g.M.ScheduleMachine.rules c.args.self.now c.args.self.now (g.M.ScheduleMachine.state
    c.args.machine.now) s)
    (sym c.if-deliver_at_once.ensures.same)
    (stays g.M.ScheduleMachine.rules c.args.self.now (g.M.ScheduleMachine.state c.args.machine.now)))
    c.play.ensures.drains

pub returns-clause-due : goal.returns-clause-due
returns-clause-due g c =
    told-due g.M.ScheduleMachine.rules c.args.rest c.args.self.now c.play.new.self (g.M.ScheduleMachine.state
    c.play.new.machine)
    (place.Delivers c.args.bus c.args.left) c.play.result refl c.play.ensures.stands
