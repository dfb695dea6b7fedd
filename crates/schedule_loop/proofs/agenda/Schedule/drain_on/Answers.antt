use Rattle.std.proofs.Common.{◌∙◌, ap}
use Rattle.player.specs.declared.player.Player.{Player}
use Rattle.schedule_loop.specs.Looks.{asks_packet}
use Rattle.schedule_loop.specs.Seen.{Scheduled}
use Rattle.schedule_loop.specs.Drained.{standing_of}
use Rattle.schedule_loop.proofs.Drained.{from-there, to-there}
use Rattle.schedule_loop.proofs.agenda.Schedule.drain_on.Goals as goal

pub rounds-requires-clause-can : goal.rounds-requires-clause-can
rounds-requires-clause-can g c =
    from-there g.M.ScheduleMachine.rules g.M.ScheduleMachine.is_ready c.args.self.now c.in-Some.drain
    (g.M.ScheduleMachine.state c.args.machine.now) c.args.before
    c.requires.can c.in-Some.ensures.stands c.in-Some.ensures.played c.in-Some.ensures.free

pub returns-in_ok-rounds-in-Some-clause-plays : goal.returns-in_ok-rounds-in-Some-clause-plays
returns-in_ok-rounds-in-Some-clause-plays g c =
    let shown : Player → Scheduled = λ (player : Player). record {
      sizes = player.sizes;
      agenda = record {
        standing = player.standing;
        lines = c.self.inside.lines.now;
        stop = c.self.inside.stop;
        held_back = c.self.inside.held_back;
      };
    } in
    to-there g.M.ScheduleMachine.rules c.args.self.now (shown c.drain_from.new.self) c.in-Some.drain c.rounds.new.self
    (g.M.ScheduleMachine.state c.args.machine.now) (g.M.ScheduleMachine.state c.rounds.new.machine) c.args.before
    c.in-Some.ensures.stands
    c.in-Some.ensures.played c.in-Some.ensures.free c.in_ok-rounds-in-Some.ensures.drains
    (ap shown c.drain_from.ensures
    ∙ ap (λ (all : Scheduled). record all
    { agenda = record all.agenda { standing = standing_of c.rounds.new.self } }) c.self.view_is)

pub invariant_of-self : goal.invariant_of-self
invariant_of-self g c = λ no. ap (λ (player : Player). asks_packet player.standing) c.drain_from.ensures
