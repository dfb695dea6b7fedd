use Rattle.std.proofs.Common.{◌≡◌, ◌∙◌, ◌+◌, ◌-◌, ap, subst, sym}
use Rattle.player.specs.declared.player.Player.{Player}
use Rattle.schedule_loop.specs.Playing.{IsPlaying}
use Rattle.schedule_loop.specs.Looks.{asks_packet}
use Rattle.schedule_loop.specs.Seen.{Scheduled, with_left}
use Rattle.schedule_loop.proofs.Draining.{looks-as-before}
use Rattle.schedule_loop.proofs.agenda.Schedule.deliver_at_once.Goals as goal

pub returns-in-Some-clause-plays : goal.returns-in-Some-clause-plays
returns-in-Some-clause-plays g c =
    let shown : Player → Scheduled = λ (player : Player). record {
      sizes = player.sizes;
      agenda = record {
        standing = player.standing;
        lines = c.self.inside.lines.now;
        stop = c.self.inside.stop;
        held_back = c.self.inside.held_back;
      };
    } in
    let same : shown c.leave.new.self ≡ with_left c.left_behind-left.result c.args.self.now =
    ap shown c.leave.ensures ∙ ap (with_left c.left_behind-left.result) c.self.view_is in
    λ course playing. subst (λ (all : Scheduled). IsPlaying g.M.ScheduleMachine.rules course all
    (g.M.ScheduleMachine.state c.left_behind-left.new.machine)
    (c.args.before + (c.in-Some.packets - c.left_behind-left.result))) (sym same)
    (c.left_behind-left.ensures.plays course playing)

pub invariant_of-self : goal.invariant_of-self
invariant_of-self g c = λ no.
    ap (λ (player : Player). asks_packet player.standing) c.leave.ensures
    ∙ looks-as-before c.left_behind-left.result c.self.inside.player.standing ∙ c.self.invariant no
