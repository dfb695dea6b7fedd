use Rattle.std.proofs.Common.{◌≡◌, ◌∙◌, false, ap}
use Rattle.schedule.specs.declared.event.Counts.{Counts}
use Rattle.player.specs.declared.player.Player.{Player}
use Rattle.player.specs.Lines.{next_event, stands_after}
use Rattle.schedule_loop.specs.Looks.{asks_packet}
use Rattle.schedule_loop.proofs.Looking.{stays-unlooked}
use Rattle.schedule_loop.proofs.agenda.Schedule.next_of_line.Goals as goal

stays : (before after : Player) (counts : Counts)
    → after ≡ record before { standing = stands_after (next_event before.sizes before.standing counts) }
    → asks_packet before.standing ≡ false → asks_packet after.standing ≡ false
stays before after counts is none =
    ap (λ (player : Player). asks_packet player.standing) is
    ∙ stays-unlooked before.sizes counts before.standing none

pub invariant_of-self : goal.invariant_of-self
invariant_of-self g c = λ no. stays c.self.inside.player _ _ c.next.ensures.standing (c.self.invariant no)
