use Rattle.std.proofs.Common.{◌≡◌, ◌-◌}
use Rattle.receive_changes.specs.checkpoint_image.specs.Reading.{many_in}
use Rattle.change_layout.specs.Reading.{change_in}
use Rattle.receive_changes.specs.checkpoint_image.proofs.Turns.{after}
use Rattle.change_layout.proofs.reading.many_changes.Given as goal

abbrev pub invariant-loop-turn : goal.invariant-loop-turn
invariant-loop-turn l =
    after l.changes (many_in change_in (l.count - l._turn) l.left) ≡ many_in change_in l.count l.words
