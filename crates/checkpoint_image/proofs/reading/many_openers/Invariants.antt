use Rattle.std.proofs.Common.{◌≡◌, ◌-◌}
use Rattle.checkpoint_image.specs.Reading.{many_in, opener_in}
use Rattle.checkpoint_image.proofs.Turns.{after}
use Rattle.checkpoint_image.proofs.reading.many_openers.Given as goal

abbrev pub invariant-loop-turn : goal.invariant-loop-turn
invariant-loop-turn l =
    after l.openers (many_in opener_in (l.count - l._turn) l.left) ≡ many_in opener_in l.count l.words
