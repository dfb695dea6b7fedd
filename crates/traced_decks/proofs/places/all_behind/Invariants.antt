use Rattle.std.proofs.Common.{◌≡◌, ◌+◌, map, take}
use Rattle.traced_decks.proofs.places.all_behind.Given as goal

abbrev pub invariant-loop-line : goal.invariant-loop-line
invariant-loop-line l = l.all ≡ map (λ line. l.start + line) (take l.line-index l.lines)
