use Rattle.std.proofs.Common.{◌≡◌, drop}
use Rattle.plain_semantics.specs.Openers.{place_from}
use Rattle.plain_semantics.proofs.opening.place_of.Given as goal

abbrev pub invariant-loop-place : goal.invariant-loop-place
invariant-loop-place l = place_from l.who 0 l.openers ≡ place_from l.who l.place (drop l.place l.openers)
