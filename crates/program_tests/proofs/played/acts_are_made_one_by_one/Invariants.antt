use Rattle.std.proofs.Common.{◌+◌, ◌≤◌}
use Rattle.plain_machine.specs.Writes.{most_write}
use Rattle.program_tests.proofs.played.acts_are_made_one_by_one.Given as goal

-- each act that was tried raises the number of the last write by 1 at most
abbrev pub invariant-loop-act : goal.invariant-loop-act
invariant-loop-act g l = (most_write l.plain.state.processes ≤ l.act-index) × (l.act-index ≤ 4)

abbrev pub invariant-loop-place : goal.invariant-loop-place
invariant-loop-place g l = most_write l.plain.state.processes ≤ 4 + l.place-counter
