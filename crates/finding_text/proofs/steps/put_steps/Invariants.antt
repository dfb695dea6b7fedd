use Rattle.std.proofs.Common.{◌≡◌, ◌+◌, ◌++◌, ◌≤◌, length}
use Rattle.finding_text.specs.Steps.{steps_text}
use Rattle.finding_text.proofs.steps.put_steps.Given as goal

-- what is left is due, and stands where the place says
abbrev pub invariant-loop-number : goal.invariant-loop-number
invariant-loop-number l = record {
  due : l.text ++ steps_text l.bytes l.program l.finding l.way l.place l.left
      ≡ l.fn.text ++ steps_text l.bytes l.program l.finding l.way l.first l.numbers;
  within : l.place + length l.left ≤ l.way.count;
}

abbrev pub decreases-loop-number : goal.decreases-loop-number
decreases-loop-number l = length l.left
