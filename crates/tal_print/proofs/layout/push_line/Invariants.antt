use Rattle.std.proofs.Common.{◌≡◌, ◌++◌, ◌∷◌, replicate}
use Rattle.tal_print.proofs.layout.push_line.Given as goal

abbrev pub invariant-loop : goal.invariant-loop
invariant-loop l = l.text ≡ l.fn.text ++ 10 ∷ replicate l.counter 32
