use Rattle.std.proofs.Common.{◌≡◌, ◌++◌}
use Rattle.load_deck.specs.LoadText.{banks}
use Rattle.load_deck.proofs.text.put_banks.Given as goal

abbrev pub invariant-loop-number : goal.invariant-loop-number
invariant-loop-number l = l.text.items ≡ l.initial.text.items ++ banks l.number
