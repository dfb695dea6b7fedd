use Rattle.std.proofs.Common.{◌≡◌, ◌++◌}
use Rattle.load_deck.specs.LoadText.{requests}
use Rattle.load_deck.proofs.text.put_requests.Given as goal

abbrev pub invariant-loop-before : goal.invariant-loop-before
invariant-loop-before l = l.text.items ≡ l.initial.text.items ++ requests l.terminal l.before
