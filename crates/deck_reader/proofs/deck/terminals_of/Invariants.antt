use Rattle.deck_reader.specs.Decks.{IsTerminalOf}
use Rattle.deck_reader.proofs.EachLemmas.{IsDoneTo}
use Rattle.deck_reader.proofs.deck.terminals_of.Given as goal

abbrev pub invariant-loop-name : goal.invariant-loop-name
invariant-loop-name l = IsDoneTo (IsTerminalOf l.processes) l.fn.terminals l.name-iterator l.specs
