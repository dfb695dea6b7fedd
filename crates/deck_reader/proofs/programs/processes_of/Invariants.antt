use Rattle.deck_reader.proofs.NameLemmas.{AreReadTo}
use Rattle.deck_reader.proofs.programs.processes_of.Given as goal

abbrev pub invariant-loop-name : goal.invariant-loop-name
invariant-loop-name l = AreReadTo l.lines l.name-iterator l.specs l.misnamed
