use Rattle.std.proofs.Common.{◌≡◌, map, take}
use Rattle.traced_decks.specs.PlacesOf.{program_places}
use Rattle.traced_decks.proofs.places.all_programs.Given as goal

abbrev pub invariant-loop-spec : goal.invariant-loop-spec
invariant-loop-spec l = l.all ≡ map (program_places l.bytes) (take l.spec-index l.specs)
