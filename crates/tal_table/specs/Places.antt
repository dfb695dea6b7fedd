-- What remains at each number of a program.
use Rattle.std.specs.Option.{unwrap_or}
use Rattle.std.specs.Prelude.{ℕ, List, [], ◌∷◌, flat_map, slice_get}
use Rattle.tal_tree.specs.declared.program.Program.{Program}
use Rattle.process_semantics.specs.Rests.{rests_of}
use Rattle.process_semantics.specs.State.{Entry}

-- nothing remains at 0, and then stands what remains from each entry of each procedure on, in the order of the text
abbrev pub places : Program → List (List Entry)
places program = [] ∷ flat_map (λ procedure. rests_of procedure.body) program.procedures

-- what remains at a number: nothing past the last one
abbrev pub rest_at : List (List Entry) → ℕ → List Entry
rest_at places number = unwrap_or (slice_get places number) []
