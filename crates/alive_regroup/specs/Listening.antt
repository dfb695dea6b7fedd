-- How a node keeps what it knows of the processors: alive packets are noted apart, until something else happens. Only
-- this crate's own code sees this.
use Rattle.std.specs.Prelude.{◌&&◌, not, Bool, true, false, List, [], ◌∷◌, if◌then◌else◌}
use Rattle.std.specs.List.{list_all}
use Rattle.std.specs.Bool.{beq}
use Rattle.std.specs.Cmp.Lexicographic.{pointwise}
use Rattle.alive_regroup.specs.declared.neighbour.Missed.TheVariants as missed
use Rattle.alive_regroup.specs.declared.neighbour.Neighbour.{Neighbour}
use Rattle.alive_regroup.specs.declared.neighbour.Neighbour.TheVariants.{Absent, Up, Down}
use Rattle.alive_regroup.specs.Sets.{nobody}
use Rattle.alive_regroup.specs.Watching.{Watching, neighbour_after_alive}

-- after an alive packet from it, if one came
abbrev pub neighbour_if_heard : Bool → Neighbour → Neighbour
neighbour_if_heard heard one = if heard then neighbour_after_alive one else one

-- after alive packets from those of which one came
abbrev pub all_heard : List Bool → List Neighbour → List Neighbour
all_heard [] all = all
all_heard (heard ∷ more) [] = []
all_heard (heard ∷ more) (one ∷ all) = neighbour_if_heard heard one ∷ all_heard more all

abbrev pub watch_after : List Bool → Watching → Watching
watch_after heard w = record w { neighbours = all_heard heard w.neighbours }

-- an alive packet and then a check leave it as it is, or a check does where it isn't up
abbrev pub is_at_rest : Neighbour → Bool
is_at_rest Absent = true
is_at_rest (Up came missed.None report) = not came
is_at_rest (Up came missed.One report) = false
is_at_rest (Up came missed.More report) = false
is_at_rest (Down came) = not came

-- nobody was reported, nothing is due, and each processor is at rest
abbrev pub is_calm : Watching → Bool
is_calm w =
    not w.due && (pointwise beq w.told.members nobody.members && list_all is_at_rest w.neighbours)
