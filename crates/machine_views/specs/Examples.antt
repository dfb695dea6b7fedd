-- Worked examples: marks, a process whose backup is in the lower processor, and a disc of two sectors on one of which
-- was written.
use Rattle.std.specs.Prelude.{ℕ, ℤ, pos, List, [], ◌∷◌, codes, replicate, None}
use Rattle.tal_tree.specs.declared.site.Kind.TheVariants as kind
use Rattle.tal_tree.specs.declared.site.ProcessSpec.{ProcessSpec}
use Rattle.disc_device.specs.Sectors.{blank}
use Rattle.process_semantics.specs.Disc.{disc_start}
use Rattle.process_semantics.specs.Process.{Serves}
use Rattle.world_semantics.specs.Core.{Core}
use Rattle.world_semantics.specs.Examples.{adder, adder_for}
use Rattle.world_semantics.specs.World as world
use Rattle.world_semantics.specs.World.{Pair, pair_at_boot}
use Rattle.machine_views.specs.declared.views.DownView.{DownView}
use Rattle.machine_views.specs.declared.views.SectorView.{SectorView}

-- the mark of a processor by a node, as it stands and as it is told
abbrev pub standing : ℕ → ℕ → world.Down
standing node processor = record { node = node; down = processor }

abbrev pub told : ℕ → ℕ → DownView
told node processor = record { node = node; down = processor }

-- the adder with its first copy in the processor 1 and its second in 0, at its beginning
abbrev pub turned : ProcessSpec
turned = record { name = codes "$ADD"; primary = 1; backup = 0; what = kind.Pair adder }

abbrev pub turned_pair : Pair
turned_pair = pair_at_boot (adder_for (pos 5 ∷ [])) 0 turned

-- a core whose next request on its file is the fourth
abbrev pub fourth_next : Core
fourth_next = record { state = Serves 1 disc_start; next = 4 ∷ []; receive = record { openers = []; in_hand = None } }

abbrev pub sevens : List ℤ
sevens = replicate 8 (pos 7)

-- the adder's two copies, with a device of two sectors on which the fifth write put sevens
abbrev pub written_pair : Pair
written_pair = record turned_pair { sectors = blank ∷ record { words = sevens; number = 5 } ∷ [] }

abbrev pub sector : ℕ → ℕ → List ℤ → ℕ → SectorView
sector process place words number = record { process = process; sector = place; words = words; number = number }
