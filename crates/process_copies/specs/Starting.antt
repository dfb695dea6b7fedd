-- The sites on which the machines of copies start.
use Rattle.std.specs.Prelude.{◌<◌, ◌≤◌, ℕ}
use Rattle.std.specs.List.{All}
use Rattle.tal_tree.specs.declared.program.FileUse.{FileUse}
use Rattle.tal_tree.specs.declared.site.Kind.{Kind}
use Rattle.tal_tree.specs.declared.site.Kind.TheVariants as kind
use Rattle.tal_tree.specs.declared.site.ProcessSpec.{ProcessSpec}
use Rattle.tal_tree.specs.declared.site.Site.{Site}
use Rattle.node_copies.specs.machine_states.specs.Drives.{states_at_boot}
use Rattle.plain_semantics.specs.declared.slot.Opener.{Opener}
use Rattle.plain_semantics.specs.Openers.{files_of}
use Rattle.plain_semantics.specs.SiteLimits.{KeepsSiteLimits}
use Rattle.node_copies.specs.processes.specs.Seen.{IsLoadableKind}
use Rattle.node_copies.specs.sync_ids.specs.Tables.{IsDepth}
use Rattle.world_semantics.specs.World.{pair_at_boot}
use Rattle.process_copies.specs.Seen.{Placed}
use Rattle.gd_words.specs.declared.limits.TheConstants.{MOST_SECTORS}

-- the process of a number in a site at its beginning
abbrev pub placed_at_boot : Site → ℕ → ProcessSpec → Placed
placed_at_boot site number spec = record {
  site = site;
  number = number;
  pair = pair_at_boot site number spec;
  drives = states_at_boot spec.what;
}

-- a disc has 1 to 64 sectors
abbrev pub HasSectors : Kind → Type 0
HasSectors (kind.Disc sectors mirrored) = (1 ≤ sectors) × (sectors ≤ MOST_SECTORS)
HasSectors (kind.Pair program) = Unit {0}

-- the files of a process are of depths from 1 to 4
abbrev pub HasDepths : Kind → Type 0
HasDepths what = All (λ (file : FileUse). IsDepth file.depth) (files_of what)

-- the numbers of an opener are within those by which requests and replies name it
abbrev pub HasAddress : Opener → Type 0
HasAddress opener = (opener.server < 256) × (opener.place < 65536)

-- the site keeps the limits, each of its processes can be loaded, discs have their sectors, and files their depths
pub record IsStartable (site : Site) : Type 0 where
  pub limits : KeepsSiteLimits site
  pub loadable : All (λ spec. IsLoadableKind spec.what) site.processes
  pub sectors : All (λ spec. HasSectors spec.what) site.processes
  pub depths : All (λ spec. HasDepths spec.what) site.processes
