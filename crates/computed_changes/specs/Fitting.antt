-- Which checkpoints a copy takes up. One that doesn't fit is ignored, which is our own rule: the world's rules would
-- let it be applied.
use Rattle.std.specs.Prelude.{ℕ, ◌&&◌, Bool, true, false, List, length, map, nat_lt, Option, None}
use Rattle.std.specs.List.{list_all}
use Rattle.tal_tree.specs.declared.site.Site.{Site}
use Rattle.world_semantics.specs.plain_semantics.specs.Openers.{openers_of}
use Rattle.world_semantics.specs.checkpoint_image.specs.declared.message.FileNumber.{FileNumber}
use Rattle.world_semantics.specs.checkpoint_image.specs.declared.message.Image.{Image}
use Rattle.change_layout.specs.sync_ids.specs.Tables as tables
use Rattle.world_semantics.specs.Core.{Core, put_in}

-- how many replies are kept at most of each opener of a process
abbrev pub depths_of : Site → ℕ → List ℕ
depths_of site number = map (λ opener. opener.depth) (openers_of site number)

-- whether each of the named files is one of those that have these next numbers
abbrev pub are_files : List ℕ → List FileNumber → Bool
are_files next files = list_all (λ named. nat_lt named.file (length next)) files

-- whether what a checkpoint carries fits the core of a process whose openers are of these depths: the files named there
-- are the core's, and the receive table can be that of the process
abbrev pub fits : List ℕ → Core → Image → Bool
fits depths core image =
    are_files core.next image.files && tables.fits (record { table = core.receive; depths = depths }) image.receive

abbrev pub put_where : Core → Image → Bool → Option Core
put_where core image true = put_in core image
put_where core image false = None

-- the core after what a checkpoint carries was put into it; none where it doesn't fit, or where its words are no image
-- of the process
abbrev pub put_fitting : List ℕ → Core → Image → Option Core
put_fitting depths core image = put_where core image (fits depths core image)
