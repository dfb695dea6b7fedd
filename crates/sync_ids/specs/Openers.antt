-- What the parts of a `Receive` stand for.
use Rattle.std.specs.Prelude.{ℕ, [], List, map, Option}
use Rattle.circular_buffer.specs.Buffer.{buffer}
use Rattle.checkpoint_image.specs.declared.receive.OpenerBlock.{OpenerBlock}
use Rattle.sync_ids.specs.declared.opener.Opener.{Opener}
use Rattle.sync_ids.specs.Tables.{Remembered}

-- the block of an opener
abbrev pub block_of : Opener → OpenerBlock
block_of opener = record { taken = opener.taken; kept = opener.kept.items }

-- the depth of an opener
abbrev pub depth_of : Opener → ℕ
depth_of opener = opener.kept.capacity

-- an opener with this block
abbrev pub with_block : OpenerBlock → Opener → Opener
with_block block opener = record { taken = block.taken; kept = buffer block.kept opener.kept.capacity }

-- an opener of a depth from which nothing was taken
abbrev pub untaken_of : ℕ → Opener
untaken_of depth = record { taken = 0; kept = buffer [] depth }

-- what is remembered of these openers
abbrev pub remembered : List Opener → Option ℕ → Remembered
remembered openers in_hand =
    record { table = record { openers = map block_of openers; in_hand = in_hand }; depths = map depth_of openers }
