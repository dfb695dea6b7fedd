use Rattle.std.proofs.Common.{◌≡◌, map, take}
use Rattle.sync_ids.specs.Openers.{block_of}
use Rattle.sync_ids.proofs.receive.blocks_of.Given as goal

abbrev pub invariant-loop-opener : goal.invariant-loop-opener
invariant-loop-opener l = l.blocks ≡ map block_of (take l.opener-index l.openers)
