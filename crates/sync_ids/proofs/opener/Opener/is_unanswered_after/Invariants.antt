use Rattle.std.proofs.Common.{◌≡◌, drop}
use Rattle.sync_ids.specs.Changing.{is_unanswered_after}
use Rattle.sync_ids.specs.Openers.{block_of, depth_of}
use Rattle.sync_ids.proofs.opener.Opener.is_unanswered_after.Given as goal

abbrev pub invariant-loop-change : goal.invariant-loop-change
invariant-loop-change l =
    is_unanswered_after (depth_of l.self) (block_of l.self) l.place (drop l.change-index l.changes)
    ≡ is_unanswered_after (depth_of l.self) (block_of l.self) l.place l.changes
