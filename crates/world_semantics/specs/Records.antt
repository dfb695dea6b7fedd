-- The records of what happened in a run.
use Rattle.std.specs.Prelude.{List}
use Rattle.checkpoint_image.specs.gd_words.specs.declared.message.Request.{Request}
use Rattle.checkpoint_image.specs.gd_words.specs.declared.message.Reply.{Reply}
use Rattle.checkpoint_image.specs.tal_tree.specs.declared.act.Act.{Act}
use Rattle.checkpoint_image.specs.tal_tree.specs.declared.act.Shown.{Shown}
use Rattle.world_semantics.specs.World.{World}

-- what happened in a run: the requests and replies ever sent, what was shown, and the acts that are kept, each the
-- newest first
pub record Records : Type 0 where
  pub requests : List Request
  pub replies : List Reply
  pub shown : List Shown
  pub kept : List Act

abbrev pub records_of : World → Records
records_of w = record { requests = w.requests; replies = w.replies; shown = w.shown; kept = w.kept }
