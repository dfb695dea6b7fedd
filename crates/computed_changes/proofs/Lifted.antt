-- The steps that messages make of one process, as changes of the world.
use Rattle.std.proofs.Common.{ℕ, Bool, Option, option_map}
use Rattle.tal_tree.specs.gd_words.specs.declared.message.Request.{Request}
use Rattle.tal_tree.specs.gd_words.specs.declared.message.Reply.{Reply}
use Rattle.tal_tree.specs.declared.site.Site.{Site}
use Rattle.world_semantics.specs.checkpoint_image.specs.declared.message.ImageMessage.{ImageMessage}
use Rattle.world_semantics.specs.checkpoint_image.specs.declared.message.TakenMessage.{TakenMessage}
use Rattle.world_semantics.specs.declared.role.Role.{Role}
use Rattle.world_semantics.specs.declared.which.Which.{Which}
use Rattle.world_semantics.specs.Core.{Core}
use Rattle.world_semantics.specs.World.{Pair, World, copy_of}
use Rattle.world_semantics.specs.Records.{records_of}
use Rattle.world_semantics.specs.Running.{Done, in_world}
use Rattle.world_semantics.proofs.Lifted.{lifted}
use Rattle.computed_changes.specs.Checkpoints.{applied_step, applied_step_where, checkpoint_step, core_where}
use Rattle.computed_changes.specs.Checkpoints.{taken_step, taken_step_where}
use Rattle.computed_changes.specs.Fitting.{depths_of}
use Rattle.computed_changes.specs.Replies.{got_step, reply_step, reply_step_where}
use Rattle.computed_changes.specs.Requests.{request_step}

abbrev pub asked_done : Request → Which → Pair → World → Role → Option Done
asked_done request k pair w role = lifted request.process w (request_step k pair (records_of w) request role)

abbrev pub got_made : ℕ → Reply → Which → Pair → World → Done
got_made number reply k pair w = in_world number w (got_step number k pair (records_of w) reply)

abbrev pub got_where : ℕ → Reply → Which → Pair → World → Bool → Option Done
got_where number reply k pair w awaited = lifted number w (reply_step_where number k pair (records_of w) reply awaited)

abbrev pub got_done : Site → ℕ → Reply → Which → Pair → World → Role → Option Done
got_done site number reply k pair w role = lifted number w (reply_step site number k pair (records_of w) reply role)

abbrev pub applied_done : ImageMessage → Which → Pair → World → Core → Done
applied_done message k pair w core =
    in_world message.process w (applied_step message.process k pair (records_of w) message core)

-- the other copy is behind the kept acts or not
abbrev pub applied_as : ImageMessage → Which → Pair → World → Core → Bool → Done
applied_as message k pair w core behind =
    in_world message.process w (applied_step_where message.process k pair (records_of w) message core behind)

abbrev pub applied_made : ImageMessage → Which → Pair → World → Option Core → Option Done
applied_made message k pair w core =
    lifted message.process w (option_map (applied_step message.process k pair (records_of w) message) core)

abbrev pub applied_where : Site → ImageMessage → Which → Pair → World → Bool → Option Done
applied_where site message k pair w next =
    applied_made message k pair w (core_where (depths_of site message.process) (copy_of k pair).core message next)

abbrev pub checkpoint_done : Site → ImageMessage → Which → Pair → World → Role → Option Done
checkpoint_done site message k pair w role =
    lifted message.process w (checkpoint_step site message.process k pair (records_of w) message role)

abbrev pub acknowledged_where : TakenMessage → Which → Pair → World → Bool → Option Done
acknowledged_where taken k pair w last = lifted taken.process w (taken_step_where k pair (records_of w) last)

abbrev pub taken_done : TakenMessage → Which → Pair → World → Role → Option Done
taken_done taken k pair w role = lifted taken.process w (taken_step k pair (records_of w) taken role)
