-- Steps of one process, as changes of the world.
use Rattle.std.proofs.Common.{ℕ, Bool, [], Option, option_map}
use Rattle.checkpoint_image.specs.tal_tree.specs.declared.site.Site.{Site}
use Rattle.plain_semantics.specs.process_semantics.specs.declared.point.Point.{Point}
use Rattle.world_semantics.specs.declared.role.Role.{Role}
use Rattle.world_semantics.specs.World.{Pair, World, Which, copy_of, with_copy}
use Rattle.world_semantics.specs.Passes.{copy_at_checkpoint}
use Rattle.world_semantics.specs.Records.{records_of}
use Rattle.world_semantics.specs.Shares.{passing_where, share_of, with_share}
use Rattle.world_semantics.specs.Running.{Done, Own, Stepped, in_world, step_at_checkpoint, own_step, sending_step}
use Rattle.world_semantics.specs.Running.{step_as}
use Rattle.world_semantics.specs.Running.{step_at, step_of_copy, ending_step, free_step, renewing_step, step_if}

abbrev pub lifted : ℕ → World → Option Stepped → Option Done
lifted number w step = option_map (in_world number w) step

abbrev pub own_done : ℕ → Which → Pair → World → Own → Done
own_done number k pair w own = in_world number w (own_step number k pair (records_of w) own)

abbrev pub own_made : ℕ → Which → Pair → World → Option Own → Option Done
own_made number k pair w own = lifted number w (option_map (own_step number k pair (records_of w)) own)

abbrev pub sent_done : ℕ → Which → Pair → World → Done
sent_done number k pair w = in_world number w (sending_step number k pair (records_of w))

-- a copy passes its checkpoint, which it did already or not
abbrev pub passed_done : ℕ → Which → Pair → World → Bool → Done
passed_done number k pair w again = in_world number w (record {
  pair = with_copy k (with_share (passing_where number w.kept (share_of (copy_of k pair)) again).share
      (copy_at_checkpoint (copy_of k pair))) pair;
  records = record (records_of w) { kept = (passing_where number w.kept (share_of (copy_of k pair)) again).kept };
  sendings = [];
})

abbrev pub done_at_checkpoint : ℕ → Which → Pair → World → Bool → Bool → Option Done
done_at_checkpoint number k pair w free sent = lifted number w
    (step_at_checkpoint number k pair (records_of w) free sent)

-- what a copy has sent comes to its end
abbrev pub ended_done : ℕ → Which → Pair → World → Done
ended_done number k pair w = in_world number w (ending_step number k pair (records_of w))

abbrev pub made_if : ℕ → World → Bool → Stepped → Option Done
made_if number w may step = lifted number w (step_if may step)

abbrev pub renewing_at : ℕ → Which → Pair → World → Point → Option Done
renewing_at number k pair w stands = lifted number w (renewing_step number k pair w.downs (records_of w) stands)

abbrev pub free_at : Site → ℕ → Which → Pair → World → Point → Bool → Bool → Option Done
free_at site number k pair w stands sent renewal =
    lifted number w (free_step site number k pair w.downs (records_of w) stands sent renewal)

abbrev pub run_at : Site → ℕ → Which → Pair → World → Point → Option Done
run_at site number k pair w stands = lifted number w (step_at site number k pair w.downs (records_of w) stands)

abbrev pub run_as : Site → ℕ → Which → Pair → World → Role → Option Done
run_as site number k pair w role = lifted number w (step_as site number k pair w.downs (records_of w) role)

abbrev pub run_copy : Site → ℕ → Pair → World → Which → Option Done
run_copy site number pair w k = lifted number w (step_of_copy site number pair w.downs (records_of w) k)
