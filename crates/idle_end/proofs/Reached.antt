-- What a run has come to at an idle end is good, and no copy is behind there.
use Rattle.std.proofs.Common.{◌≡◌, ℕ, List, length, Some, slice_get, sym, ◌∙◌}
use Rattle.tal_tree.specs.declared.site.Site.{Site}
use Rattle.schedule.specs.declared.event.Event.{Event}
use Rattle.world_semantics.specs.declared.role.Role.TheVariants.{Acting}
use Rattle.world_semantics.specs.declared.which.Which.{Which}
use Rattle.world_semantics.specs.Kept.{own_acts}
use Rattle.world_semantics.specs.World.{Pair, copy_of}
use Rattle.world_semantics.proofs.Reached.{run-kept}
use Rattle.plain_histories.proofs.Counted.{booked-count}
use Rattle.letters.specs.Posts.{Post}
use Rattle.awaited_requests.proofs.Seats.{run-seats}
use Rattle.awaited_requests.specs.takeover_laws.proofs.Kept.{run-keeps}
use Rattle.idle_end.specs.Ends.{IsIdleEnd}
use Rattle.idle_end.proofs.Ends.{IsEnd}
use Rattle.idle_end.proofs.Renewing.{run-renewing}
use Rattle.idle_end.proofs.Resting.{caught-up}

pub end-of : {site : Site} {events : List Event} {post : Post} → IsIdleEnd site events post
    → IsEnd site (length events) post
end-of {site = site} {events = events} {post = post} end =
    let kept = run-kept end.fit.seats end.run in
    record {
      fit = end.fit;
      laid_out = end.laid_out;
      few = end.few;
      good = record {
        roles = kept.roles;
        stopped = kept.downs;
        steady = kept.steady;
        seated = kept.seated;
        invariant = run-keeps site end.fit events post.world end.few end.run;
      };
      seated = run-seats site events post.world end.laid_out end.run;
      renewing = run-renewing end.run;
      served = end.served;
      idle = end.idle;
    }

-- so each copy that acts has done as many acts as are kept of its process
pub done-kept : {site : Site} {events : List Event} {post : Post} (end : IsIdleEnd site events post) (number : ℕ)
    (pair : Pair) (k : Which)
    → slice_get post.world.processes number ≡ Some pair → (copy_of k pair).role ≡ Acting
    → (copy_of k pair).position ≡ own_acts number post.world.kept
done-kept end number pair k there role =
    caught-up (end-of end) number pair k there role ∙ sym (booked-count (end-of end).good.invariant.booked number)
