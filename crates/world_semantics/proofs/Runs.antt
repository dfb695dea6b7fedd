-- What holds from change to change holds over whole runs.
use Rattle.std.proofs.Common.{List}
use Rattle.checkpoint_image.specs.tal_tree.specs.declared.site.Site.{Site}
use Rattle.schedule.specs.declared.event.Event.{Event}
use Rattle.world_semantics.specs.World.{World}
use Rattle.world_semantics.specs.Messages.{Sending, Cause}
use Rattle.world_semantics.specs.Rules.{Change}
use Rattle.world_semantics.specs.Follows.{MarksDowns, marks_none, marks_one, Follows, runs, cannot_run, enters}
use Rattle.world_semantics.specs.Follows.{cannot_enter, delivers_none, delivers, delivers_mark, loses, doubles}
use Rattle.world_semantics.specs.Follows.{turns_drive, ticks_none, ticks, ticks_stop, fails, cannot_fail, Leads, stays}
use Rattle.world_semantics.specs.Follows.{goes_on, cannot_reload, reloads}

-- a relation between worlds that holds of a world and itself, goes from one to the next, and holds of each change
pub record IsKept (site : Site) (R : World → World → Type 0) : Type 0 where
  pub same : (w : World) → R w w
  pub both : (u v w : World) → R u v → R v w → R u w
  pub change : (w next : World) (cause : Cause) (sendings : List Sending) → Change site w cause sendings next → R w next

downs-keep : {site : Site} {R : World → World → Type 0} → IsKept site R
    → {node : _} {w end : World} {sendings : List Sending} → MarksDowns site node w sendings end → R w end
downs-keep k (marks_none {w = w}) = k.same w
downs-keep k (marks_one {w = w} {next = next} {end = end} processor c m) =
    k.both w next end (k.change w next _ _ c) (downs-keep k m)

pub follows-keeps : {site : Site} {R : World → World → Type 0} → IsKept site R
    → {w next : World} {event : Event} {sendings : List Sending}
    → Follows site w event sendings next → R w next
follows-keeps k {w = w} {next = next} (runs c) = k.change w next _ _ c
follows-keeps k {w = w} (cannot_run n) = k.same w
follows-keeps k {w = w} {next = next} (enters c) = k.change w next _ _ c
follows-keeps k {w = w} (cannot_enter n) = k.same w
follows-keeps k {w = w} delivers_none = k.same w
follows-keeps k {w = w} {next = next} (delivers node message c) = k.change w next _ _ c
follows-keeps k {w = w} {next = next} (delivers_mark node processor c) = k.change w next _ _ c
follows-keeps k {w = w} loses = k.same w
follows-keeps k {w = w} doubles = k.same w
follows-keeps k {w = w} turns_drive = k.same w
follows-keeps k {w = w} ticks_none = k.same w
follows-keeps k (ticks r m) = downs-keep k m
follows-keeps k {w = w} {next = next} (ticks_stop {between = between} processor r d c m) =
    k.both w between next (k.change w between _ _ c) (downs-keep k m)
follows-keeps k {w = w} {next = next} (fails c) = k.change w next _ _ c
follows-keeps k {w = w} (cannot_fail n) = k.same w
follows-keeps k {w = w} {next = next} (reloads c) = k.change w next _ _ c
follows-keeps k {w = w} (cannot_reload n) = k.same w

pub leads-keep : {site : Site} {R : World → World → Type 0} → IsKept site R → {w end : World} {events : List Event}
    → Leads site w events end → R w end
leads-keep k (stays {w = w}) = k.same w
leads-keep k (goes_on {w = w} {next = next} {end = end} f l) = k.both w next end (follows-keeps k f) (leads-keep k l)

-- a property of worlds that each change keeps
pub holds-on : {site : Site} (P : World → Type 0)
    → ((w next : World) (cause : Cause) (sendings : List Sending) → Change site w cause sendings next → P w → P next)
    → {w end : World} {events : List Event} → Leads site w events end → P w → P end
holds-on P keeps l = leads-keep (record {
  same = λ w p. p;
  both = λ u v w f g p. g (f p);
  change = keeps;
}) l
