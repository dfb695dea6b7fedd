-- What the proof needs of a site.
use Rattle.std.specs.Prelude.{◌≡◌, ℕ, slice_get, Some}
use Rattle.tal_tree.specs.declared.site.ProcessSpec.{ProcessSpec}
use Rattle.tal_tree.specs.declared.site.Site.{Site}
use Rattle.discipline_laws.specs.Disciplined.{IsDisciplined}
use Rattle.plain_histories.specs.Agreeing.{AreRegular}
use Rattle.plain_histories.specs.Booking.{AreShortRequests}
use Rattle.world_semantics.specs.Laws.{IsPlaced}

-- a site's programs are regular, its processes keep the checkpoint discipline, its terminals' requests have at most 16
-- words, and each process is in two of its processors
pub record IsFit (site : Site) : Type 0 where
  pub regular : AreRegular site
  pub disciplined : (number : ℕ) (spec : ProcessSpec) → slice_get site.processes number ≡ Some spec
      → IsDisciplined site number spec
  pub requests : AreShortRequests site
  pub seats : IsPlaced site
