-- An accepted site whose processes are each in two processors is fit.
use Rattle.std.proofs.Common.{◌≡◌, ℕ, slice_get, Some, refl}
use Rattle.tal_tree.specs.declared.site.Kind.{Kind}
use Rattle.tal_tree.specs.declared.site.Kind.TheVariants as kind
use Rattle.tal_tree.specs.declared.site.ProcessSpec.{ProcessSpec}
use Rattle.tal_tree.specs.declared.site.Site.{Site}
use Rattle.world_semantics.specs.whole_states.specs.Processes.{IsRegularKind}
use Rattle.takeover_laws.specs.discipline_laws.specs.Disciplined.{IsDisciplined}
use Rattle.takeover_laws.specs.discipline_laws.proofs.Accepted.{accepted-disciplined}
use Rattle.takeover_laws.specs.discipline_laws.proofs.Discs.{disc-disciplined}
use Rattle.tal_laws.proofs.Regular.{read_is_regular}
use Rattle.world_semantics.specs.Laws.{IsPlaced}
use Rattle.takeover_laws.specs.Fit.{IsFit}
use Rattle.accepted_sites.specs.Premises.{IsAcceptedSite}

pub accepted-fit : (site : Site) → IsAcceptedSite site → IsPlaced site → IsFit site
accepted-fit site accepted placed = record {
  regular = λ number spec there. regular number spec there spec.what refl;
  disciplined = λ number spec there. disciplined number spec there spec.what refl;
  requests = accepted.requests;
  seats = placed;
}
  where
    regular : (number : ℕ) (spec : ProcessSpec) → slice_get site.processes number ≡ Some spec → (what : Kind)
        → spec.what ≡ what → IsRegularKind what
    regular number spec there (kind.Disc sectors mirrored) is = tt
    regular number spec there (kind.Pair program) is =
        let read = accepted.read number spec program there is in read_is_regular read.0 program read.1

    disciplined : (number : ℕ) (spec : ProcessSpec) → slice_get site.processes number ≡ Some spec → (what : Kind)
        → spec.what ≡ what → IsDisciplined site number spec
    disciplined number spec there (kind.Disc sectors mirrored) is =
        disc-disciplined site number sectors mirrored spec is
    disciplined number spec there (kind.Pair program) is =
        accepted-disciplined site number spec program is (regular number spec there (kind.Pair program) is)
        (accepted.accepted number spec program there is)
