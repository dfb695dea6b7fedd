-- Accepted programs keep the discipline.
use Rattle.std.proofs.Common.{◌≡◌, ℕ, slice_get, ap, sym, ◌∙◌}
use Rattle.tal_tree.specs.Regular.{IsRegular}
use Rattle.tal_tree.specs.declared.program.Program.{Program}
use Rattle.tal_tree.specs.declared.site.Kind.{Kind}
use Rattle.tal_tree.specs.declared.site.Kind.TheVariants as kind
use Rattle.tal_tree.specs.declared.site.ProcessSpec.{ProcessSpec}
use Rattle.tal_tree.specs.declared.site.Site.{Site}
use Rattle.checkpoint_laws.specs.plain_semantics.specs.Openers.{files_of}
use Rattle.path_steps.specs.path_semantics.specs.Accepted.{IsAccepted}
use Rattle.discipline_laws.specs.Disciplined.{IsDisciplined}
use Rattle.discipline_laws.proofs.Quiet.{quiet, once, depth}
use Rattle.discipline_laws.proofs.Resuming.{resume}

pub accepted-disciplined : (site : Site) (number : ℕ) (spec : ProcessSpec) (program : Program)
    → spec.what ≡ kind.Pair program → IsRegular program → IsAccepted program
    → IsDisciplined site number spec
accepted-disciplined site number spec program is regular accepted = record {
  resume = λ since before core stale done uncheckpointed bounded at old.
      resume site number spec program is regular accepted since before done uncheckpointed bounded at old;
  quiet = λ since before place words core done uncheckpointed.
      quiet site number spec program is regular accepted since before place words done uncheckpointed;
  once = λ since before call found core done uncheckpointed.
      once site number spec program is regular since before call found done uncheckpointed;
  depth = λ since before file use_of core done uncheckpointed there.
      depth site number spec program is regular accepted since before file use_of done uncheckpointed
      (sym (ap (λ (what : Kind). slice_get (files_of what) file) is) ∙ there);
}
