-- A site of a disc is accepted.
use Rattle.std.proofs.Common.{◌≡◌, ◌≤◌, ℕ, zero, suc, ℤ, List, length, slice_get, Some, arith}
use Rattle.tal_tree.specs.declared.program.Program.{Program}
use Rattle.tal_tree.specs.declared.site.Kind.TheVariants as kind
use Rattle.tal_tree.specs.declared.site.ProcessSpec.{ProcessSpec}
use Rattle.plain_semantics.specs.Machine.{next_request}
use Rattle.world_semantics.specs.Examples.{disc_site}
use Rattle.world_semantics.proofs.Lists.{some-same}
use Rattle.accepted_sites.specs.Premises.{IsAcceptedSite}

pub disc-accepted : IsAcceptedSite disc_site
disc-accepted = record {
  read = λ number spec program there is. absurd (no-pair number spec program there is);
  accepted = λ number spec program there is. absurd (no-pair number spec program there is);
  requests = short;
}
  where
    no-pair : (number : ℕ) (spec : ProcessSpec) (program : Program) → slice_get disc_site.processes number ≡ Some spec
        → spec.what ≡ kind.Pair program → ⊥
    no-pair zero spec program there is = let same = some-same there in cc
    no-pair (suc number) spec program there is = cc

    short : (terminal entered : ℕ) (words : List ℤ) → next_request disc_site terminal entered ≡ Some words
        → length words ≤ 16
    short zero zero words next = rw (← some-same next) (omega arith)
    short zero (suc entered) words next = absurd (cc)
    short (suc terminal) entered words next = absurd (cc)
