use Rattle.std.proofs.Common.{◌≡◌, ◌≤◌, ℕ, zero, suc, ℤ, pos, List, length, replicate, slice_get, Some, refl, arith}
use Rattle.tal_tree.specs.declared.program.Program.{Program}
use Rattle.tal_tree.specs.declared.site.Kind.TheVariants as kind
use Rattle.tal_tree.specs.declared.site.ProcessSpec.{ProcessSpec}
use Rattle.plain_semantics.specs.Machine.{next_request}
use Rattle.world_semantics.proofs.Lists.{some-same}
use Rattle.accepted_sites.specs.Premises.{IsAcceptedSite}
use Rattle.accepted_sites.specs.Sites.{asked_with}
use Rattle.accepted_sites.proofs.Discs.{disc-accepted}
use Rattle.accepted_sites.proofs.guards.premises_are_told_apart.Goals as goal

too-long : IsAcceptedSite (asked_with 17) → ⊥
too-long accepted = let short = accepted.requests 0 0 (replicate 17 (pos 1)) refl in omega (arith, short)

pub returns : goal.returns
returns c = record {
  disc = disc-accepted;
  most = record {
    read = λ number spec program there is. absurd (no-pair number spec program there is);
    accepted = λ number spec program there is. absurd (no-pair number spec program there is);
    requests = short;
  };
  long = too-long;
}
  where
    no-pair : (number : ℕ) (spec : ProcessSpec) (program : Program)
        → slice_get (asked_with 16).processes number ≡ Some spec → spec.what ≡ kind.Pair program → ⊥
    no-pair zero spec program there is = let same = some-same there in cc
    no-pair (suc number) spec program there is = cc

    short : (terminal entered : ℕ) (words : List ℤ) → next_request (asked_with 16) terminal entered ≡ Some words
        → length words ≤ 16
    short zero zero words next = rw (← some-same next) (omega arith)
    short zero (suc entered) words next = absurd (cc)
    short (suc terminal) entered words next = absurd (cc)
