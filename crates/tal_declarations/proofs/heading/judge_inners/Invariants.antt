use Rattle.std.proofs.Common.{◌≡◌, drop}
use Rattle.tal_names.specs.Faults.{least}
use Rattle.tal_declarations.specs.Headings.{inner_faults, with_locals}
use Rattle.tal_declarations.proofs.heading.judge_inners.Given as goal

-- with those that are left the least so far is that of all, and the names become what all make of them
abbrev pub invariant-loop-named : goal.invariant-loop-named
invariant-loop-named l = record {
  least_is : least l.so_far (inner_faults l.outer l.before (drop l.named-index l.inner))
      ≡ least l.initial.so_far (inner_faults l.outer l.initial.before l.inner);
  state_is : with_locals l.before (drop l.named-index l.inner) ≡ with_locals l.initial.before l.inner;
}
