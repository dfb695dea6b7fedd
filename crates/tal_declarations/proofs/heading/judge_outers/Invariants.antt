use Rattle.std.proofs.Common.{◌≡◌, drop}
use Rattle.tal_names.specs.Faults.{least}
use Rattle.tal_declarations.specs.Headings.{outer_faults, with_locals}
use Rattle.tal_declarations.proofs.heading.judge_outers.Given as goal

-- with those that are left the least so far is that of all, and the names become what all make of them
abbrev pub invariant-loop-named : goal.invariant-loop-named
invariant-loop-named l = record {
  least_is : least l.so_far (outer_faults l.parameters l.before (drop l.named-index l.outer))
      ≡ least l.initial.so_far (outer_faults l.parameters l.initial.before l.outer);
  state_is : with_locals l.before (drop l.named-index l.outer) ≡ with_locals l.initial.before l.outer;
}
