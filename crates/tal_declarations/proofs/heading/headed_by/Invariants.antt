use Rattle.std.proofs.Common.{◌≡◌, drop}
use Rattle.tal_names.specs.Faults.{least}
use Rattle.tal_declarations.specs.Headings.{headings_faults, with_headings}
use Rattle.tal_syntax.specs.Seen.{seen_procedures}
use Rattle.tal_declarations.proofs.heading.headed_by.Given as goal

-- with those that are left the least so far is that of all, and what is declared so far becomes what all declare
abbrev pub invariant-loop-procedure : goal.invariant-loop-procedure
invariant-loop-procedure l = record {
  least_is : least l.so_far (headings_faults l.headed (seen_procedures (drop l.procedure-index l.procedures)))
      ≡ least l.initial.so_far (headings_faults l.initial.headed (seen_procedures l.procedures));
  state_is : with_headings l.headed (seen_procedures (drop l.procedure-index l.procedures))
      ≡ with_headings l.initial.headed (seen_procedures l.procedures);
}
