use Rattle.std.proofs.Common.{◌≡◌, drop}
use Rattle.tal_names.specs.Faults.{least}
use Rattle.tal_declarations.specs.Globals.{literals_faults, with_literals}
use Rattle.tal_syntax.specs.Seen.{seen_literals}
use Rattle.tal_declarations.proofs.globals.declare_literals.Given as goal

-- with what is left the least so far is that of all, and what is declared so far becomes what all declare
abbrev pub invariant-loop-next : goal.invariant-loop-next
invariant-loop-next l = record {
  least_is : least l.so_far (literals_faults l.declared (seen_literals (drop l.next-index l.more)))
      ≡ least l.initial.so_far (literals_faults l.initial.declared (seen_literals l.more));
  state_is : with_literals l.declared (seen_literals (drop l.next-index l.more))
      ≡ with_literals l.initial.declared (seen_literals l.more);
}
