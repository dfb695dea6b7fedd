use Rattle.std.proofs.Common.{◌≡◌, drop}
use Rattle.tal_names.specs.Faults.{least}
use Rattle.tal_declarations.specs.Globals.{lines_faults, with_lines}
use Rattle.tal_syntax.specs.Seen.{seen_lines}
use Rattle.tal_declarations.proofs.globals.declared_by.Given as goal

-- with what is left the least so far is that of all, and what is declared so far becomes what all declare
abbrev pub invariant-loop-line : goal.invariant-loop-line
invariant-loop-line l = record {
  least_is : least l.so_far (lines_faults l.declared (seen_lines (drop l.line-index l.lines)))
      ≡ least l.initial.so_far (lines_faults l.initial.declared (seen_lines l.lines));
  state_is : with_lines l.declared (seen_lines (drop l.line-index l.lines))
      ≡ with_lines l.initial.declared (seen_lines l.lines);
}
