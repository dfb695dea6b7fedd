use Rattle.std.proofs.Common.{refl}
use Rattle.tal_syntax.specs.Seen.{seen_globals, seen_lines}
use Rattle.tal_syntax.specs.declared.declaration.Globals.{Globals}
use Rattle.tal_declarations.specs.Globals.{lines_faults, with_lines, line_faults, with_line}
use Rattle.tal_names.proofs.Turns.{turn_faults, turn_after}
use Rattle.tal_declarations.proofs.globals.declared_by.Goals as goal

pub loop-line-preserved : goal.loop-line-preserved
loop-line-preserved c = record {
  least_is = turn_faults (λ d ns. lines_faults d (seen_lines ns)) (λ d (n : Globals). line_faults d (seen_globals n))
      (λ d n. with_line d (seen_globals n)) (λ d n ns. refl)
      c.args.lines.now c.loop-line.line-index c.line-item.result c.loop-line.declared c.declare_line.new.declared
      c.loop-line.so_far c.in_ok-so_far.so_far _
      c.line-item.is c.loop-line-test.true c.in_ok-so_far.ensures.least c.in_ok-so_far.ensures.declared
      c.loop-line.invariant.least_is;
  state_is = turn_after (λ d ns. with_lines d (seen_lines ns)) (λ d n. with_line d (seen_globals n)) (λ d n ns. refl)
      c.args.lines.now c.loop-line.line-index c.line-item.result c.loop-line.declared c.declare_line.new.declared _
      c.line-item.is c.loop-line-test.true c.in_ok-so_far.ensures.declared c.loop-line.invariant.state_is;
}
