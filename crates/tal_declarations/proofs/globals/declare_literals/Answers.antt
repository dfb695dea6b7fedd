use Rattle.std.proofs.Common.{refl}
use Rattle.tal_syntax.specs.Seen.{seen_literal, seen_literals}
use Rattle.tal_syntax.specs.declared.declaration.NextLiteral.{NextLiteral}
use Rattle.tal_declarations.specs.Globals.{literals_faults, with_literals, literal_line_faults, with_literal}
use Rattle.tal_names.proofs.Turns.{turn_faults, turn_after}
use Rattle.tal_declarations.proofs.globals.declare_literals.Goals as goal

pub loop-next-preserved : goal.loop-next-preserved
loop-next-preserved c = record {
  least_is = turn_faults (λ d ns. literals_faults d (seen_literals ns))
      (λ d (n : NextLiteral). literal_line_faults d (seen_literal n.literal))
      (λ d n. with_literal d (seen_literal n.literal)) (λ d n ns. refl)
      c.args.more.now c.loop-next.next-index c.next-item.result c.loop-next.declared c.declare_literal.new.declared
      c.loop-next.so_far c.in_ok-so_far.so_far _
      c.next-item.is c.loop-next-test.true c.in_ok-so_far.ensures.least c.in_ok-so_far.ensures.declared
      c.loop-next.invariant.least_is;
  state_is = turn_after (λ d ns. with_literals d (seen_literals ns)) (λ d n. with_literal d (seen_literal n.literal))
      (λ d n ns. refl)
      c.args.more.now c.loop-next.next-index c.next-item.result c.loop-next.declared c.declare_literal.new.declared _
      c.next-item.is c.loop-next-test.true c.in_ok-so_far.ensures.declared c.loop-next.invariant.state_is;
}
