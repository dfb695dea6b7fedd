use Rattle.std.proofs.Common.{refl}
use Rattle.tal_syntax.specs.declared.text.Procedure.{Procedure}
use Rattle.tal_syntax.specs.Seen.{seen_heading, seen_procedures}
use Rattle.tal_declarations.specs.Headings.{headings_faults, with_headings, heading_faults, with_heading}
use Rattle.tal_names.proofs.Turns.{turn_faults, turn_after}
use Rattle.tal_declarations.proofs.heading.headed_by.Goals as goal

pub loop-procedure-preserved : goal.loop-procedure-preserved
loop-procedure-preserved c = record {
  least_is = turn_faults (λ d ps. headings_faults d (seen_procedures ps))
      (λ d (p : Procedure). heading_faults d (seen_heading p.heading)) (λ d p. with_heading d (seen_heading p.heading))
      (λ d p ps. refl)
      c.args.procedures.now c.loop-procedure.procedure-index c.procedure-item.result c.loop-procedure.headed
      c.declare_heading.new.headed c.loop-procedure.so_far c.judge_heading-so_far.result _
      c.procedure-item.is c.loop-procedure-test.true c.judge_heading-so_far.ensures c.in_ok-declare_heading.ensures
      c.loop-procedure.invariant.least_is;
  state_is = turn_after (λ d ps. with_headings d (seen_procedures ps)) (λ d p. with_heading d (seen_heading p.heading))
      (λ d p ps. refl)
      c.args.procedures.now c.loop-procedure.procedure-index c.procedure-item.result c.loop-procedure.headed
      c.declare_heading.new.headed _
      c.procedure-item.is c.loop-procedure-test.true c.in_ok-declare_heading.ensures
      c.loop-procedure.invariant.state_is;
}
