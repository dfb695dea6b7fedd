use Rattle.std.proofs.Common.{refl, ap₂, ◌∙◌}
use Rattle.tal_syntax.specs.declared.text.Procedure.{Procedure}
use Rattle.tal_syntax.specs.Seen.{seen_procedure, seen_procedures}
use Rattle.tal_names.specs.Faults.{least}
use Rattle.tal_rules.specs.Texts.{procedures_faults, procedure_faults, after_procedure}
use Rattle.tal_names.proofs.Turns.{turn_faults}
use Rattle.tal_rules.proofs.text.judge_procedures.Goals as goal

pub loop-procedure-preserved : goal.loop-procedure-preserved
loop-procedure-preserved c = record {
  least_is = turn_faults (λ d ps. procedures_faults c.args.scope.now.globals c.args.scope.now.files d
      (seen_procedures ps))
      (λ d (p : Procedure). procedure_faults c.args.scope.now.globals c.args.scope.now.files d (seen_procedure p))
      (λ d p. after_procedure c.args.scope.now.globals c.args.scope.now.files d (seen_procedure p)) (λ d p ps. refl)
      c.args.procedures.now c.loop-procedure.procedure-index c.procedure-item.result c.loop-procedure.gone.progress
      c.in_ok-gone.gone.progress c.loop-procedure.gone.least c.in_ok-gone.gone.least _
      c.procedure-item.is c.loop-procedure-test.true
      (c.in_ok-gone.ensures.least ∙ ap₂ (λ x y.
      least c.loop-procedure.gone.least (procedure_faults x y c.loop-procedure.gone.progress
      (seen_procedure c.procedure-item.result))) c.loop-procedure.invariant.globals_is
      c.loop-procedure.invariant.files_is)
      (c.in_ok-gone.ensures.progress ∙ ap₂ (λ x y.
      after_procedure x y c.loop-procedure.gone.progress (seen_procedure c.procedure-item.result))
      c.loop-procedure.invariant.globals_is c.loop-procedure.invariant.files_is)
      c.loop-procedure.invariant.least_is;
  globals_is = c.in_ok-gone.ensures.globals ∙ c.loop-procedure.invariant.globals_is;
  files_is = c.in_ok-gone.ensures.files ∙ c.loop-procedure.invariant.files_is;
}
