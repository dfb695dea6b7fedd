use Rattle.std.proofs.Common.{ℕ, refl, ap, ◌∙◌}
use Rattle.tal_syntax.specs.declared.text.Procedure.{Procedure}
use Rattle.tal_syntax.specs.Seen.{seen_procedure, seen_procedures}
use Rattle.tal_declarations.specs.declared.table.Files.{Files}
use Rattle.tal_rules.specs.Texts.{files_from, next_procedure, procedure_files}
use Rattle.tal_names.proofs.Turns.{turn_after}
use Rattle.tal_rules.proofs.text.files_of.Goals as goal

pub loop-procedure-preserved : goal.loop-procedure-preserved
loop-procedure-preserved c = record {
  files_is = turn_after (λ (d : ℕ × Files) ps. files_from c.args.scope.now.globals d.0 d.1 (seen_procedures ps))
      (λ (d : ℕ × Files) (p : Procedure). (
        next_procedure d.0,
        procedure_files c.args.scope.now.globals d.0 d.1 (seen_procedure p),
      )) (λ d p ps. refl)
      c.args.procedures.now c.loop-procedure.procedure-index c.procedure-item.result
      (c.loop-procedure.number, c.loop-procedure.files)
      (c.next_procedure-number.result, c.procedure_files.new.files) _
      c.procedure-item.is c.loop-procedure-test.true
      (λ i. (
        c.next_procedure-number.ensures i,
        (c.in_ok-procedure_files.ensures.files ∙ ap
            (λ g. procedure_files g c.loop-procedure.number c.loop-procedure.files
            (seen_procedure c.procedure-item.result)) c.loop-procedure.invariant.globals_is) i,
      ))
      c.loop-procedure.invariant.files_is;
  globals_is = c.in_ok-procedure_files.ensures.globals ∙ c.loop-procedure.invariant.globals_is;
  none = c.in_ok-procedure_files.ensures.none;
}
