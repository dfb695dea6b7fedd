use Rattle.std.proofs.Common.{◌≡◌, drop}
use Rattle.tal_names.specs.Faults.{least}
use Rattle.tal_rules.specs.Texts.{procedures_faults, first_progress}
use Rattle.tal_syntax.specs.Seen.{seen_procedures}
use Rattle.tal_rules.proofs.text.judge_procedures.Given as goal

-- with what is left the least so far is that of all procedures
abbrev pub invariant-loop-procedure : goal.invariant-loop-procedure
invariant-loop-procedure l = record {
  least_is : least l.gone.least (procedures_faults l.fn.scope.globals l.fn.scope.files l.gone.progress
      (seen_procedures (drop l.procedure-index l.procedures)))
      ≡ least l.fn.so_far (procedures_faults l.fn.scope.globals l.fn.scope.files first_progress
      (seen_procedures l.procedures));
  globals_is : l.scope.globals ≡ l.fn.scope.globals;
  files_is : l.scope.files ≡ l.fn.scope.files;
}
