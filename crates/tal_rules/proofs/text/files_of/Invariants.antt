use Rattle.std.proofs.Common.{◌≡◌, [], drop}
use Rattle.tal_rules.specs.Texts.{files_from, no_files}
use Rattle.tal_syntax.specs.Seen.{seen_procedures}
use Rattle.tal_rules.proofs.text.files_of.Given as goal

-- with what is left the files become those of all procedures
abbrev pub invariant-loop-procedure : goal.invariant-loop-procedure
invariant-loop-procedure l = record {
  files_is : files_from l.fn.scope.globals l.number l.files (seen_procedures (drop l.procedure-index l.procedures))
      ≡ files_from l.fn.scope.globals 0 no_files (seen_procedures l.procedures);
  globals_is : l.scope.globals ≡ l.fn.scope.globals;
  none : l.scope.files ≡ [];
}
