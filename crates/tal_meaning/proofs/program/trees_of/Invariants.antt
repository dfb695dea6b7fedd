use Rattle.std.proofs.Common.{◌≡◌, ◌++◌, drop}
use Rattle.tal_rules.specs.Texts.{first_progress}
use Rattle.tal_syntax.specs.Seen.{seen_procedures}
use Rattle.tal_meaning.specs.Programs.{trees_of}
use Rattle.tal_meaning.proofs.program.trees_of.Given as goal

-- the procedures so far and those that are left are all
abbrev pub invariant-loop-procedure : goal.invariant-loop-procedure
invariant-loop-procedure l = record {
  all_are : l.all ++ trees_of l.fn.scope.globals l.fn.scope.files l.progress
      (seen_procedures (drop l.procedure-index l.procedures))
      ≡ trees_of l.fn.scope.globals l.fn.scope.files first_progress (seen_procedures l.procedures);
  globals_is : l.scope.globals ≡ l.fn.scope.globals;
  files_is : l.scope.files ≡ l.fn.scope.files;
}
