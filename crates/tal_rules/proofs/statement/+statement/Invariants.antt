use Rattle.std.proofs.Common.{◌≡◌, drop}
use Rattle.tal_names.specs.Faults.{least}
use Rattle.tal_rules.specs.Statements.{after_row, row_faults}
use Rattle.tal_syntax.specs.Seen.{seen_row}
use Rattle.tal_rules.proofs.statement.+statement.Given as goal

-- with what is left what stands before it becomes what stands after the row, and the least so far is that of the whole
-- row
abbrev pub invariant-judge_row-loop-next : goal.invariant-judge_row-loop-next
invariant-judge_row-loop-next l = record {
  walk_is : after_row l.scope l.judged.walk (seen_row (drop l.next-index l.more))
      ≡ after_row l.scope l.initial.judged.walk (seen_row l.more);
  least_is : least l.judged.least (row_faults l.scope l.judged.walk (seen_row (drop l.next-index l.more)))
      ≡ least l.initial.judged.least (row_faults l.scope l.initial.judged.walk (seen_row l.more));
}
