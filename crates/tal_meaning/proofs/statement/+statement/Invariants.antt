use Rattle.std.proofs.Common.{◌≡◌, ◌++◌, drop}
use Rattle.tal_rules.specs.Statements.{after_row}
use Rattle.tal_syntax.specs.Seen.{seen_row}
use Rattle.tal_meaning.specs.Statements.{row_statements}
use Rattle.tal_meaning.proofs.statement.+statement.Given as goal

-- with what is left what stands before it becomes what stands after the row, and the statements so far become all
abbrev pub invariant-push_row-loop-next : goal.invariant-push_row-loop-next
invariant-push_row-loop-next l = record {
  walk_is : after_row l.scope l.walk (seen_row (drop l.next-index l.more))
      ≡ after_row l.scope l.initial.walk (seen_row l.more);
  statements_are : l.all ++ row_statements l.scope l.walk (seen_row (drop l.next-index l.more))
      ≡ l.initial.all ++ row_statements l.scope l.initial.walk (seen_row l.more);
}
