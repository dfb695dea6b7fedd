use Rattle.std.proofs.Common.{◌+◌, inl, inr, refl}
use Rattle.tal_tree.specs.declared.statement.What.{What-F}
use Rattle.statement_lines.proofs.Aligned.{length-lines_of, line-own, line-other}
use Rattle.statement_lines.proofs.laws.lines_are_of_statements.Goals as goal

pub returns-clause-each : goal.returns-clause-each
returns-clause-each c = length-lines_of

pub returns-clause-own : goal.returns-clause-own
returns-clause-own c = line-own

pub returns-clause-for_test : goal.returns-clause-for_test
returns-clause-for_test c = λ program procedure statement variable from to down step body last numbered among inside is.
    line-other program procedure statement numbered among inside (What-F.For variable from to down step body last)
    (statement.number + 1) is (inr (inl refl))

pub returns-clause-for_last : goal.returns-clause-for_last
returns-clause-for_last c = λ program procedure statement variable from to down step body last numbered among inside is.
    line-other program procedure statement numbered among inside (What-F.For variable from to down step body last) last
    is
    (inr (inr (inl refl)))
