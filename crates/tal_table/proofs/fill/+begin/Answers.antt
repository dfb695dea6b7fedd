use Rattle.std.proofs.Common.{rules, arith, ◌≡◌, List, [], ap, sym, ◌∙◌}
use Rattle.std.proofs.lemmas.Grind.{common_steps}
use Rattle.tal_tree.specs.Statements.{body_before}
use Rattle.tal_tree.specs.declared.statement.Statement.{Statement}
use Rattle.tal_tree.specs.declared.statement.What.{out-What}
use Rattle.tal_table.specs.Loads.{begins}
use Rattle.tal_table.proofs.Nodes.{begins-first, begins-none}
use Rattle.tal_table.proofs.fill.+begin.Goals as goal

pub begins-returns-in-empty : goal.begins-returns-in-empty
begins-returns-in-empty t c = sym (begins-none c.args.statements.now c.args.after c.in-empty.len_below)

pub begins-returns-in-len1-up : goal.begins-returns-in-len1-up
begins-returns-in-len1-up t c =
    c.first_number.ensures ∙ sym (begins-first c.args.statements.now c.first-item.result c.args.after c.first-item.is
    c.in-len1-up.len_at_least)

pub first_number-returns-in-Assign : goal.first_number-returns-in-Assign
first_number-returns-in-Assign t c =
    let none : [] ≡ body_before (out-What c.args.statement.now.what) =
    first_of (search rules, grind (arith, common_steps)) in
    ap (λ (before : List Statement). begins before c.args.statement.now.number) none
