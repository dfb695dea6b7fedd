use Rattle.std.proofs.Common.{rules, arith, ◌≡◌, ℕ, [], subst}
use Rattle.std.proofs.lemmas.Grind.{common_steps}
use Rattle.tal_tree.specs.Statements.{body_before}
use Rattle.tal_tree.specs.declared.statement.What.{out-What}
use Rattle.discipline.specs.Finding.{IsFirstNumber}
use Rattle.discipline.proofs.Finding.{first-none, first-some, first-plain, first-do}
use Rattle.discipline.proofs.find.+first.Goals as goal

pub first_number-returns-in-None : goal.first_number-returns-in-None
first_number-returns-in-None t c = first-none c.args.statements.now c.args.after c.in-None.ensures.value

pub first_number-returns-in-Some : goal.first_number-returns-in-Some
first_number-returns-in-Some t c =
    first-some c.args.statements.now c.in-Some.statement.now c.args.after c.first_of.result c.in-Some.ensures.value
    c.first_of.ensures

pub first_of-returns-in-DoUntil : goal.first_of-returns-in-DoUntil
first_of-returns-in-DoUntil t c =
    first-do c.args.statement.now c.in-DoUntil.body c.as_slice.result.now c.in-DoUntil.test c.first_number.result
    c.in-DoUntil.is c.as_slice.ensures
    (subst (λ (n : ℕ). IsFirstNumber c.as_slice.result.now n c.first_number.result) c.from.ensures
    c.first_number.ensures)

pub first_of-returns-in-Assign : goal.first_of-returns-in-Assign
first_of-returns-in-Assign t c =
    let none : body_before (out-What c.args.statement.now.what) ≡ [] =
    first_of (search rules, grind (arith, common_steps)) in
    first-plain c.args.statement.now c.from-in-Assign.result none c.from-in-Assign.ensures
