use Rattle.std.proofs.Common.{refl, Some, None}
use Rattle.discipline.proofs.Finding.{found-at, found-behind, past-end, found-before, found-own, found-inside}
use Rattle.discipline.proofs.Finding.{found-if, found-while, found-for, found-do}
use Rattle.discipline.proofs.find.+find.Goals as goal

pub find-loop-k-preserved : goal.find-loop-k-preserved
find-loop-k-preserved t c = λ result found.
    c.loop-k.invariant result
    (found-behind c.args.statements.now c.loop-k.k c.index-statements-k.result c.split_at.result.1.now c.args.after
    c.first_number-next.result c.args.number
    c.loop-k-test.true c.index-statements-k.is c.split_at.ensures.back c.first_number-next.ensures result
    c.in_default.ensures found)

pub find-returns-in-Some : goal.find-returns-in-Some
find-returns-in-Some t c =
    c.loop-k.invariant (Some c.in-Some.found)
    (found-at c.args.statements.now c.loop-k.k c.index-statements-k.result c.split_at.result.1.now c.args.after
    c.first_number-next.result c.args.number
    c.loop-k-test.true c.index-statements-k.is c.split_at.ensures.back c.first_number-next.ensures c.in-Some.found
    c.in-Some.ensures)

pub find-returns : goal.find-returns
find-returns t c =
    c.loop-k.invariant None (past-end c.args.statements.now c.loop-k.k c.args.after c.args.number c.loop-k-test.false)

pub find_in-returns-in-Some : goal.find_in-returns-in-Some
find_in-returns-in-Some t c =
    found-before c.args.statement.now c.args.after c.args.number c.in-Some.found (c.in-Some.ensures c.args.after)

pub find_in-returns-in-Some-find_own : goal.find_in-returns-in-Some-find_own
find_in-returns-in-Some-find_own t c =
    found-own c.args.statement.now c.args.after c.args.number c.in-Some-find_own.found
    (c.in_default.ensures c.args.after)
    c.in-Some-find_own.ensures

pub find_in-returns : goal.find_in-returns
find_in-returns t c =
    found-inside c.args.statement.now c.args.after c.args.number c.find_within.result
    (c.in_default.ensures c.args.after)
    c.in_default-find_own.ensures c.find_within.ensures

pub find_before-returns-in-DoUntil : goal.find_before-returns-in-DoUntil
find_before-returns-in-DoUntil t c = λ after.
    found-do c.args.statement.now after c.args.number c.in-DoUntil.body c.as_slice.result.now c.in-DoUntil.test
    c.in-DoUntil.is c.as_slice.ensures c.from.result c.from.ensures c.find.result c.find.ensures

pub find_within-returns-in-Some : goal.find_within-returns-in-Some
find_within-returns-in-Some t c =
    found-if c.args.statement.now c.args.after c.args.number
    c.in-If.test c.in-If.yes c.in-If.no c.as_slice.result.now c.in-If.no
    c.in-If.is c.as_slice.ensures refl (Some c.in-Some.found) None (Some c.in-Some.found) c.in-Some.ensures
    (λ none. absurd (cc)) (λ none. absurd (cc)) (λ found same. same)

pub find_within-returns-in-None : goal.find_within-returns-in-None
find_within-returns-in-None t c =
    found-if c.args.statement.now c.args.after c.args.number
    c.in-If.test c.in-If.yes c.in-If.no c.as_slice.result.now
    c.as_slice-in-None.result.now c.in-If.is c.as_slice.ensures c.as_slice-in-None.ensures None c.find-in-None.result
    c.find-in-None.result c.in-None.ensures (λ _. c.find-in-None.ensures) (λ _. refl)
    (λ found same. absurd (cc))

pub find_within-returns-in-While : goal.find_within-returns-in-While
find_within-returns-in-While t c =
    found-while c.args.statement.now c.args.after c.args.number c.in-While.test c.in-While.body
    c.as_slice-in-While.result.now c.in-While.is c.as_slice-in-While.ensures c.from.result c.from.ensures
    c.find-in-While.result c.find-in-While.ensures

pub find_within-returns-in-Some-find : goal.find_within-returns-in-Some-find
find_within-returns-in-Some-find t c =
    found-for c.args.statement.now c.args.after c.args.number
    c.in-For.variable c.in-For.from c.in-For.to c.in-For.down c.in-For.step c.in-For.body
    c.as_slice-in-None-find_test.result.now c.in-For.last c.from-in-None-find_test.result c.in-For.is
    c.as_slice-in-None-find_test.ensures c.from-in-None-find_test.ensures None (Some c.in-Some-find.found) None
    (Some c.in-Some-find.found)
    c.in-None-find_test.ensures (λ _. c.in-Some-find.ensures) (λ _ none. absurd (cc)) (λ found same. absurd (cc))
    (λ found _ same. same) (λ _ none. absurd (cc))

pub find_within-returns-in-None-find : goal.find_within-returns-in-None-find
find_within-returns-in-None-find t c =
    found-for c.args.statement.now c.args.after c.args.number
    c.in-For.variable c.in-For.from c.in-For.to c.in-For.down c.in-For.step c.in-For.body
    c.as_slice-in-None-find_test.result.now c.in-For.last c.from-in-None-find_test.result c.in-For.is
    c.as_slice-in-None-find_test.ensures c.from-in-None-find_test.ensures None None c.find_last.result
    c.find_last.result
    c.in-None-find_test.ensures (λ _. c.in-None-find.ensures) (λ _ _. c.find_last.ensures c.args.after)
    (λ found same. absurd (cc)) (λ found _ same. absurd (cc)) (λ _ _. refl)
