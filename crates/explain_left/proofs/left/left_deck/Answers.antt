use Rattle.std.proofs.Common.{inr, subst}
use Rattle.std.proofs.lemmas.Result.{IfOk-weaker}
use Rattle.explain_why.specs.Judged.{IsJudgedDeck}
use Rattle.explain_left.proofs.left.left_deck.Goals as goal

pub left_of_run-requires-clause-accepted : goal.left_of_run-requires-clause-accepted
left_of_run-requires-clause-accepted c =
    c.unrefused_programs_are_accepted.ensures c.args.bytes.now c.args.deck.site.processes c.in_ok-judged.judged
    (subst (λ specs. IsJudgedDeck c.args.bytes.now specs c.in_ok-judged.judged) c.as_slice.ensures
    c.in_ok-judged.ensures)
    c.if-judged.false

pub returns : goal.returns
returns c = IfOk-weaker c.left_of_run.result _ _ (λ judged is. inr is) c.left_of_run.ensures
