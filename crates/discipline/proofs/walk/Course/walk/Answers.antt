use Rattle.std.proofs.Common.{◌+◌, ◌∷◌, ◌++◌, [], ◌∙◌, ap, subst, sym, take, drop, ℕ}
use Rattle.std.specs.Prelude.{List}
use Rattle.path_semantics.specs.Path.{IsPath}
use Rattle.discipline.specs.Walker.{HasWalked, TellsNextIn}
use Rattle.discipline.proofs.Walked.{walk-on, walk-stops, walk-begins, take-more, take-one, take-then-drop}
use Rattle.discipline.proofs.walk.Course.walk.Goals as goal

pub loop-number-init : goal.loop-number-init
loop-number-init c =
    subst (λ (path : List ℕ). HasWalked c.args.self.program.now c.args.self.reason path c.start-here.result)
    (ap (λ (n : ℕ). n ∷ []) c.from.ensures ∙ sym
    (take-one c.args.path.now c.in-Some.others.now c.in-Some.first.now c.in-Some.ensures.cases.0))
    (walk-begins c.args.self.program.now c.args.self.reason c.start-here.result c.from.result c.start-here.ensures
    (subst (TellsNextIn c.start-here.result.stack c.from.result) c.if-not-comes_to.false c.comes_to.ensures))

pub returns-in-None : goal.returns-in-None
returns-in-None c = λ _ path.
    let more = take-more c.args.path.now c.in-Some.others.now c.in-Some.first.now c.from-in-loop-number.result
    c.loop-number.number-index c.in-Some.ensures.cases.0 c.loop-number-test.true
    c.from-in-loop-number.ensures in
    let last = c.loop-number.number-index + 1 + 1 in
    walk-stops c.args.self.program.now c.args.self.reason c.requires.ordered
    (take (c.loop-number.number-index + 1) c.args.path.now) (drop last c.args.path.now) c.loop-number.here
    c.from-in-loop-number.result
    c.loop-number.invariant c.in-None.ensures
    (subst (IsPath c.args.self.program.now)
    (sym (ap (λ (ns : List ℕ). ns ++ drop last c.args.path.now) more ∙ take-then-drop last c.args.path.now)) path)

pub loop-number-preserved : goal.loop-number-preserved
loop-number-preserved c =
    subst (λ (path : List ℕ). HasWalked c.args.self.program.now c.args.self.reason path c.in-Some-step.there)
    (take-more c.args.path.now c.in-Some.others.now c.in-Some.first.now c.from-in-loop-number.result
    c.loop-number.number-index c.in-Some.ensures.cases.0 c.loop-number-test.true c.from-in-loop-number.ensures)
    (walk-on c.args.self.program.now c.args.self.reason (take (c.loop-number.number-index + 1) c.args.path.now)
    c.loop-number.here c.in-Some-step.there c.from-in-loop-number.result c.loop-number.invariant
    c.in-Some-step.ensures)
