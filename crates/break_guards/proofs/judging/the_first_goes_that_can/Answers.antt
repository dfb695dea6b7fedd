use Rattle.std.proofs.Common.{◌≡◌, true, false, List, [], ◌∷◌, ◌++◌, Some, refl, subst, sym}
use Rattle.tal_tree.specs.declared.act.Act.{Act}
use Rattle.tal_tree.specs.declared.act.Act.TheVariants.{Step, Take, Enter, Print}
use Rattle.break_guards.specs.Sites.{asking, replied}
use Rattle.break_text.specs.unfailing_judge.specs.Order.{NoneGoes}
use Rattle.break_text.specs.unfailing_judge.specs.Turns.{HasTurn}
use Rattle.break_text.specs.unfailing_judge.specs.plain_semantics.specs.Machine.{made, plain_start}
use Rattle.break_guards.proofs.judging.the_first_goes_that_can.Goals as goal

no-take : NoneGoes asking (plain_start asking) (replied 5 ∷ []) (Take 0 0 ∷ [])
no-take [] act after e turn can =
    let same : Take 0 0 ≡ act = cc in
    let none : made asking (plain_start asking) (Take 0 0) ≡ Some can.outcome =
    subst (λ (one : Act). made asking (plain_start asking) one ≡ Some can.outcome) (sym same) can.possible in
    absurd (cc)
no-take (x ∷ []) act after e turn can = absurd (cc)
no-take (x ∷ (y ∷ before)) act after e turn can = absurd (cc)

pub returns-clause-goes : goal.returns-clause-goes
returns-clause-goes c = record {
  before = Take 0 0 ∷ [];
  after = [];
  shown = [];
  there = refl;
  turn = refl;
  first = no-take;
  possible = refl;
  fits = refl;
  left = refl;
}

pub returns-clause-waits : goal.returns-clause-waits
returns-clause-waits c = λ new step. let none = step.possible in absurd (cc)

true-false : true ≡ false → ⊥
true-false e = cc

turn-kept : (before after : List Act) → (Print 0 ∷ Enter 0 ∷ []) ≡ (before ++ Enter 0 ∷ after)
    → HasTurn before (Enter 0) → ⊥
turn-kept [] after e turn = cc
turn-kept (x ∷ before) after e turn =
    let same : Print 0 ≡ x = cc in
    true-false (subst (λ (one : Act). HasTurn (one ∷ before) (Enter 0)) (sym same) turn)

pub returns-clause-own : goal.returns-clause-own
returns-clause-own c = λ new step. turn-kept step.before step.after step.there step.turn

not-left : (before after : List Act) → (Step 0 ∷ []) ≡ (before ++ Enter 0 ∷ after) → ⊥
not-left [] after e = cc
not-left (x ∷ []) after e = cc
not-left (x ∷ (y ∷ before)) after e = cc

pub returns-clause-later : goal.returns-clause-later
returns-clause-later c = λ new step. not-left step.before step.after step.there
