use Rattle.std.proofs.Common.{◌≡◌, ◌∙◌, [], ◌∷◌, ◌++◌, List, Option, None, Some, ap, refl, sym}
use Rattle.break_guards.specs.Sites.{disc_with, entered, replied, written}
use Rattle.break_text.specs.unfailing_judge.specs.plain_semantics.specs.declared.slot.Slot.TheVariants.{Empty}
use Rattle.break_text.specs.unfailing_judge.specs.plain_semantics.specs.Machine.{Made}
use Rattle.tal_tree.specs.declared.act.Shown.{Shown}
use Rattle.break_guards.proofs.judging.an_act_goes_if_it_can.Goals as goal

pub returns-clause-enters : goal.returns-clause-enters
returns-clause-enters c =
    record { outcome = record { plain = entered; shown = [] }; later = []; possible = refl; fits = refl }

pub returns-clause-impossible : goal.returns-clause-impossible
returns-clause-impossible c = λ can. let none = can.possible in absurd (cc)

pub returns-clause-prints : goal.returns-clause-prints
returns-clause-prints c = record {
  outcome = record {
    plain = record { processes = disc_with Empty ∷ []; entered = 1 ∷ [] };
    shown = replied 5 ∷ [];
  };
  later = written 6 ∷ [];
  possible = refl;
  fits = refl;
}

abbrev shown-in : Option Made → List Shown
shown-in None = []
shown-in (Some m) = m.shown

pub returns-clause-other : goal.returns-clause-other
returns-clause-other c = λ can.
    let same : (replied 6 ∷ replied 5 ∷ []) ≡ (replied 5 ∷ can.later) =
    can.fits ∙ ap (λ (m : Option Made). shown-in m ++ can.later) (sym can.possible) in absurd (cc)

pub returns-clause-nothing : goal.returns-clause-nothing
returns-clause-nothing c = λ can.
    let same : [] ≡ (replied 5 ∷ can.later) =
    can.fits ∙ ap (λ (m : Option Made). shown-in m ++ can.later) (sym can.possible) in absurd (cc)
