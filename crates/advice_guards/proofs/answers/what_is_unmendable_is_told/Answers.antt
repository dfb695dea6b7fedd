use Rattle.std.proofs.Common.{◌<◌, ℕ, zero, suc, not, IsTrue, List, [], ◌∷◌, arith, refl}
use denote.Hole.Carrier.{shown, out}
use Rattle.std.specs.List.{list_all}
use Rattle.tal_tree.specs.declared.statement.What.{out-What}
use Rattle.tal_tree.specs.declared.statement.What.TheBlock.{shown-the_row-Statement-0}
use Rattle.path_semantics.specs.declared.reason.Reason.{Reason}
use Rattle.path_semantics.specs.declared.reason.Reason.TheVariants.{Data, SyncBlock, Input, Depth}
use Rattle.path_semantics.specs.Bounds.{IsWithinBounds}
use Rattle.path_semantics.specs.Break.{Breaks, breaks_at}
use Rattle.path_semantics.specs.Place.{Stand, first_stand}
use Rattle.path_semantics.proofs.Reaching.{breaks-if}
use Rattle.discipline.specs.Verdict.{IsEarlier}
use Rattle.advice.specs.Answer.{IsBeyondLists}
use Rattle.advice.specs.Choice.{deepest}
use Rattle.advice_guards.specs.Programs.{hasty, asking_five}
use Rattle.advice_guards.proofs.All.{deepest_five-all}
use Rattle.advice_guards.proofs.Levels.{after_steps, longer}
use Rattle.advice_guards.proofs.Listed.{unbroken}
use Rattle.advice_guards.proofs.Stands.{five_stands, two_ways}
use Rattle.advice_guards.proofs.answers.what_is_unmendable_is_told.Goals as goal

hasty-bounds : IsWithinBounds hasty
unfolding out-What shown-the_row-Statement-0 shown out
hasty-bounds = record { depth = omega arith; size = omega arith }

five-bounds : IsWithinBounds asking_five
unfolding out-What shown-the_row-Statement-0 shown out
five-bounds = record { depth = omega arith; size = omega arith }

hasty-late : (n : ℕ) → n < 1 → IsTrue (list_all (λ (stand : Stand). not (breaks_at (deepest hasty) Input stand))
    (after_steps (deepest hasty) n (first_stand (deepest hasty) ∷ [])))
unfolding out-What shown-the_row-Statement-0 shown out
hasty-late zero less = refl
hasty-late (suc n) less = absurd (omega arith)

five-late : (n : ℕ) → n < 4 → IsTrue (list_all
    (λ (stand : Stand). not (breaks_at (deepest asking_five) (Depth 1) stand))
    (after_steps (deepest asking_five) n (first_stand (deepest asking_five) ∷ [])))
unfolding out-What shown-the_row-Statement-0 shown out
five-late zero less = refl
five-late (suc zero) less = refl
five-late (suc (suc zero)) less = refl
five-late (suc (suc (suc zero))) less = refl
five-late (suc (suc (suc (suc n)))) less = absurd (omega arith)

none-before-input : (earlier : Reason) (path : List ℕ) → IsBeyondLists earlier → IsEarlier earlier Input
    → Breaks (deepest hasty) path earlier → ⊥
none-before-input (Data item) path beyond before broken = beyond
none-before-input (SyncBlock file) path beyond before broken = beyond
none-before-input Input path beyond before broken = before
none-before-input (Depth file) path beyond before broken = before

none-before-depth : (earlier : Reason) (path : List ℕ) → IsBeyondLists earlier → IsEarlier earlier (Depth 1)
    → Breaks (deepest asking_five) path earlier → ⊥
unfolding out-What shown-the_row-Statement-0 shown out
none-before-depth (Data item) path beyond before broken = beyond
none-before-depth (SyncBlock file) path beyond before broken = beyond
none-before-depth Input path beyond before broken =
    unbroken (deepest asking_five) five_stands two_ways deepest_five-all Input refl path broken
none-before-depth (Depth zero) path beyond before broken =
    unbroken (deepest asking_five) five_stands two_ways deepest_five-all (Depth 0) refl path broken
none-before-depth (Depth (suc file)) path beyond before broken =
    let less : suc file < 1 = before in absurd (omega arith)

pub returns-clause-input : goal.returns-clause-input
unfolding out-What shown-the_row-Statement-0 shown out
returns-clause-input c = record {
  bounds = hasty-bounds;
  beyond = tt;
  shortest = record {
    breaks = (breaks-if (deepest hasty) (1 ∷ []) 2 Input).0 refl;
    least = λ other broken. longer (deepest hasty) Input 1 hasty-late other broken;
  };
  first = none-before-input;
}

pub returns-clause-depth : goal.returns-clause-depth
unfolding out-What shown-the_row-Statement-0 shown out
returns-clause-depth c = record {
  bounds = five-bounds;
  beyond = tt;
  shortest = record {
    breaks = (breaks-if (deepest asking_five) (1 ∷ 2 ∷ 3 ∷ 4 ∷ []) 5 (Depth 1)).0 refl;
    least = λ other broken. longer (deepest asking_five) (Depth 1) 4 five-late other broken;
  };
  first = none-before-depth;
}
