use Rattle.std.proofs.Common.{◌≡◌, ◌≤◌, inl, inr, ℕ, zero, suc, List, [], ◌∷◌, slice_get, Some, arith, refl, subst, sym}
use denote.Hole.Carrier.{shown, out}
use Rattle.gd_words.specs.Members.{IsAmong}
use Rattle.tal_tree.specs.declared.program.Program.{Program}
use Rattle.tal_tree.specs.declared.statement.What.{out-What}
use Rattle.tal_tree.specs.declared.statement.What.TheBlock.{shown-the_row-Statement-0}
use Rattle.path_semantics.specs.declared.reason.Reason.TheVariants.{Input}
use Rattle.path_semantics.specs.Bounds.{IsWithinBounds}
use Rattle.advice.specs.declared.answer.Advised.{Advised}
use Rattle.advice.specs.Advice.{IsLeastDepth}
use Rattle.advice.specs.Answer.{IsLeastList}
use Rattle.advice_guards.specs.Programs.{serving, two_lists}
use Rattle.advice_guards.proofs.All.{serving-all, two_lists-all}
use Rattle.advice_guards.proofs.Listed.{items-are, files-are, one-least, unbroken, in-order}
use Rattle.advice_guards.proofs.Stands.{serving_stands, serving_ways, two_stands, two_ways}
use Rattle.advice_guards.proofs.answers.answers_are_told.Goals as goal

-- two files of depth 1

both-one : (program : Program) → IsLeastDepth program 0 1 → IsLeastDepth program 1 1 → (file depth : ℕ)
    → slice_get (1 ∷ 1 ∷ []) file ≡ Some depth → IsLeastDepth program file depth
both-one program first second zero depth there =
    subst (IsLeastDepth program 0) (let same : 1 ≡ depth = cc in same) first
both-one program first second (suc zero) depth there =
    subst (IsLeastDepth program 1) (let same : 1 ≡ depth = cc in same) second
both-one program first second (suc (suc file)) depth there = absurd (cc)

both-few : (file depth : ℕ) → slice_get (1 ∷ 1 ∷ []) file ≡ Some depth → depth ≤ 4
both-few zero depth there = let same : 1 ≡ depth = cc in omega arith
both-few (suc zero) depth there = let same : 1 ≡ depth = cc in omega arith
both-few (suc (suc file)) depth there = absurd (cc)

-- what holds of these holds of each among them
each-of : (P : Advised → Type 0) (one first : Advised) (rest : List Advised) → P first → (IsAmong one rest → P one)
    → IsAmong one (first ∷ rest) → P one
each-of P one first rest holds later (inl same) = subst P (sym same) holds
each-of P one first rest holds later (inr among) = later among

serving-bounds : IsWithinBounds serving
unfolding out-What shown-the_row-Statement-0 shown out
serving-bounds = record { depth = omega arith; size = omega arith }

two-bounds : IsWithinBounds two_lists
unfolding out-What shown-the_row-Statement-0 shown out
two-bounds = record { depth = omega arith; size = omega arith }

abbrev at_turn : Advised
at_turn = record { statement = 4; line = 14; items = 0 ∷ 5 ∷ 6 ∷ []; files = 1 ∷ [] }

serving-list : IsLeastList serving at_turn
unfolding out-What shown-the_row-Statement-0 shown out
serving-list = record {
  items = items-are serving serving_stands serving_ways serving-all 4
      ((0, 1 ∷ 2 ∷ 3 ∷ []) ∷ (5, 1 ∷ 2 ∷ 3 ∷ []) ∷ (6, 1 ∷ 2 ∷ 3 ∷ []) ∷ []) refl refl;
  files = files-are serving serving_stands serving_ways serving-all 4
      ((1, 1 ∷ 2 ∷ 3 ∷ 4 ∷ 5 ∷ 6 ∷ 1 ∷ 2 ∷ 3 ∷ []) ∷ []) refl refl;
  ascending_items = in-order (0 ∷ 5 ∷ 6 ∷ []) refl;
  ascending_files = in-order (1 ∷ []) refl;
}

abbrev first : Advised
first = record { statement = 2; line = 12; items = 0 ∷ []; files = [] }

first-list : IsLeastList two_lists first
unfolding out-What shown-the_row-Statement-0 shown out
first-list = record {
  items = items-are two_lists two_stands two_ways two_lists-all 2 ((0, 1 ∷ []) ∷ []) refl refl;
  files = files-are two_lists two_stands two_ways two_lists-all 2 [] refl refl;
  ascending_items = in-order (0 ∷ []) refl;
  ascending_files = tt;
}

abbrev second : Advised
second = record { statement = 3; line = 13; items = []; files = [] }

second-list : IsLeastList two_lists second
unfolding out-What shown-the_row-Statement-0 shown out
second-list = record {
  items = items-are two_lists two_stands two_ways two_lists-all 3 [] refl refl;
  files = files-are two_lists two_stands two_ways two_lists-all 3 [] refl refl;
  ascending_items = tt;
  ascending_files = tt;
}

abbrev third : Advised
third = record { statement = 5; line = 15; items = 1 ∷ []; files = [] }

third-list : IsLeastList two_lists third
unfolding out-What shown-the_row-Statement-0 shown out
third-list = record {
  items = items-are two_lists two_stands two_ways two_lists-all 5 ((1, 1 ∷ 2 ∷ 3 ∷ 4 ∷ []) ∷ []) refl refl;
  files = files-are two_lists two_stands two_ways two_lists-all 5 [] refl refl;
  ascending_items = in-order (1 ∷ []) refl;
  ascending_files = tt;
}

pub returns-clause-server : goal.returns-clause-server
unfolding out-What shown-the_row-Statement-0 shown out
returns-clause-server c = record {
  bounds = serving-bounds;
  input = unbroken serving serving_stands serving_ways serving-all Input refl;
  numbers = refl;
  lines = refl;
  lists = λ one. each-of (IsLeastList serving) one at_turn [] serving-list (λ among. absurd among);
  count = refl;
  depths = both-one serving (one-least serving serving_stands serving_ways serving-all 0 refl)
      (one-least serving serving_stands serving_ways serving-all 1 refl);
  few = both-few;
}

pub returns-clause-several : goal.returns-clause-several
unfolding out-What shown-the_row-Statement-0 shown out
returns-clause-several c = record {
  bounds = two-bounds;
  input = unbroken two_lists two_stands two_ways two_lists-all Input refl;
  numbers = refl;
  lines = refl;
  lists = λ one. each-of (IsLeastList two_lists) one first (second ∷ third ∷ []) first-list
      (each-of (IsLeastList two_lists) one second (third ∷ []) second-list
      (each-of (IsLeastList two_lists) one third [] third-list (λ among. absurd among)));
  count = refl;
  depths = both-one two_lists (one-least two_lists two_stands two_ways two_lists-all 0 refl)
      (one-least two_lists two_stands two_ways two_lists-all 1 refl);
  few = both-few;
}
