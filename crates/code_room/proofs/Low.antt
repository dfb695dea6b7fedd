-- Code computes what it is made of, and leaves just so many words below the top as left sides wait, and one more.
use Rattle.std.proofs.Common.{◌≡◌, ◌↔◌, ℕ, ◌+◌, ◌<◌, ◌≤◌, arith, List, [], ◌∷◌, ◌++◌, length, refl, ap, sym, subst, ◌∙◌}
use Rattle.std.specs.Prelude.{max, ℤ, Option, Some, None}
use Rattle.tal_tree.specs.declared.expression.Op.{Op}
use Rattle.tal_tree.specs.declared.expression.Rel.{Rel}
use Rattle.tal_tree.specs.declared.expression.Cond.{Cond, Truth, Compare, Not, And, Or}
use Rattle.tal_tree.specs.declared.expression.Expr.{Expr, Number, Read, Minus, Two}
use Rattle.tal_tree.specs.declared.expression.Spot.{Spot, Local, Simple, Element}
use Rattle.tal_code.specs.declared.step.Operand.{Operand}
use Rattle.tal_code.specs.declared.step.Operand.TheVariants as operand
use Rattle.tal_code.specs.declared.step.Instruction.{Instruction}
use Rattle.tal_code.specs.declared.step.Instruction.TheVariants as step
use Rattle.tal_code.specs.Parts.{Part, Valued, Tested, PartStack, nothing, with_part, parts_after, parts_after_all}
use Rattle.tal_code.specs.Room.{LowFrom, IsLow}
use Rattle.tal_code.specs.Words.{operand_expr}
use Rattle.tal_code.specs.Waiting.{waiting_of, waiting_for, waiting_of_test}
use Rattle.code_room.specs.Steps.{spot_operand, operand_of, two_steps, compare_steps, steps_of, steps_of_test}
use Rattle.code_room.proofs.ByParts.{IsByParts, by_parts, IsByTestParts, by_test_parts}
use Rattle.tal_code.proofs.Waits.{for-read, for-minus, for-two, waiting-read, waiting-minus, waiting-two, waiting-not}
use Rattle.tal_code.proofs.Waits.{waiting-and, waiting-or}
use Rattle.code_room.proofs.Layers.{operand-read, operand-minus, operand-two, steps-read, steps-minus, steps-two}
use Rattle.code_room.proofs.Layers.{steps-not, steps-and, steps-or}

after-append : (xs ys : List Instruction) (s : PartStack)
    → parts_after_all (xs ++ ys) s ≡ parts_after_all ys (parts_after_all xs s)
after-append [] ys s = refl
after-append (x ∷ xs) ys s = after-append xs ys (parts_after x s)

low-start : (s : PartStack) (xs : List Instruction) → LowFrom s xs → length s.below ≤ 80
low-start s [] low = low
low-start s (x ∷ xs) low = low.0

-- steps one after the other are low where the first are, and the others are after them
low-both : (s : PartStack) (xs ys : List Instruction) → LowFrom s xs → LowFrom (parts_after_all xs s) ys
    → LowFrom s (xs ++ ys)
low-both s [] ys x y = y
low-both s (step ∷ xs) ys x y = (x.0, low-both (parts_after step s) xs ys x.1 y)

low-left : (s : PartStack) (xs ys : List Instruction) → LowFrom s (xs ++ ys) → LowFrom s xs
low-left s [] ys low = low-start s ys low
low-left s (step ∷ xs) ys low = (low.0, low-left (parts_after step s) xs ys low.1)

low-right : (s : PartStack) (xs ys : List Instruction) → LowFrom s (xs ++ ys) → LowFrom (parts_after_all xs s) ys
low-right s [] ys low = low
low-right s (step ∷ xs) ys low = low-right (parts_after step s) xs ys low.1

-- steps put a part on top, and need room for so many words below it and one more
pub record Puts (part : Part) (waiting : ℕ) (steps : List Instruction) : Type 0 where
  pub part_is : (s : PartStack) → parts_after_all steps s ≡ with_part part s
  pub room : (s : PartStack) → length s.below + waiting < 80 → LowFrom s steps
  pub needed : (s : PartStack) → LowFrom s steps → length s.below + waiting < 80

-- steps change the part on top to another, and need room for so many words below it
pub record Changes (from to : Part) (waiting : ℕ) (steps : List Instruction) : Type 0 where
  pub part_is : (s : PartStack) → parts_after_all steps (with_part from s) ≡ with_part to s
  pub room : (s : PartStack) → length s.below < 80 → length s.below + waiting < 80 → LowFrom (with_part from s) steps
  pub needed : (s : PartStack) → LowFrom (with_part from s) steps → length s.below + waiting < 80

load : (o : Operand) → Puts (Valued (operand_expr o)) 0 (step.Load o ∷ [])
load o = record {
  part_is = λ s. refl;
  room = λ s low. (omega (arith, low), omega (arith, low));
  needed = λ s low. let high : length s.below + 1 ≤ 80 = omega (arith, low.1) in omega (arith, high);
}

-- a step that leaves the words below the top
light : (from to : Part) (x : Instruction) → ((s : PartStack) → parts_after x (with_part from s) ≡ with_part to s)
    → Changes from to 0 (x ∷ [])
light from to x is = record {
  part_is = is;
  room = λ s low more. (
    omega (arith, low),
    subst (λ (t : PartStack). length t.below ≤ 80) (sym (is s)) (omega (arith, low)),
  );
  needed = λ s low. let high : length s.below + 1 ≤ 80 = omega (arith, low.0) in omega (arith, high);
}

-- a right side's steps and then a step that takes the word below the top
joining : (from right to : Part) (waiting : ℕ) (steps : List Instruction) (x : Instruction) → Puts right waiting steps
    → ((s : PartStack) → parts_after x (with_part right (with_part from s)) ≡ with_part to s)
    → Changes from to (waiting + 1) (steps ++ x ∷ [])
joining from right to waiting steps x puts is = record {
  part_is = λ s. whole s;
  room = λ s low more. low-both (with_part from s) steps (x ∷ []) (puts.room (with_part from s) (omega (arith, more)))
      (subst (λ (t : PartStack). LowFrom t (x ∷ [])) (sym (puts.part_is (with_part from s)))
      (omega (arith, more), subst (λ (t : PartStack). length t.below ≤ 80) (sym (is s)) (omega (arith, low))));
  needed = λ s low.
      let high : length s.below + 1 + waiting < 80 =
      omega (arith, puts.needed (with_part from s) (low-left (with_part from s) steps (x ∷ []) low)) in
      omega (arith, high);
}
  where
    whole : (s : PartStack) → parts_after_all (steps ++ x ∷ []) (with_part from s) ≡ with_part to s
    whole s = after-append steps (x ∷ []) (with_part from s) ∙ ap (parts_after x) (puts.part_is (with_part from s))
        ∙ is s

-- steps that put a part and then change it
pub then : (from to : Part) (first more : ℕ) (xs ys : List Instruction) → Puts from first xs → Changes from to more ys
    → Puts to (max first more) (xs ++ ys)
then from to first more xs ys puts changes = record {
  part_is = λ s. after-append xs ys s ∙ ap (parts_after_all ys) (puts.part_is s) ∙ changes.part_is s;
  room = λ s low. low-both s xs ys (puts.room s (omega (arith, low)))
      (subst (λ (t : PartStack). LowFrom t ys) (sym (puts.part_is s))
      (changes.room s (omega (arith, low)) (omega (arith, low))));
  needed = λ s low. omega (
    arith,
    puts.needed s (low-left s xs ys low),
    changes.needed s (subst (λ (t : PartStack). LowFrom t ys) (puts.part_is s) (low-right s xs ys low)),
  );
}

same : (part : Part) {first second : ℕ} {xs ys : List Instruction} → first ≡ second → xs ≡ ys → Puts part first xs
    → Puts part second ys
same part {first} {second} {xs} {ys} count is puts =
    subst (λ (n : ℕ). Puts part n ys) count (subst (λ (zs : List Instruction). Puts part first zs) is puts)

-- an operand stands for the expression that it is made of, for which nothing waits; any other makes one more wait
abbrev IsSimple : Expr → Type 0
IsSimple e = (o : Operand) → operand_of e ≡ Some o → (operand_expr o ≡ e) × (waiting_for e ≡ 0)

abbrev IsOther : Expr → Type 0
IsOther e = operand_of e ≡ None → waiting_for e ≡ waiting_of e + 1

simple_spot : (spot : Spot) (o : Operand) → spot_operand spot ≡ Some o
    → (operand_expr o ≡ Read spot) × (waiting_for (Read spot) ≡ 0)
simple_spot (Local place) o is =
    let made : operand.Local place ≡ o = cc is in (ap operand_expr (sym made), for-read (Local place))
simple_spot (Simple item) o is =
    let made : operand.Simple item ≡ o = cc is in (ap operand_expr (sym made), for-read (Simple item))
simple_spot (Element item index) o is = absurd (cc is)

other_spot : (spot : Spot) → spot_operand spot ≡ None → waiting_for (Read spot) ≡ waiting_of (Read spot) + 1
other_spot (Local place) is = absurd (cc is)
other_spot (Simple item) is = absurd (cc is)
other_spot (Element item index) is = omega (arith, for-read (Element item index), waiting-read (Element item index))

read_parts : (spot : Spot) → IsSimple (Read spot) × IsOther (Read spot)
read_parts spot =
    ((λ o is. simple_spot spot o (sym (operand-read spot) ∙ is)), λ is. other_spot spot (sym (operand-read spot) ∙ is))

number_simple : (n : ℤ) → IsSimple (Number n)
number_simple n o is = let made : operand.Number n ≡ o = cc is in (ap operand_expr (sym made), refl)

number_other : (n : ℤ) → IsOther (Number n)
number_other n is = absurd (cc is)

minus_simple : (inner : Expr) → IsSimple (Minus inner)
minus_simple inner o is =
    let none : ◌≡◌ {A = Option Operand} None (Some o) = sym (operand-minus inner) ∙ is in absurd (cc none)

minus_other : (inner : Expr) → IsOther (Minus inner)
minus_other inner is = omega (arith, for-minus inner, waiting-minus inner)

two_simple : (op : Op) (left right : Expr) → IsSimple (Two op left right)
two_simple op left right o is =
    let none : ◌≡◌ {A = Option Operand} None (Some o) = sym (operand-two op left right) ∙ is in absurd (cc none)

two_other : (op : Op) (left right : Expr) → IsOther (Two op left right)
two_other op left right is = omega (arith, for-two op left right, waiting-two op left right)

simple_parts : IsByParts (λ e. IsSimple e × IsOther e)
simple_parts = record {
  number = λ n. (number_simple n, number_other n);
  local = λ place. read_parts (Local place);
  simple = λ item. read_parts (Simple item);
  element = λ item index all. read_parts (Element item index);
  minus = λ inner all. (minus_simple inner, minus_other inner);
  two = λ op left right x y. (two_simple op left right, two_other op left right);
}

simple : (e : Expr) → IsSimple e
simple e = (by_parts (λ x. IsSimple x × IsOther x) simple_parts e).0

other : (e : Expr) → IsOther e
other e = (by_parts (λ x. IsSimple x × IsOther x) simple_parts e).1

-- the code of an expression
abbrev pub IsComputed : Expr → Type 0
IsComputed e = Puts (Valued e) (waiting_of e) (steps_of e)

two_changes : (op : Op) (left right : Expr) → IsComputed right → (found : Option Operand) → operand_of right ≡ found
    → Changes (Valued left) (Valued (Two op left right)) (waiting_for right) (two_steps op found (steps_of right))
two_changes op left right computed (Some o) is =
    let simply = simple right o is in
    subst (λ n. Changes (Valued left) (Valued (Two op left right)) n (step.With op o ∷ [])) (sym simply.1)
    (light (Valued left) (Valued (Two op left right)) (step.With op o)
    (λ s. ap (λ e. with_part (Valued (Two op left e)) s) simply.0))
two_changes op left right computed None is =
    subst (λ n. Changes (Valued left) (Valued (Two op left right)) n (steps_of right ++ step.Two op ∷ []))
    (sym (other right is))
    (joining (Valued left) (Valued right) (Valued (Two op left right)) (waiting_of right) (steps_of right)
    (step.Two op) computed (λ s. refl))

compare_changes : (rel : Rel) (left right : Expr) → IsComputed right → (found : Option Operand)
    → operand_of right ≡ found
    → Changes (Valued left) (Tested (Compare rel left right)) (waiting_for right)
    (compare_steps rel found (steps_of right))
compare_changes rel left right computed (Some o) is =
    let simply = simple right o is in
    subst (λ n. Changes (Valued left) (Tested (Compare rel left right)) n (step.CompareWith rel o ∷ [])) (sym simply.1)
    (light (Valued left) (Tested (Compare rel left right)) (step.CompareWith rel o)
    (λ s. ap (λ e. with_part (Tested (Compare rel left e)) s) simply.0))
compare_changes rel left right computed None is =
    subst (λ n. Changes (Valued left) (Tested (Compare rel left right)) n (steps_of right ++ step.Compare rel ∷ []))
    (sym (other right is))
    (joining (Valued left) (Valued right) (Tested (Compare rel left right)) (waiting_of right) (steps_of right)
    (step.Compare rel) computed (λ s. refl))

-- a step that changes what was put, and for which nothing more waits
and_then : (from to : Part) (waiting : ℕ) (xs : List Instruction) (x : Instruction) → Puts from waiting xs
    → ((s : PartStack) → parts_after x (with_part from s) ≡ with_part to s)
    → Puts to waiting (xs ++ x ∷ [])
and_then from to waiting xs x puts is =
    let none : max waiting 0 ≡ waiting = omega arith in
    subst (λ n. Puts to n (xs ++ x ∷ [])) none (then from to waiting 0 xs (x ∷ []) puts (light from to x is))

computed_parts : IsByParts IsComputed
computed_parts = record {
  number = λ n. load (operand.Number n);
  local = λ place. same (Valued (Read (Local place))) (sym (waiting-read (Local place)))
      (sym (steps-read (Local place))) (load (operand.Local place));
  simple = λ item. same (Valued (Read (Simple item))) (sym (waiting-read (Simple item)))
      (sym (steps-read (Simple item))) (load (operand.Simple item));
  element = λ item index computed. same (Valued (Read (Element item index))) (sym (waiting-read (Element item index)))
      (sym (steps-read (Element item index)))
      (and_then (Valued index) (Valued (Read (Element item index))) (waiting_of index) (steps_of index)
      (step.Element item) computed (λ s. refl));
  minus = λ inner computed. same (Valued (Minus inner)) (sym (waiting-minus inner)) (sym (steps-minus inner))
      (and_then (Valued inner) (Valued (Minus inner)) (waiting_of inner) (steps_of inner) step.Minus computed
      (λ s. refl));
  two = λ op left right x y. same (Valued (Two op left right)) (sym (waiting-two op left right))
      (sym (steps-two op left right))
      (then (Valued left) (Valued (Two op left right)) (waiting_of left) (waiting_for right) (steps_of left)
      (two_steps op (operand_of right) (steps_of right)) x
      (two_changes op left right y (operand_of right) refl));
}

pub computed : (e : Expr) → IsComputed e
computed e = by_parts IsComputed computed_parts e

-- and that of a condition
abbrev pub IsTested : Cond → Type 0
IsTested c = Puts (Tested c) (waiting_of_test c) (steps_of_test c)

tested_parts : IsByTestParts IsTested
tested_parts = record {
  truth = λ value. and_then (Valued value) (Tested (Truth value)) (waiting_of value) (steps_of value) step.Truth
      (computed value) (λ s. refl);
  compare = λ rel left right. then (Valued left) (Tested (Compare rel left right)) (waiting_of left)
      (waiting_for right) (steps_of left)
      (compare_steps rel (operand_of right) (steps_of right)) (computed left)
      (compare_changes rel left right (computed right) (operand_of right) refl);
  not = λ inner tested. same (Tested (Not inner)) (sym (waiting-not inner)) (sym (steps-not inner))
      (and_then (Tested inner) (Tested (Not inner)) (waiting_of_test inner) (steps_of_test inner) step.Not tested
      (λ s. refl));
  and = λ left right x y. same (Tested (And left right)) (sym (waiting-and left right)) (sym (steps-and left right))
      (then (Tested left) (Tested (And left right)) (waiting_of_test left) (waiting_of_test right + 1)
      (steps_of_test left) (steps_of_test right ++ step.And ∷ []) x
      (joining (Tested left) (Tested right) (Tested (And left right)) (waiting_of_test right) (steps_of_test right)
      step.And y (λ s. refl)));
  or = λ left right x y. same (Tested (Or left right)) (sym (waiting-or left right)) (sym (steps-or left right))
      (then (Tested left) (Tested (Or left right)) (waiting_of_test left) (waiting_of_test right + 1)
      (steps_of_test left) (steps_of_test right ++ step.Or ∷ []) x
      (joining (Tested left) (Tested right) (Tested (Or left right)) (waiting_of_test right) (steps_of_test right)
      step.Or y (λ s. refl)));
}

pub tested : (c : Cond) → IsTested c
tested c = by_test_parts IsTested tested_parts c

-- code begins with nothing below the top
pub low_where_few : (part : Part) (waiting : ℕ) (steps : List Instruction) → Puts part waiting steps
    → IsLow steps ↔ (waiting < 80)
low_where_few part waiting steps puts = (
  (λ low. let few : 0 + waiting < 80 = puts.needed nothing low in omega (arith, few)),
  λ few. puts.room nothing (omega (arith, few)),
)
