-- A step keeps the words of a stack those of its parts.
use Rattle.std.proofs.Common.{◌≡◌, ℕ, ℤ, pos, Bool, true, false, List, [], ◌∷◌, drop, Option, Some, None, refl, ap, sym}
use Rattle.std.proofs.Common.{◌∙◌}
use Rattle.std.specs.Prelude.{neg_ℤ, not, option_map}
use Rattle.std.specs.Ordering.{int_eq}
use Rattle.gd_words.specs.Arithmetic.{wrap}
use Rattle.tal_tree.specs.Rows.{and-is, or-is}
use Rattle.tal_tree.specs.declared.expression.Op.{Op}
use Rattle.tal_tree.specs.declared.expression.Rel.{Rel}
use Rattle.tal_tree.specs.declared.expression.Spot.TheVariants as spot
use Rattle.tal_values.specs.Value.{Memory, value_of, truth_of, both, holds, result_of, and_of, or_of}
use Rattle.tal_values.proofs.TruthSteps.{truth-not}
use Rattle.tal_values.proofs.ValueSteps.{value-read, value-minus, value-two}
use Rattle.tal_code.specs.declared.step.Instruction.{Instruction}
use Rattle.tal_code.specs.declared.step.Instruction.TheVariants as step
use Rattle.tal_code.specs.Words.{WordStack, first_word, as_word, truth_word, compared_word, not_word, and_word, or_word}
use Rattle.tal_code.specs.Words.{element_word, operand_expr, words_after, words_after_all}
use Rattle.tal_code.specs.Parts.{Part, Lacking, Valued, Tested, PartStack, Shows, first_part, two_part, minus_part}
use Rattle.tal_code.specs.Parts.{element_part, truth_part, compared_part, not_part, and_part, or_part, parts_after}
use Rattle.tal_code.specs.Parts.{parts_after_all}

-- the words below the top are those of the parts there, as many
abbrev pub ShowsBelow : Memory → List Part → List (Option ℤ) → Type 0
ShowsBelow m [] [] = Unit {0}
ShowsBelow m [] (word ∷ words) = ⊥
ShowsBelow m (part ∷ parts) [] = ⊥
ShowsBelow m (part ∷ parts) (word ∷ words) = Shows m part word × ShowsBelow m parts words

-- each word is that of the part at its place
pub record ShowsAll (m : Memory) (parts : PartStack) (words : WordStack) : Type 0 where
  pub top : Shows m parts.top words.top
  pub below : ShowsBelow m parts.below words.below

first-shown : (m : Memory) (parts : List Part) (words : List (Option ℤ)) → ShowsBelow m parts words
    → Shows m (first_part parts) (first_word words)
first-shown m [] [] shown = tt
first-shown m [] (word ∷ words) shown = elim shown [ ]
first-shown m (part ∷ parts) [] shown = elim shown [ ]
first-shown m (part ∷ parts) (word ∷ words) shown = shown.0

rest-shown : (m : Memory) (parts : List Part) (words : List (Option ℤ)) → ShowsBelow m parts words
    → ShowsBelow m (drop 1 parts) (drop 1 words)
rest-shown m [] [] shown = tt
rest-shown m [] (word ∷ words) shown = elim shown [ ]
rest-shown m (part ∷ parts) [] shown = elim shown [ ]
rest-shown m (part ∷ parts) (word ∷ words) shown = shown.1

two-shown : (m : Memory) (op : Op) (p q : Part) (x y : Option ℤ) → Shows m p x → Shows m q y
    → Shows m (two_part op p q) (both (result_of op) x y)
two-shown m op Lacking q x y left right = tt
two-shown m op (Tested c) q x y left right = tt
two-shown m op (Valued d) Lacking x y left right = tt
two-shown m op (Valued d) (Tested c) x y left right = tt
two-shown m op (Valued d) (Valued e) x y left right =
    (λ i. both (result_of op) (left i) (right i)) ∙ sym (value-two m op d e)

minus-shown : (m : Memory) (p : Part) (x : Option ℤ) → Shows m p x
    → Shows m (minus_part p) (option_map (λ z. wrap (neg_ℤ z)) x)
minus-shown m Lacking x is = tt
minus-shown m (Tested c) x is = tt
minus-shown m (Valued e) x is = ap (option_map (λ z. wrap (neg_ℤ z))) is ∙ sym (value-minus m e)

element-shown : (m : Memory) (item : ℕ) (p : Part) (x : Option ℤ) → Shows m p x
    → Shows m (element_part item p) (element_word m item x)
element-shown m item Lacking x is = tt
element-shown m item (Tested c) x is = tt
element-shown m item (Valued e) x is = ap (element_word m item) is ∙ sym (value-read m (spot.Element item e))

truth-map : (v : Option ℤ) → truth_word v ≡ option_map as_word (option_map (λ x. not (int_eq x (pos 0))) v)
truth-map None = refl
truth-map (Some x) = refl

truth-shown : (m : Memory) (p : Part) (x : Option ℤ) → Shows m p x → Shows m (truth_part p) (truth_word x)
truth-shown m Lacking x is = tt
truth-shown m (Tested c) x is = tt
truth-shown m (Valued e) x is = ap truth_word is ∙ truth-map (value_of m e)

compared-map : (rel : Rel) (v w : Option ℤ)
    → compared_word rel v w ≡ option_map as_word (both (λ x y. Some (holds rel x y)) v w)
compared-map rel None w = refl
compared-map rel (Some x) None = refl
compared-map rel (Some x) (Some y) = refl

compared-shown : (m : Memory) (rel : Rel) (p q : Part) (x y : Option ℤ) → Shows m p x → Shows m q y
    → Shows m (compared_part rel p q) (compared_word rel x y)
compared-shown m rel Lacking q x y left right = tt
compared-shown m rel (Tested c) q x y left right = tt
compared-shown m rel (Valued d) Lacking x y left right = tt
compared-shown m rel (Valued d) (Tested c) x y left right = tt
compared-shown m rel (Valued d) (Valued e) x y left right =
    (λ i. compared_word rel (left i) (right i)) ∙ compared-map rel (value_of m d) (value_of m e)

not-map : (t : Option Bool) → not_word (option_map as_word t) ≡ option_map as_word (option_map not t)
not-map None = refl
not-map (Some true) = refl
not-map (Some false) = refl

not-shown : (m : Memory) (p : Part) (x : Option ℤ) → Shows m p x → Shows m (not_part p) (not_word x)
not-shown m Lacking x is = tt
not-shown m (Valued e) x is = tt
not-shown m (Tested c) x is = ap not_word is ∙ not-map (truth_of m c) ∙ ap (option_map as_word) (sym (truth-not m c))

and-map : (t u : Option Bool) → and_word (option_map as_word t) (option_map as_word u) ≡ option_map as_word (and_of t u)
and-map None u = refl
and-map (Some true) u = refl
and-map (Some false) u = refl

and-shown : (m : Memory) (p q : Part) (x y : Option ℤ) → Shows m p x → Shows m q y
    → Shows m (and_part p q) (and_word x y)
and-shown m Lacking q x y left right = tt
and-shown m (Valued d) q x y left right = tt
and-shown m (Tested c) Lacking x y left right = tt
and-shown m (Tested c) (Valued d) x y left right = tt
and-shown m (Tested c) (Tested d) x y left right =
    (λ i. and_word (left i) (right i)) ∙ and-map (truth_of m c) (truth_of m d)
    ∙ ap (λ t. option_map as_word (truth_of m t)) (sym (and-is c d))

or-map : (t u : Option Bool) → or_word (option_map as_word t) (option_map as_word u) ≡ option_map as_word (or_of t u)
or-map None u = refl
or-map (Some true) u = refl
or-map (Some false) u = refl

or-shown : (m : Memory) (p q : Part) (x y : Option ℤ) → Shows m p x → Shows m q y → Shows m (or_part p q) (or_word x y)
or-shown m Lacking q x y left right = tt
or-shown m (Valued d) q x y left right = tt
or-shown m (Tested c) Lacking x y left right = tt
or-shown m (Tested c) (Valued d) x y left right = tt
or-shown m (Tested c) (Tested d) x y left right =
    (λ i. or_word (left i) (right i)) ∙ or-map (truth_of m c) (truth_of m d)
    ∙ ap (λ t. option_map as_word (truth_of m t)) (sym (or-is c d))

-- the word below the top is that of the part there
below-top : (m : Memory) (parts : PartStack) (words : WordStack) → ShowsAll m parts words
    → Shows m (first_part parts.below) (first_word words.below)
below-top m parts words shown = first-shown m parts.below words.below shown.below

step-shows : (m : Memory) (s : Instruction) (parts : PartStack) (words : WordStack) → ShowsAll m parts words
    → ShowsAll m (parts_after s parts) (words_after m s words)
step-shows m (step.Load o) parts words shown = record { top = refl; below = (shown.top, shown.below) }
step-shows m (step.With op o) parts words shown = record {
  top = two-shown m op parts.top (Valued (operand_expr o)) words.top (value_of m (operand_expr o)) shown.top refl;
  below = shown.below;
}
step-shows m (step.Two op) parts words shown = record {
  top = two-shown m op (first_part parts.below) parts.top (first_word words.below) words.top
      (below-top m parts words shown) shown.top;
  below = rest-shown m parts.below words.below shown.below;
}
step-shows m step.Minus parts words shown =
    record { top = minus-shown m parts.top words.top shown.top; below = shown.below }
step-shows m (step.Element item) parts words shown =
    record { top = element-shown m item parts.top words.top shown.top; below = shown.below }
step-shows m step.Truth parts words shown =
    record { top = truth-shown m parts.top words.top shown.top; below = shown.below }
step-shows m (step.CompareWith rel o) parts words shown = record {
  top = compared-shown m rel parts.top (Valued (operand_expr o)) words.top (value_of m (operand_expr o)) shown.top refl;
  below = shown.below;
}
step-shows m (step.Compare rel) parts words shown = record {
  top = compared-shown m rel (first_part parts.below) parts.top (first_word words.below) words.top
      (below-top m parts words shown) shown.top;
  below = rest-shown m parts.below words.below shown.below;
}
step-shows m step.Not parts words shown =
    record { top = not-shown m parts.top words.top shown.top; below = shown.below }
step-shows m step.And parts words shown = record {
  top = and-shown m (first_part parts.below) parts.top (first_word words.below) words.top
      (below-top m parts words shown) shown.top;
  below = rest-shown m parts.below words.below shown.below;
}
step-shows m step.Or parts words shown = record {
  top = or-shown m (first_part parts.below) parts.top (first_word words.below) words.top
      (below-top m parts words shown) shown.top;
  below = rest-shown m parts.below words.below shown.below;
}

-- steps keep the words those of the parts
pub all-shown : (m : Memory) (steps : List Instruction) (parts : PartStack) (words : WordStack) → ShowsAll m parts words
    → ShowsAll m (parts_after_all steps parts) (words_after_all m steps words)
all-shown m [] parts words shown = shown
all-shown m (s ∷ steps) parts words shown =
    all-shown m steps (parts_after s parts) (words_after m s words) (step-shows m s parts words shown)
