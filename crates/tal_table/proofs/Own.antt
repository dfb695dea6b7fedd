-- Which numbers tell what remains in a procedure.
use Rattle.std.proofs.Common.{◌≡◌, ◌⊎◌, inl, inr, ℕ, zero, suc, ◌≤◌, ◌<◌, ◌==◌, Bool, true, false, List, [], ◌∷◌, map}
use Rattle.std.proofs.Common.{length, eq-eqb, refl, ap, sym, subst, ◌∙◌, arith}
use Rattle.std.proofs.lemmas.Bool.{eqb-true}
use Rattle.std.proofs.lemmas.Option.{slice_get_past, slice_get_within}
use Rattle.std.specs.Option.{option_and_then}
use Rattle.std.specs.Prelude.{Option, Some, None, slice_get}
use Rattle.gd_words.specs.Members.{IsAmong}
use Rattle.gd_words.proofs.Distinct.{given_at, given-apart}
use Rattle.tal_tree.specs.Ordered.{IsNumbered}
use Rattle.tal_tree.specs.Regular.{IsRegular}
use Rattle.tal_tree.specs.Statements.{numbers_of}
use Rattle.tal_tree.specs.declared.program.Procedure.{Procedure}
use Rattle.tal_tree.specs.declared.program.Program.{Program}
use Rattle.process_semantics.specs.Remains.{Remains}
use Rattle.process_semantics.specs.Rests.{next_number, rests_of, rest_from}
use Rattle.process_semantics.specs.State.{Entry}
use Rattle.process_semantics.proofs.Told.{in-order, told, found}
use Rattle.tal_table.specs.Places.{places, rest_at}
use Rattle.tal_table.specs.Tables.{IsOf, IsTable, told_in, told_if}
use Rattle.tal_table.specs.declared.node.Heading.{Heading}
use Rattle.tal_table.specs.declared.node.Node.{Node}
use Rattle.tal_table.proofs.Numbered.{next-at, here-at, past-at, stands-at, within-there, numbers-distinct, few-places}
use Rattle.tal_table.proofs.Numbered.{among-places}

among-map : {A B : Type 0} (f : A → B) (x : A) (xs : List A) → IsAmong x xs → IsAmong (f x) (map f xs)
among-map f x [] among = absurd among
among-map f x (y ∷ xs) (inl same) = inl (ap f same)
among-map f x (y ∷ xs) (inr among) = inr (among-map f x xs among)

none-by : {A : Type 0} (found : Option A) → ((x : A) → found ≡ Some x → ⊥) → found ≡ None
none-by None never = refl
none-by (Some x) never = absurd (never x refl)

module _ (program : Program) (numbered : IsNumbered program) (number : ℕ) (some : 1 ≤ number) where
  -- what a number tells in a procedure stands at that number
  told-stands : (k : ℕ) (procedure : Procedure) (rest : List Entry) → slice_get program.procedures k ≡ Some procedure
      → Remains procedure.body rest × (next_number rest ≡ number)
      → IsAmong rest (rests_of procedure.body) × (slice_get (places program) number ≡ Some rest)
  told-stands k procedure rest there (inl none, is) =
      absurd (let end : next_number rest ≡ 0 = ap next_number none in omega arith)
  told-stands k procedure rest there (inr among, is) = (
    among,
    subst (λ (n : ℕ). slice_get (places program) n ≡ Some rest) is
        (stands-at program numbered rest (among-places program k procedure rest there among)),
  )

  told-at : (k : ℕ) (of : Option Procedure) (rest : List Entry) → slice_get program.procedures k ≡ of
      → option_and_then (λ (procedure : Procedure). rest_from procedure.body number) of ≡ Some rest
      → IsOf program.procedures k rest × (slice_get (places program) number ≡ Some rest)
  told-at k None rest there is = absurd (cc)
  told-at k (Some procedure) rest there is =
      let both = told-stands k procedure rest there (found procedure.body number rest is) in
      ((procedure, there, both.0), both.1)

  -- past the last number nothing is told
  pub none-told : (k : ℕ) → slice_get (places program) number ≡ None → told_in program k number ≡ None
  none-told k past = none-by (told_in program k number) (λ rest is.
      let at = (told-at k (slice_get program.procedures k) rest refl is).1 in cc)

  -- a number of its own tells what remains in a procedure
  pub own-told : IsRegular program → (k : ℕ) → number < length (places program)
      → IsOf program.procedures k (rest_at (places program) number)
      → told_in program k number ≡ Some (rest_at (places program) number)
  own-told regular k within of =
      let rest : List Entry = rest_at (places program) number in
      let there = within-there (places program) number within in
      let at : slice_get (places program) number ≡ Some rest =
      there.1 ∙ ap (λ (r : List Entry). Some r) (sym (here-at (places program) number there.0 there.1)) in
      let each = regular.procedures k of.0 of.1 in
      ap (option_and_then (λ (procedure : Procedure). rest_from procedure.body number)) of.1
      ∙ subst (λ (n : ℕ). rest_from of.0.body n ≡ Some rest) (next-at program numbered number rest at)
      (told of.0.body each.distinct each.positive rest (inr of.2))

  number-of : (k : ℕ) (rest : List Entry) → IsOf program.procedures k rest → next_number rest ≡ number
      → IsAmong number (given_at (λ (procedure : Procedure). numbers_of procedure.body)
      (slice_get program.procedures k))
  number-of k rest of is = subst (λ (o : Option Procedure). IsAmong number
      (given_at (λ (procedure : Procedure). numbers_of procedure.body) o)) (sym of.1)
      (subst (λ (ns : List ℕ). IsAmong number ns) (in-order of.0.body)
      (subst (λ (n : ℕ). IsAmong n (map next_number (rests_of of.0.body))) is
      (among-map next_number rest (rests_of of.0.body) of.2)))

  apart : (k j : ℕ) → (k ≡ j → ⊥) → IsAmong number
      (given_at (λ (procedure : Procedure). numbers_of procedure.body) (slice_get program.procedures k))
      → IsAmong number (given_at (λ (procedure : Procedure). numbers_of procedure.body)
      (slice_get program.procedures j)) → ⊥
  apart k j differ first second = which (order k j differ)
    where
      order : (k j : ℕ) → (k ≡ j → ⊥) → (k < j) ⊎ (j < k)
      order zero zero differ = absurd (differ refl)
      order zero (suc j) differ = inl (omega arith)
      order (suc k) zero differ = inr (omega arith)
      order (suc k) (suc j) differ = elim (order k j (λ same. differ (ap suc same)))
          [ inl less ↦ inl (omega arith) | inr more ↦ inr (omega arith) ]

      which : (k < j) ⊎ (j < k) → ⊥
      which (inl less) = given-apart (λ (procedure : Procedure). numbers_of procedure.body) program.procedures k j
          number (numbers-distinct program numbered) less first second
      which (inr more) = given-apart (λ (procedure : Procedure). numbers_of procedure.body) program.procedures j k
          number (numbers-distinct program numbered) more second first

  -- a number of another procedure tells nothing
  pub other-told : (k j : ℕ) → (j ≡ k → ⊥) → number < length (places program)
      → IsOf program.procedures j (rest_at (places program) number) → told_in program k number ≡ None
  other-told k j differ within of = none-by (told_in program k number) (λ rest is.
      let both = told-at k (slice_get program.procedures k) rest refl is in
      let there = within-there (places program) number within in
      let at : slice_get (places program) number ≡ Some (rest_at (places program) number) =
      there.1 ∙ ap (λ (r : List Entry). Some r) (sym (here-at (places program) number there.0 there.1)) in
      apart j k differ (number-of j (rest_at (places program) number) of
      (next-at program numbered number (rest_at (places program) number) at))
      (number-of k rest both.0 (next-at program numbered number rest both.1)))

-- What a table tells of a number

-- the table of a program that is seen, by what its fields keep
pub table-seen : {A B C : Type 0} (value program : Program) (nodes : List Node) (headings : List Heading)
    → value ≡ program → A × (B × (IsTable value nodes headings × C))
    → IsTable program nodes headings
table-seen value program nodes headings is kept = subst (λ (p : Program). IsTable p nodes headings) is kept.1.1.0

module _ (program : Program) (nodes : List Node) (headings : List Heading) (table : IsTable program nodes headings)
    (number : ℕ) where
  here-within : number < length nodes → number < length (places program)
  here-within within = let same : length nodes ≡ length (places program) = table.nodes_are.all in omega arith

  pub next-there : number < length nodes → number ≡ next_number (rest_at (places program) number)
  next-there within =
      let there = within-there (places program) number (here-within within) in
      sym (ap next_number (here-at (places program) number there.0 there.1)
      ∙ next-at program table.numbered number there.0 there.1)

  pub few-there : number < length nodes → number ≤ 2000
  few-there within = few-places program table.numbered table.limits number (here-within within)

  past-places : length nodes ≤ number → length (places program) ≤ number
  past-places past = let same : length nodes ≡ length (places program) = table.nodes_are.all in omega arith

  pub next-past : length nodes ≤ number → 0 ≡ next_number (rest_at (places program) number)
  next-past past = ap next_number (sym (past-at (places program) number (past-places past)))

  pub past-told : (k : ℕ) → 1 ≤ number → length nodes ≤ number → told_in program k number ≡ None
  past-told k some past =
      none-told program table.numbered number some k (slice_get_past (places program) number (past-places past))

  pub node-told : (k : ℕ) (node : Node) → 1 ≤ number → slice_get nodes number ≡ Some node
      → told_in program k number ≡ told_if (node.procedure == k) (rest_at (places program) number)
  node-told k node some there = which (node.procedure == k) refl
    where
      within : number < length (places program)
      within = here-within (slice_get_within nodes number node there)

      of : IsOf program.procedures node.procedure (rest_at (places program) number)
      of = table.nodes_are.own number node some there

      which : (b : Bool) → (node.procedure == k) ≡ b
          → told_in program k number ≡ told_if b (rest_at (places program) number)
      which true same = own-told program table.numbered number some table.regular k within
          (subst (λ (j : ℕ). IsOf program.procedures j (rest_at (places program) number))
          (eqb-true node.procedure k same) of)
      which false other = other-told program table.numbered number some k node.procedure
          (λ same. let equal : (node.procedure == k) ≡ true = eq-eqb node.procedure k same in absurd (cc)) within of
