-- Sets by statement numbers, to which a member is added.
use Rattle.std.proofs.Common.{◌≡◌, ◌≤◌, ◌<◌, ◌⊎◌, inl, inr, ◌↔◌, ℕ, zero, suc, ◌+◌, ◌==◌, ◌||◌, ◌&&◌, Bool, true, false}
use Rattle.std.proofs.Common.{IsTrue, arith, List, [], ◌∷◌, length, take, replicate, get_or, Option, Some, None}
use Rattle.std.proofs.Common.{slice_get, slice_set, eq-eqb, refl, ap, subst, sym, ◌∙◌}
use Rattle.std.proofs.lemmas.Bool.{eqb-true, ne_eqb}
use Rattle.std.proofs.lemmas.Bool.Decides.{nat_tests}
use Rattle.std.proofs.lemmas.List.Folds.{list_any_more}
use Rattle.std.proofs.lemmas.Option.{slice_get_read}
use Rattle.tal_tree.specs.declared.statement.What.{out-What}
use Rattle.process_semantics.specs.Rests.{entry_number}
use Rattle.process_semantics.specs.State.{Entry, Run, Test, Last}
use Rattle.advice.specs.flow_paths.specs.Graph.{Node}
use Rattle.advice.specs.reason_dues.specs.Sets.{has_number, AreNumbers}
use Rattle.advice.specs.reason_dues.specs.declared.number_set.Numbers.{Numbers}
use Rattle.advice.specs.due_search.specs.declared.queue.Visit.{Visit}
use Rattle.advice.specs.Due.{is_checkpoint}
use Rattle.advice_search.specs.Gathered.{checkpoint_at, due_at, is_this, is_due_among, has_in, AreReadable, AreAdded}
use Rattle.advice_search.specs.Gathered.{AreDue}
use Rattle.advice_search.proofs.Told.{never, both-told, due-told}

-- nothing is in sets of which each is empty
pub none-in : (set : Numbers) (count number n : ℕ) → ((m : ℕ) → has_number set m ≡ false)
    → has_in (replicate count set) number n ≡ false
none-in set zero number n none = refl
none-in set (suc count) zero n none = none n
none-in set (suc count) (suc number) n none = none-in set count number n none

pub length-set : (sets : List Numbers) (at : ℕ) (set : Numbers) → length (slice_set sets at set) ≡ length sets
length-set [] at set = refl
length-set (one ∷ sets) zero set = refl
length-set (one ∷ sets) (suc at) set = ap suc (length-set sets at set)

zero-suc : (n : ℕ) → (0 == suc n) ≡ false
zero-suc n = ne_eqb 0 (suc n) (λ same. omega (arith, same))

suc-zero : (n : ℕ) → (suc n == 0) ≡ false
suc-zero n = ne_eqb (suc n) 0 (λ same. omega (arith, same))

suc-suc : (n m : ℕ) → (suc n == suc m) ≡ (n == m)
suc-suc n m = grind (arith, nat_tests)

-- the set in one place with one member more
set-one : (sets : List Numbers) (at member : ℕ) (was set : Numbers) → slice_get sets at ≡ Some was
    → AreNumbers set (λ n. (member == n) || has_number was n)
    → (number n : ℕ) → n < 64 → has_in (slice_set sets at set) number n
    ≡ (((at == number) && (member == n)) || has_in sets number n)
set-one [] at member was set got is number n low = absurd (cc)
set-one (one ∷ sets) zero member was set got is zero n low =
    is n low ∙ ap (λ (s : Numbers). (member == n) || has_number s n) (let same : was ≡ one = cc in same)
set-one (one ∷ sets) zero member was set got is (suc number) n low =
    ap (λ (same : Bool). (same && (member == n)) || has_in sets number n) (sym (zero-suc number))
set-one (one ∷ sets) (suc at) member was set got is zero n low =
    ap (λ (same : Bool). (same && (member == n)) || has_number one n) (sym (suc-zero at))
set-one (one ∷ sets) (suc at) member was set got is (suc number) n low =
    set-one sets at member was set got is number n low
    ∙ ap (λ (same : Bool). (same && (member == n)) || has_in sets number n) (sym (suc-suc at number))

either-way : (this is_member due old : Bool)
    → ((this && is_member) || ((is_member && due) || old)) ≡ ((is_member && (due || this)) || old)
either-way true true true old = refl
either-way true true false old = refl
either-way true false due old = refl
either-way false is_member true old = refl
either-way false is_member false old = refl

not-more : (is_member due old : Bool) → ((is_member && due) || old) ≡ ((is_member && (due || false)) || old)
not-more is_member true old = refl
not-more is_member false old = refl

module _ (nodes : List Node) (visits : List Visit) (k : ℕ) (visit : Visit) (inside : k < length visits)
    (read : visit ≡ get_or visits k visit) where
  pub got-visit : slice_get visits k ≡ Some visit
  got-visit = slice_get_read visits (length visits) k visit refl inside read

  more-due : (number : ℕ) → is_due_among nodes (take (k + 1) visits) number
      ≡ (is_due_among nodes (take k visits) number || is_this number (due_at nodes visit))
  more-due number =
      list_any_more (λ (one : Visit). is_this number (due_at nodes one)) visits k visit inside
      ∙ ap (λ (one : Visit). is_due_among nodes (take k visits) number || is_this number (due_at nodes one)) (sym read)

  number-of : (entry : Entry) (number : ℕ) → checkpoint_at entry ≡ Some number → entry_number entry ≡ number
  number-of (Run statement) number is =
      let both = both-told (is_checkpoint (out-What statement.what)) (Some statement.number) number is in
      (let one : Some statement.number ≡ Some number = both.1 in cc)
  number-of (Test statement) number is = absurd (let wrong : None ≡ Some number = is in cc)
  number-of (Last statement) number is = absurd (let wrong : None ≡ Some number = is in cc)

  -- the CHECKPOINT at which a visit stands has a number of a text
  pub due-low : AreReadable nodes visits → (number : ℕ) → due_at nodes visit ≡ Some number → number ≤ 2000
  due-low readable number is =
      let told = due-told nodes visit number is in
      let low : entry_number told.1.node.entry ≤ 2000 = readable.low k visit told.1.node got-visit told.1.there in
      let same : entry_number told.1.node.entry ≡ number = number-of told.1.node.entry number told.1.is in
      omega arith

  -- a visit that tells nothing
  pub added-none : (member : ℕ) (old new : List Numbers) → due_at nodes visit ≡ None
      → AreAdded nodes (take k visits) member old new → AreAdded nodes (take (k + 1) visits) member old new
  added-none member old new none added number n inside low =
      added number n inside low
      ∙ not-more (member == n) (is_due_among nodes (take k visits) number) (has_in old number n)
      ∙ ap (λ (due : Bool). ((member == n) && due) || has_in old number n)
      (ap (λ (found : Option ℕ). is_due_among nodes (take k visits) number || is_this number found) (sym none)
      ∙ sym (more-due number))

  -- one at the CHECKPOINT of this number
  pub added-one : (member at : ℕ) (old mid : List Numbers) (was set : Numbers) → due_at nodes visit ≡ Some at
      → slice_get mid at ≡ Some was
      → AreNumbers set (λ n. (member == n) || has_number was n) → AreAdded nodes (take k visits) member old mid
      → AreAdded nodes (take (k + 1) visits) member old (slice_set mid at set)
  added-one member at old mid was set is got is_set added number n inside low =
      set-one mid at member was set got is_set number n low
      ∙ ap (λ (before : Bool). ((at == number) && (member == n)) || before) (added number n inside low)
      ∙ either-way (at == number) (member == n) (is_due_among nodes (take k visits) number) (has_in old number n)
      ∙ ap (λ (due : Bool). ((member == n) && due) || has_in old number n)
      (ap (λ (found : Option ℕ). is_due_among nodes (take k visits) number || is_this number found) (sym is)
      ∙ sym (more-due number))

-- One member after the other

or-of : (a b : Bool) → IsTrue (a || b) → IsTrue a ⊎ IsTrue b
or-of true b is = inl refl
or-of false b is = inr is

and-of : (a b : Bool) → IsTrue (a && b) → IsTrue a × IsTrue b
and-of true b is = (refl, is)
and-of false b is = never is

or-left : (a b : Bool) → IsTrue a → IsTrue (a || b)
or-left true b is = refl
or-left false b is = never is

or-right : (a b : Bool) → IsTrue b → IsTrue (a || b)
or-right true b is = refl
or-right false b is = is

and-both : (a b : Bool) → IsTrue a → IsTrue b → IsTrue (a && b)
and-both true b one other = other
and-both false b one other = never one

less-or-same : (n m : ℕ) → n < m + 1 → (n < m) ⊎ (m ≡ n)
less-or-same n m less = grind arith

pub due-more : (IsDue : ℕ → ℕ → Type 0) (nodes : List Node) (visits : List Visit) (member : ℕ) (old new : List Numbers)
    → length old ≡ 2001 → AreAdded nodes visits member old new
    → ((number : ℕ) → IsTrue (is_due_among nodes visits number) ↔ IsDue number member) → AreDue IsDue old member
    → AreDue IsDue new (member + 1)
due-more IsDue nodes visits member old new count added told due number n small low = (to, from)
  where
    is : has_in new number n ≡ (((member == n) && is_due_among nodes visits number) || has_in old number n)
    is = added number n (omega arith) low

    by_either : IsTrue ((member == n) && is_due_among nodes visits number) ⊎ IsTrue (has_in old number n)
        → (n < member + 1) × IsDue number n
    by_either (inl this) =
        let both = and-of (member == n) (is_due_among nodes visits number) this in
        let same : member ≡ n = eqb-true member n both.0 in
        (omega arith, subst (λ (m : ℕ). IsDue number m) same ((told number).0 both.1))
    by_either (inr before) =
        let was = (due number n small low).0 before in let less : n < member = was.0 in (omega arith, was.1)

    to : IsTrue (has_in new number n) → (n < member + 1) × IsDue number n
    to there = by_either (or-of ((member == n) && is_due_among nodes visits number) (has_in old number n)
        (sym is ∙ there))

    by_place : (n < member) ⊎ (member ≡ n) → IsDue number n
        → IsTrue (((member == n) && is_due_among nodes visits number) || has_in old number n)
    by_place (inl less) is_due = or-right ((member == n) && is_due_among nodes visits number) (has_in old number n)
        ((due number n small low).1 (less, is_due))
    by_place (inr same) is_due =
        or-left ((member == n) && is_due_among nodes visits number) (has_in old number n)
        (and-both (member == n) (is_due_among nodes visits number) (eq-eqb member n same)
        ((told number).1 (subst (λ (m : ℕ). IsDue number m) (sym same) is_due)))

    from : (n < member + 1) × IsDue number n → IsTrue (has_in new number n)
    from both = is ∙ by_place (less-or-same n member both.0) both.1

-- at first nothing is due
pub due-none : (IsDue : ℕ → ℕ → Type 0) (sets : List Numbers) → ((number n : ℕ) → has_in sets number n ≡ false)
    → AreDue IsDue sets 0
due-none IsDue sets none number n small low =
    ((λ there. never (sym (none number n) ∙ there)), (λ both. let less : n < 0 = both.0 in absurd (omega arith)))
