-- What was seen stands in the queue, once.
use Rattle.std.proofs.Common.{◌≡◌, ◌≤◌, ◌<◌, ◌⊎◌, inl, inr, ℕ, zero, suc, ◌+◌, ◌*◌, Bool, true, false, arith, List, []}
use Rattle.std.proofs.Common.{◌∷◌, ◌++◌, length, length-append, Some, slice_get, slice_set, get_or, refl, ap, subst}
use Rattle.std.proofs.Common.{sym, ◌∙◌}
use Rattle.std.specs.Prelude.{count_by, if◌then◌else◌}
use Rattle.std.proofs.lemmas.List.Sums.{count_by-le-length, sum_by-set}
use Rattle.std.proofs.lemmas.Option.{slice_get_within, slice_get_read, get_or_from_slice_get}
use Rattle.due_search.specs.declared.queue.Visit.{Visit}
use Rattle.due_search.specs.Search.{place_in_seen, IsSeenOnce, IsSeenFrom, IsClear, Comes}

clear-count : (seen : List Bool) → IsClear seen → 0 ≡ count_by (λ is. is) seen
clear-count [] clear = refl
clear-count (true ∷ seen) clear = absurd (clear 0 refl)
clear-count (false ∷ seen) clear =
    let rest : 0 ≡ count_by (λ is. is) seen = clear-count seen (λ k is. clear (suc k) is) in omega arith

pub none-seen : (seen : List Bool) → IsClear seen → IsSeenOnce seen []
none-seen seen clear = record {
  count = clear-count seen clear;
  small = λ place visit got. absurd (no-visit place visit got);
  inside = λ place visit got. absurd (no-visit place visit got);
  there = λ k is. absurd (clear k is);
}
  where
    no-visit : (place : ℕ) (visit : Visit) → slice_get [] place ≡ Some visit → ⊥
    no-visit place visit got = cc

pub few-visits : (seen : List Bool) (queue : List Visit) → IsSeenOnce seen queue → length queue ≤ length seen
few-visits seen queue once =
    let bound = count_by-le-length (λ is. is) seen in let is = once.count in omega arith

set-true : (seen : List Bool) (at k : ℕ) → slice_get (slice_set seen at true) k ≡ Some true
    → (k ≡ at) ⊎ (slice_get seen k ≡ Some true)
set-true [] at k got = inr got
set-true (b ∷ seen) zero zero got = inl refl
set-true (b ∷ seen) zero (suc k) got = inr got
set-true (b ∷ seen) (suc at) zero got = inr got
set-true (b ∷ seen) (suc at) (suc k) got = by_case (set-true seen at k got)
  where
    by_case : (k ≡ at) ⊎ (slice_get seen k ≡ Some true) → (suc k ≡ suc at) ⊎ (slice_get seen k ≡ Some true)
    by_case (inl same) = inl (ap suc same)
    by_case (inr before) = inr before

set-false : (seen : List Bool) (at k : ℕ) → slice_get (slice_set seen at false) k ≡ Some true
    → (k ≡ at → ⊥) × (slice_get seen k ≡ Some true)
set-false [] at k got = absurd (cc)
set-false (b ∷ seen) zero zero got = absurd (let none : false ≡ true = cc in cc)
set-false (b ∷ seen) zero (suc k) got = ((λ same. let no : suc k ≡ zero = same in absurd (omega arith)), got)
set-false (b ∷ seen) (suc at) zero got = ((λ same. let no : zero ≡ suc at = same in absurd (omega arith)), got)
set-false (b ∷ seen) (suc at) (suc k) got =
    let rest = set-false seen at k got in ((λ same. rest.0 (omega arith)), rest.1)

one-more : (seen : List Bool) (at : ℕ) → slice_get seen at ≡ Some false
    → count_by (λ is. is) (slice_set seen at true) ≡ count_by (λ is. is) seen + 1
one-more seen at got = summed (count_by (λ is. is) (slice_set seen at true)) _ (count_by (λ is. is) seen)
    (sum_by-set (λ (b : Bool). if b then 1 else 0) seen at true false (slice_get_within seen at false got))
    (ap (λ (b : Bool). if b then 1 else 0) (get_or_from_slice_get seen at false false got))
  where
    summed : (after got before : ℕ) → after + got ≡ before + 1 → got ≡ 0 → after ≡ before + 1
    summed after got before both none = omega arith

length-set : (seen : List Bool) (at : ℕ) (bit : Bool) → length (slice_set seen at bit) ≡ length seen
length-set [] at bit = refl
length-set (b ∷ seen) zero bit = refl
length-set (b ∷ seen) (suc at) bit = ap suc (length-set seen at bit)

last-there : (queue : List Visit) (visit : Visit) → slice_get (queue ++ visit ∷ []) (length queue) ≡ Some visit
last-there [] visit = refl
last-there (x ∷ queue) visit = last-there queue visit

still-there : (queue : List Visit) (visit : Visit) (place : ℕ) (one : Visit) → slice_get queue place ≡ Some one
    → slice_get (queue ++ visit ∷ []) place ≡ Some one
still-there [] visit place one got = absurd (cc)
still-there (x ∷ queue) visit zero one got = got
still-there (x ∷ queue) visit (suc place) one got = still-there queue visit place one got

old-or-last : (queue : List Visit) (visit : Visit) (place : ℕ) (one : Visit)
    → slice_get (queue ++ visit ∷ []) place ≡ Some one → (slice_get queue place ≡ Some one) ⊎ (visit ≡ one)
old-or-last [] visit zero one got = inr (cc)
old-or-last [] visit (suc place) one got = absurd (cc)
old-or-last (x ∷ queue) visit zero one got = inl got
old-or-last (x ∷ queue) visit (suc place) one got = old-or-last queue visit place one got

-- a visit that is seen as it comes
pub seen-more : (seen : List Bool) (queue : List Visit) (visit : Visit) → IsSeenOnce seen queue
    → slice_get seen (place_in_seen visit) ≡ Some false → visit.due ≤ 4
    → IsSeenOnce (slice_set seen (place_in_seen visit) true) (queue ++ visit ∷ [])
seen-more seen queue visit once unseen few = record {
  count = length-append queue (visit ∷ []) ∙ ap (λ n. n + 1) once.count
      ∙ sym (one-more seen (place_in_seen visit) unseen);
  small = λ place one got. small place one (old-or-last queue visit place one got);
  inside = λ place one got. subst (λ n. place_in_seen one < n) (sym (length-set seen (place_in_seen visit) true))
      (inside place one (old-or-last queue visit place one got));
  there = λ k got. there k (set-true seen (place_in_seen visit) k got);
}
  where
    small : (place : ℕ) (one : Visit) → (slice_get queue place ≡ Some one) ⊎ (visit ≡ one) → one.due ≤ 4
    small place one (inl before) = once.small place one before
    small place one (inr same) = subst (λ (v : Visit). v.due ≤ 4) same few

    inside : (place : ℕ) (one : Visit) → (slice_get queue place ≡ Some one) ⊎ (visit ≡ one)
        → place_in_seen one < length seen
    inside place one (inl before) = once.inside place one before
    inside place one (inr same) =
        subst (λ (v : Visit). place_in_seen v < length seen) same
        (slice_get_within seen (place_in_seen visit) false unseen)

    there : (k : ℕ) → (k ≡ place_in_seen visit) ⊎ (slice_get seen k ≡ Some true)
        → (place : ℕ) × (one : Visit) × (slice_get (queue ++ visit ∷ []) place ≡ Some one) × (k ≡ place_in_seen one)
    there k (inl same) = (length queue, visit, last-there queue visit, same)
    there k (inr before) =
        let at = once.there k before in (at.0, at.1, still-there queue visit at.0 at.1 at.2, at.3)

same-place : (a b c d : ℕ) → b ≤ 4 → d ≤ 4 → a * 5 + b ≡ c * 5 + d → (c ≡ a) × (d ≡ b)
same-place a b c d few other_few same = (omega arith, omega arith)

-- one that is seen already has come
pub has-come : (seen : List Bool) (queue : List Visit) (visit : Visit) → IsSeenOnce seen queue
    → slice_get seen (place_in_seen visit) ≡ Some true → visit.due ≤ 4 → Comes queue queue visit
has-come seen queue visit once is few =
    let at = once.there (place_in_seen visit) is in
    let same = same-place visit.node visit.due at.1.node at.1.due few (once.small at.0 at.1 at.2) at.3 in
    inr (refl, at.0, at.1, at.2, same.0, same.1)

-- Nothing is seen any more

pub seen-from : (seen : List Bool) (queue : List Visit) → IsSeenOnce seen queue → IsSeenFrom seen queue 0
seen-from seen queue once k is = let at = once.there k is in (at.0, at.1, (omega arith), at.2, at.3)

pub one-cleared : (seen : List Bool) (queue : List Visit) (from : ℕ) (visit : Visit)
    → slice_get queue from ≡ Some visit → IsSeenFrom seen queue from
    → IsSeenFrom (slice_set seen (place_in_seen visit) false) queue (from + 1)
one-cleared seen queue from visit got before k is =
    let still = set-false seen (place_in_seen visit) k is in
    let at = before k still.1 in
    (at.0, at.1, later at.0 at.1 at.2 at.3 at.4 still.0, at.3, at.4)
  where
    same : (place : ℕ) (one : Visit) → from ≡ place → slice_get queue place ≡ Some one → visit ≡ one
    same place one is_from found =
        let both : Some visit ≡ Some one = sym got ∙ ap (slice_get queue) is_from ∙ found in cc

    later : (place : ℕ) (one : Visit) → from ≤ place → slice_get queue place ≡ Some one → k ≡ place_in_seen one
        → (k ≡ place_in_seen visit → ⊥) → from + 1 ≤ place
    later place one order found is_at other = by_order (split from place order)
      where
        split : (n m : ℕ) → n ≤ m → (n ≡ m) ⊎ (n + 1 ≤ m)
        split n m order = grind arith

        by_order : (from ≡ place) ⊎ (from + 1 ≤ place) → from + 1 ≤ place
        by_order (inl is_from) = absurd (other (is_at ∙ ap place_in_seen (sym (same place one is_from found))))
        by_order (inr more) = more

pub all-cleared : (seen : List Bool) (queue : List Visit) (from : ℕ) → length queue ≤ from
    → IsSeenFrom seen queue from → IsClear seen
all-cleared seen queue from all left k is =
    let at = left k is in
    let within : at.0 < length queue = slice_get_within queue at.0 at.1 at.3 in
    omega (arith, at.2)

read-at : (seen : List Bool) (at : ℕ) (b : Bool) → b ≡ get_or seen at b → at < length seen → slice_get seen at ≡ Some b
read-at seen at b is within = slice_get_read seen (length seen) at b refl within is

-- as `come` has it: a visit that isn't seen comes
pub come-seen : (seen : List Bool) (queue new : List Visit) (visit : Visit) (k : ℕ) (was : Bool)
    → IsSeenOnce seen queue → k ≡ place_in_seen visit → place_in_seen visit < length seen
    → was ≡ get_or seen k was → was ≡ false → visit.due ≤ 4 → new ≡ queue ++ visit ∷ []
    → IsSeenOnce (slice_set seen k true) new
come-seen seen queue new visit k was once is within read unseen few pushed =
    let there : slice_get seen (place_in_seen visit) ≡ Some false =
    ap (slice_get seen) (sym is) ∙ read-at seen k was read (subst (λ k. k < length seen) (sym is) within)
    ∙ ap Some unseen in
    subst (λ (k : ℕ). IsSeenOnce (slice_set seen k true) new) (sym is)
    (subst (λ (all : List Visit). IsSeenOnce (slice_set seen (place_in_seen visit) true) all) (sym pushed)
    (seen-more seen queue visit once there few))
