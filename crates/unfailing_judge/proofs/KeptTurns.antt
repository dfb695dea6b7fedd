-- Acts in other orders, in which each process and each terminal keeps its own.
use Rattle.std.proofs.Common.{◌≡◌, ℕ, ◌==◌, Bool, true, false, if◌then◌else◌, ◌||◌, List, [], ◌∷◌, ◌++◌, refl, sym, ap}
use Rattle.std.proofs.Common.{◌∙◌, append-nil}
use Rattle.std.specs.List.{filter, list_any}
use Rattle.std.proofs.lemmas.Bool.{eqb-true}
use Rattle.std.proofs.lemmas.List.Elements.{filter-append}
use Rattle.tal_tree.specs.declared.act.Act.{Act}
use Rattle.tal_tree.specs.declared.act.Act.TheVariants.{Step, Take, Enter, Print}
use Rattle.unfailing_judge.specs.Turns.{KeepsTurns, is_of_process, is_of_terminal, is_same_actor}

-- Actors

same-process : (n m : ℕ) (x : Act) → (m == n) ≡ true → is_of_process n x ≡ is_of_process m x
same-process n m x same = ap (λ (k : ℕ). is_of_process k x) (sym (eqb-true m n same))

same-terminal : (n m : ℕ) (x : Act) → (m == n) ≡ true → is_of_terminal n x ≡ is_of_terminal m x
same-terminal n m x same = ap (λ (k : ℕ). is_of_terminal k x) (sym (eqb-true m n same))

-- who does one act does what the other's actor does
pub same-actor : (one act x : Act) → is_same_actor one act ≡ true → is_same_actor one x ≡ is_same_actor act x
same-actor (Step n) (Step m) x same = same-process n m x same
same-actor (Step n) (Take m place) x same = same-process n m x same
same-actor (Step n) (Enter t) x same = absurd (cc)
same-actor (Step n) (Print t) x same = absurd (cc)
same-actor (Take n p) (Step m) x same = same-process n m x same
same-actor (Take n p) (Take m place) x same = same-process n m x same
same-actor (Take n p) (Enter t) x same = absurd (cc)
same-actor (Take n p) (Print t) x same = absurd (cc)
same-actor (Enter n) (Step m) x same = absurd (cc)
same-actor (Enter n) (Take m place) x same = absurd (cc)
same-actor (Enter n) (Enter t) x same = same-terminal n t x same
same-actor (Enter n) (Print t) x same = same-terminal n t x same
same-actor (Print n) (Step m) x same = absurd (cc)
same-actor (Print n) (Take m place) x same = absurd (cc)
same-actor (Print n) (Enter t) x same = same-terminal n t x same
same-actor (Print n) (Print t) x same = same-terminal n t x same

-- Lists

pub turns-same : (acts : List Act) → KeepsTurns acts acts
turns-same acts = λ one. refl

pub turns-both : (acts order more next : List Act) → KeepsTurns acts order → KeepsTurns more next
    → KeepsTurns (acts ++ more) (order ++ next)
turns-both acts order more next turns rest = λ one.
    filter-append (is_same_actor one) acts more
    ∙ ap (λ (xs : List Act). xs ++ filter (is_same_actor one) more) (turns one)
    ∙ ap (λ (xs : List Act). filter (is_same_actor one) order ++ xs) (rest one)
    ∙ sym (filter-append (is_same_actor one) order next)

none-filtered : (one act : Act) (left : List Act) → is_same_actor one act ≡ true
    → list_any (is_same_actor act) left ≡ false → filter (is_same_actor one) left ≡ []
none-filtered one act [] same none = refl
none-filtered one act (x ∷ left) same none =
    by (is_same_actor act x) refl (same-actor one act x same) (none-filtered one act left same) none
  where
    by : (test : Bool) → is_same_actor act x ≡ test → is_same_actor one x ≡ is_same_actor act x
        → (list_any (is_same_actor act) left ≡ false → filter (is_same_actor one) left ≡ [])
        → (is_same_actor act x || list_any (is_same_actor act) left) ≡ false
        → (if is_same_actor one x then x ∷ filter (is_same_actor one) left else filter (is_same_actor one) left) ≡ []
    by true is equal rest none = let now = rw is at none in absurd (cc)
    by false is equal rest none = rw (equal ∙ is) (rest (rw is at none))

pub turns-then : (acts order next : List Act) → KeepsTurns acts order → KeepsTurns order next → KeepsTurns acts next
turns-then acts order next first second = λ one. first one ∙ second one

-- an act goes before others, none of which its process or terminal does
pub turns-ahead : (act : Act) (left : List Act) → list_any (is_same_actor act) left ≡ false
    → KeepsTurns (left ++ act ∷ []) (act ∷ left)
turns-ahead act left none = λ one. by one (is_same_actor one act) refl
  where
    by : (one : Act) (test : Bool) → is_same_actor one act ≡ test
        → filter (is_same_actor one) (left ++ act ∷ []) ≡ filter (is_same_actor one) (act ∷ left)
    by one true same =
        filter-append (is_same_actor one) left (act ∷ [])
        ∙ ap (λ (xs : List Act). xs ++ filter (is_same_actor one) (act ∷ [])) (none-filtered one act left same none)
        ∙ rw same (ap (λ (xs : List Act). act ∷ xs) (sym (none-filtered one act left same none)))
    by one false same =
        filter-append (is_same_actor one) left (act ∷ [])
        ∙ rw same (append-nil (filter (is_same_actor one) left))
