-- Paths that are walked number by number.
use Rattle.std.proofs.Common.{◌≡◌, ◌≤◌, ◌<◌, ℕ, zero, suc, ◌+◌, true, false, arith, List, [], ◌∷◌, ◌++◌, take, drop}
use Rattle.std.proofs.Common.{length, get_or, Some, None, refl, ap, subst, sym, ◌∙◌}
use Rattle.gd_words.specs.Members.{IsAmong}
use Rattle.tal_tree.specs.Ordered.{IsOrdered}
use Rattle.tal_tree.specs.declared.program.Program.{Program}
use Rattle.path_semantics.specs.declared.reason.Reason.{Reason}
use Rattle.path_semantics.specs.Path.{number_at, Walks, Leads, IsPath}
use Rattle.path_semantics.specs.Place.{Stand, successors, first_stand}
use Rattle.path_semantics.proofs.Differing.{path-fixes}
use Rattle.path_semantics.proofs.Walks.{walks-split, leads-more, front-is-path}
use Rattle.discipline.specs.declared.walk.Walker.{Walker}
use Rattle.discipline.specs.Walker.{IsAt, TellsNextIn, IsStep, HasWalked}

module _ (program : Program) (reason : Reason) where
  -- one number more
  pub walk-on : (prefix : List ℕ) (here there : Walker) (number : ℕ) → HasWalked program reason prefix here
      → IsStep program reason here.stack here.due number (Some there)
      → HasWalked program reason (prefix ++ number ∷ []) there
  walk-on prefix here there number walked is_step =
      let step = is_step walked.stand walked.number walked.at walked.next in
      record {
        front = prefix;
        number = number;
        stand = step.0;
        split = refl;
        leads = subst (λ (path : List ℕ). Leads program path step.0) (sym walked.split)
            (leads-more program walked.front walked.stand step.0 walked.number walked.leads
            (record { next = walked.next; leads = step.1 }));
        next = step.2;
        at = step.3;
      }

  -- no path goes on where no step does
  pub walk-stops : IsOrdered program → (prefix rest : List ℕ) (here : Walker) (number : ℕ)
      → HasWalked program reason prefix here → IsStep program reason here.stack here.due number None
      → IsPath program ((prefix ++ number ∷ []) ++ rest) → ⊥
  walk-stops ordered prefix rest here number walked no_step path =
      let part = front-is-path program (prefix ++ number ∷ []) rest path in
      let split = walks-split program prefix (number ∷ []) (first_stand program) part.0 part.1 in
      let mid = split.0 in
      let next : number_at mid ≡ Some number = split.2.1.next in
      let led : Walks program (first_stand program) (walked.front ++ walked.number ∷ []) mid =
      subst (λ (p : List ℕ). Walks program (first_stand program) p mid) walked.split split.1 in
      let before = walks-split program walked.front (walked.number ∷ []) (first_stand program) mid led in
      let same : before.0 ≡ walked.stand = path-fixes program ordered walked.front before.0 walked.stand before.1
      walked.leads (before.2.1.next ∙ sym walked.next) in
      let among : IsAmong mid (successors program before.0) =
      subst (λ (s : Stand). IsAmong s (successors program before.0)) before.2.2 before.2.1.leads in
      no_step walked.stand mid walked.at (subst (λ (s : Stand). IsAmong mid (successors program s)) same among) next

  pub walk-begins : (here : Walker) (first : ℕ) → IsAt program reason here.stack here.due (first_stand program)
      → TellsNextIn here.stack first true → HasWalked program reason (first ∷ []) here
  walk-begins here first at tells =
      record {
        front = [];
        number = first;
        stand = first_stand program;
        split = refl;
        leads = refl;
        next = (tells program (first_stand program) at.tells).0 refl;
        at = at;
      }

  pub no-beginning : (here : Walker) (first : ℕ) (others : List ℕ)
      → IsAt program reason here.stack here.due (first_stand program) → TellsNextIn here.stack first false
      → IsPath program (first ∷ others) → ⊥
  no-beginning here first others at tells (there, walk) =
      let no : false ≡ true = (tells program (first_stand program) at.tells).1 walk.1.next in absurd (cc)

-- one number more of a path
pub take-more : (path others : List ℕ) (first number i : ℕ) → path ≡ first ∷ others → i < length others
    → number ≡ get_or others i 0 → take (i + 1) path ++ number ∷ [] ≡ take (i + 1 + 1) path
take-more path others first number i is inside read =
    ap (λ (p : List ℕ). take (i + 1) p ++ number ∷ []) is ∙ counted ∙ ap (take (i + 1 + 1)) (sym is)
  where
    more : (xs : List ℕ) (k : ℕ) → k < length xs → number ≡ get_or xs k 0 → take k xs ++ number ∷ [] ≡ take (suc k) xs
    more [] k inside read = absurd (omega arith)
    more (x ∷ xs) zero inside read = ap (λ (n : ℕ). n ∷ []) read
    more (x ∷ xs) (suc k) inside read = ap (λ (ns : List ℕ). x ∷ ns) (more xs k (omega arith) read)

    counted : take (i + 1) (first ∷ others) ++ number ∷ [] ≡ take (i + 1 + 1) (first ∷ others)
    counted =
        ap (λ (n : ℕ). take n (first ∷ others) ++ number ∷ []) (let one : i + 1 ≡ suc i = omega arith in one)
        ∙ ap (λ (ns : List ℕ). first ∷ ns) (more others i inside read)
        ∙ ap (λ (n : ℕ). take n (first ∷ others)) (let two : suc (suc i) ≡ i + 1 + 1 = omega arith in two)

pub take-all : (path others : List ℕ) (first i : ℕ) → path ≡ first ∷ others → length others ≤ i
    → take (i + 1) path ≡ path
take-all path others first i is all =
    ap (take (i + 1)) is ∙ ap (λ (n : ℕ). take n (first ∷ others)) (let one : i + 1 ≡ suc i = omega arith in one)
    ∙ ap (λ (ns : List ℕ). first ∷ ns) (whole others i all) ∙ sym is
  where
    whole : (xs : List ℕ) (k : ℕ) → length xs ≤ k → take k xs ≡ xs
    whole [] zero all = refl
    whole [] (suc k) all = refl
    whole (x ∷ xs) zero all = absurd (omega arith)
    whole (x ∷ xs) (suc k) all = ap (λ (ns : List ℕ). x ∷ ns) (whole xs k (omega arith))

pub take-one : (path others : List ℕ) (first : ℕ) → path ≡ first ∷ others → take 1 path ≡ first ∷ []
take-one path others first is = ap (take 1) is

pub take-then-drop : (n : ℕ) (path : List ℕ) → take n path ++ drop n path ≡ path
take-then-drop zero path = refl
take-then-drop (suc n) [] = refl
take-then-drop (suc n) (first ∷ path) = ap (λ (ns : List ℕ). first ∷ ns) (take-then-drop n path)
