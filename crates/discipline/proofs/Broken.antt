-- Whether a path that is walked breaks.
use Rattle.std.proofs.Common.{◌≡◌, ◌≢◌, ◌≤◌, ◌<◌, ◌⊎◌, inl, inr, ℕ, zero, suc, ◌&&◌, ◌==◌, Bool, true, false, arith}
use Rattle.std.proofs.Common.{List, [], ◌∷◌, length, Option, Some, None, slice_get, refl, ap, subst, sym, ◌∙◌}
use Rattle.std.specs.Prelude.{IsTrue, nat_le, is_some}
use Rattle.std.specs.Option.{option_map}
use Rattle.std.proofs.lemmas.Bool.{eqb-true}
use Rattle.std.proofs.lemmas.Option.{slice_get_within}
use Rattle.tal_tree.specs.Ordered.{IsOrdered}
use Rattle.tal_tree.specs.declared.program.FileUse.{FileUse}
use Rattle.tal_tree.specs.declared.program.Program.{Program}
use Rattle.process_semantics.specs.Rests.{entry_number}
use Rattle.process_semantics.specs.SeenEntries.{entry_of}
use Rattle.path_semantics.specs.declared.reason.Reason.{Reason}
use Rattle.path_semantics.specs.declared.reason.Reason.TheVariants.{Data, SyncBlock, Input, Depth}
use Rattle.path_semantics.specs.Break.{Breaks, breaks_entry, breaks_at}
use Rattle.path_semantics.specs.Path.{number_at, Leads, IsPath}
use Rattle.path_semantics.specs.Place.{Place, Stand, next_in, first_stand}
use Rattle.path_semantics.proofs.Differing.{path-fixes}
use Rattle.path_semantics.proofs.Reaching.{last-same, nothing-breaks}
use Rattle.path_semantics.proofs.Walks.{leads-more, step-on, break-is-path}
use Rattle.discipline.specs.declared.find.Found.{Found}
use Rattle.discipline.specs.declared.stack.Position.{Position}
use Rattle.discipline.specs.declared.walk.Walker.{Walker}
use Rattle.due_search.specs.reason_dues.specs.Amounts.{most_of, is_there, may_break_at, breaks_with}
use Rattle.discipline.specs.Suspects.{IsKnown}
use Rattle.discipline.specs.Walker.{rest_at, Tells, IsNext, IsAt, HasWalked, BreaksNext}
use Rattle.discipline.proofs.Cut.{breaks-is}
use Rattle.discipline.proofs.Impossible.{no-depth}

pub known-there : (program : Program) (reason : Reason) → is_there program reason ≡ true → IsKnown program reason
known-there program (Data item) there = tt
known-there program (SyncBlock file) there = tt
known-there program Input there = tt
known-there program (Depth file) there = by_file (slice_get program.files file) refl there
  where
    by_file : (one : Option FileUse) → slice_get program.files file ≡ one → is_some one ≡ true
        → file < length program.files
    by_file None is none = absurd (cc)
    by_file (Some one) is some = slice_get_within program.files file one is

pub not-there : (program : Program) (reason : Reason) → is_there program reason ≡ false → (path : List ℕ)
    → Breaks program path reason → ⊥
not-there program (Data item) none path broken = absurd (cc)
not-there program (SyncBlock file) none path broken = absurd (cc)
not-there program Input none path broken = absurd (cc)
not-there program (Depth file) none path broken = by_file (slice_get program.files file) refl none
  where
    past : (xs : List FileUse) → slice_get xs file ≡ None → length xs ≤ file
    past xs is = by_order (below-or-past file (length xs))
      where
        below-or-past : (n m : ℕ) → (n < m) ⊎ (m ≤ n)
        below-or-past n m = grind arith

        there : (ys : List FileUse) (k : ℕ) → k < length ys → slice_get ys k ≡ None → ⊥
        there [] k inside none = omega arith
        there (y ∷ ys) zero inside none = cc
        there (y ∷ ys) (suc k) inside none = there ys k (omega arith) none

        by_order : (file < length xs) ⊎ (length xs ≤ file) → length xs ≤ file
        by_order (inl inside) = absurd (there xs file inside is)
        by_order (inr outside) = outside

    by_file : (one : Option FileUse) → slice_get program.files file ≡ one → is_some one ≡ false → ⊥
    by_file None is none = no-depth program file (past program.files is) path broken
    by_file (Some one) is some = cc

module _ (program : Program) (reason : Reason) (positions : List Position) (due : ℕ) where
  -- nothing breaks where nothing is found
  pub no-top : None ≡ slice_get positions 0 → BreaksNext program reason positions due false
  no-top none stand own at numbered = absurd (by_place positions stand.place at.tells none numbered)
    where
      by_place : (ps : List Position) (place : Place) → Tells program ps place → None ≡ slice_get ps 0
          → option_map entry_number (next_in place) ≡ Some own → ⊥
      by_place (first ∷ below) place tells empty has = cc
      by_place [] [] tells empty has = cc
      by_place [] (frame ∷ callers) tells empty has = tells

  module _ (position : Position) (top : Some position ≡ slice_get positions 0) where
    next-entry : (result : Option Found) → IsNext program position result → (stand : Stand) (own : ℕ)
        → IsAt program reason positions due stand → number_at stand ≡ Some own
        → (found : Found) × (result ≡ Some found) × (next_in stand.place ≡ Some (entry_of found.entry))
    next-entry result next stand own at numbered = by_place positions stand.place at.tells top numbered
      where
        by_place : (ps : List Position) (place : Place) → Tells program ps place → Some position ≡ slice_get ps 0
            → option_map entry_number (next_in place) ≡ Some own
            → (found : Found) × (result ≡ Some found) × (next_in place ≡ Some (entry_of found.entry))
        by_place [] place tells top_is has = absurd (cc)
        by_place (first ∷ below) [] tells top_is has = absurd tells
        by_place (first ∷ below) ([] ∷ callers) tells top_is has = absurd (cc)
        by_place (first ∷ below) ((entry ∷ rest) ∷ callers) (called, rest_is, room, below_tells) top_is has =
            let same : position ≡ first = cc in
            let found = next entry rest (ap (rest_at program) same ∙ rest_is) in
            (found.0, found.1, ap Some (sym found.2))

    pub no-next : IsNext program position None → BreaksNext program reason positions due false
    no-next next stand own at numbered = let found = next-entry None next stand own at numbered in
        absurd (let none : None ≡ Some found.0 = found.1 in cc)

    pub next-breaks : (found : Found) (most : ℕ) (result : Bool) → IsNext program position (Some found)
        → most ≡ most_of program reason → is_there program reason ≡ true
        → result ≡ (may_break_at reason (entry_of found.entry) && nat_le most due)
        → BreaksNext program reason positions due result
    next-breaks found most result next is_most there is stand own at numbered =
        let at_next = next-entry (Some found) next stand own at numbered in
        let same : found ≡ at_next.0 = let both : Some found ≡ Some at_next.0 = at_next.1 in cc in
        let entry = entry_of found.entry in
        is ∙ ap (λ (m : ℕ). may_break_at reason entry && nat_le m due) is_most
        ∙ ap (λ (b : Bool). may_break_at reason entry && (b && nat_le (most_of program reason) due)) (sym there)
        ∙ ap (breaks_with program reason entry) at.cut ∙ sym (breaks-is program reason stand.dues entry)
        ∙ ap (breaks_entry program reason stand.dues)
        (sym (at_next.2 ∙ ap (λ (f : Found). Some (entry_of f.entry)) (sym same)))

module _ (program : Program) (reason : Reason) (path : List ℕ) where
  -- what is walked is a path
  pub walked-is-path : (walker : Walker) → HasWalked program reason path walker → IsPath program path
  walked-is-path walker walked =
      let step = step-on program walked.stand walked.number walked.next in (
        step.0,
        subst (λ (p : List ℕ). Leads program p step.0) (sym walked.split)
            (leads-more program walked.front walked.stand step.0 walked.number walked.leads step.1),
      )

  pub path-breaks : IsOrdered program → (walker : Walker) (result : Bool) → HasWalked program reason path walker
      → BreaksNext program reason walker.stack walker.due result
      → (IsTrue result → Breaks program path reason) × (Breaks program path reason → IsTrue result)
  path-breaks ordered walker result walked next = (forth, back)
    where
      is : result ≡ breaks_at program reason walked.stand
      is = next walked.stand walked.number walked.at walked.next

      forth : IsTrue result → Breaks program path reason
      forth holds = record {
        front = walked.front;
        number = walked.number;
        stand = walked.stand;
        split = walked.split;
        leads = walked.leads;
        next = walked.next;
        breaks = subst IsTrue is holds;
      }

      back : Breaks program path reason → IsTrue result
      back broken =
          let both = last-same walked.front broken.front walked.number broken.number
          (sym walked.split ∙ broken.split) in
          let same : broken.stand ≡ walked.stand =
          path-fixes program ordered broken.front broken.stand walked.stand broken.leads
          (subst (λ (front : List ℕ). Leads program front walked.stand) both.0 walked.leads)
          (broken.next ∙ ap Some (sym both.1) ∙ sym walked.next) in
          subst IsTrue (ap (breaks_at program reason) same ∙ sym is) broken.breaks

pub empty-path : (program : Program) (path : List ℕ) → true ≡ (length path == 0)
    → (IsTrue true → IsPath program path) × (IsPath program path → IsTrue true)
empty-path program [] is = ((λ _. (first_stand program, refl)), (λ _. refl))
empty-path program (number ∷ path) is =
    absurd (let none : length (number ∷ path) ≡ 0 = eqb-true (length (number ∷ path)) 0 (sym is) in omega arith)

-- where there is no walk no path breaks
pub no-walk : (program : Program) (path : List ℕ) (reason : Reason) → (path ≢ [] → IsPath program path → ⊥)
    → (IsTrue false → Breaks program path reason) × (Breaks program path reason → IsTrue false)
no-walk program path reason none = (
  (λ holds. absurd (let no : false ≡ true = holds in cc)),
  (λ broken. absurd (none (not-empty broken) (break-is-path program path reason broken))),
)
  where
    not-empty : Breaks program path reason → path ≢ []
    not-empty broken empty =
        nothing-breaks program reason (subst (λ (p : List ℕ). Breaks program p reason) empty broken)
