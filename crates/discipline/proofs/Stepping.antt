-- A step of a path that is walked without memory.
use Rattle.std.proofs.Common.{◌≡◌, ◌<◌, ◌⊎◌, inl, inr, ℕ, true, false, arith, List, [], ◌∷◌, drop, length, map, Option}
use Rattle.std.proofs.Common.{Some, None, slice_get, refl, ap, subst, sym, ◌∙◌}
use Rattle.std.specs.Prelude.{min}
use Rattle.std.specs.Option.{option_to_list}
use Rattle.gd_words.specs.Members.{IsAmong}
use Rattle.tal_tree.specs.Limits.{IsWithinLimits}
use Rattle.tal_tree.specs.Ordered.{IsOrdered}
use Rattle.tal_tree.specs.declared.program.Program.{Program}
use Rattle.process_semantics.specs.Rests.{next_number}
use Rattle.process_semantics.specs.SeenEntries.{entry_of}
use Rattle.process_semantics.specs.State.{Entry}
use Rattle.path_semantics.specs.declared.dues.Dues.{Dues}
use Rattle.path_semantics.specs.declared.reason.Reason.{Reason}
use Rattle.path_semantics.specs.Dues.{no_dues, after_entry as dues_after}
use Rattle.path_semantics.specs.Path.{number_at}
use Rattle.path_semantics.proofs.Walks.{step-on}
use Rattle.path_semantics.specs.Place.{Place, Stand, body_of, settled, ways, stands_after, successors, first_stand}
use Rattle.discipline.specs.declared.find.Found.{Found}
use Rattle.discipline.specs.declared.stack.Position.{Position}
use Rattle.discipline.specs.declared.walker.Way.{Way}
use Rattle.discipline.specs.declared.walker.Way.TheVariants.{Onward, Into, End}
use Rattle.discipline.specs.declared.walker.Ways.{Ways}
use Rattle.due_search.specs.reason_dues.specs.Amounts.{amount, most_of, after_entry}
use Rattle.discipline.specs.Walker.{rest_at, Tells, IsNext, LeadsBy, EachLeads, listed, AreWays, IsAt, IsSettled}
use Rattle.discipline.specs.Walker.{HasGone, TellsNextIn}
use Rattle.due_search.specs.reason_dues.proofs.Cut.{cut-none, entry-cut}
use Rattle.discipline.proofs.Walking.{onward, entered, begins}

module _ (program : Program) (ordered : IsOrdered program) (limits : IsWithinLimits program) where
  -- As `go` goes

  pub go-onward : (positions popped new : List Position) (top : Position) (way : Way) (number : ℕ) (entry : Entry)
      (rest : List Entry) (callers place : Place) → Some top ≡ slice_get positions 0
      → popped ≡ drop 1 positions → way ≡ Onward number
      → (length popped < 64 → new ≡ record { procedure = top.procedure; number = number } ∷ popped)
      → Tells program positions ((entry ∷ rest) ∷ callers)
      → LeadsBy program entry rest callers way place → Tells program new place
  go-onward [] popped new top way number entry rest callers place is rest_is way_is pushed tells leads = absurd tells
  go-onward (first ∷ below) popped new top way number entry rest callers place is rest_is way_is pushed tells leads =
      let same : top ≡ first = cc in
      onward program ordered limits first below new entry rest callers place number tells
      (subst (λ (w : Way). LeadsBy program entry rest callers w place) way_is leads)
      (λ room. pushed (subst (λ (ps : List Position). length ps < 64) (sym rest_is) room)
      ∙ ap (λ (ps : List Position). record { procedure = top.procedure; number = number } ∷ ps) rest_is
      ∙ ap (λ (k : ℕ). record { procedure = k; number = number } ∷ below) (ap (λ (p : Position). p.procedure) same))

  pub go-nowhere : (positions new : List Position) (entry : Entry) (rest : List Entry) (callers place : Place)
      → None ≡ slice_get positions 0 → Tells program positions ((entry ∷ rest) ∷ callers)
      → Tells program new place
  go-nowhere [] new entry rest callers place is tells = absurd tells
  go-nowhere (first ∷ below) new entry rest callers place is tells = absurd (cc)

  pub go-into : (positions new : List Position) (way : Way) (procedure number : ℕ) (entry : Entry) (rest : List Entry)
      (callers place : Place) → way ≡ Into procedure
      → number ≡ next_number (body_of program procedure)
      → (length positions < 64 → new ≡ record { procedure = procedure; number = number } ∷ positions)
      → Tells program positions ((entry ∷ rest) ∷ callers) → LeadsBy program entry rest callers way place
      → Tells program new place
  go-into positions new way procedure number entry rest callers place way_is numbered pushed tells leads =
      entered program ordered limits positions new entry rest callers place procedure number tells
      (subst (λ (w : Way). LeadsBy program entry rest callers w place) way_is leads) numbered pushed

  pub go-end : (new : List Position) (way : Way) (entry : Entry) (rest : List Entry) (callers place : Place)
      → way ≡ End → new ≡ [] → LeadsBy program entry rest callers way place → Tells program new place
  go-end new way entry rest callers place way_is none leads =
      let ended : place ≡ [] = subst (λ (w : Way). LeadsBy program entry rest callers w place) way_is leads in
      subst (λ (ps : List Position). Tells program ps place) (sym none) (subst (Tells program []) (sym ended) tt)

  -- MAIN's beginning
  pub started : (reason : Reason) (empty new : List Position) (number : ℕ) (last : List Position) (last_due : ℕ)
      → empty ≡ [] → number ≡ next_number (body_of program program.main)
      → (length empty < 64 → new ≡ record { procedure = program.main; number = number } ∷ empty)
      → IsSettled program reason new 0 last last_due → IsAt program reason last last_due (first_stand program)
  started reason empty new number last last_due none numbered pushed settles =
      settles (body_of program program.main ∷ []) no_dues
      (begins program ordered limits new number numbered
      (pushed (subst (λ (ps : List Position). length ps < 64) (sym none) (omega arith))
      ∙ ap (λ (ps : List Position). record { procedure = program.main; number = number } ∷ ps) none))
      (sym (cut-none (most_of program reason) reason))

-- A step

-- nothing comes next where the program has ended
pub step-empty : (program : Program) (reason : Reason) (positions : List Position) (due : ℕ)
    → None ≡ slice_get positions 0 → (stand there : Stand) → IsAt program reason positions due stand
    → IsAmong there (successors program stand) → ⊥
step-empty program reason positions due none stand there at among = by_place positions stand.place refl at.tells none
  where
    by_place : (ps : List Position) (place : Place) → stand.place ≡ place → Tells program ps place
        → None ≡ slice_get ps 0 → ⊥
    by_place (first ∷ below) place is tells empty = cc
    by_place [] [] is tells empty = subst (λ (p : Place). IsAmong there (stands_after program stand.dues p)) is among
    by_place [] (frame ∷ callers) is tells empty = tells

-- how much is due after the entry that is found
pub cut-by : (program : Program) (reason : Reason) (most due low after new : ℕ) (found : Entry)
    → most ≡ most_of program reason → low ≡ min most due → after ≡ after_entry reason found low → new ≡ min most after
    → (dues : Dues) (entry : Entry) → found ≡ entry → due ≡ min (most_of program reason) (amount reason dues)
    → new ≡ min (most_of program reason) (amount reason (dues_after dues entry))
cut-by program reason most due low after new found is_most is_low is_after is_new dues entry same is =
    is_new ∙ ap (min most) (is_after ∙ ap (after_entry reason found) is_low)
    ∙ ap (λ (m : ℕ). min m (after_entry reason found (min m due))) is_most
    ∙ ap (λ (e : Entry). min (most_of program reason) (after_entry reason e (min (most_of program reason) due))) same
    ∙ entry-cut (most_of program reason) reason dues entry due is

-- the places of ways, with what the walker makes of them
module _ (program : Program) (reason : Reason) (positions : List Position) (due after : ℕ) (position : Position)
    (result : Option Found) (top : Some position ≡ slice_get positions 0)
    (next : IsNext program position result) where
  record Comes (found : Found) (stand : Stand) : Type 0 where
    entry : Entry
    rest : List Entry
    callers : Place
    place : stand.place ≡ (entry ∷ rest) ∷ callers
    tells : Tells program positions ((entry ∷ rest) ∷ callers)
    is_entry : entry_of found.entry ≡ entry
    is_after : found.after ≡ next_number rest

  comes : (stand : Stand) → IsAt program reason positions due stand
      → ((found : Found) → result ≡ Some found → Comes found stand)
      ⊎ ((there : Stand) → IsAmong there (successors program stand) → ⊥)
  comes stand at = by_place positions stand.place refl at.tells top
    where
      by_place : (ps : List Position) (place : Place) → stand.place ≡ place → Tells program ps place
          → Some position ≡ slice_get ps 0
          → ((found : Found) → result ≡ Some found → Comes found stand)
          ⊎ ((there : Stand) → IsAmong there (successors program stand) → ⊥)
      by_place [] place is tells top_is = absurd (cc)
      by_place (first ∷ below) [] is tells top_is = absurd tells
      by_place (first ∷ below) ([] ∷ callers) is tells top_is =
          inr (λ there among. subst (λ (p : Place). IsAmong there (stands_after program stand.dues p)) is among)
      by_place (first ∷ below) ((entry ∷ rest) ∷ callers) is (called, rest_is, room, below_tells) top_is =
          let same : position ≡ first = cc in
          let at_next = next entry rest (ap (rest_at program) same ∙ rest_is) in
          inl (λ found is_found. let both : at_next.0 ≡ found = let eq : Some at_next.0 ≡ Some found = sym at_next.1
          ∙ is_found in cc in record {
            entry = entry;
            rest = rest;
            callers = callers;
            place = is;
            tells = subst (Tells program positions) is at.tells;
            is_entry = ap (λ (f : Found). entry_of f.entry) (sym both) ∙ at_next.2;
            is_after = ap (λ (f : Found). f.after) (sym both) ∙ at_next.3;
          })

  -- where nothing is found the program goes nowhere
  pub step-none : result ≡ None → (stand there : Stand) → IsAt program reason positions due stand
      → IsAmong there (successors program stand) → ⊥
  step-none none stand there at among = by_place positions stand.place refl at.tells top
    where
      by_place : (ps : List Position) (place : Place) → stand.place ≡ place → Tells program ps place
          → Some position ≡ slice_get ps 0 → ⊥
      by_place [] place is tells top_is = cc
      by_place (first ∷ below) [] is tells top_is = tells
      by_place (first ∷ below) ([] ∷ callers) is tells top_is =
          subst (λ (p : Place). IsAmong there (stands_after program stand.dues p)) is among
      by_place (first ∷ below) ((entry ∷ rest) ∷ callers) is (called, rest_is, room, below_tells) top_is =
          let same : position ≡ first = cc in
          let at_next = next entry rest (ap (rest_at program) same ∙ rest_is) in
          let both : None ≡ Some at_next.0 = sym none ∙ at_next.1 in cc

  module _ (found : Found) (is_found : result ≡ Some found) (all : Ways) (are : AreWays found all)
      (cut : (dues : Dues) (entry : Entry) → entry_of found.entry ≡ entry
      → due ≡ min (most_of program reason) (amount reason dues)
      → after ≡ min (most_of program reason) (amount reason (dues_after dues entry))) where
    abbrev Gone : Way → List Position → ℕ → Type 0
    Gone way new new_due = HasGone program reason positions way after new new_due

    -- each successor, with the way that leads there
    record Leading (stand there : Stand) (way : Way) : Type 0 where
      at : (new : List Position) (new_due : ℕ) → Gone way new new_due → IsAt program reason new new_due there

    leading : (stand : Stand) (entry : Entry) (rest : List Entry) (callers : Place)
        → Tells program positions ((entry ∷ rest) ∷ callers) → entry_of found.entry ≡ entry
        → due ≡ min (most_of program reason) (amount reason stand.dues) → (way : Way) (place : Place)
        → LeadsBy program entry rest callers way place
        → Leading stand (settled (dues_after stand.dues entry) place) way
    leading stand entry rest callers tells is_entry is_due way place leads =
        record {
          at = λ new new_due gone. gone entry rest callers place (dues_after stand.dues entry) tells leads
              (cut stand.dues entry is_entry is_due);
        }

    -- a successor of one of these places by one of these ways
    by-way : (stand there : Stand) (entry : Entry) (rest : List Entry) (callers : Place)
        → Tells program positions ((entry ∷ rest) ∷ callers) → entry_of found.entry ≡ entry
        → due ≡ min (most_of program reason) (amount reason stand.dues) → (ways : List Way) (places : List Place)
        → EachLeads program entry rest callers ways places
        → IsAmong there (map (settled (dues_after stand.dues entry)) places)
        → (way : Way) × IsAmong way ways × Leading stand there way
    by-way stand there entry rest callers tells is_entry is_due ways [] each among = absurd among
    by-way stand there entry rest callers tells is_entry is_due [] (place ∷ places) each among = absurd each
    by-way stand there entry rest callers tells is_entry is_due (way ∷ ways) (place ∷ places) each (inl same) = (
      way,
      inl refl,
      subst (λ (s : Stand). Leading stand s way) (sym same)
          (leading stand entry rest callers tells is_entry is_due way place each.0),
    )
    by-way stand there entry rest callers tells is_entry is_due (way ∷ ways) (place ∷ places) each (inr among) =
        let later = by-way stand there entry rest callers tells is_entry is_due ways places each.1 among in
        (later.0, inr later.1, later.2)

    -- a way leads to a successor
    by-place : (stand : Stand) (entry : Entry) (rest : List Entry) (callers : Place)
        → Tells program positions ((entry ∷ rest) ∷ callers) → entry_of found.entry ≡ entry
        → due ≡ min (most_of program reason) (amount reason stand.dues) → (ways : List Way) (places : List Place)
        → EachLeads program entry rest callers ways places
        → (way : Way) → IsAmong way ways → (there : Stand)
        × IsAmong there (map (settled (dues_after stand.dues entry)) places) × Leading stand there way
    by-place stand entry rest callers tells is_entry is_due [] places each way among = absurd among
    by-place stand entry rest callers tells is_entry is_due (one ∷ ways) [] each way among = absurd each
    by-place stand entry rest callers tells is_entry is_due (one ∷ ways) (place ∷ places) each way (inl same) = (
      settled (dues_after stand.dues entry) place,
      inl refl,
      leading stand entry rest callers tells is_entry is_due way place
          (subst (λ (w : Way). LeadsBy program entry rest callers w place) (sym same) each.0),
    )
    by-place stand entry rest callers tells is_entry is_due (one ∷ ways) (place ∷ places) each way (inr among) =
        let later = by-place stand entry rest callers tells is_entry is_due ways places each.1 way among in
        (later.0, inr later.1, later.2)

    each-leads : (stand : Stand) (c : Comes found stand)
        → EachLeads program c.entry c.rest c.callers (listed all) (ways program c.entry c.rest c.callers)
    each-leads stand c =
        subst (λ (e : Entry). EachLeads program e c.rest c.callers (listed all) (ways program e c.rest c.callers))
        c.is_entry (are program c.rest c.callers c.is_after)

    -- a way by which the number comes next
    pub step-way : (way : Way) → IsAmong way (listed all) → (new : List Position) (new_due number : ℕ)
        → Gone way new new_due → TellsNextIn new number true → (stand : Stand) (own : ℕ)
        → IsAt program reason positions due stand → number_at stand ≡ Some own
        → (there : Stand) × IsAmong there (successors program stand) × (number_at there ≡ Some number)
        × IsAt program reason new new_due there
    step-way way among new new_due number gone tells_next stand own at numbered = by_case (comes stand at)
      where
        by_case : ((found : Found) → result ≡ Some found → Comes found stand)
            ⊎ ((there : Stand) → IsAmong there (successors program stand) → ⊥)
            → (there : Stand) × IsAmong there (successors program stand) × (number_at there ≡ Some number)
            × IsAt program reason new new_due there
        by_case (inr none) = let step = step-on program stand own numbered in absurd (none step.0 step.1.leads)
        by_case (inl there) =
            let c = there found is_found in
            let way_there = by-place stand c.entry c.rest c.callers c.tells c.is_entry at.cut (listed all)
            (ways program c.entry c.rest c.callers) (each-leads stand c) way among in
            let at_there = way_there.2.at new new_due gone in (
              way_there.0,
              subst (λ (p : Place). IsAmong way_there.0 (stands_after program stand.dues p)) (sym c.place)
                  way_there.1,
              (tells_next program way_there.0 at_there.tells).0 refl,
              at_there,
            )

    -- no way by which it does
    pub step-nowhere : (number : ℕ) → ((way : Way) → IsAmong way (listed all)
        → (new : List Position) × (new_due : ℕ) × Gone way new new_due × TellsNextIn new number false)
        → (stand there : Stand) → IsAt program reason positions due stand → IsAmong there (successors program stand)
        → number_at there ≡ Some number → ⊥
    step-nowhere number none stand there at among numbered = by_case (comes stand at)
      where
        by_case : ((found : Found) → result ≡ Some found → Comes found stand)
            ⊎ ((there : Stand) → IsAmong there (successors program stand) → ⊥) → ⊥
        by_case (inr nowhere) = nowhere there among
        by_case (inl comes_there) =
            let c = comes_there found is_found in
            let way = by-way stand there c.entry c.rest c.callers c.tells c.is_entry at.cut (listed all)
            (ways program c.entry c.rest c.callers) (each-leads stand c)
            (subst (λ (p : Place). IsAmong there (stands_after program stand.dues p)) c.place among) in
            let gone = none way.0 way.1 in
            let at_there = way.2.at gone.0 gone.1 gone.2 in
            let no : false ≡ true = (gone.3 program there at_there.tells).1 numbered in cc

-- The ways that are tried

pub second-way : (all : Ways) (second : Way) → all.second ≡ Some second → IsAmong second (listed all)
second-way all second is = inr (subst (λ (o : Option Way). IsAmong second (option_to_list o)) (sym is) (inl refl))

abbrev IsNot : Program → Reason → List Position → ℕ → ℕ → Way → Type 0
IsNot program reason positions after number way =
    (new : List Position) × (new_due : ℕ) × HasGone program reason positions way after new new_due
    × TellsNextIn new number false

pub one-way : (program : Program) (reason : Reason) (positions : List Position) (after number : ℕ) (all : Ways)
    → all.second ≡ None → (one : List Position) (one_due : ℕ)
    → HasGone program reason positions all.first after one one_due → TellsNextIn one number false → (way : Way)
    → IsAmong way (listed all)
    → (new : List Position) × (new_due : ℕ) × HasGone program reason positions way after new new_due
    × TellsNextIn new number false
one-way program reason positions after number all none one one_due gone tells way (inl same) =
    subst (IsNot program reason positions after number) (sym same) (one, one_due, gone, tells)
one-way program reason positions after number all none one one_due gone tells way (inr among) =
    absurd (let nothing : IsAmong way [] = subst (λ (o : Option Way). IsAmong way (option_to_list o)) none among in
    nothing)

pub two-ways : (program : Program) (reason : Reason) (positions : List Position) (after number : ℕ) (all : Ways)
    (second : Way) → all.second ≡ Some second
    → (one : List Position) (one_due : ℕ) (two : List Position) (two_due : ℕ)
    → HasGone program reason positions all.first after one one_due → TellsNextIn one number false
    → HasGone program reason positions second after two two_due → TellsNextIn two number false → (way : Way)
    → IsAmong way (listed all)
    → (new : List Position) × (new_due : ℕ) × HasGone program reason positions way after new new_due
    × TellsNextIn new number false
two-ways program reason positions after number all second is one one_due two two_due gone tells also also_tells way
    (inl same) =
    subst (IsNot program reason positions after number) (sym same) (one, one_due, gone, tells)
two-ways program reason positions after number all second is one one_due two two_due gone tells also also_tells way
    (inr among) =
    by_second (subst (λ (o : Option Way). IsAmong way (option_to_list o)) is among)
  where
    by_second : IsAmong way (second ∷ []) → IsNot program reason positions after number way
    by_second (inl same) =
        subst (IsNot program reason positions after number) (sym same) (two, two_due, also, also_tells)
    by_second (inr none) = absurd none
