-- Where an entry of what remains in a body leads, that remains in the body too.
use Rattle.std.proofs.Common.{◌≡◌, ◌⊎◌, inl, inr, ℕ, List, [], ◌∷◌, ◌++◌, refl, subst, sym, ◌∙◌, append-nil}
use Rattle.std.proofs.Common.{append_assoc}
use Rattle.tal_values.specs.gd_words.specs.Members.{IsAmong}
use Rattle.tal_values.specs.gd_words.proofs.Among.{among-left, among-right, among-either, among-one}
use Rattle.tal_values.specs.tal_tree.specs.ByStatements.{HoldsInside, holds-before, by-statements}
use Rattle.tal_values.specs.tal_tree.specs.Statements.{body_before}
use Rattle.tal_values.specs.tal_tree.specs.declared.statement.Statement.{Statement}
use Rattle.tal_values.specs.tal_tree.specs.declared.statement.What.{What, What-F, out-What}
use Rattle.process_semantics.specs.Remains.{Remains, ways_into, ways_round, leads_to}
use Rattle.process_semantics.specs.Rests.{rests}
use Rattle.process_semantics.specs.State.{Entry, Run, Test, Last, runs_of}
use Rattle.process_semantics.proofs.Rests.{rests_by, rests-more, behind, behind-more}

-- where the first of these entries leads
abbrev ways_from : List Entry → List (List Entry)
ways_from [] = []
ways_from (entry ∷ rest) = leads_to entry rest

-- a way stays with statements: it is what comes after them, or remains in them
abbrev pub Stays : List Statement → List Entry → List Entry → Type 0
Stays statements after way = (way ≡ after) ⊎ IsAmong way (rests statements after)

-- a way stays with a statement of this layer, and with the body that is done before it
abbrev StaysBy : What-F What Statement → Statement → List Entry → List Entry → Type 0
StaysBy layer self after way =
    (way ≡ after) ⊎ IsAmong way (rests (body_before layer) (Run self ∷ after)
    ++ ((Run self ∷ after) ∷ rests_by layer self after))

abbrev Lead : List Statement → Type 0
Lead statements = (after from way : List Entry) → IsAmong from (rests statements after) → IsAmong way (ways_from from)
    → Stays statements after way

-- one of two, where the first leads to one of two others, and the second to the second of these
through : {A B C D : Type 0} → A ⊎ B → (A → C ⊎ D) → (B → D) → C ⊎ D
through (inl a) f g = f a
through (inr b) f g = inr (g b)

module _ (statement : Statement) (rest : List Statement) (after way : List Entry) where
  abbrev own : List Entry
  own = Run statement ∷ behind rest after

  abbrev ahead : List (List Entry)
  ahead = rests (body_before (out-What statement.what)) own

  abbrev inner : List (List Entry)
  inner = rests_by (out-What statement.what) statement (behind rest after)

  -- what stays with the body that is done before a statement
  before-stay : Stays (body_before (out-What statement.what)) own way → Stays (statement ∷ rest) after way
  before-stay stays =
      inr (subst (IsAmong way) (sym (rests-more statement rest after)) (elim stays [
        | inl same ↦ among-right way ahead (own ∷ inner ++ rests rest after) (inl same)
        | inr among ↦ among-left way ahead (own ∷ inner ++ rests rest after) among
      ]))

  others-stay : Stays rest after way → Stays (statement ∷ rest) after way
  others-stay stays =
      through stays (λ same. inl same) (λ among. subst (IsAmong way) (sym (rests-more statement rest after))
      (among-right way ahead (own ∷ inner ++ rests rest after) (inr (among-right way inner (rests rest after) among))))

abbrev pub AllStay : List Statement → Type 0
AllStay statements = (after : List Entry) → Stays statements after (runs_of statements ++ after)

more-stay : (statement : Statement) (rest : List Statement) → HoldsInside AllStay (out-What statement.what)
    → AllStay rest → AllStay (statement ∷ rest)
more-stay statement rest inside later after =
    subst (Stays (statement ∷ rest) after) (sym (behind-more statement rest after))
    (before-stay statement rest after _
    (holds-before AllStay (λ after. inl refl) (out-What statement.what) inside (Run statement ∷ behind rest after)))

-- what remains where statements begin stays with them
pub all-stay : (statements : List Statement) → AllStay statements
all-stay = by-statements AllStay (record { none = λ after. inl refl; more = more-stay })

module _ (statement : Statement) (rest : List Statement) (after way : List Entry) where
  first-stays : StaysBy (out-What statement.what) statement (behind rest after) way → Stays (statement ∷ rest) after way
  first-stays (inl same) =
      others-stay statement rest after way (subst (Stays rest after) (sym same) (all-stay rest after))
  first-stays (inr among) =
      inr (subst (IsAmong way)
      (append_assoc (ahead statement rest after way) (own statement rest after way ∷ inner statement rest after way)
      (rests rest after)
      ∙ sym (rests-more statement rest after))
      (among-left way (ahead statement rest after way ++ (own statement rest after way
      ∷ inner statement rest after way)) (rests rest after) among))

module _ (self : Statement) (after way : List Entry) where
  -- what stays with a branch stays with its IF
  branch-stays : (test : _) (first second : List Statement) → Stays first after way ⊎ Stays second after way
      → StaysBy (What-F.If test first second) self after way
  branch-stays test first second (inl stays) =
      through stays (λ same. inl same) (λ among. inr (among-left way (rests first after) (rests second after) among))
  branch-stays test first second (inr stays) =
      through stays (λ same. inl same) (λ among. inr (among-right way (rests first after) (rests second after) among))

  -- what stays with the body of a WHILE stays with the WHILE, which comes after the body
  body-stays : (test : _) (body : List Statement) → Stays body (Run self ∷ after) way
      → StaysBy (What-F.While test body) self after way
  body-stays test body stays = through stays (λ same. inr (inl same)) (λ among. inr among)

  -- what stays with the body of a DO stays with the DO, whose test comes after the body
  do-stays : (body : List Statement) (test : _) → Stays body (Run self ∷ after) way
      → StaysBy (What-F.DoUntil body test) self after way
  do-stays body test (inl same) =
      inr (among-right way (rests body (Run self ∷ after)) ((Run self ∷ after) ∷ []) (inl same))
  do-stays body test (inr among) =
      inr (among-left way (rests body (Run self ∷ after)) ((Run self ∷ after) ∷ []) among)

  -- what stays with the body of a FOR stays with the FOR, whose last assignment and test come after the body
  round-stays : (variable : _) (from to : _) (down : _) (step : _) (body : List Statement) (last : ℕ)
      → Stays body (Last self ∷ Test self ∷ after) way
      → StaysBy (What-F.For variable from to down step body last) self after way
  round-stays variable from to down step body last (inl same) =
      inr (inr (inr (among-right way (rests body (Last self ∷ Test self ∷ after))
      ((Last self ∷ Test self ∷ after) ∷ []) (inl same))))
  round-stays variable from to down step body last (inr among) =
      inr (inr (inr (among-left way (rests body (Last self ∷ Test self ∷ after)) ((Last self ∷ Test self ∷ after) ∷ [])
      among)))

module _ (self : Statement) (after way : List Entry) where
  -- the ways into a statement
  into-stays : (layer : What-F What Statement) → IsAmong way (ways_into self after layer) → StaysBy layer self after way
  into-stays (What-F.If test first second) (inl same) =
      subst (StaysBy (What-F.If test first second) self after) (sym same)
      (branch-stays self after (runs_of first ++ after) test first second (inl (all-stay first after)))
  into-stays (What-F.If test first second) (inr among) =
      among-one (StaysBy (What-F.If test first second) self after) way (runs_of second ++ after) among
      (branch-stays self after (runs_of second ++ after) test first second (inr (all-stay second after)))
  into-stays (What-F.While test body) among =
      among-one (StaysBy (What-F.While test body) self after) way (runs_of body ++ Run self ∷ after) among
      (body-stays self after (runs_of body ++ Run self ∷ after) test body (all-stay body (Run self ∷ after)))
  into-stays (What-F.For variable from to down step body last) among =
      among-one (StaysBy (What-F.For variable from to down step body last) self after) way (Test self ∷ after) among
      (inr (inr (inl refl)))
  into-stays (What-F.DoUntil body test) among =
      among-one (StaysBy (What-F.DoUntil body test) self after) way (runs_of body ++ Run self ∷ after) among
      (do-stays self after (runs_of body ++ Run self ∷ after) body test (all-stay body (Run self ∷ after)))
  into-stays _ among = absurd among

  -- where a statement leads
  run-stays : IsAmong way (leads_to (Run self) after) → StaysBy (out-What self.what) self after way
  run-stays (inl same) = inl same
  run-stays (inr among) = into-stays (out-What self.what) among

  -- where the test of a FOR leads
  test-stays : (variable : _) (from to : _) (down : _) (step : _) (body : List Statement) (last : ℕ)
      → out-What self.what ≡ What-F.For variable from to down step body last
      → IsAmong way (leads_to (Test self) after) → StaysBy (What-F.For variable from to down step body last) self after
      way
  test-stays variable from to down step body last is (inl same) = inl same
  test-stays variable from to down step body last is (inr among) =
      among-one (StaysBy (What-F.For variable from to down step body last) self after) way
      (runs_of body ++ Last self ∷ Test self ∷ after)
      (subst (λ (layer : What-F What Statement). IsAmong way (ways_round self after layer)) is among)
      (round-stays self after (runs_of body ++ Last self ∷ Test self ∷ after) variable from to down step body last
      (all-stay body (Last self ∷ Test self ∷ after)))

  -- where an entry inside a statement leads
  inner-stays : (layer : What-F What Statement) → out-What self.what ≡ layer → HoldsInside Lead layer
      → (from : List Entry)
      → IsAmong from (rests_by layer self after) → IsAmong way (ways_from from) → StaysBy layer self after way
  inner-stays (What-F.If test first second) is holds from among on = branch-stays self after way test first second
      (elim (among-either from (rests first after) (rests second after) among) [
        | inl in_first ↦ inl (holds.0 after from way in_first on)
        | inr in_second ↦ inr (holds.1 after from way in_second on)
      ])
  inner-stays (What-F.While test body) is holds from among on =
      body-stays self after way test body (holds (Run self ∷ after) from way among on)
  inner-stays (What-F.For variable from to down step body last) is holds one (inl same) on =
      test-stays variable from to down step body last is (subst (λ (first : List Entry). IsAmong way (ways_from first))
      same on)
  inner-stays (What-F.For variable from to down step body last) is holds one (inr among) on =
      elim (among-either one (rests body (Last self ∷ Test self ∷ after))
      ((Last self ∷ Test self ∷ after) ∷ []) among) [
        | inl in_body ↦ round-stays self after way variable from to down step body last
            (holds (Last self ∷ Test self ∷ after) one way in_body on)
        | inr in_last ↦ among-one (StaysBy (What-F.For variable from to down step body last) self after) way (Test self
            ∷ after)
            (among-one (λ (first : List Entry). IsAmong way (ways_from first) → IsAmong way ((Test self ∷ after) ∷ []))
            one (Last self ∷ Test self ∷ after) in_last
            (λ found. found) on)
            (inr (inr (inl refl)))
      ]
  inner-stays _ is holds from among on = absurd among

  -- where an entry of the body that is done before a statement leads
  before-stays : (layer : What-F What Statement) → HoldsInside Lead layer → (from : List Entry)
      → IsAmong from (rests (body_before layer) (Run self ∷ after)) → IsAmong way (ways_from from)
      → StaysBy layer self after way
  before-stays (What-F.DoUntil body test) holds from among on =
      do-stays self after way body test (holds (Run self ∷ after) from way among on)
  before-stays _ holds from among on = absurd among

more-lead : (statement : Statement) (rest : List Statement) → HoldsInside Lead (out-What statement.what) → Lead rest
    → Lead (statement ∷ rest)
more-lead statement rest inside later after from way among on =
    elim (among-either from (rests (body_before (out-What statement.what)) (Run statement ∷ behind rest after))
    ((Run statement ∷ behind rest after) ∷ rests_by (out-What statement.what) statement (behind rest after)
    ++ rests rest after) (subst (IsAmong from) (rests-more statement rest after) among)) [
      | inl before ↦ first-stays statement rest after way
          (before-stays statement (behind rest after) way (out-What statement.what) inside from before on)
      | inr own ↦ which own
    ]
  where
    which : IsAmong from ((Run statement ∷ behind rest after)
        ∷ rests_by (out-What statement.what) statement (behind rest after) ++ rests rest after)
        → Stays (statement ∷ rest) after way
    which (inl same) = first-stays statement rest after way
        (run-stays statement (behind rest after) way
        (subst (λ (first : List Entry). IsAmong way (ways_from first)) same on))
    which (inr found) = elim (among-either from (rests_by (out-What statement.what) statement (behind rest after))
        (rests rest after) found) [
          | inl inner ↦ first-stays statement rest after way
              (inner-stays statement (behind rest after) way (out-What statement.what) refl inside from inner on)
          | inr other ↦ others-stay statement rest after way (later after from way other on)
        ]

all-lead : (statements : List Statement) → Lead statements
all-lead = by-statements Lead (record { none = λ after from way among on. absurd among; more = more-lead })

-- a whole body remains
pub body-remains : (body : List Statement) → Remains body (runs_of body)
body-remains body = subst (Stays body []) (append-nil (runs_of body)) (all-stay body [])

pub leads-remains : (body : List Statement) (entry : Entry) (rest way : List Entry) → Remains body (entry ∷ rest)
    → IsAmong way (leads_to entry rest) → Remains body way
leads-remains body entry rest way (inl none) on = absurd (cc)
leads-remains body entry rest way (inr among) on = all-lead body [] (entry ∷ rest) way among on
