-- Each of what remains in a body is come to from the whole body, where one entry after the other leads.
use Rattle.std.proofs.Common.{◌≡◌, inl, inr, List, [], ◌∷◌, ◌++◌, refl, subst, sym, append-nil}
use Rattle.tal_values.specs.gd_words.specs.Members.{IsAmong}
use Rattle.tal_values.specs.gd_words.proofs.Among.{among-either, among-one}
use Rattle.tal_values.specs.tal_tree.specs.ByStatements.{HoldsInside, holds-before, by-statements}
use Rattle.tal_values.specs.tal_tree.specs.Statements.{body_before}
use Rattle.tal_values.specs.tal_tree.specs.declared.statement.Statement.{Statement}
use Rattle.tal_values.specs.tal_tree.specs.declared.statement.What.{What, What-F, out-What}
use Rattle.process_semantics.specs.Remains.{Remains, ways_into, ways_round, ComesTo, whole, onward}
use Rattle.process_semantics.specs.Rests.{rests}
use Rattle.process_semantics.specs.State.{Entry, Run, Test, Last, runs_of}
use Rattle.process_semantics.proofs.Rests.{rests_by, rests-more, behind, behind-more}

module _ (body : List Statement) where
  -- where statements are come to with others after them, these others are
  abbrev Past : List Statement → Type 0
  Past statements = (after : List Entry) → ComesTo body (runs_of statements ++ after) → ComesTo body after

  more-past : (statement : Statement) (rest : List Statement) → HoldsInside Past (out-What statement.what) → Past rest
      → Past (statement ∷ rest)
  more-past statement rest inside later after comes =
      later after (onward (holds-before Past (λ after comes. comes) (out-What statement.what) inside
      (Run statement ∷ behind rest after) (subst (ComesTo body) (behind-more statement rest after) comes)) (inl refl))

  past-all : (statements : List Statement) → Past statements
  past-all = by-statements Past (record { none = λ after comes. comes; more = more-past })

  -- where statements are come to with others after them, each of what remains in them is
  abbrev AllCome : List Statement → Type 0
  AllCome statements = (after one : List Entry) → ComesTo body (runs_of statements ++ after)
      → IsAmong one (rests statements after) → ComesTo body one

  module _ (self : Statement) (after : List Entry) where
    into : (layer : What-F What Statement) (way : List Entry) → out-What self.what ≡ layer
        → ComesTo body (Run self ∷ after)
        → IsAmong way (ways_into self after layer) → ComesTo body way
    into layer way is comes among =
        onward comes (inr (subst (λ (l : What-F What Statement). IsAmong way (ways_into self after l)) (sym is) among))

    round : (layer : What-F What Statement) (way : List Entry) → out-What self.what ≡ layer
        → ComesTo body (Test self ∷ after)
        → IsAmong way (ways_round self after layer) → ComesTo body way
    round layer way is comes among =
        onward comes (inr (subst (λ (l : What-F What Statement). IsAmong way (ways_round self after l)) (sym is) among))

    inner-come : (layer : What-F What Statement) (one : List Entry) → out-What self.what ≡ layer
        → HoldsInside AllCome layer → ComesTo body (Run self ∷ after)
        → IsAmong one (rests_by layer self after) → ComesTo body one
    inner-come (What-F.If test first second) one is holds comes among =
        elim (among-either one (rests first after) (rests second after) among) [
          | inl in_first ↦ holds.0 after one (into (What-F.If test first second) (runs_of first ++ after) is comes
              (inl refl)) in_first
          | inr in_second ↦ holds.1 after one (into (What-F.If test first second) (runs_of second ++ after) is comes
              (inr (inl refl))) in_second
        ]
    inner-come (What-F.While test inner) one is holds comes among =
        holds (Run self ∷ after) one (into (What-F.While test inner) (runs_of inner ++ Run self ∷ after) is comes
        (inl refl)) among
    inner-come (What-F.For variable from to down step inner last) one is holds comes among = which among
      where
        at_test : ComesTo body (Test self ∷ after)
        at_test = into (What-F.For variable from to down step inner last) (Test self ∷ after) is comes (inl refl)

        in_round : ComesTo body (runs_of inner ++ Last self ∷ Test self ∷ after)
        in_round = round (What-F.For variable from to down step inner last) (runs_of inner ++ Last self ∷ Test self ∷
            after) is
            at_test (inl refl)

        which : IsAmong one ((Test self ∷ after) ∷ rests inner (Last self ∷ Test self ∷ after)
            ++ (Last self ∷ Test self ∷ after) ∷ []) → ComesTo body one
        which (inl same) = subst (ComesTo body) (sym same) at_test
        which (inr found) = elim (among-either one (rests inner (Last self ∷ Test self ∷ after))
            ((Last self ∷ Test self ∷ after) ∷ []) found) [
              | inl in_body ↦ holds (Last self ∷ Test self ∷ after) one in_round in_body
              | inr in_last ↦ among-one (ComesTo body) one (Last self ∷ Test self ∷ after) in_last
                  (past-all inner (Last self ∷ Test self ∷ after) in_round)
            ]
    inner-come _ one is holds comes among = absurd among

  more-come : (statement : Statement) (rest : List Statement) → HoldsInside AllCome (out-What statement.what)
      → AllCome rest → AllCome (statement ∷ rest)
  more-come statement rest inside later after one comes among =
      elim (among-either one (rests (body_before (out-What statement.what)) (Run statement ∷ behind rest after))
      ((Run statement ∷ behind rest after) ∷ rests_by (out-What statement.what) statement (behind rest after)
      ++ rests rest after)
      (subst (IsAmong one) (rests-more statement rest after) among)) [
        | inl before ↦ holds-before AllCome (λ after one comes among. absurd among) (out-What statement.what) inside
            (Run statement ∷ behind rest after) one all before
        | inr found ↦ which found
      ]
    where
      all : ComesTo body (runs_of (body_before (out-What statement.what)) ++ (Run statement ∷ behind rest after))
      all = subst (ComesTo body) (behind-more statement rest after) comes

      at_own : ComesTo body (Run statement ∷ behind rest after)
      at_own = past-all (body_before (out-What statement.what)) (Run statement ∷ behind rest after) all

      which : IsAmong one ((Run statement ∷ behind rest after)
          ∷ rests_by (out-What statement.what) statement (behind rest after) ++ rests rest after) → ComesTo body one
      which (inl same) = subst (ComesTo body) (sym same) at_own
      which (inr found) = elim (among-either one (rests_by (out-What statement.what) statement (behind rest after))
          (rests rest after) found) [
            | inl inner ↦ inner-come statement (behind rest after) (out-What statement.what) one refl inside at_own
                inner
            | inr other ↦ later after one (onward at_own (inl refl)) other
          ]

  all-come : (statements : List Statement) → AllCome statements
  all-come = by-statements AllCome (record { none = λ after one comes among. absurd among; more = more-come })

  at-first : ComesTo body (runs_of body ++ [])
  at-first = subst (ComesTo body) (sym (append-nil (runs_of body))) whole

  pub remains-comes : (rest : List Entry) → Remains body rest → ComesTo body rest
  remains-comes rest (inl none) = subst (ComesTo body) (sym none) (past-all body [] at-first)
  remains-comes rest (inr among) = all-come body [] rest at-first among
