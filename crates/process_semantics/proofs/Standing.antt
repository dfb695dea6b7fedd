-- The statement of each entry that remains in a body is one of the body's.
use Rattle.std.proofs.Common.{inl, inr, List, [], ◌∷◌, ◌++◌, refl, subst, sym}
use Rattle.tal_values.specs.gd_words.specs.Members.{IsAmong}
use Rattle.tal_values.specs.gd_words.proofs.Among.{among-left, among-right, among-either, among-one}
use Rattle.tal_values.specs.tal_tree.specs.ByStatements.{HoldsInside, holds-before, by-statements}
use Rattle.tal_values.specs.tal_tree.specs.Statements.{all_in, all_of, body_before}
use Rattle.tal_values.specs.tal_tree.specs.declared.statement.Statement.{Statement}
use Rattle.tal_values.specs.tal_tree.specs.declared.statement.What.{What, What-F, out-What}
use Rattle.tal_values.specs.tal_tree.proofs.Within.{within_of, within-is, before-within}
use Rattle.process_semantics.specs.Remains.{Remains}
use Rattle.process_semantics.specs.Rests.{rests}
use Rattle.process_semantics.specs.State.{Entry, Run, Test, Last}
use Rattle.process_semantics.proofs.Rests.{rests_by, rests-more, behind}

abbrev pub statement_of : Entry → Statement
statement_of (Run statement) = statement
statement_of (Test statement) = statement
statement_of (Last statement) = statement

-- the statement of the first of these entries is one of these
abbrev BeginsIn : List Statement → List Entry → Type 0
BeginsIn statements [] = Unit {0}
BeginsIn statements (entry ∷ rest) = IsAmong (statement_of entry) statements

abbrev Stand : List Statement → Type 0
Stand statements = (after one : List Entry) → IsAmong one (rests statements after) → BeginsIn (all_of statements) one

begins-left : (xs ys : List Statement) (one : List Entry) → BeginsIn xs one → BeginsIn (xs ++ ys) one
begins-left xs ys [] begins = tt
begins-left xs ys (entry ∷ rest) begins = among-left (statement_of entry) xs ys begins

begins-right : (xs ys : List Statement) (one : List Entry) → BeginsIn ys one → BeginsIn (xs ++ ys) one
begins-right xs ys [] begins = tt
begins-right xs ys (entry ∷ rest) begins = among-right (statement_of entry) xs ys begins

before-begins : (self : Statement) (layer : What-F What Statement) (one : List Entry)
    → BeginsIn (all_of (body_before layer)) one
    → BeginsIn (self ∷ within_of layer) one
before-begins self layer [] begins = tt
before-begins self layer (entry ∷ rest) begins = inr (before-within layer (statement_of entry) begins)

inner-stand : (self : Statement) (after one : List Entry) (layer : What-F What Statement) → HoldsInside Stand layer
    → IsAmong one (rests_by layer self after)
    → BeginsIn (self ∷ within_of layer) one
inner-stand self after one (What-F.If test first second) holds among =
    begins-right (self ∷ []) (all_of first ++ all_of second) one
    (elim (among-either one (rests first after) (rests second after) among) [
      | inl in_first ↦ begins-left (all_of first) (all_of second) one (holds.0 after one in_first)
      | inr in_second ↦ begins-right (all_of first) (all_of second) one (holds.1 after one in_second)
    ])
inner-stand self after one (What-F.While test body) holds among =
    begins-right (self ∷ []) (all_of body) one (holds (Run self ∷ after) one among)
inner-stand self after one (What-F.For variable from to down step body last) holds (inl same) =
    subst (BeginsIn (self ∷ all_of body)) (sym same) (inl refl)
inner-stand self after one (What-F.For variable from to down step body last) holds (inr among) =
    elim (among-either one (rests body (Last self ∷ Test self ∷ after)) ((Last self ∷ Test self ∷ after) ∷ []) among) [
      | inl in_body ↦ begins-right (self ∷ []) (all_of body) one (holds (Last self ∷ Test self ∷ after) one in_body)
      | inr in_last ↦ among-one (BeginsIn (self ∷ all_of body)) one (Last self ∷ Test self ∷ after) in_last (inl refl)
    ]
inner-stand self after one _ holds among = absurd among

more-stand : (statement : Statement) (rest : List Statement) → HoldsInside Stand (out-What statement.what) → Stand rest
    → Stand (statement ∷ rest)
more-stand statement rest inside later after one among =
    elim (among-either one (rests (body_before (out-What statement.what)) (Run statement ∷ behind rest after))
    ((Run statement ∷ behind rest after) ∷ rests_by (out-What statement.what) statement (behind rest after)
    ++ rests rest after) (subst (IsAmong one) (rests-more statement rest after) among)) [
      | inl before ↦ in_first (before-begins statement (out-What statement.what) one
          (holds-before Stand (λ after one among. absurd among) (out-What statement.what) inside
          (Run statement ∷ behind rest after) one before))
      | inr own ↦ which own
    ]
  where
    in_first : BeginsIn (statement ∷ within_of (out-What statement.what)) one → BeginsIn (all_of (statement ∷ rest)) one
    in_first begins = begins-left (all_in statement) (all_of rest) one
        (subst (λ (parts : List Statement). BeginsIn (statement ∷ parts) one) (sym (within-is statement.what)) begins)

    which : IsAmong one ((Run statement ∷ behind rest after)
        ∷ rests_by (out-What statement.what) statement (behind rest after) ++ rests rest after)
        → BeginsIn (all_of (statement ∷ rest)) one
    which (inl same) =
        in_first (subst (BeginsIn (statement ∷ within_of (out-What statement.what))) (sym same) (inl refl))
    which (inr found) = elim (among-either one (rests_by (out-What statement.what) statement (behind rest after))
        (rests rest after) found) [
          | inl inner ↦ in_first (inner-stand statement (behind rest after) one (out-What statement.what) inside inner)
          | inr other ↦ begins-right (all_in statement) (all_of rest) one (later after one other)
        ]

all-stand : (statements : List Statement) → Stand statements
all-stand = by-statements Stand (record { none = λ after one among. absurd among; more = more-stand })

pub entry-stands : (body : List Statement) (entry : Entry) (rest : List Entry) → Remains body (entry ∷ rest)
    → IsAmong (statement_of entry) (all_of body)
entry-stands body entry rest (inl none) = absurd (cc)
entry-stands body entry rest (inr among) = all-stand body [] (entry ∷ rest) among
