-- There is one order, it keeps turns, and its acts are possible.
use Rattle.std.proofs.Common.{◌≡◌, ◌∙◌, ◌⊎◌, List, [], ◌∷◌, ◌++◌, Option, Some, None, ap, append_assoc, append-nil, inl}
use Rattle.std.proofs.Common.{inr, refl, subst, sym}
use Rattle.std.specs.Option.{option_and_then, option_map}
use Rattle.plain_semantics.specs.Machine.{Made, Plain, made, made_all, made_before}
use Rattle.tal_tree.specs.declared.act.Act.{Act}
use Rattle.tal_tree.specs.declared.act.Shown.{Shown}
use Rattle.tal_tree.specs.declared.site.Site.{Site}
use Rattle.unfailing_judge.specs.Order.{CanGo, GoesBy, GoesOn, NoneGoes, Way}
use Rattle.unfailing_judge.specs.Turns.{HasTurn, KeepsTurns}
use Rattle.unfailing_judge.proofs.KeptTurns.{turns-ahead, turns-both, turns-same, turns-then}
use Rattle.unfailing_judge.proofs.Ways.{head-is, nothing-there, tail-is}

-- One order

-- two acts of a list: they are the same, or one is before the other
two-places : (before : List Act) (act : Act) (after : List Act) (front : List Act) (other : Act) (end : List Act)
    → before ++ act ∷ after ≡ front ++ other ∷ end
    → ((before ≡ front) × (act ≡ other) × (after ≡ end))
    ⊎ (((rest : List Act) × (front ≡ before ++ act ∷ rest)) ⊎ ((rest : List Act) × (before ≡ front ++ other ∷ rest)))
two-places [] act after [] other end e = inl (refl, head-is e, tail-is e)
two-places [] act after (y ∷ front) other end e =
    inr (inl (front, ap (λ (one : Act). one ∷ front) (sym (head-is e))))
two-places (x ∷ before) act after [] other end e = inr (inr (before, ap (λ (one : Act). one ∷ before) (head-is e)))
two-places (x ∷ before) act after (y ∷ front) other end e =
    elim (two-places before act after front other end (tail-is e)) [
      | inl same ↦
          inl (
            ap (λ (xs : List Act). x ∷ xs) same.0 ∙ ap (λ (one : Act). one ∷ front) (head-is e),
            same.1,
            same.2,
          )
      | inr apart ↦ elim apart [
        | inl first ↦
            inr (inl (
              first.0,
              ap (λ (xs : List Act). y ∷ xs) first.1
                  ∙ ap (λ (one : Act). one ∷ (before ++ act ∷ first.0)) (sym (head-is e)),
            ))
        | inr last ↦
            inr (inr (
              last.0,
              ap (λ (xs : List Act). x ∷ xs) last.1
                  ∙ ap (λ (one : Act). one ∷ (front ++ other ∷ last.0)) (head-is e),
            ))
      ]
    ]

can-go : (site : Site) (act : Act) (old new : Way) → GoesOn site act old new → CanGo site old.plain old.due act
can-go site act old new step = record {
  outcome = record { plain = new.plain; shown = step.shown };
  later = new.due;
  possible = step.possible;
  fits = step.fits;
}

behind-same : (shown one other : List Shown) → shown ++ one ≡ shown ++ other → one ≡ other
behind-same [] one other e = e
behind-same (x ∷ shown) one other e = behind-same shown one other (tail-same e)
  where
    tail-same : {x y : Shown} {xs ys : List Shown} → x ∷ xs ≡ y ∷ ys → xs ≡ ys
    tail-same e = cc

of-some : {x y : Made} → ◌≡◌ {A = Option Made} (Some x) (Some y) → x ≡ y
of-some e = cc

way-is : (one other : Way) → one.plain ≡ other.plain → one.left ≡ other.left → one.due ≡ other.due → one ≡ other
way-is one other plain left due =
    ap (λ (p : Plain). record { plain = p; left = one.left; due = one.due }) plain
    ∙ ap (λ (l : List Act). record { plain = other.plain; left = l; due = one.due }) left
    ∙ ap (λ (d : List Shown). record { plain = other.plain; left = other.left; due = d }) due

module _ (site : Site) (act other : Act) (old new end : Way) (one : GoesOn site act old new)
    (two : GoesOn site other old end) where
  same-step : (one.before ≡ two.before) × (act ≡ other) × (one.after ≡ two.after) → (act ≡ other) × (new ≡ end)
  same-step (before, act-is, after) =
      let made-same : record { plain = new.plain; shown = one.shown }
      ≡ record { plain = end.plain; shown = two.shown } =
      of-some (sym one.possible ∙ ap (made site old.plain) act-is ∙ two.possible) in
      let shown-same : one.shown ≡ two.shown = ap (λ (m : Made). m.shown) made-same in (
        act-is,
        way-is new end (ap (λ (m : Made). m.plain) made-same)
            (one.left ∙ ap (λ (xs : List Act). xs ++ one.after) before
            ∙ ap (λ (xs : List Act). two.before ++ xs) after ∙ sym two.left)
            (behind-same two.shown new.due end.due
            (ap (λ (xs : List Shown). xs ++ new.due) (sym shown-same) ∙ sym one.fits ∙ two.fits)),
      )

  step-same : (act ≡ other) × (new ≡ end)
  step-same = elim (two-places one.before act one.after two.before other two.after (sym one.there ∙ two.there)) [
    | inl same ↦ same-step same
    | inr apart ↦ elim apart [
      | inl first ↦
          absurd (two.first one.before act first.0 first.1 one.turn (can-go site act old new one))
      | inr last ↦
          absurd (one.first two.before other last.0 last.1 two.turn (can-go site other old end two))
    ]
  ]

pub order-same : (site : Site) (order other : List Act) (old new end : Way) → GoesBy site order old new
    → NoneGoes site new.plain new.due new.left → GoesBy site other old end → NoneGoes site end.plain end.due end.left
    → (order ≡ other) × (new ≡ end)
order-same site [] [] old new end one none two nothing = (refl, sym one ∙ two)
order-same site [] (y ∷ other) old new end one none two nothing =
    let step = two.1 in
    absurd (subst (λ (way : Way). NoneGoes site way.plain way.due way.left) (sym one) none
    step.before y step.after step.there step.turn (can-go site y old two.0 step))
order-same site (x ∷ order) [] old new end one none two nothing =
    let step = one.1 in
    absurd (subst (λ (way : Way). NoneGoes site way.plain way.due way.left) (sym two) nothing
    step.before x step.after step.there step.turn (can-go site x old one.0 step))
order-same site (x ∷ order) (y ∷ other) old new end one none two nothing =
    let step = step-same site x y old one.0 two.0 one.1 two.1 in
    let rest = order-same site order other two.0 new end
    (subst (λ (way : Way). GoesBy site order way new) step.1 one.2) none two.2 nothing in (
      ap (λ (first : Act). first ∷ order) step.0 ∙ ap (λ (xs : List Act). y ∷ xs) rest.0,
      rest.1,
    )

-- It keeps turns

turns-first : (before : List Act) (act : Act) (after : List Act) → HasTurn before act
    → KeepsTurns (before ++ act ∷ after) (act ∷ (before ++ after))
turns-first before act after turn =
    subst (λ (xs : List Act). KeepsTurns xs (act ∷ (before ++ after))) (append_assoc before (act ∷ []) after)
    (turns-both (before ++ act ∷ []) (act ∷ before) after after (turns-ahead act before turn) (turns-same after))

pub turns-kept : (site : Site) (order : List Act) (old new : Way) → GoesBy site order old new
    → KeepsTurns old.left (order ++ new.left)
turns-kept site [] old new is = subst (λ (way : Way). KeepsTurns old.left way.left) is (turns-same old.left)
turns-kept site (act ∷ order) old new is =
    let step = is.1 in
    let rest : KeepsTurns (step.before ++ step.after) (order ++ new.left) =
    subst (λ (xs : List Act). KeepsTurns xs (order ++ new.left)) step.left (turns-kept site order is.0 new is.2) in
    subst (λ (xs : List Act). KeepsTurns xs (act ∷ (order ++ new.left))) (sym step.there)
    (turns-then (step.before ++ act ∷ step.after) (act ∷ (step.before ++ step.after)) (act ∷ (order ++ new.left))
    (turns-first step.before act step.after step.turn)
    (turns-both (act ∷ []) (act ∷ []) (step.before ++ step.after) (order ++ new.left) (turns-same (act ∷ [])) rest))

-- Its acts are possible, and show what was shown

pub order-made : (site : Site) (order : List Act) (old new : Way) → GoesBy site order old new
    → (shown : List Shown) × (made_all site old.plain order ≡ Some (record { plain = new.plain; shown = shown }))
    × (old.due ≡ shown ++ new.due)
order-made site [] old new is = (
  [],
  ap (λ (way : Way). Some (record { plain = way.plain; shown = [] })) is,
  ap (λ (way : Way). way.due) is,
)
order-made site (act ∷ order) old new is =
    let step = is.1 in
    let rest = order-made site order is.0 new is.2 in (
      step.shown ++ rest.0,
      ap (option_and_then (λ (first : Made). option_map (made_before first.shown) (made_all site first.plain order)))
          step.possible
          ∙ ap (option_map (made_before step.shown)) rest.1,
      step.fits ∙ ap (λ (xs : List Shown). step.shown ++ xs) rest.2
          ∙ sym (append_assoc step.shown rest.0 new.due),
    )
