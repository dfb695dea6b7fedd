-- If any order of acts is sound, the judge's is.
use Rattle.std.proofs.Common.{◌≡◌, Bool, true, false, if◌then◌else◌, List, [], ◌∷◌, ◌++◌, Option, Some, None}
use Rattle.std.proofs.Common.{inl, inr, refl, ap}
use Rattle.std.proofs.Common.{sym, ◌∙◌, subst}
use Rattle.std.specs.List.{filter}
use Rattle.std.specs.Option.{option_and_then, option_map}
use Rattle.tal_tree.specs.declared.act.Act.{Act}
use Rattle.tal_tree.specs.declared.act.Shown.{Shown}
use Rattle.tal_tree.specs.declared.site.Site.{Site}
use Rattle.plain_semantics.specs.Machine.{Made, Plain, made, made_all, made_before, plain_start}
use Rattle.unfailing_judge.specs.Order.{GoesBy, GoesOn, NoneGoes, Way, way_of}
use Rattle.unfailing_judge.specs.Turns.{HasTurn, KeepsTurns, is_same_actor}
use Rattle.order_laws.proofs.Commuting.{commute, orderly-made}
use Rattle.order_laws.proofs.Kept.{orderly-start}
use Rattle.order_laws.proofs.Orderly.{IsOrderly}
use Rattle.order_laws.proofs.Showing.{one-silent}
use Rattle.order_laws.proofs.Turns.{itself, other-actor, turn-head, turn-in, turns-without}

abbrev ended : Plain → List Shown → Made
ended plain shown = record { plain = plain; shown = shown }

some-same : {a b : Made} → ◌≡◌ {A = Option Made} (Some a) (Some b) → a ≡ b
some-same e = cc

-- acts one after the other: the first of them, and the others
pub record Splits (site : Site) (plain : Plain) (act : Act) (acts : List Act) (end : Made) : Type 0 where
  pub first : Made
  pub rest : Made
  pub possible : made site plain act ≡ Some first
  pub later : made_all site first.plain acts ≡ Some rest
  pub same : end ≡ made_before first.shown rest

rest-by : (site : Site) (plain : Plain) (act : Act) (acts : List Act) (end first : Made)
    → made site plain act ≡ Some first → (found : Option Made) → made_all site first.plain acts ≡ found
    → option_map (made_before first.shown) found ≡ Some end → Splits site plain act acts end
rest-by site plain act acts end first possible None later is = absurd (cc)
rest-by site plain act acts end first possible (Some rest) later is =
    record { first = first; rest = rest; possible = possible; later = later; same = sym (some-same is) }

splits-by : (site : Site) (plain : Plain) (act : Act) (acts : List Act) (end : Made) (found : Option Made)
    → made site plain act ≡ found
    → option_and_then (λ (first : Made). option_map (made_before first.shown) (made_all site first.plain acts)) found
    ≡ Some end
    → Splits site plain act acts end
splits-by site plain act acts end None possible is = absurd (cc)
splits-by site plain act acts end (Some first) possible is =
    rest-by site plain act acts end first possible (made_all site first.plain acts) refl is

pub splits : (site : Site) (plain : Plain) (act : Act) (acts : List Act) (end : Made)
    → made_all site plain (act ∷ acts) ≡ Some end → Splits site plain act acts end
splits site plain act acts end is = splits-by site plain act acts end (made site plain act) refl is

-- and back
joins : (site : Site) (plain : Plain) (act : Act) (acts : List Act) (first rest : Made)
    → made site plain act ≡ Some first → made_all site first.plain acts ≡ Some rest
    → made_all site plain (act ∷ acts) ≡ Some (made_before first.shown rest)
joins site plain act acts first rest possible later =
    ap (option_and_then (λ (m : Made). option_map (made_before m.shown) (made_all site m.plain acts))) possible
    ∙ ap (option_map (made_before first.shown)) later

behind-same : (shown one other : List Shown) → shown ++ one ≡ shown ++ other → one ≡ other
behind-same [] one other e = e
behind-same (x ∷ shown) one other e = behind-same shown one other (tail-same e)
  where
    tail-same : {x y : Shown} {xs ys : List Shown} → x ∷ xs ≡ y ∷ ys → xs ≡ ys
    tail-same e = cc

module _ (site : Site) where
  -- an act that can go goes before others of other actors
  move : (before : List Act) (act : Act) (after : List Act) (plain : Plain) (first end : Made) (due : List Shown)
      → IsOrderly site plain → HasTurn before act → made site plain act ≡ Some first
      → made_all site plain (before ++ act ∷ after) ≡ Some end → end.shown ≡ first.shown ++ due
      → made_all site first.plain (before ++ after) ≡ Some (ended end.plain due)
  move [] act after plain first end due orderly turn possible all fits =
      let parts = splits site plain act after end all in
      let one : parts.first ≡ first = some-same (sym parts.possible ∙ possible) in
      let shown : parts.rest.shown ≡ due =
      behind-same first.shown parts.rest.shown due
      (ap (λ (m : Made). m.shown ++ parts.rest.shown) (sym one) ∙ ap (λ (m : Made). m.shown) (sym parts.same) ∙ fits) in
      ap (λ (m : Made). made_all site m.plain after) (sym one) ∙ parts.later
      ∙ ap (λ (s : List Shown). Some (ended parts.rest.plain s)) shown
      ∙ ap (λ (m : Made). Some (ended m.plain due)) (sym parts.same)
  move (other ∷ before) act after plain first end due orderly turn possible all fits =
      let parts = splits site plain other (before ++ act ∷ after) end all in
      let turns = turn-head act other before turn in
      let apart = other-actor act other turns.0 in
      let both = commute site plain act other first parts.first orderly possible parts.possible apart in
      let next = orderly-made site plain other parts.first orderly parts.possible in
      let shown : parts.first.shown ++ parts.rest.shown ≡ first.shown ++ due =
      ap (λ (m : Made). m.shown) (sym parts.same) ∙ fits in
      let plains : parts.rest.plain ≡ end.plain = ap (λ (m : Made). m.plain) (sym parts.same) in
      let moved = λ (later : List Shown) (is : parts.rest.shown ≡ first.shown ++ later).
      joins site first.plain other (before ++ after) (ended both.end parts.first.shown) (ended parts.rest.plain later)
      both.other_last
      (move before act after parts.first.plain (ended both.end first.shown) parts.rest later next turns.1
      both.act_last parts.later is) in
      elim (one-silent site plain act other first parts.first parts.rest.shown due possible parts.possible apart
      shown) [
        | inl none ↦
            moved parts.rest.shown (ap (λ (s : List Shown). s ++ parts.rest.shown) (sym none))
            ∙ ap (λ (s : List Shown). Some (ended parts.rest.plain s))
            (shown ∙ ap (λ (s : List Shown). s ++ due) none)
            ∙ ap (λ (p : Plain). Some (ended p due)) plains
        | inr none ↦
            moved due (ap (λ (s : List Shown). s ++ parts.rest.shown) (sym none) ∙ shown)
            ∙ ap (λ (s : List Shown). Some (ended parts.rest.plain (s ++ due))) none
            ∙ ap (λ (p : Plain). Some (ended p due)) plains
      ]

  -- the acts that are left are possible in some order, and show what is due
  record IsOpen (way : Way) (last : Plain) : Type 0 where
    order : List Act
    turns : KeepsTurns way.left order
    all : made_all site way.plain order ≡ Some (ended last way.due)
    orderly : IsOrderly site way.plain

  step-open : (act : Act) (old new : Way) (last : Plain) → GoesOn site act old new → IsOpen old last
      → IsOpen new last
  step-open act old new last step held =
      let found = turn-in old.left held.order step.before act step.after held.turns step.there step.turn in
      let first : Made = ended new.plain step.shown in
      record {
        order = found.before ++ found.after;
        turns = subst (λ (left : List Act). KeepsTurns left (found.before ++ found.after)) (sym step.left)
            (turns-without step.before act step.after found.before found.after step.turn found.none
            (subst (λ (left : List Act). KeepsTurns left (found.before ++ act ∷ found.after)) step.there
            (subst (KeepsTurns old.left) found.there held.turns)));
        all = move found.before act found.after old.plain first (ended last old.due) new.due held.orderly found.none
            step.possible (ap (made_all site old.plain) (sym found.there) ∙ held.all) step.fits;
        orderly = orderly-made site old.plain act first held.orderly step.possible;
      }

  goes-open : (order : List Act) (old new : Way) (last : Plain) → GoesBy site order old new → IsOpen old last
      → IsOpen new last
  goes-open [] old new last is held = subst (λ (way : Way). IsOpen way last) is held
  goes-open (act ∷ order) old new last goes held =
      goes-open order goes.0 new last goes.2 (step-open act old goes.0 last goes.1 held)

  none-left : (left : List Act) → KeepsTurns left [] → left ≡ []
  none-left [] turns = refl
  none-left (act ∷ left) turns =
      absurd (by (is_same_actor act act) (itself act) (turns act))
    where
      by : (is : Bool) → is ≡ true
          → (if is then act ∷ filter (is_same_actor act) left else filter (is_same_actor act) left) ≡ [] → ⊥
      by true same e = cc
      by false same e = cc

  end-open : (way : Way) (last : Plain) (order : List Act) → KeepsTurns way.left order
      → made_all site way.plain order ≡ Some (ended last way.due) → NoneGoes site way.plain way.due way.left
      → (way.left ≡ []) × (way.due ≡ []) × (way.plain ≡ last)
  end-open way last [] turns all none =
      let same = some-same all in (
        none-left way.left turns,
        ap (λ (m : Made). m.shown) (sym same),
        ap (λ (m : Made). m.plain) same,
      )
  end-open way last (act ∷ order) turns all none =
      let parts = splits site way.plain act order (ended last way.due) all in
      let found = turn-in (act ∷ order) way.left [] act order (λ one. sym (turns one)) refl refl in
      absurd (none found.before act found.after found.there found.none (record {
        outcome = parts.first;
        later = parts.rest.shown;
        possible = parts.possible;
        fits = ap (λ (m : Made). m.shown) parts.same;
      }))

pub found : (site : Site) (acts order other : List Act) (shown : List Shown) (end : Way) (last : Plain)
    → KeepsTurns acts other → made_all site (plain_start site) other ≡ Some (ended last shown)
    → GoesBy site order (way_of site acts shown) end → NoneGoes site end.plain end.due end.left
    → (end.left ≡ []) × (end.due ≡ []) × (end.plain ≡ last)
found site acts order other shown end last turns all goes none =
    let at = goes-open site order (way_of site acts shown) end last goes (record {
      order = other;
      turns = turns;
      all = all;
      orderly = orderly-start site;
    }) in
    end-open site end last at.order at.turns at.all none
