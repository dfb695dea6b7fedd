-- How unfailing processes go on.
use Rattle.std.proofs.Common.{◌≡◌, ◌∙◌, ◌⊎◌, List, [], ◌∷◌, ◌++◌, ap, append_assoc, inl, inr, refl}
use Rattle.std.proofs.Common.{subst, sym}
use Rattle.plain_semantics.specs.Machine.{Plain}
use Rattle.tal_tree.specs.declared.act.Act.{Act}
use Rattle.tal_tree.specs.declared.act.Shown.{Shown}
use Rattle.tal_tree.specs.declared.site.Site.{Site}
use Rattle.unfailing_judge.specs.Order.{CanGo, GoesBy, GoesOn, NoneGoes, Way}
use Rattle.unfailing_judge.specs.Turns.{HasTurn}

-- One way after another

pub goes-both : (site : Site) (first second : List Act) (old mid new : Way) → GoesBy site first old mid
    → GoesBy site second mid new → GoesBy site (first ++ second) old new
goes-both site [] second old mid new one two = subst (λ (way : Way). GoesBy site second way new) (sym one) two
goes-both site (act ∷ first) second old mid new one two =
    (one.0, one.1, goes-both site first second one.0 mid new one.2 two)

pub goes-one : (site : Site) (order : List Act) (act : Act) (old mid new : Way) → GoesBy site order old mid
    → GoesOn site act mid new → GoesBy site (order ++ act ∷ []) old new
goes-one site order act old mid new one step =
    goes-both site order (act ∷ []) old mid new one (new, step, refl)

-- Acts behind those that are left

abbrev pub behind : List Act → Way → Way
behind more way = record { plain = way.plain; left = way.left ++ more; due = way.due }

step-behind : (site : Site) (act : Act) (old new : Way) (more : List Act) → GoesOn site act old new
    → GoesOn site act (behind more old) (behind more new)
step-behind site act old new more step = record {
  before = step.before;
  after = step.after ++ more;
  shown = step.shown;
  there = ap (λ (xs : List Act). xs ++ more) step.there ∙ append_assoc step.before (act ∷ step.after) more;
  turn = step.turn;
  first = step.first;
  possible = step.possible;
  fits = step.fits;
  left = ap (λ (xs : List Act). xs ++ more) step.left ∙ append_assoc step.before step.after more;
}

pub goes-behind : (site : Site) (order : List Act) (old new : Way) (more : List Act) → GoesBy site order old new
    → GoesBy site order (behind more old) (behind more new)
goes-behind site [] old new more is = ap (behind more) is
goes-behind site (act ∷ order) old new more is = (
  behind more is.0,
  step-behind site act old is.0 more is.1,
  goes-behind site order is.0 new more is.2,
)

-- No act goes

pub head-is : {x y : Act} {xs ys : List Act} → x ∷ xs ≡ y ∷ ys → x ≡ y
head-is e = cc

pub tail-is : {x y : Act} {xs ys : List Act} → x ∷ xs ≡ y ∷ ys → xs ≡ ys
tail-is e = cc

pub nothing-there : (before : List Act) (act : Act) (after : List Act) → [] ≡ before ++ act ∷ after → ⊥
nothing-there [] act after e = cc
nothing-there (x ∷ before) act after e = cc

-- one act behind some is at a place: it is among these, or it is that one
pub place-of : (left : List Act) (last : Act) (before : List Act) (act : Act) (after : List Act)
    → left ++ last ∷ [] ≡ before ++ act ∷ after
    → ((rest : List Act) × (left ≡ before ++ act ∷ rest)) ⊎ ((before ≡ left) × (act ≡ last))
place-of [] last [] act after e = inr (refl, sym (head-is e))
place-of [] last (x ∷ before) act after e = absurd (nothing-there before act after (tail-is e))
place-of (y ∷ left) last [] act after e = inl (left, ap (λ (one : Act). one ∷ left) (head-is e))
place-of (y ∷ left) last (x ∷ before) act after e = elim (place-of left last before act after (tail-is e)) [
  | inl there ↦
      inl (
        there.0,
        ap (λ (xs : List Act). y ∷ xs) there.1
            ∙ ap (λ (one : Act). one ∷ (before ++ act ∷ there.0)) (head-is e),
      )
  | inr same ↦
      inr (
        ap (λ (xs : List Act). x ∷ xs) same.0 ∙ ap (λ (one : Act). one ∷ left) (sym (head-is e)),
        same.1,
      )
]

module _ (site : Site) (plain : Plain) (due : List Shown) where
  pub none-of-none : NoneGoes site plain due []
  none-of-none before act after e turn can = nothing-there before act after e

  -- one act more that can't go
  pub none-more : (left : List Act) (last : Act) → NoneGoes site plain due left
      → (HasTurn left last → CanGo site plain due last → ⊥) → NoneGoes site plain due (left ++ last ∷ [])
  none-more left last none not before act after e turn can =
      elim (place-of left last before act after e) [
        | inl there ↦ none before act there.0 there.1 turn can
        | inr same ↦
            not (subst (λ (xs : List Act). HasTurn xs last) same.0 (subst (HasTurn before) same.1 turn))
            (subst (CanGo site plain due) same.1 can)
      ]
