-- What the verdicts on kept acts say of other orders.
use Rattle.std.proofs.Common.{◌≡◌, Bool, List, [], ◌∷◌, ◌++◌, Option, Some, None, ap, sym, ◌∙◌, append-nil, subst}
use Rattle.tal_tree.specs.declared.act.Act.{Act}
use Rattle.tal_tree.specs.declared.act.Shown.{Shown}
use Rattle.tal_tree.specs.declared.site.Site.{Site}
use Rattle.plain_semantics.specs.Machine.{IsStill, Made, Plain, made_all, plain_start}
use Rattle.unfailing_judge.specs.Order.{GoesBy, NoneGoes, Way, way_of}
use Rattle.unfailing_judge.specs.Sound.{IsSound, IsWrong, NoneIsPossible}
use Rattle.unfailing_judge.specs.Turns.{KeepsTurns}
use Rattle.unfailing_judge.specs.declared.wrong.Wrong.{Wrong}
use Rattle.unfailing_judge.specs.declared.wrong.Wrong.TheVariants as wrong
use Rattle.order_laws.specs.Orders.{IsSoundIn}
use Rattle.order_laws.proofs.Commuting.{orderly-made}
use Rattle.order_laws.proofs.Found.{found, splits}
use Rattle.order_laws.proofs.Kept.{orderly-start}
use Rattle.order_laws.proofs.Orderly.{IsOrderly}

-- acts lead from an orderly state to one
orderly-all : (site : Site) (acts : List Act) (plain : Plain) (end : Made) → IsOrderly site plain
    → made_all site plain acts ≡ Some end → IsOrderly site end.plain
orderly-all site [] plain end orderly all = subst (λ (m : Made). IsOrderly site m.plain) (same all) orderly
  where
    same : {a b : Made} → ◌≡◌ {A = Option Made} (Some a) (Some b) → a ≡ b
    same e = cc
orderly-all site (act ∷ acts) plain end orderly all =
    let parts = splits site plain act acts end all in
    subst (λ (m : Made). IsOrderly site m.plain) (sym parts.same)
    (orderly-all site acts parts.first.plain parts.rest
    (orderly-made site plain act parts.first orderly parts.possible) parts.later)

pub orderly-reached : (site : Site) (acts : List Act) (end : Made) → made_all site (plain_start site) acts ≡ Some end
    → IsOrderly site end.plain
orderly-reached site acts end all = orderly-all site acts (plain_start site) end (orderly-start site) all

nothing-there : (before : List Act) (act : Act) (after : List Act) → [] ≡ before ++ act ∷ after → ⊥
nothing-there [] act after e = cc
nothing-there (x ∷ before) act after e = cc

no-act-left : {x : Act} {xs : List Act} → x ∷ xs ≡ [] → ⊥
no-act-left e = cc

-- an act that isn't possible can't go
none-goes : (site : Site) (plain : Plain) (due : List Shown) (acts : List Act) → NoneIsPossible site plain acts
    → NoneGoes site plain due acts
none-goes site plain due acts none before act after there turn can =
    none-some (sym (none before act after there turn) ∙ can.possible)
  where
    none-some : {m : Made} → ◌≡◌ {A = Option Made} None (Some m) → ⊥
    none-some e = cc

module _ (site : Site) (acts order : List Act) (shown : List Shown) (idle : Bool)
    (sound : IsSoundIn site acts shown idle order) where
  abbrev Ends : List Act → Way → Type 0
  Ends by end = GoesBy site by (way_of site acts shown) end

  ends : (by : List Act) (end : Way) → Ends by end → NoneGoes site end.plain end.due end.left
      → (end.left ≡ []) × (end.due ≡ []) × (end.plain ≡ sound.end)
  ends by end goes none = found site acts by order shown end sound.end sound.turns sound.possible goes none

  pub no-wrong : (what : Wrong) → IsWrong site acts shown idle what → ⊥
  no-wrong (wrong.Stuck stuck) is =
      let at = ends is.order is.end is.goes (none-goes site is.end.plain is.end.due is.end.left is.none) in
      no-act-left (sym is.left ∙ at.0)
  no-wrong (wrong.Differs apart) is =
      let at = ends is.order is.end is.goes is.ended in
      is.lacking at.0 at.1
  no-wrong wrong.Left is =
      let at = ends is.order is.end is.goes
      (subst (NoneGoes site is.end.plain is.end.due) (sym is.all)
      (λ before act after there turn can. nothing-there before act after there)) in
      is.left (subst (IsStill site) (sym at.2) (sound.none is.ended))

-- the judge's order is one in which the acts are sound
pub sound-in : (site : Site) (acts : List Act) (shown : List Shown) (idle : Bool) (sound : IsSound site acts shown idle)
    → KeepsTurns acts (sound.order ++ sound.end.left) → (front : List Shown)
    → made_all site (plain_start site) sound.order ≡ Some (record { plain = sound.end.plain; shown = front })
    → shown ≡ front ++ sound.end.due → IsSoundIn site acts shown idle sound.order
sound-in site acts shown idle sound turns front possible fits =
    let same : front ≡ shown =
    sym (append-nil front) ∙ ap (λ (due : List Shown). front ++ due) (sym sound.same) ∙ sym fits in
    record {
      turns = subst (KeepsTurns acts) (ap (λ (left : List Act). sound.order ++ left) sound.all ∙ append-nil sound.order)
          turns;
      end = sound.end.plain;
      possible = possible ∙ ap (λ (s : List Shown). Some (record { plain = sound.end.plain; shown = s })) same;
      none = sound.none;
    }
