-- Acts that are made in the order in which they can go.
use Rattle.std.proofs.Common.{◌≡◌, ◌∙◌, ◌+◌, ◌<◌, ℕ, List, [], ◌∷◌, ◌++◌, Option, Some, ap, append_assoc}
use Rattle.std.proofs.Common.{Bool, arith, drop, false, get_or, length, length-append, refl, slice_get, suc, subst, sym}
use Rattle.std.proofs.Common.{take, true, zero}
use Rattle.std.specs.List.{remove}
use Rattle.std.proofs.lemmas.List.{drop_more, take_more}
use Rattle.plain_semantics.specs.Machine.{made, plain_start}
use Rattle.tal_tree.specs.declared.act.Act.{Act}
use Rattle.tal_tree.specs.declared.act.Shown.{Shown}
use Rattle.tal_tree.specs.declared.site.Site.{Site}
use Rattle.unfailing_judge.specs.Order.{GoesBy, GoesOn, way_of}
use Rattle.unfailing_judge.specs.Replays.{GoesInTurn, IsAsItWas, IsCarriedOn, IsFirstGone, IsMadeBy, IsSettledOf}
use Rattle.unfailing_judge.specs.Replays.{NoneGoesIn, due_in, way_in}
use Rattle.unfailing_judge.specs.Turns.{HasTurn}
use Rattle.unfailing_judge.specs.declared.replay.Replay.{Replay}
use Rattle.unfailing_judge.proofs.Ways.{goes-behind, goes-both, goes-one, none-more}

-- from the beginning on some acts went, and these are left
pub record IsOnTheWay (site : Site) (acts : List Act) (shown : List Shown) (left : List Act) (replay : Replay) : Type 0
  where
    pub order : List Act
    pub on_site : replay.plain.site ≡ site
    pub goes : GoesBy site order (way_of site acts shown) (way_in shown left replay)
    pub counted : replay.made ≡ length order
    pub reached : replay.agreed + length (due_in shown replay) ≡ length shown

-- one act goes that is first
pub step-of : (shown : List Shown) (before : List Act) (act : Act) (after : List Act) (old new : Replay)
    → NoneGoesIn shown before old → HasTurn before act → IsMadeBy shown act old new
    → GoesOn old.plain.site act (way_in shown (before ++ act ∷ after) old) (way_in shown (before ++ after) new)
step-of shown before act after old new none turn by = record {
  before = before;
  after = after;
  shown = by.told;
  there = refl;
  turn = turn;
  first = none;
  possible = by.possible;
  fits = by.fits;
  left = refl;
}

-- Before the beginning

pub begun : (site : Site) (acts : List Act) (shown : List Shown) (replay : Replay)
    → replay.plain ≡ record { site = site; state = plain_start site } → replay.agreed ≡ 0 → replay.made ≡ 0
    → IsOnTheWay site acts shown acts replay
begun site acts shown replay plain agreed made = record {
  order = [];
  on_site = ap (λ p. p.site) plain;
  goes = rw (plain, agreed) refl;
  counted = made;
  reached = rw agreed (omega arith);
}

-- Acts that go

-- what was shown and what is still to be shown are as many as before
reached-on : (shown : List Shown) (act : Act) (old new : Replay) → IsMadeBy shown act old new
    → new.agreed + length (due_in shown new) ≡ old.agreed + length (due_in shown old)
reached-on shown act old new by =
    let both = length-append by.told (due_in shown new) in
    omega (arith, both, ap length by.fits, by.reached)

-- an act goes, before those that are still to come
pub way-on : (site : Site) (acts : List Act) (shown : List Shown) (left : List Act) (act : Act) (after : List Act)
    (old new : Replay) → IsOnTheWay site acts shown (left ++ act ∷ after) old → NoneGoesIn shown left old
    → GoesInTurn shown left act old new true → IsOnTheWay site acts shown (left ++ after) new
way-on site acts shown left act after old new way none by = record {
  order = way.order ++ act ∷ [];
  on_site = by.1.on_site ∙ way.on_site;
  goes = goes-one site way.order act (way_of site acts shown) (way_in shown (left ++ act ∷ after) old)
      (way_in shown (left ++ after) new) way.goes
      (subst (λ (at : Site). GoesOn at act (way_in shown (left ++ act ∷ after) old) (way_in shown (left ++ after) new))
      way.on_site (step-of shown left act after old new none by.0 by.1));
  counted = let one = length-append way.order (act ∷ []) in omega (arith, one, by.1.counted, way.counted);
  reached = reached-on shown act old new by.1 ∙ way.reached;
}

-- some of those that wait go
pub way-carried : (site : Site) (acts : List Act) (shown : List Shown) (left rest more : List Act) (old new : Replay)
    → IsOnTheWay site acts shown (left ++ more) old → IsCarriedOn shown left rest old new
    → IsOnTheWay site acts shown (rest ++ more) new
way-carried site acts shown left rest more old new way on = record {
  order = way.order ++ on.order;
  on_site = on.on_site ∙ way.on_site;
  goes = goes-both site way.order on.order (way_of site acts shown) (way_in shown (left ++ more) old)
      (way_in shown (rest ++ more) new) way.goes
      (goes-behind site on.order (way_in shown left old) (way_in shown rest new) more
      (subst (λ (at : Site). GoesBy at on.order (way_in shown left old) (way_in shown rest new)) way.on_site on.goes));
  counted = let both = length-append way.order on.order in omega (arith, both, on.counted, way.counted);
  reached = on.reached ∙ way.reached;
}

-- nothing changed

pub same-due : (shown : List Shown) (old new : Replay) → IsAsItWas old new → due_in shown new ≡ due_in shown old
same-due shown old new same = ap (λ (n : ℕ). drop n shown) same.agreed

pub same-none : (shown : List Shown) (acts : List Act) (old new : Replay) → IsAsItWas old new
    → NoneGoesIn shown acts old → NoneGoesIn shown acts new
same-none shown acts old new same none = rw (same.plain, same.agreed) none

-- an act waits
pub way-waits : (site : Site) (acts : List Act) (shown : List Shown) (left : List Act) (act : Act) (after : List Act)
    (old new : Replay) → IsOnTheWay site acts shown (left ++ act ∷ after) old → IsAsItWas old new
    → IsOnTheWay site acts shown ((left ++ act ∷ []) ++ after) new
way-waits site acts shown left act after old new way same = record {
  order = way.order;
  on_site = ap (λ p. p.site) same.plain ∙ way.on_site;
  goes = rw (same.plain, same.agreed, append_assoc left (act ∷ []) after) way.goes;
  counted = same.counted ∙ way.counted;
  reached = rw same.agreed way.reached;
}

pub waits-none : (shown : List Shown) (left : List Act) (act : Act) (old new : Replay)
    → GoesInTurn shown left act old new false → NoneGoesIn shown left old
    → NoneGoesIn shown (left ++ act ∷ []) new
waits-none shown left act old new by none =
    same-none shown (left ++ act ∷ []) old new by.0
    (none-more old.plain.site old.plain.state (due_in shown old) left act none by.1)

-- of no acts none went
pub carried-none : (shown : List Shown) (acts : List Act) (replay : Replay) → IsCarriedOn shown acts acts replay replay
carried-none shown acts replay =
    record { order = []; on_site = refl; goes = refl; counted = omega arith; reached = refl }

-- the list parts at a place
pub parts-at : (acts : List Act) (place : ℕ) (act : Act) → slice_get acts place ≡ Some act
    → acts ≡ take place acts ++ act ∷ drop (suc place) acts
parts-at [] zero act there = absurd (cc)
parts-at [] (suc place) act there = absurd (cc)
parts-at (x ∷ acts) zero act there = ap (λ (one : Act). one ∷ acts) (of-some there)
  where
    of-some : {x y : Act} → ◌≡◌ {A = Option Act} (Some x) (Some y) → x ≡ y
    of-some e = cc
parts-at (x ∷ acts) (suc place) act there = ap (λ (xs : List Act). x ∷ xs) (parts-at acts place act there)

-- one act more went, the first that could
pub carried-one : (shown : List Shown) (acts left : List Act) (old mid new : Replay) (place : ℕ)
    → IsCarriedOn shown acts left old mid → IsFirstGone shown left mid new place
    → IsCarriedOn shown acts (remove left place) old new
carried-one shown acts left old mid new place on by =
    let act = by.act in
    let front = take place left in
    let after = drop (suc place) left in
    let site = old.plain.site in
    let step : GoesOn site act (way_in shown left mid) (way_in shown (front ++ after) new) =
    subst (λ (at : Site). GoesOn at act (way_in shown left mid) (way_in shown (front ++ after) new)) on.on_site
    (subst (λ (all : List Act). GoesOn mid.plain.site act (way_in shown all mid) (way_in shown (front ++ after) new))
    (sym (parts-at left place act by.there))
    (step-of shown front act after mid new by.first by.went.0 by.went.1)) in record {
      order = on.order ++ act ∷ [];
      on_site = by.went.1.on_site ∙ on.on_site;
      goes = goes-one site on.order act (way_in shown acts old) (way_in shown left mid)
          (way_in shown (front ++ after) new) on.goes step;
      counted = let one = length-append on.order (act ∷ []) in omega (arith, one, by.went.1.counted, on.counted);
      reached = reached-on shown act mid new by.went.1 ∙ on.reached;
    }

-- Looking for the first act that can go

pub as-it-was : (replay : Replay) → IsAsItWas replay replay
as-it-was replay = record { plain = refl; agreed = refl; counted = refl }

still-as-it-was : (old mid new : Replay) → IsAsItWas old mid → IsAsItWas mid new → IsAsItWas old new
still-as-it-was old mid new one two = record {
  plain = two.plain ∙ one.plain;
  agreed = two.agreed ∙ one.agreed;
  counted = two.counted ∙ one.counted;
}

made-from : (shown : List Shown) (act : Act) (old mid new : Replay) → IsAsItWas old mid → IsMadeBy shown act mid new
    → IsMadeBy shown act old new
made-from shown act old mid new same by = record {
  told = by.told;
  on_site = by.on_site ∙ ap (λ p. p.site) same.plain;
  possible = subst (λ p. made p.site p.state act ≡ Some (record { plain = new.plain.state; shown = by.told }))
      same.plain by.possible;
  fits = sym (same-due shown old mid same) ∙ by.fits;
  counted = omega (arith, by.counted, same.counted);
  reached = omega (arith, by.reached, same.agreed);
}

get-there : (acts : List Act) (place : ℕ) (d : Act) → place < length acts
    → slice_get acts place ≡ Some (get_or acts place d)
get-there [] zero d there = absurd (omega (arith, there))
get-there [] (suc place) d there = absurd (omega (arith, there))
get-there (x ∷ acts) zero d there = refl
get-there (x ∷ acts) (suc place) d there = get-there acts place d (omega (arith, there))

module _ (shown : List Shown) (acts : List Act) (place : ℕ) (d : Act) (old mid new : Replay)
    (there : place < length acts) (same : IsAsItWas old mid) (none : NoneGoesIn shown (take place acts) old) where
  abbrev pub act : Act
  act = get_or acts place d

  pub first-gone : (went : Bool) → went ≡ true → GoesInTurn shown (take place acts) act mid new went
      → IsFirstGone shown acts old new place
  first-gone false is by = absurd (cc)
  first-gone true is by = record {
    act = act;
    there = get-there acts place d there;
    first = none;
    went = (by.0, made-from shown act old mid new same by.1);
  }

  pub none-gone : (went : Bool) → went ≡ false → GoesInTurn shown (take place acts) act mid new went
      → IsAsItWas old new × NoneGoesIn shown (take (place + 1) acts) old
  none-gone true is by = absurd (cc)
  none-gone false is by = (
    still-as-it-was old mid new same by.0,
    subst (λ (front : List Act). NoneGoesIn shown front old) (sym (take_more acts place d there))
        (none-more old.plain.site old.plain.state (due_in shown old) (take place acts) act none
        (λ turn can. by.1 turn (rw (same.plain, same.agreed) can))),
  )

-- the next act goes, and those that wait for it, or it waits
module _ (site : Site) (acts : List Act) (shown : List Shown) (left : List Act) (place : ℕ) (d : Act)
    (old new : Replay) (there : place < length acts) (way : IsOnTheWay site acts shown (left ++ drop place acts) old)
    (none : NoneGoesIn shown left old) where
  abbrev pub next : Act
  next = get_or acts place d

  way-here : IsOnTheWay site acts shown (left ++ next ∷ drop (place + 1) acts) old
  way-here =
      subst (λ (rest : List Act). IsOnTheWay site acts shown (left ++ rest) old) (drop_more acts place d there) way

  pub next-goes : (went : Bool) → went ≡ true → GoesInTurn shown left next old new went
      → IsOnTheWay site acts shown (left ++ drop (place + 1) acts) new × (new.made ≡ old.made + 1)
  next-goes false is by = absurd (cc)
  next-goes true is by = (
    way-on site acts shown left next (drop (place + 1) acts) old new way-here none by,
    by.1.counted,
  )

  pub next-waits : (went : Bool) → went ≡ false → GoesInTurn shown left next old new went
      → IsOnTheWay site acts shown ((left ++ next ∷ []) ++ drop (place + 1) acts) new
      × NoneGoesIn shown (left ++ next ∷ []) new × (new.made ≡ old.made)
  next-waits true is by = absurd (cc)
  next-waits false is by = (
    way-waits site acts shown left next (drop (place + 1) acts) old new way-here by.0,
    waits-none shown left next old new by none,
    by.0.counted,
  )

-- all acts went that can
pub settled-of : (site : Site) (acts : List Act) (shown : List Shown) (left : List Act) (replay : Replay)
    → IsOnTheWay site acts shown left replay → NoneGoesIn shown left replay
    → IsSettledOf site acts shown left replay
settled-of site acts shown left replay way none = record {
  order = way.order;
  on_site = way.on_site;
  goes = way.goes;
  ended = none;
  counted = way.counted;
  reached = way.reached;
}
