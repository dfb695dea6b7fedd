-- What the acts that are left would show.
use Rattle.std.proofs.Common.{◌≡◌, ◌∙◌, ◌+◌, ◌<◌, ℕ, Bool, true, false, List, [], ◌∷◌, ◌++◌, Option, Some, None, ap}
use Rattle.std.proofs.Common.{drop, get_or, inl, inr, is_some, length, refl, subst, sym, take}
use Rattle.std.specs.List.{list_any}
use Rattle.std.proofs.lemmas.List.{drop_more, take_more, take-append-drop}
use Rattle.plain_machine.specs.Machines.{listed, shown_of}
use Rattle.plain_semantics.specs.Machine.{Made, Plain, made, quiet}
use Rattle.tal_tree.specs.declared.act.Act.{Act}
use Rattle.tal_tree.specs.declared.act.Shown.{Shown}
use Rattle.tal_tree.specs.declared.site.Site.{Site}
use Rattle.unfailing_judge.specs.Replays.{IsBlocked, NoneGoesIn, NoneIsQuiet}
use Rattle.unfailing_judge.specs.Sound.{NoneIsPossible}
use Rattle.unfailing_judge.specs.Turns.{HasTurn, is_same_actor}
use Rattle.unfailing_judge.specs.declared.replay.Replay.{Replay}
use Rattle.unfailing_judge.proofs.Ways.{nothing-there, place-of}

pub possible-none : (site : Site) (plain : Plain) → NoneIsPossible site plain []
possible-none site plain before act after e turn = absurd (nothing-there before act after e)

possible-more : (site : Site) (plain : Plain) (left : List Act) (last : Act) → NoneIsPossible site plain left
    → (HasTurn left last → made site plain last ≡ None) → NoneIsPossible site plain (left ++ last ∷ [])
possible-more site plain left last none not before act after e turn = elim (place-of left last before act after e) [
  | inl there ↦ none before act there.0 there.1 turn
  | inr same ↦
      subst (λ (one : Act). made site plain one ≡ None) (sym same.1)
      (not (subst (λ (xs : List Act). HasTurn xs last) same.0 (subst (HasTurn before) same.1 turn)))
]

module _ (acts : List Act) (place : ℕ) (d : Act) (replay : Replay) (there : place < length acts)
    (none : NoneIsPossible replay.plain.site replay.plain.state (take place acts)) where
  abbrev pub act : Act
  act = get_or acts place d

  abbrev pub site : Site
  site = replay.plain.site

  abbrev pub plain : Plain
  plain = replay.plain.state

  parts : acts ≡ take place acts ++ act ∷ drop (place + 1) acts
  parts = sym (take-append-drop place acts)
      ∙ ap (λ (xs : List Act). take place acts ++ xs) (drop_more acts place d there)

  shows : (shown : Shown) (all : Option Made) → made site plain act ≡ all → shown ∷ [] ≡ shown_of all
      → (after : Plain) × (made site plain act ≡ Some (record { plain = after; shown = shown ∷ [] }))
  shows shown None is told = absurd (cc)
  shows shown (Some m) is told =
      (m.plain, is ∙ ap (λ (s : List Shown). Some (record { plain = m.plain; shown = s })) (sym told))

  pub blocked-at : (any : Bool) → any ≡ list_any (is_same_actor act) (take place acts) → any ≡ false
      → (found : Option Shown) → listed found ≡ shown_of (made site plain act) → is_some found ≡ true
      → IsBlocked acts replay found
  blocked-at any told is None said some = absurd (cc)
  blocked-at any told is (Some shown) said some =
      let one = shows shown (made site plain act) refl said in record {
        before = take place acts;
        act = act;
        after = drop (place + 1) acts;
        plain = one.0;
        there = parts;
        turn = sym told ∙ is;
        first = none;
        possible = one.1;
      }

  at-more : (HasTurn (take place acts) act → made site plain act ≡ None)
      → NoneIsPossible site plain (take (place + 1) acts)
  at-more not =
      subst (NoneIsPossible site plain) (sym (take_more acts place d there))
      (possible-more site plain (take place acts) act none not)

  true-false : true ≡ false → ⊥
  true-false e = cc

  -- it isn't its turn
  pub waits-at : (any : Bool) → any ≡ list_any (is_same_actor act) (take place acts) → any ≡ true
      → NoneIsPossible site plain (take (place + 1) acts)
  waits-at any told is = at-more (λ turn. absurd (true-false (sym is ∙ told ∙ turn)))

  not-quiet : NoneIsQuiet acts replay → (all : Option Made) → made site plain act ≡ all → [] ≡ shown_of all
      → HasTurn (take place acts) act → all ≡ None
  not-quiet quiet-none None is told turn = refl
  not-quiet quiet-none (Some m) is told turn =
      absurd (quiet-none (take place acts) act (drop (place + 1) acts) parts turn m.plain
      (is ∙ ap (λ (s : List Shown). Some (record { plain = m.plain; shown = s })) (sym told)))

  -- it shows nothing, and so isn't possible
  pub shows-nothing-at : NoneIsQuiet acts replay → (found : Option Shown)
      → listed found ≡ shown_of (made site plain act) → is_some found ≡ false
      → NoneIsPossible site plain (take (place + 1) acts)
  shows-nothing-at quiet-none None said is =
      at-more (λ turn. not-quiet quiet-none (made site plain act) refl said turn)
  shows-nothing-at quiet-none (Some shown) said is = absurd (cc)

-- once none can go, none is possible and shows nothing
pub none-quiet : (shown : List Shown) (acts : List Act) (replay : Replay) → NoneGoesIn shown acts replay
    → NoneIsQuiet acts replay
none-quiet shown acts replay none before act after e turn plain possible =
    none before act after e turn
    (record { outcome = quiet plain; later = drop replay.agreed shown; possible = possible; fits = refl })
