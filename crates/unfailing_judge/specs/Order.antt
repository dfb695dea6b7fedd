-- The order in which single unfailing processes are let do what a run kept. Our own rule: of the acts that are left the
-- first goes that can. Each process and each terminal keeps its own order, and no act goes that shows something else
-- than the run showed next.
use Rattle.std.specs.Prelude.{◌≡◌, List, [], ◌∷◌, ◌++◌, Some}
use Rattle.plain_semantics.specs.Machine.{Made, Plain, made, plain_start}
use Rattle.tal_tree.specs.declared.act.Act.{Act}
use Rattle.tal_tree.specs.declared.act.Shown.{Shown}
use Rattle.tal_tree.specs.declared.site.Site.{Site}
use Rattle.unfailing_judge.specs.Turns.{HasTurn}

-- unfailing processes on their way: their machine, the acts that are left, and what is still to be shown
pub record Way : Type 0 where
  pub plain : Plain
  pub left : List Act
  pub due : List Shown

-- at the beginning all acts are left, and all that the run showed is still to be shown
abbrev pub way_of : Site → List Act → List Shown → Way
way_of site acts shown = record { plain = plain_start site; left = acts; due = shown }

-- an act is possible, and shows nothing, or what is to be shown next
pub record CanGo (site : Site) (plain : Plain) (due : List Shown) (act : Act) : Type 0 where
  pub outcome : Made
  pub later : List Shown
  pub possible : made site plain act ≡ Some outcome
  pub fits : due ≡ outcome.shown ++ later

-- none of these acts that has its turn can go
abbrev pub NoneGoes : Site → Plain → List Shown → List Act → Type 0
NoneGoes site plain due acts =
    (before : List Act) (act : Act) (after : List Act) → acts ≡ before ++ act ∷ after → HasTurn before act
    → CanGo site plain due act → ⊥

-- the first act goes that can
pub record GoesOn (site : Site) (act : Act) (old new : Way) : Type 0 where
  pub before : List Act
  pub after : List Act
  pub shown : List Shown
  pub there : old.left ≡ before ++ act ∷ after
  pub turn : HasTurn before act
  pub first : NoneGoes site old.plain old.due before
  pub possible : made site old.plain act ≡ Some (record { plain = new.plain; shown = shown })
  pub fits : old.due ≡ shown ++ new.due
  pub left : new.left ≡ before ++ after

-- these acts go, one after the other
abbrev pub GoesBy : Site → List Act → Way → Way → Type 0
GoesBy site [] old new = old ≡ new
GoesBy site (act ∷ order) old new = (mid : Way) × GoesOn site act old mid × GoesBy site order mid new
