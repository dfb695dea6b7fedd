-- Acts that are made one by one; only the clauses of private functions cite it.
use Rattle.std.specs.Prelude.{◌≡◌, ◌+◌, ℕ, Bool, true, false, List, [], ◌∷◌, ◌++◌, drop, length, slice_get, take}
use Rattle.std.specs.Prelude.{Option, None, Some}
use Rattle.plain_semantics.specs.Machine.{IsStill, Plain, made, quiet}
use Rattle.tal_tree.specs.declared.act.Act.{Act}
use Rattle.tal_tree.specs.declared.act.Shown.{Shown}
use Rattle.tal_tree.specs.declared.site.Site.{Site}
use Rattle.unfailing_judge.specs.Order.{CanGo, GoesBy, NoneGoes, Way, way_of}
use Rattle.unfailing_judge.specs.Sound.{IsApart, IsLacking, IsShownInstead, NoneIsPossible}
use Rattle.unfailing_judge.specs.Turns.{HasTurn}
use Rattle.unfailing_judge.specs.declared.replay.Replay.{Replay}
use Rattle.unfailing_judge.specs.declared.wrong.Wrong.{Wrong}
use Rattle.unfailing_judge.specs.declared.wrong.Wrong.TheVariants as wrong

-- what is still to be shown
abbrev pub due_in : List Shown → Replay → List Shown
due_in shown replay = drop replay.agreed shown

-- how far unfailing processes are, and these acts are left
abbrev pub way_in : List Shown → List Act → Replay → Way
way_in shown left replay = record { plain = replay.plain.state; left = left; due = due_in shown replay }

-- an act went
pub record IsMadeBy (shown : List Shown) (act : Act) (old new : Replay) : Type 0 where
  pub told : List Shown
  pub on_site : new.plain.site ≡ old.plain.site
  pub possible : made old.plain.site old.plain.state act ≡ Some (record { plain = new.plain.state; shown = told })
  pub fits : due_in shown old ≡ told ++ due_in shown new
  pub reached : new.agreed ≡ old.agreed + length told
  pub counted : new.made ≡ old.made + 1

-- nothing was made
pub record IsAsItWas (old new : Replay) : Type 0 where
  pub plain : new.plain ≡ old.plain
  pub agreed : new.agreed ≡ old.agreed
  pub counted : new.made ≡ old.made

-- an act went; or it can't go, and nothing changed
abbrev pub GoesIfItCan : List Shown → Act → Replay → Replay → Bool → Type 0
GoesIfItCan shown act old new true = IsMadeBy shown act old new
GoesIfItCan shown act old new false =
    IsAsItWas old new × (CanGo old.plain.site old.plain.state (due_in shown old) act → ⊥)

-- an act that has its turn went; or it hasn't, or can't go, and nothing changed
abbrev pub GoesInTurn : List Shown → List Act → Act → Replay → Replay → Bool → Type 0
GoesInTurn shown before act old new true = HasTurn before act × IsMadeBy shown act old new
GoesInTurn shown before act old new false =
    IsAsItWas old new
    × (HasTurn before act → CanGo old.plain.site old.plain.state (due_in shown old) act → ⊥)

-- none of these acts that has its turn can go now
abbrev pub NoneGoesIn : List Shown → List Act → Replay → Type 0
NoneGoesIn shown acts replay = NoneGoes replay.plain.site replay.plain.state (due_in shown replay) acts

-- of these acts the one at this place went, the first that could
pub record IsFirstGone (shown : List Shown) (acts : List Act) (old new : Replay) (place : ℕ) : Type 0 where
  pub act : Act
  pub there : slice_get acts place ≡ Some act
  pub first : NoneGoesIn shown (take place acts) old
  pub went : GoesInTurn shown (take place acts) act old new true

-- the first act that could go went; or none can, and nothing changed
abbrev pub GoesFirst : List Shown → List Act → Replay → Replay → Option ℕ → Type 0
GoesFirst shown acts old new None = IsAsItWas old new × NoneGoesIn shown acts old
GoesFirst shown acts old new (Some place) = IsFirstGone shown acts old new place

-- of these acts some went, and those are left
pub record IsCarriedOn (shown : List Shown) (acts left : List Act) (old new : Replay) : Type 0 where
  pub order : List Act
  pub on_site : new.plain.site ≡ old.plain.site
  pub goes : GoesBy old.plain.site order (way_in shown acts old) (way_in shown left new)
  pub counted : new.made ≡ old.made + length order
  pub reached : new.agreed + length (due_in shown new) ≡ old.agreed + length (due_in shown old)

-- all acts went that can, and these are left
pub record IsSettledOf (site : Site) (acts : List Act) (shown : List Shown) (left : List Act) (replay : Replay) :
    Type 0 where
  pub order : List Act
  pub on_site : replay.plain.site ≡ site
  pub goes : GoesBy site order (way_of site acts shown) (way_in shown left replay)
  pub ended : NoneGoesIn shown left replay
  pub counted : replay.made ≡ length order
  pub reached : replay.agreed + length (due_in shown replay) ≡ length shown

-- none of these acts that has its turn is possible and shows nothing
abbrev pub NoneIsQuiet : List Act → Replay → Type 0
NoneIsQuiet acts replay =
    (before : List Act) (act : Act) (after : List Act) → acts ≡ before ++ act ∷ after → HasTurn before act
    → (plain : Plain) → made replay.plain.site replay.plain.state act ≡ Some (quiet plain) → ⊥

-- what an act shows that is left, has its turn and is possible; or there is none
abbrev pub IsBlocked : List Act → Replay → Option Shown → Type 0
IsBlocked left replay None = NoneIsPossible replay.plain.site replay.plain.state left
IsBlocked left replay (Some shown) =
    IsShownInstead replay.plain.site (record { plain = replay.plain.state; left = left; due = [] }) shown

-- what would be shown next; or nothing more, since no act is left
abbrev pub IsNextIn : List Act → Replay → Option Shown → Type 0
IsNextIn left replay None = left ≡ []
IsNextIn left replay (Some shown) = IsBlocked left replay (Some shown)

-- what goes wrong once all acts went that can, and these are left
abbrev pub IsJudgedBy : List Shown → List Act → Replay → Bool → Option Wrong → Type 0
IsJudgedBy shown left replay idle None =
    (left ≡ []) × (due_in shown replay ≡ []) × (idle ≡ true → IsStill replay.plain.site replay.plain.state)
IsJudgedBy shown left replay idle (Some (wrong.Stuck stuck)) =
    (rest : List Act) × (left ≡ stuck.act ∷ rest) × (stuck.made ≡ replay.made)
    × NoneIsPossible replay.plain.site replay.plain.state left × IsLacking shown (due_in shown replay) stuck.apart
IsJudgedBy shown left replay idle (Some (wrong.Differs apart)) =
    IsNextIn left replay apart.due × (left ≡ [] → due_in shown replay ≡ [] → ⊥)
    × IsApart shown (due_in shown replay) apart.due apart
IsJudgedBy shown left replay idle (Some wrong.Left) =
    (left ≡ []) × (due_in shown replay ≡ []) × (idle ≡ true)
    × (IsStill replay.plain.site replay.plain.state → ⊥)
