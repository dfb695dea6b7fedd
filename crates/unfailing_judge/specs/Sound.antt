-- What a run kept and showed, beside unfailing processes. After Bartlett's paper: a process pair does what one process
-- does that never fails.
use Rattle.std.specs.Prelude.{◌≡◌, Bool, true, List, [], ◌∷◌, ◌++◌, length, slice_get, Option, Some, None}
use Rattle.plain_semantics.specs.Machine.{IsStill, Plain, made}
use Rattle.tal_tree.specs.declared.act.Act.{Act}
use Rattle.tal_tree.specs.declared.act.Shown.{Shown}
use Rattle.tal_tree.specs.declared.site.Site.{Site}
use Rattle.unfailing_judge.specs.Order.{GoesBy, NoneGoes, Way, way_of}
use Rattle.unfailing_judge.specs.Turns.{HasTurn}
use Rattle.unfailing_judge.specs.declared.wrong.Apart.{Apart}
use Rattle.unfailing_judge.specs.declared.wrong.Stuck.{Stuck}
use Rattle.unfailing_judge.specs.declared.wrong.Wrong.{Wrong}
use Rattle.unfailing_judge.specs.declared.wrong.Wrong.TheVariants as wrong

-- unfailing processes can do all that the run kept and show all that it showed; and if the run ended idle, no act is
-- possible after that
pub record IsSound (site : Site) (acts : List Act) (shown : List Shown) (idle : Bool) : Type 0 where
  pub order : List Act
  pub end : Way
  pub goes : GoesBy site order (way_of site acts shown) end
  pub all : end.left ≡ []
  pub same : end.due ≡ []
  pub none : idle ≡ true → IsStill site end.plain

-- What goes wrong

-- none of these acts that has its turn is possible
abbrev pub NoneIsPossible : Site → Plain → List Act → Type 0
NoneIsPossible site plain acts =
    (before : List Act) (act : Act) (after : List Act) → acts ≡ before ++ act ∷ after → HasTurn before act
    → made site plain act ≡ None

-- so many things were shown, and then what is still to be shown comes, where this would be shown instead
pub record IsApart (shown due : List Shown) (instead : Option Shown) (apart : Apart) : Type 0 where
  pub agreed : List Shown
  pub all : shown ≡ agreed ++ due
  pub before : apart.before ≡ length agreed
  pub next : apart.shown ≡ slice_get due 0
  pub instead_is : apart.due ≡ instead

-- of the acts that are left and have their turn this one is the first that is possible; it shows this
pub record IsShownInstead (site : Site) (end : Way) (shown : Shown) : Type 0 where
  pub before : List Act
  pub act : Act
  pub after : List Act
  pub plain : Plain
  pub there : end.left ≡ before ++ act ∷ after
  pub turn : HasTurn before act
  pub first : NoneIsPossible site end.plain before
  pub possible : made site end.plain act ≡ Some (record { plain = plain; shown = shown ∷ [] })

-- unfailing processes show this next; or nothing more, since all acts are done
abbrev pub IsInstead : Site → Way → Option Shown → Type 0
IsInstead site end None = end.left ≡ []
IsInstead site end (Some shown) = IsShownInstead site end shown

-- something is still to be shown, where nothing more is shown; or nothing is
abbrev pub IsLacking : List Shown → List Shown → Option Apart → Type 0
IsLacking shown due None = due ≡ []
IsLacking shown due (Some apart) = (due ≡ [] → ⊥) × IsApart shown due None apart

-- what is shown next isn't what the run showed next
pub record IsShownWrong (site : Site) (acts : List Act) (shown : List Shown) (apart : Apart) : Type 0 where
  pub order : List Act
  pub end : Way
  pub goes : GoesBy site order (way_of site acts shown) end
  pub ended : NoneGoes site end.plain end.due end.left
  pub instead : IsInstead site end apart.due
  pub lacking : end.left ≡ [] → end.due ≡ [] → ⊥
  pub apart_is : IsApart shown end.due apart.due apart

-- so many acts can be done, and then none that is left is possible, of which this is the first
pub record IsStuck (site : Site) (acts : List Act) (shown : List Shown) (stuck : Stuck) : Type 0 where
  pub order : List Act
  pub end : Way
  pub rest : List Act
  pub goes : GoesBy site order (way_of site acts shown) end
  pub counted : stuck.made ≡ length order
  pub left : end.left ≡ stuck.act ∷ rest
  pub none : NoneIsPossible site end.plain end.left
  pub apart : IsLacking shown end.due stuck.apart

-- all acts can be done and show what was shown; and at the idle end an act is possible
pub record HasActLeft (site : Site) (acts : List Act) (shown : List Shown) (idle : Bool) : Type 0 where
  pub order : List Act
  pub end : Way
  pub goes : GoesBy site order (way_of site acts shown) end
  pub all : end.left ≡ []
  pub same : end.due ≡ []
  pub ended : idle ≡ true
  pub left : IsStill site end.plain → ⊥

abbrev pub IsWrong : Site → List Act → List Shown → Bool → Wrong → Type 0
IsWrong site acts shown idle (wrong.Stuck stuck) = IsStuck site acts shown stuck
IsWrong site acts shown idle (wrong.Differs apart) = IsShownWrong site acts shown apart
IsWrong site acts shown idle wrong.Left = HasActLeft site acts shown idle

-- what a run kept and showed is sound, or this goes wrong
abbrev pub IsJudged : Site → List Act → List Shown → Bool → Option Wrong → Type 0
IsJudged site acts shown idle None = IsSound site acts shown idle
IsJudged site acts shown idle (Some found) = IsWrong site acts shown idle found
