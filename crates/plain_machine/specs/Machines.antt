-- A machine on which acts are made one by one.
use Rattle.std.specs.Prelude.{ℕ, List, [], ◌∷◌, Option, Some, None}
use Rattle.tal_tree.specs.declared.act.Shown.{Shown}
use Rattle.tal_tree.specs.declared.site.Site.{Site}
use Rattle.process_semantics.specs.declared.point.Point.{Point}
use Rattle.process_semantics.specs.declared.point.Point.TheVariants as point
use Rattle.process_semantics.specs.Process as process
use Rattle.plain_semantics.specs.Machine.{Made, Plain, PlainProcess, shown_by_device}

-- a site and the state of its machine
pub record Machine : Type 0 where
  pub site : Site
  pub state : Plain

-- what an act shows, at most one thing, as a list
abbrev pub listed : Option Shown → List Shown
listed None = []
listed (Some shown) = shown ∷ []

-- what an act that was tried shows; nothing where it isn't possible
abbrev pub shown_of : Option Made → List Shown
shown_of None = []
shown_of (Some m) = m.shown

-- what the step of a process at this point shows
abbrev pub shown_at : ℕ → PlainProcess → Point → List Shown
shown_at number one point.Device = shown_by_device number (process.call_of one.state)
shown_at number one point.Inner = []
shown_at number one point.Take = []
shown_at number one point.Ask = []
shown_at number one point.Await = []
shown_at number one point.Answer = []
shown_at number one point.AtCheckpoint = []
shown_at number one point.Ended = []
