-- Which processes an act concerns: those whose state or slots it reads or changes.
use Rattle.std.specs.Prelude.{ℕ, List, [], ◌∷◌, slice_get, Option, Some, None}
use Rattle.process_semantics.specs.gd_words.specs.Members.{IsAmong}
use Rattle.process_semantics.specs.tal_tree.specs.declared.act.Act.{Act}
use Rattle.process_semantics.specs.tal_tree.specs.declared.act.Act.TheVariants.{Step, Take, Enter, Print}
use Rattle.process_semantics.specs.tal_tree.specs.declared.site.Site.{Site}
use Rattle.process_semantics.specs.tal_tree.specs.declared.site.Who.TheVariants as who
use Rattle.process_semantics.specs.declared.point.Point.{Point}
use Rattle.process_semantics.specs.declared.point.Point.TheVariants as point
use Rattle.process_semantics.specs.Process as process
use Rattle.plain_semantics.specs.declared.slot.Opener.{Opener}
use Rattle.plain_semantics.specs.Openers.{opener_of}
use Rattle.plain_semantics.specs.Machine.{Plain, PlainProcess, own_opener}

-- an opener's server, if there is an opener
abbrev pub server_in : Option Opener → List ℕ
server_in None = []
server_in (Some opener) = opener.server ∷ []

-- the process that one at Ask or Await asks
abbrev pub asked_at : Site → ℕ → PlainProcess → Point → List ℕ
asked_at site number one point.Ask = server_in (own_opener site number one)
asked_at site number one point.Await = server_in (own_opener site number one)
asked_at site number one _ = []

-- the process that a process asks where it stands
abbrev pub asked_by : Site → ℕ → Option PlainProcess → List ℕ
asked_by site number None = []
asked_by site number (Some one) = asked_at site number one (process.point one.state)

-- the process that steps or takes, the one that it asks or whose reply it awaits, and the one that a terminal asks
abbrev pub concerned : Site → Plain → Act → List ℕ
concerned site plain (Step number) = number ∷ asked_by site number (slice_get plain.processes number)
concerned site plain (Take number place) = number ∷ []
concerned site plain (Enter terminal) = server_in (opener_of site (who.Terminal terminal))
concerned site plain (Print terminal) = server_in (opener_of site (who.Terminal terminal))

-- the terminal that an act is of
abbrev pub terminals_in : Act → List ℕ
terminals_in (Enter terminal) = terminal ∷ []
terminals_in (Print terminal) = terminal ∷ []
terminals_in _ = []

-- two acts that concern different processes, and aren't of one terminal
pub record AreApart (site : Site) (plain : Plain) (first second : Act) : Type 0 where
  pub processes : (number : ℕ) → IsAmong number (concerned site plain first)
      → IsAmong number (concerned site plain second) → ⊥
  pub terminals : (terminal : ℕ) → IsAmong terminal (terminals_in first) → IsAmong terminal (terminals_in second) → ⊥
