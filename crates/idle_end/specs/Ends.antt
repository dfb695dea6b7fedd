-- What it means that a run has come to an idle end at which all is served, and what each process is there.
use Rattle.std.specs.Prelude.{◌≡◌, ◌<◌, List, length, map}
use Rattle.tal_tree.specs.declared.site.Site.{Site}
use Rattle.schedule.specs.declared.event.Event.{Event}
use Rattle.plain_semantics.specs.Machine.{PlainProcess}
use Rattle.world_semantics.specs.Follows.{IsRun}
use Rattle.world_semantics.specs.World.{Copy, Pair}
use Rattle.awaited_requests.specs.takeover_laws.specs.Fit.{IsFit}
use Rattle.letters.specs.Idle.{IsIdle}
use Rattle.letters.specs.Posts.{Post}
use Rattle.awaited_requests.specs.Seats.{IsLaidOut}
use Rattle.awaited_requests.specs.Served.{AreServed}

-- a run of a fit site that is laid out has come to a post that is idle, at which every awaited request is served
pub record IsIdleEnd (site : Site) (events : List Event) (post : Post) : Type 0 where
  pub fit : IsFit site
  pub laid_out : IsLaidOut site
  pub few : length events < 4294967296
  pub run : IsRun site events post.world
  pub served : AreServed site post
  pub idle : IsIdle site post

-- a process of the machine of single processes has the state of a copy, and its sectors are those of the copy's process
pub record IsAsCopy (one : PlainProcess) (copy : Copy) (pair : Pair) : Type 0 where
  pub state : one.state ≡ copy.core.state
  pub sectors : one.sectors ≡ map (λ stored. stored.words) pair.sectors
