-- Worked examples: a disc that nobody asks, a request that was lost on its way to its disc, one that two copies hold,
-- and a disc of which both processors stop, the first of them before it is loaded again.
use Rattle.std.specs.Prelude.{List, [], ◌∷◌}
use Rattle.tal_tree.specs.declared.act.Act.{Act}
use Rattle.tal_tree.specs.declared.act.Act.TheVariants.{Take}
use Rattle.tal_tree.specs.declared.act.Act.TheVariants as act
use Rattle.tal_tree.specs.declared.site.Site.{Site}
use Rattle.schedule.specs.declared.bus_name.BusName.TheVariants as bus
use Rattle.schedule.specs.declared.event.Event.{Event}
use Rattle.schedule.specs.declared.event.Event.TheVariants.{Run, Enter, Deliver, Tick, Fail, Reload}
use Rattle.world_semantics.specs.declared.role.Role.TheVariants.{Acting, Gone}
use Rattle.world_semantics.specs.World.{World}
use Rattle.letters.specs.Posts.{Post}
use Rattle.process_histories.specs.Served.{disc_site}
use Rattle.awaited_requests.specs.Examples.{disc_pair, entered, first_request, letter_to}

-- a site of one disc and no terminal
abbrev pub quiet_site : Site
quiet_site = record disc_site { terminals = [] }

-- a terminal has entered its request, which is owed no more and waits nowhere
abbrev pub lost : Post
lost = record {
  world = record entered { requests = first_request ∷ []; kept = act.Enter 0 ∷ [] };
  owed = [];
  sent = letter_to 0 ∷ [];
}

-- its disc after a takeover, where the copy that took over has taken the request and the lost one holds these acts
abbrev pub taken_over_from : List Act → World
taken_over_from held = record lost.world {
  processes = record disc_pair {
    first = record disc_pair.first { role = Gone; held = held };
    second = record disc_pair.second { role = Acting; held = Take 0 0 ∷ [] };
  } ∷ [];
}

-- the first processor of a disc stops, is loaded again and gets all that the copy has which took over; then the second
-- one stops, and the terminal's request is entered, taken, done and answered
abbrev pub two_stops : List Event
two_stops =
    Fail 0 ∷ Tick 1 ∷ Tick 16 ∷ Reload 0 ∷ Run 0 ∷ Deliver bus.X 0 ∷ Deliver bus.X 0 ∷ Run 0
    ∷ Fail 1 ∷ Tick 0 ∷ Tick 16
    ∷ Enter 0 ∷ Deliver bus.X 0 ∷ Run 0 ∷ Run 0 ∷ Run 0 ∷ Run 0 ∷ Deliver bus.X 0 ∷ []
