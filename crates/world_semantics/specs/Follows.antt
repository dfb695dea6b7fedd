-- What each event of a schedule permits in the world, and runs.
use Rattle.std.specs.Prelude.{◌≡◌, ◌≢◌, ℕ, true, List, [], ◌∷◌, ◌++◌, Some, false, slice_get}
use Rattle.checkpoint_image.specs.tal_tree.specs.declared.site.Site.{Site}
use Rattle.schedule.specs.declared.bus_name.BusName.{BusName}
use Rattle.schedule.specs.declared.event.DriveEvent.{DriveEvent}
use Rattle.schedule.specs.declared.event.Event.{Event}
use Rattle.schedule.specs.declared.event.Event.TheVariants.{Run, Enter, Deliver, Lose, Repeat, Tick, Fail, Drive}
use Rattle.schedule.specs.declared.event.Event.TheVariants.{Reload}
use Rattle.world_semantics.specs.World.{World, boot, is_running}
use Rattle.world_semantics.specs.Messages.{Message, Sending, Cause, Running, Entering, Handing, Stopping, MarkingDown}
use Rattle.world_semantics.specs.Messages.{Reloading}
use Rattle.world_semantics.specs.Rules.{Change}

-- no change of the world is possible for a cause
abbrev pub IsIdleFor : Site → World → Cause → Type 0
IsIdleFor site w cause = (sendings : List Sending) (next : World) → Change site w cause sendings next → ⊥

-- any number of marks that a node makes, one after the other
pub data MarksDowns (site : Site) (node : ℕ) : World → List Sending → World → Type 0 where
  marks_none : {w : World} → MarksDowns site node w [] w
  marks_one : {w next end : World} {sendings more : List Sending} → (processor : ℕ)
      → Change site w (MarkingDown node processor) sendings next
      → MarksDowns site node next more end → MarksDowns site node w (sendings ++ more) end

-- what an event permits: `Run` makes the change for which its process can run, `Enter` that of its terminal, and
-- `Reload` loads its processor, each where it is possible, and else nothing; `Fail` stops its processor if it hasn't
-- stopped, and else does nothing; `Deliver` does nothing, hands over one message, or makes one mark; `Lose`, `Repeat`
-- and `Drive` do nothing; and the `Tick` of a node that runs stops at most one other processor, and then makes marks at
-- that node. Nothing is permitted that would stop a processor in a world that isn't whole
pub data Follows (site : Site) (w : World) : Event → List Sending → World → Type 0 where
  runs : {number : ℕ} {sendings : List Sending} {next : World} → Change site w (Running number) sendings next
      → Follows site w (Run number) sendings next
  cannot_run : {number : ℕ} → IsIdleFor site w (Running number) → Follows site w (Run number) [] w
  enters : {number : ℕ} {sendings : List Sending} {next : World} → Change site w (Entering number) sendings next
      → Follows site w (Enter number) sendings next
  cannot_enter : {number : ℕ} → IsIdleFor site w (Entering number) → Follows site w (Enter number) [] w
  delivers_none : {bus : BusName} {k : ℕ} → Follows site w (Deliver bus k) [] w
  delivers : {bus : BusName} {k : ℕ} {sendings : List Sending} {next : World} → (node : ℕ) (message : Message)
      → Change site w (Handing node message) sendings next → Follows site w (Deliver bus k) sendings next
  delivers_mark : {bus : BusName} {k : ℕ} {sendings : List Sending} {next : World} → (node processor : ℕ)
      → Change site w (MarkingDown node processor) sendings next
      → Follows site w (Deliver bus k) sendings next
  loses : {bus : BusName} {k : ℕ} → Follows site w (Lose bus k) [] w
  doubles : {bus : BusName} {k : ℕ} → Follows site w (Repeat bus k) [] w
  ticks_none : {node : ℕ} → Follows site w (Tick node) [] w
  ticks : {node : ℕ} {sendings : List Sending} {next : World} → is_running w.stopped node ≡ true
      → MarksDowns site node w sendings next
      → Follows site w (Tick node) sendings next
  ticks_stop : {node : ℕ} {sendings : List Sending} {between next : World} → (processor : ℕ)
      → is_running w.stopped node ≡ true → processor ≢ node
      → Change site w (Stopping processor) [] between → MarksDowns site node between sendings next
      → Follows site w (Tick node) sendings next
  fails : {processor : ℕ} {next : World} → Change site w (Stopping processor) [] next
      → Follows site w (Fail processor) [] next
  cannot_fail : {processor : ℕ} → slice_get w.stopped processor ≢ Some false
      → Follows site w (Fail processor) [] w
  reloads : {processor : ℕ} {next : World} → Change site w (Reloading processor) [] next
      → Follows site w (Reload processor) [] next
  cannot_reload : {processor : ℕ} → IsIdleFor site w (Reloading processor) → Follows site w (Reload processor) [] w
  turns_drive : {event : DriveEvent} → Follows site w (Drive event) [] w

-- events, one after the other, lead from one world to another
pub data Leads (site : Site) : World → List Event → World → Type 0 where
  stays : {w : World} → Leads site w [] w
  goes_on : {w next end : World} {event : Event} {events : List Event} {sendings : List Sending}
      → Follows site w event sendings next
      → Leads site next events end → Leads site w (event ∷ events) end

-- a run of a site: events lead to a world from the one at the beginning
abbrev pub IsRun : Site → List Event → World → Type 0
IsRun site events w = Leads site (boot site) events w
