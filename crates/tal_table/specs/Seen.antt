-- The deed that a node does, where this remains at each number of its program.
use Rattle.std.specs.Prelude.{List}
use Rattle.process_semantics.specs.State.{Entry}
use Rattle.program_deeds.specs.Deed.{Deed, Assigns, Tests, Enters, Returns, Passes, Stops, Takes, Asks, Answers}
use Rattle.program_deeds.specs.Deed.{Checkpoints}
use Rattle.tal_table.specs.Places.{rest_at}
use Rattle.tal_table.specs.declared.node.Work.{Work}
use Rattle.tal_table.specs.declared.node.Work.TheVariants as work

abbrev pub seen : List (List Entry) → Work → Deed
seen places (work.Assign to value next) = Assigns to value (rest_at places next)
seen places (work.Test test first second) = Tests test (rest_at places first) (rest_at places second)
seen places (work.Call procedure arguments to) = Enters procedure arguments to
seen places (work.Return value) = Returns value
seen places work.Pass = Passes
seen places work.Stop = Stops
seen places (work.ReadUpdate buffer most got) = Takes buffer most got
seen places (work.WriteRead file buffer send room got) = Asks file buffer send room got
seen places (work.Reply buffer count) = Answers buffer count
seen places (work.Checkpoint listed) = Checkpoints listed.items listed.files
