-- What is told of a run.
use Rattle.std.specs.Prelude.{ℕ, List, reverse}
use Rattle.schedule_sweeps.specs.node_copies.specs.ShownCounts.{replies_in, writes_in}
use Rattle.tal_tree.specs.declared.act.Act.{Act}
use Rattle.tal_tree.specs.declared.act.Shown.{Shown}
use Rattle.report_judge.specs.trace_print.specs.declared.closing.Closing.{Closing}
use Rattle.report_judge.specs.trace_print.specs.declared.closing.Closing.TheVariants as closing
use Rattle.report_judge.specs.trace_print.specs.declared.closing.Closing.TheVariants.{Ended}
use Rattle.report_judge.specs.trace_print.specs.declared.closing.End.TheVariants as end
use Rattle.report_judge.specs.trace_print.specs.declared.load.LoadCounts.{LoadCounts}
use Rattle.schedule_loop.specs.world_semantics.specs.Kept.{acts_of}
use Rattle.schedule_loop.specs.declared.ran.Ending.{Ending}
use Rattle.schedule_loop.specs.declared.ran.Ending.TheVariants.{Idle, Cut, Second, Lost}
use Rattle.command_dues.specs.declared.outcome.RunEnd.{RunEnd}
use Rattle.command_dues.specs.declared.outcome.Status.{Status}
use Rattle.command_dues.specs.declared.outcome.Status.TheVariants as status

-- the acts that the run keeps, in order
abbrev pub acts_of_run : RunEnd → List Act
acts_of_run run = acts_of run.ran.machine.state.world

-- what was shown in it, in order
abbrev pub shown_in : RunEnd → List Shown
shown_in run = reverse run.ran.machine.state.world.shown

-- how much was shown in it, as a load of so many requests of each terminal
abbrev pub load_counts : ℕ → RunEnd → LoadCounts
load_counts requests run = record {
  requests = requests;
  writes = writes_in run.ran.machine.state.world.shown;
  replies = replies_in run.ran.machine.state.world.shown;
}

-- how its report ends
abbrev pub closing_of : Ending → Closing
closing_of Idle = Ended end.Idle
closing_of Cut = Ended end.Cut
closing_of (Second processor) = Ended (end.Second processor)
closing_of (Lost process) = closing.Lost process

-- the status of a command that made it
abbrev pub status_of_run : Ending → Status
status_of_run Idle = status.Done
status_of_run Cut = status.Cut
status_of_run (Second processor) = status.SecondStop processor
status_of_run (Lost process) = status.DiscLost process
