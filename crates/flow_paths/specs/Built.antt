-- What comes of building a program's graph.
use Rattle.std.specs.Prelude.{List, Result, Ok, Err}
use Rattle.tal_tree.specs.declared.program.Program.{Program}
use Rattle.path_semantics.specs.Bounds.{IsWithinBounds, HasTooDeepCalls, IsTooLarge}
use Rattle.flow_paths.specs.declared.fault.FlowFault.{FlowFault}
use Rattle.flow_paths.specs.declared.fault.FlowFault.TheVariants.{TooDeep, TooLarge, NoMemory}
use Rattle.flow_paths.specs.Flow.{IsFlow}
use Rattle.flow_paths.specs.Graph.{Node}

-- the graph, or that calls go too deep, or else that the program is too large, with its size as far as it is told; a
-- program that is within bounds has a graph, where memory suffices
abbrev pub IsBuilt : Program → Result (List Node) FlowFault → Type 0
IsBuilt program (Ok nodes) = IsWithinBounds program × IsFlow program nodes
IsBuilt program (Err TooDeep) = HasTooDeepCalls program
IsBuilt program (Err (TooLarge size)) = IsTooLarge program size
IsBuilt program (Err (NoMemory _)) = IsWithinBounds program
