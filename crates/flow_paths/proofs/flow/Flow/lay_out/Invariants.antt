use Rattle.std.proofs.Common.{◌≡◌, length}
use Rattle.flow_paths.proofs.Graphs.{AreGraphs}
use Rattle.flow_paths.proofs.flow.Flow.lay_out.Given as goal

abbrev pub invariant-loop-k : goal.invariant-loop-k
invariant-loop-k l = record {
  graphs : AreGraphs l.program l.graphs;
  count : length l.graphs ≡ l.k;
}
