use Rattle.std.proofs.Common.{◌≡◌, ◌+◌, ◌<◌, ℕ, List, [], ◌∷◌, ◌++◌, map, length, get_or, refl, arith, ap, subst, sym}
use Rattle.std.proofs.Common.{◌∙◌}
use Rattle.std.proofs.lemmas.List.{length_push}
use Rattle.std.proofs.lemmas.Option.{slice_get-get_or}
use Rattle.std.proofs.lemmas.Result.{IfOk-weaker}
use Rattle.tal_tree.specs.Rows.{rows}
use Rattle.tal_tree.specs.declared.program.Procedure.{Procedure}
use Rattle.tal_tree.specs.declared.statement.Statement.{Statement}
use Rattle.path_semantics.specs.Bounds.{sizes, told}
use Rattle.flow_paths.specs.Flow.{IsFlow}
use Rattle.flow_paths.specs.Graph.{Node}
use Rattle.flow_paths.specs.Layout.{size_at, leaving, lay_row, graph_at}
use Rattle.flow_paths.proofs.Graphs.{size, AreGraphs, left-out}
use Rattle.flow_paths.proofs.Told.{told-exact}
use Rattle.flow_paths.proofs.Whole.{has-room, has-few, is-closed, is-flow, one-more}
use Rattle.flow_paths.proofs.flow.Flow.lay_out.Goals as goal
use Rattle.flow_paths.proofs.flow.Flow.lay_out.Goals.{then-size_at-gt-MOST_WRITTEN_OUT}
use Rattle.flow_paths.proofs.flow.Flow.lay_out.Goals.{else-size_at-gt-MOST_WRITTEN_OUT+in_ok-graph}

-- the size of a procedure is found exactly where it isn't too large
exact : (known whole : List ℕ) (k found : ℕ) → known ≡ map told whole → found ≡ size_at known k
    → found ≡ told (size_at whole k)
exact known whole k found tells is = is ∙ ap (λ (ns : List ℕ). size_at ns k) tells ∙ told-exact whole k

-- the body of the procedure of a number
body-is : (found procedures : List Procedure) (at k : ℕ) (default : Procedure) (body : List Statement)
    → found ≡ procedures → at ≡ k → body ≡ (get_or found at default).body
    → body ≡ (get_or procedures k default).body
body-is found procedures at k default body same is body-same =
    body-same ∙ ap (λ (ps : List Procedure). (get_or ps at default).body) same
    ∙ ap (λ (n : ℕ). (get_or procedures n default).body) is

pub graph-requires-clause-room : goal.graph-requires-clause-room
graph-requires-clause-room c =
    let found : c.size_at.result ≡ told (size c.args.program.now c.loop-k.k) =
    exact c.args.sizes.now (sizes c.args.program.now) c.loop-k.k c.size_at.result c.requires.sizes
    c.size_at.ensures in
    has-room c.args.program.now c.requires.ordered c.loop-k.graphs c.loop-k.invariant.graphs c.loop-k.k
    (get_or c.args.program.now.procedures c.loop-k.k c.index-procedures-from.result)
    c.as_slice.result.now (omega (arith, c.loop-k.invariant.count))
    (slice_get-get_or c.args.program.now.procedures c.loop-k.k c.index-procedures-from.result
    (omega (arith, c.loop-k-test.true, c.requires.limits.main)))
    (body-is c.as_slice-procedures.result.now c.args.program.now.procedures c.from.result c.loop-k.k
    c.index-procedures-from.result c.as_slice.result.now c.as_slice-procedures.ensures
    c.from.ensures c.as_slice.ensures)
    (omega (arith, c.if-size_at-gt-MOST_WRITTEN_OUT.false))

pub graph-requires-clause-few : goal.graph-requires-clause-few
graph-requires-clause-few c =
    let found : c.size_at.result ≡ told (size c.args.program.now c.loop-k.k) =
    exact c.args.sizes.now (sizes c.args.program.now) c.loop-k.k c.size_at.result c.requires.sizes
    c.size_at.ensures in
    has-few c.args.program.now c.requires.ordered c.loop-k.graphs c.loop-k.invariant.graphs c.loop-k.k
    (get_or c.args.program.now.procedures c.loop-k.k c.index-procedures-from.result)
    c.as_slice.result.now (omega (arith, c.loop-k.invariant.count))
    (slice_get-get_or c.args.program.now.procedures c.loop-k.k c.index-procedures-from.result
    (omega (arith, c.loop-k-test.true, c.requires.limits.main)))
    (body-is c.as_slice-procedures.result.now c.args.program.now.procedures c.from.result c.loop-k.k
    c.index-procedures-from.result c.as_slice.result.now c.as_slice-procedures.ensures
    c.from.ensures c.as_slice.ensures)
    (omega (arith, c.if-size_at-gt-MOST_WRITTEN_OUT.false))

pub graph-requires-clause-closed : goal.graph-requires-clause-closed
graph-requires-clause-closed c =
    let found : c.size_at.result ≡ told (size c.args.program.now c.loop-k.k) =
    exact c.args.sizes.now (sizes c.args.program.now) c.loop-k.k c.size_at.result c.requires.sizes
    c.size_at.ensures in
    is-closed c.args.program.now c.requires.ordered c.loop-k.graphs c.loop-k.invariant.graphs c.loop-k.k
    (get_or c.args.program.now.procedures c.loop-k.k c.index-procedures-from.result)
    c.as_slice.result.now (omega (arith, c.loop-k.invariant.count))
    (slice_get-get_or c.args.program.now.procedures c.loop-k.k c.index-procedures-from.result
    (omega (arith, c.loop-k-test.true, c.requires.limits.main)))
    (body-is c.as_slice-procedures.result.now c.args.program.now.procedures c.from.result c.loop-k.k
    c.index-procedures-from.result c.as_slice.result.now c.as_slice-procedures.ensures
    c.from.ensures c.as_slice.ensures)
    (omega (arith, c.if-size_at-gt-MOST_WRITTEN_OUT.false))

pub loop-k-preserved : goal.loop-k-preserved
loop-k-preserved c =
    let found : c.size_at.result ≡ told (size c.args.program.now c.loop-k.k) =
    exact c.args.sizes.now (sizes c.args.program.now) c.loop-k.k c.size_at.result c.requires.sizes
    c.size_at.ensures in
    let all : AreGraphs c.args.program.now (c.loop-k.graphs ++ c.if-size_at-gt-MOST_WRITTEN_OUT.graph ∷ []) =
    elim c.if-size_at-gt-MOST_WRITTEN_OUT.branch [
      | then-size_at-gt-MOST_WRITTEN_OUT w ↦
          let none : c.if-size_at-gt-MOST_WRITTEN_OUT.graph ≡ [] =
          w.graph-is ∙ w.from_nodes-graph.ensures ∙ w.new.ensures.items in
          let large : 8192 < size c.args.program.now c.loop-k.k =
          omega (arith, w.if-size_at-gt-MOST_WRITTEN_OUT.true) in
          subst (λ (graph : List Node). AreGraphs c.args.program.now (c.loop-k.graphs ++ graph ∷ [])) (sym none)
          (left-out c.args.program.now c.loop-k.graphs c.loop-k.invariant.graphs
          (subst (λ (n : ℕ). 8192 < size c.args.program.now n) (sym c.loop-k.invariant.count) large))
      | else-size_at-gt-MOST_WRITTEN_OUT+in_ok-graph w ↦
          subst (λ (graph : List Node). AreGraphs c.args.program.now (c.loop-k.graphs ++ graph ∷ []))
          (sym (w.graph-is ∙ w.in_ok-graph.ensures))
          (one-more c.args.program.now c.requires.ordered c.loop-k.graphs c.loop-k.invariant.graphs c.loop-k.k
          (get_or c.args.program.now.procedures c.loop-k.k w.index-procedures-from.result) w.as_slice.result.now
          (omega (arith, c.loop-k.invariant.count))
          (slice_get-get_or c.args.program.now.procedures c.loop-k.k w.index-procedures-from.result
          (omega (arith, c.loop-k-test.true, c.requires.limits.main)))
          (body-is c.as_slice-procedures.result.now c.args.program.now.procedures w.from.result c.loop-k.k
          w.index-procedures-from.result w.as_slice.result.now
          c.as_slice-procedures.ensures w.from.ensures w.as_slice.ensures)
          (omega (arith, w.if-size_at-gt-MOST_WRITTEN_OUT.false)) (sym c.loop-k.invariant.count))
    ] in
    record {
      graphs = subst (AreGraphs c.args.program.now) (sym c.in_ok-push.ensures) all;
      count = ap length c.in_ok-push.ensures ∙ length_push c.loop-k.graphs c.if-size_at-gt-MOST_WRITTEN_OUT.graph
          ∙ ap (λ (n : ℕ). n + 1) c.loop-k.invariant.count;
    }

pub graph-requires-2-clause-room : goal.graph-requires-2-clause-room
graph-requires-2-clause-room c =
    has-room c.args.program.now c.requires.ordered c.loop-k.graphs c.loop-k.invariant.graphs c.args.program.now.main
    (get_or c.args.program.now.procedures c.args.program.now.main c.index-procedures-from-2.result)
    c.as_slice-2.result.now (omega (arith, c.loop-k.invariant.count, c.loop-k-test.false))
    (slice_get-get_or c.args.program.now.procedures c.args.program.now.main c.index-procedures-from-2.result
    c.requires.limits.main)
    (body-is c.as_slice-procedures.result.now c.args.program.now.procedures c.from-2.result c.args.program.now.main
    c.index-procedures-from-2.result c.as_slice-2.result.now
    c.as_slice-procedures.ensures c.from-2.ensures
    (c.as_slice-2.ensures ∙ ap (λ (p : Procedure). p.body) c.index-procedures-from-2.is))
    c.requires.few

pub graph-requires-2-clause-few : goal.graph-requires-2-clause-few
graph-requires-2-clause-few c =
    has-few c.args.program.now c.requires.ordered c.loop-k.graphs c.loop-k.invariant.graphs c.args.program.now.main
    (get_or c.args.program.now.procedures c.args.program.now.main c.index-procedures-from-2.result)
    c.as_slice-2.result.now (omega (arith, c.loop-k.invariant.count, c.loop-k-test.false))
    (slice_get-get_or c.args.program.now.procedures c.args.program.now.main c.index-procedures-from-2.result
    c.requires.limits.main)
    (body-is c.as_slice-procedures.result.now c.args.program.now.procedures c.from-2.result c.args.program.now.main
    c.index-procedures-from-2.result c.as_slice-2.result.now
    c.as_slice-procedures.ensures c.from-2.ensures
    (c.as_slice-2.ensures ∙ ap (λ (p : Procedure). p.body) c.index-procedures-from-2.is))
    c.requires.few

pub graph-requires-2-clause-closed : goal.graph-requires-2-clause-closed
graph-requires-2-clause-closed c =
    is-closed c.args.program.now c.requires.ordered c.loop-k.graphs c.loop-k.invariant.graphs c.args.program.now.main
    (get_or c.args.program.now.procedures c.args.program.now.main c.index-procedures-from-2.result)
    c.as_slice-2.result.now (omega (arith, c.loop-k.invariant.count, c.loop-k-test.false))
    (slice_get-get_or c.args.program.now.procedures c.args.program.now.main c.index-procedures-from-2.result
    c.requires.limits.main)
    (body-is c.as_slice-procedures.result.now c.args.program.now.procedures c.from-2.result c.args.program.now.main
    c.index-procedures-from-2.result c.as_slice-2.result.now
    c.as_slice-procedures.ensures c.from-2.ensures
    (c.as_slice-2.ensures ∙ ap (λ (p : Procedure). p.body) c.index-procedures-from-2.is))
    c.requires.few

pub returns : goal.returns
returns c =
    let flow : IsFlow c.args.program.now (lay_row (graph_at c.loop-k.graphs) (rows c.as_slice-2.result.now) 0 leaving) =
    is-flow c.args.program.now c.requires.ordered c.loop-k.graphs c.loop-k.invariant.graphs c.args.program.now.main
    (get_or c.args.program.now.procedures c.args.program.now.main c.index-procedures-from-2.result)
    c.as_slice-2.result.now (omega (arith, c.loop-k.invariant.count, c.loop-k-test.false))
    (slice_get-get_or c.args.program.now.procedures c.args.program.now.main c.index-procedures-from-2.result
    c.requires.limits.main)
    (body-is c.as_slice-procedures.result.now c.args.program.now.procedures c.from-2.result c.args.program.now.main
    c.index-procedures-from-2.result c.as_slice-2.result.now
    c.as_slice-procedures.ensures c.from-2.ensures
    (c.as_slice-2.ensures ∙ ap (λ (p : Procedure). p.body) c.index-procedures-from-2.is))
    c.requires.few refl in
    IfOk-weaker c.graph-2.result _ _ (λ graph is. subst (IsFlow c.args.program.now) (sym is) flow) c.graph-2.ensures
