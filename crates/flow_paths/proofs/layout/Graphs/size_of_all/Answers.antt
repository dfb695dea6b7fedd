use Rattle.std.proofs.Common.{◌≡◌, ℕ, map, length, arith, ap, ◌∙◌}
use Rattle.tal_tree.specs.Rows.{rows}
use Rattle.flow_paths.specs.Layout.{size_row, size_at, graph_sizes}
use Rattle.flow_paths.proofs.Sizes.{sizes-known}
use Rattle.flow_paths.proofs.layout.Graphs.size_of_all.Goals as goal

pub overflow_cast-result : goal.overflow_cast-result
overflow_cast-result c =
    let same : size_at c.as_slice.result.now ≡ graph_sizes c.args.self.now =
    sizes-known c.as_slice.result.now c.args.self.now
    (c.as_slice.ensures.value ∙ c.self.invariant ∙ ap (map length) c.self.view_is) in
    let exact = ap (λ (known : ℕ → ℕ). size_row known (rows c.args.statements.now)) same in
    omega (arith, c.size_of_all.ensures, c.requires)

pub returns : goal.returns
returns c =
    let same : size_at c.as_slice.result.now ≡ graph_sizes c.args.self.now =
    sizes-known c.as_slice.result.now c.args.self.now
    (c.as_slice.ensures.value ∙ c.self.invariant ∙ ap (map length) c.self.view_is) in
    let exact = ap (λ (known : ℕ → ℕ). size_row known (rows c.args.statements.now)) same in
    omega (arith, c.size_of_all.ensures, c.requires)
