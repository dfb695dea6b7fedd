use Rattle.std.proofs.Common.{◌∙◌, sym, subst, length}
use Rattle.due_search.specs.flow_paths.specs.Graph.{IsWithin}
use Rattle.discipline.proofs.Settling.{first-inside, second-inside}
use Rattle.discipline.proofs.suspects.Sets.spread_from.Goals as goal

pub spread_along-back-requires : goal.spread_along-back-requires
spread_along-back-requires c =
    first-inside (length c.args.self.now.sets.items) c.node-node.result.now
    (subst (λ n. IsWithin n c.node-node.result.now) (sym c.requires.count) c.node-node.ensures.within)
    c.first.result.now c.first.ensures

pub spread_along-requires : goal.spread_along-requires
spread_along-requires c =
    second-inside (length c.spread_along-back.new.self.sets.items) c.node-node.result.now
    (subst (λ n. IsWithin n c.node-node.result.now) (sym (c.spread_along-back.ensures.count ∙ c.requires.count))
    c.node-node.ensures.within) c.in-Some.edge.now c.in-Some.ensures
