use Rattle.std.proofs.Common.{rules, ◌∙◌, ap, map, refl}
use Rattle.std.proofs.lemmas.List.{length-map, places, with_items_is}
use Rattle.world_semantics.specs.Rules.{stopped_pair}
use Rattle.world_copies.specs.Changes.{changed}
use Rattle.world_copies.proofs.Changed.{drives-changed, pairs-changed, placed-changed}
use Rattle.world_copies.proofs.copies.WorldCopies.stop.Goals as goal

pub invariant_of-self : goal.invariant_of-self
invariant_of-self c =
    let before = c.self.inside.processes in
    let f = stopped_pair c.args.processor in
    let after = with_items_is before c.stop_all.new.processes (search (rules, places)) ∙ c.stop_all.ensures
    ∙ ap (map (changed f)) c.as_mut_slice.ensures.value in
    rw after (
      placed-changed f c.self.inside.site before.items c.self.invariant.0,
      length-map before.items (changed f)
          ∙ c.self.invariant.1,
      c.self.invariant.2,
    )

pub returns : goal.returns
returns c =
    let before = c.self.inside.processes in
    let f = stopped_pair c.args.processor in
    let after = with_items_is before c.stop_all.new.processes (search (rules, places)) ∙ c.stop_all.ensures
    ∙ ap (map (changed f)) c.as_mut_slice.ensures.value in
    rw (after, c.stop.ensures, pairs-changed f before.items, drives-changed f before.items, ← c.self.view_is) refl
