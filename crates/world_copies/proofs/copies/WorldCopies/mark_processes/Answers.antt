use Rattle.std.proofs.Common.{rules, ◌≡◌, ◌∙◌, ap, length, map, refl, subst, sym}
use Rattle.std.proofs.lemmas.List.{places, with_items_is}
use Rattle.world_semantics.specs.Rules.{pair_at_down}
use Rattle.world_copies.specs.Changes.{changed}
use Rattle.world_copies.specs.SiteWorld.{SiteWorld}
use Rattle.world_copies.specs.Room.{AllWatchersHaveRoom}
use Rattle.world_copies.specs.Seen.{ArePlaced, pairs_in}
use Rattle.world_copies.proofs.Changed.{drives-changed, pairs-changed}
use Rattle.world_copies.proofs.copies.WorldCopies.mark_processes.Goals as goal

pub mark_all-requires : goal.mark_all-requires
mark_all-requires c =
    subst AllWatchersHaveRoom (sym (ap (λ (s : SiteWorld). s.world.processes) c.self.view_is)
    ∙ ap pairs_in (sym c.as_mut_slice.ensures.value)) c.requires

pub invariant_of-self : goal.invariant_of-self
invariant_of-self c =
    let before = c.self.inside.processes in
    let after = with_items_is before c.mark_all.new.processes (search (rules, places)) in
    let seated =
    subst (λ items. ArePlaced c.self.inside.site items) (sym c.as_mut_slice.ensures.value) c.self.invariant.0 in
    let same : length c.mark_all.new.processes ≡ length before.items = search (rules, places) in
    rw after (c.mark_all.ensures.placed c.self.inside.site seated, same ∙ c.self.invariant.1, c.self.invariant.2)

pub invariant_of-self-2 : goal.invariant_of-self-2
invariant_of-self-2 c =
    let before = c.self.inside.processes in
    let after = with_items_is before c.mark_all.new.processes (search (rules, places)) in
    let seated =
    subst (λ items. ArePlaced c.self.inside.site items) (sym c.as_mut_slice.ensures.value) c.self.invariant.0 in
    let same : length c.mark_all.new.processes ≡ length before.items = search (rules, places) in
    rw after (c.mark_all.ensures.placed c.self.inside.site seated, same ∙ c.self.invariant.1, c.self.invariant.2)

pub returns-clause-state : goal.returns-clause-state
returns-clause-state c =
    let before = c.self.inside.processes in
    let f = pair_at_down c.args.node c.args.processor in
    let after =
    with_items_is before c.mark_all.new.processes (search (rules, places)) ∙ c.in_ok-mark_all.ensures.processes
    ∙ ap (map (changed f)) c.as_mut_slice.ensures.value in
    rw (after, pairs-changed f before.items, drives-changed f before.items, ← c.self.view_is) refl
