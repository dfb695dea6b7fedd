use Rattle.std.proofs.Common.{rules, ◌∙◌, List, ap, length, map, refl, subst, subst₂, sym}
use Rattle.std.proofs.lemmas.List.{length-map, places, with_items_is}
use Rattle.tal_tree.specs.declared.site.Site.{Site}
use Rattle.process_copies.specs.Reloading.{blanks_of, placed_reloaded}
use Rattle.process_copies.specs.Seen.{Placed}
use Rattle.process_copies.specs.Starting.{IsStartable}
use Rattle.world_copies.specs.Room.{AllHaveRoom}
use Rattle.world_copies.specs.Seen.{ArePlaced, pairs_in}
use Rattle.world_copies.specs.SiteWorld.{SiteWorld}
use Rattle.world_copies.proofs.Reloads.{drives-reloaded, pairs-reloaded, placed-reloaded}
use Rattle.world_copies.proofs.copies.WorldCopies.reload_processes.Goals as goal

pub all_blanks-requires-clause-startable : goal.all_blanks-requires-clause-startable
all_blanks-requires-clause-startable c = subst IsStartable (sym c.get.ensures) c.self.invariant.2.1

pub all_blanks-requires-clause-placed : goal.all_blanks-requires-clause-placed
all_blanks-requires-clause-placed c =
    subst₂ (λ (site : Site) (all : List Placed). ArePlaced site all) (sym c.get.ensures)
    (sym c.as_slice-processes.ensures.value) c.self.invariant.0

pub all_blanks-requires-clause-count : goal.all_blanks-requires-clause-count
all_blanks-requires-clause-count c =
    ap length c.as_slice-processes.ensures.value ∙ c.self.invariant.1
    ∙ sym (ap (λ (site : Site). length site.processes) c.get.ensures)

pub all_blanks-requires-clause-room : goal.all_blanks-requires-clause-room
all_blanks-requires-clause-room c =
    subst AllHaveRoom (sym (ap (λ (s : SiteWorld). s.world.processes) c.self.view_is)
    ∙ ap pairs_in (sym c.as_slice-processes.ensures.value)) c.requires.processes

pub reload_all-requires-clause-blanks : goal.reload_all-requires-clause-blanks
reload_all-requires-clause-blanks c =
    c.in_ok-blanks.ensures
    ∙ ap (map (blanks_of c.args.processor)) (c.as_slice-processes.ensures.value ∙ sym c.as_mut_slice.ensures.value)

pub reload_all-requires-clause-room : goal.reload_all-requires-clause-room
reload_all-requires-clause-room c =
    subst AllHaveRoom (sym (ap (λ (s : SiteWorld). s.world.processes) c.self.view_is)
    ∙ ap pairs_in (sym c.as_mut_slice.ensures.value)) c.requires.processes

pub invariant_of-self : goal.invariant_of-self
invariant_of-self c =
    let before = c.self.inside.processes in
    let g = placed_reloaded c.args.processor in
    let after = with_items_is before c.reload_all.new.processes (search (rules, places)) ∙ c.reload_all.ensures
    ∙ ap (map g) c.as_mut_slice.ensures.value in
    rw after (
      placed-reloaded c.args.processor c.self.inside.site before.items c.self.invariant.0,
      length-map before.items g ∙ c.self.invariant.1,
      c.self.invariant.2,
    )

pub returns-clause-state : goal.returns-clause-state
returns-clause-state c =
    let before = c.self.inside.processes in
    let g = placed_reloaded c.args.processor in
    let after = with_items_is before c.reload_all.new.processes (search (rules, places)) ∙ c.reload_all.ensures
    ∙ ap (map g) c.as_mut_slice.ensures.value in
    rw (
      after,
      pairs-reloaded c.self.inside.site c.args.processor before.items c.self.invariant.0,
      drives-reloaded c.args.processor before.items,
      ← c.self.view_is,
    ) refl
