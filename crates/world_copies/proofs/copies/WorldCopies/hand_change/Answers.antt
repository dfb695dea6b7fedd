use Rattle.std.proofs.Common.{◌≡◌, ℕ, Option, Some, slice_get, refl, arith}
use Rattle.std.proofs.lemmas.Option.{slice_get_read}
use Rattle.process_copies.specs.computed_changes.specs.Changed.{change_brought}
use Rattle.world_semantics.specs.Running.{Done}
use Rattle.world_copies.specs.SiteWorld.{SiteWorld}
use Rattle.world_copies.proofs.Places.{standing-set}
use Rattle.world_copies.proofs.Steps.{IsFound, change-found, stands, tells}
use Rattle.world_copies.specs.contracts.copies.WorldCopies.{the_view}
use Rattle.world_copies.proofs.copies.WorldCopies.hand_change.Goals as goal

there : (c : goal.In_ok-step) → slice_get c.self.inside.processes.items c.from-place.result
    ≡ Some c.index_mut.result.now
there c = slice_get_read c.self.inside.processes.items _ _ _ refl (omega (arith, c.self.inside.processes.ok.0))
    c.index_mut.ensures.value

found : (c : goal.In_ok-step) → IsFound (the_view c.self.inside) c.self.inside.processes.items c.from-place.result
    c.index_mut.result.now
found c = record {
  pairs = refl;
  there = there c;
  site = (c.self.invariant.0 _ _ (there c)).0;
  number = (c.self.invariant.0 _ _ (there c)).1;
  drives = refl;
}

abbrev does : goal.In_ok-step → SiteWorld → ℕ → Option Done
does c s number = change_brought s.site number c.args.node c.args.change.now s.world

pub invariant_of-self : goal.invariant_of-self
invariant_of-self c =
    standing-set c.self.inside.site c.self.inside.processes.items c.from-place.result c.index_mut.result.now
    c.change_in.new.self
    (slice_get_read c.self.inside.processes.items _ _ _ refl (omega (arith, c.self.inside.processes.ok.0))
    c.index_mut.ensures.value)
    c.change_in.ensures.site c.change_in.ensures.number c.self.invariant

pub invariant_of-self-2 : goal.invariant_of-self-2
invariant_of-self-2 c =
    standing-set c.self.inside.site c.self.inside.processes.items c.from-place.result c.index_mut.result.now
    c.change_in.new.self (there c)
    c.change_in.ensures.site c.change_in.ensures.number c.self.invariant

pub returns-clause-told : goal.returns-clause-told
returns-clause-told c =
    tells (does c) _ c.self.view_is c.from-place.ensures (change-found c.args.node c.args.change.now (found c))
    c.in_ok-step.ensures.told

pub returns-clause-state : goal.returns-clause-state
returns-clause-state c =
    stands (does c) _ c.self.view_is c.from-place.ensures (found c)
    (change-found c.args.node c.args.change.now (found c))
    c.in_ok-step.ensures.process c.in_ok-step.ensures.records
