use Rattle.std.proofs.Common.{◌≡◌, Some, ap, slice_get, refl, subst, sym, arith}
use Rattle.std.proofs.lemmas.Option.{slice_get_read}
use Rattle.world_copies.specs.SiteWorld.{SiteWorld}
use Rattle.world_semantics.specs.Running.{run_done}
use Rattle.process_copies.specs.message_wires.specs.HasRoom.{WorldHasRoom}
use Rattle.world_copies.proofs.Places.{standing-set}
use Rattle.world_copies.proofs.Room.{placed-room}
use Rattle.world_copies.proofs.Steps.{IsFound, run-found, stands, tells}
use Rattle.world_copies.specs.contracts.copies.WorldCopies.{the_view}
use Rattle.world_copies.proofs.copies.WorldCopies.run.Goals as goal

there : (c : goal.In_ok-step) → slice_get c.self.inside.processes.items c.from-place.result
    ≡ Some c.index_mut.result.now
there c = slice_get_read c.self.inside.processes.items _ _ _ refl (omega (arith, c.self.inside.processes.ok.0))
    c.index_mut.ensures.value

found : (c : goal.In_ok-step) → IsFound (the_view c.self.inside) c.self.inside.processes.items c.from-place.result
    c.index_mut.result.now
found c = record {
  pairs = refl;
  there = there c;
  site = (c.self.invariant.0 _ _ (there c)).0;
  number = (c.self.invariant.0 _ _ (there c)).1;
  drives = refl;
}

pub run-requires-clause-room : goal.run-requires-clause-room
run-requires-clause-room c =
    placed-room (the_view c.self.inside).world c.self.inside.processes.items c.from-place.result c.index_mut.result.now
    refl
    (slice_get_read c.self.inside.processes.items _ _ _ refl (omega (arith, c.self.inside.processes.ok.0))
    c.index_mut.ensures.value)
    (subst WorldHasRoom (ap (λ (s : SiteWorld). s.world) (sym c.self.view_is)) c.requires)

pub run-requires-clause-shown : goal.run-requires-clause-shown
run-requires-clause-shown c =
    let room : WorldHasRoom (the_view c.self.inside).world =
    subst WorldHasRoom (ap (λ (s : SiteWorld). s.world) (sym c.self.view_is)) c.requires in
    room.shown

pub invariant_of-self : goal.invariant_of-self
invariant_of-self c =
    standing-set c.self.inside.site c.self.inside.processes.items c.from-place.result c.index_mut.result.now
    c.run.new.self
    (slice_get_read c.self.inside.processes.items _ _ _ refl (omega (arith, c.self.inside.processes.ok.0))
    c.index_mut.ensures.value)
    c.run.ensures.site c.run.ensures.number c.self.invariant

pub invariant_of-self-2 : goal.invariant_of-self-2
invariant_of-self-2 c =
    standing-set c.self.inside.site c.self.inside.processes.items c.from-place.result c.index_mut.result.now
    c.run.new.self (there c)
    c.run.ensures.site c.run.ensures.number c.self.invariant

pub returns-clause-told : goal.returns-clause-told
returns-clause-told c =
    tells (λ (s : SiteWorld) number. run_done s.site number s.world) _ c.self.view_is c.from-place.ensures
    (run-found (found c))
    c.in_ok-step.ensures.told

pub returns-clause-state : goal.returns-clause-state
returns-clause-state c =
    stands (λ (s : SiteWorld) number. run_done s.site number s.world) _ c.self.view_is c.from-place.ensures (found c)
    (run-found (found c))
    c.in_ok-step.ensures.process c.in_ok-step.ensures.records
