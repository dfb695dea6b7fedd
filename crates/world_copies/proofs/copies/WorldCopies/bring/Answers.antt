use Rattle.std.proofs.Common.{◌≡◌, ◌∙◌, ℕ, Option, Some, ap, slice_get, refl, subst, subst₂, sym, arith}
use Rattle.std.proofs.lemmas.Option.{slice_get_read}
use Rattle.world_copies.specs.SiteWorld.{SiteWorld}
use Rattle.process_copies.specs.message_wires.specs.HasRoom.{WorldHasRoom}
use Rattle.process_copies.specs.sendings.specs.Seen.{message_of}
use Rattle.process_copies.specs.computed_changes.specs.Handed.{brought}
use Rattle.world_semantics.specs.Running.{Done}
use Rattle.process_copies.specs.computed_changes.specs.Laws.{NamesOpener}
use Rattle.world_copies.proofs.Places.{standing-set}
use Rattle.world_copies.proofs.Room.{placed-room}
use Rattle.world_copies.proofs.Steps.{IsFound, stands, told-found, tells}
use Rattle.world_copies.specs.contracts.copies.WorldCopies.{the_view}
use Rattle.world_copies.proofs.copies.WorldCopies.bring.Goals as goal

there : (c : goal.In_ok-step) → slice_get c.self.inside.processes.items c.from-place.result
    ≡ Some c.index_mut.result.now
there c = slice_get_read c.self.inside.processes.items _ _ _ refl (omega (arith, c.self.inside.processes.ok.0))
    c.index_mut.ensures.value

found : (c : goal.In_ok-step) → IsFound (the_view c.self.inside) c.self.inside.processes.items c.from-place.result
    c.index_mut.result.now
found c = record {
  pairs = refl;
  there = there c;
  site = (c.self.invariant.0 _ _ (there c)).0;
  number = (c.self.invariant.0 _ _ (there c)).1;
  drives = refl;
}

abbrev does : goal.In_ok-step → SiteWorld → ℕ → Option Done
does c s number = brought s.site number c.args.node (message_of c.args.message) s.world

pub come_in-requires-clause-opener : goal.come_in-requires-clause-opener
come_in-requires-clause-opener c =
    let there = slice_get_read c.self.inside.processes.items _ _ _ refl (omega (arith, c.self.inside.processes.ok.0))
    c.index_mut.ensures.value in
    let seated = c.self.invariant.0 _ _ there in
    subst₂ (λ site number. NamesOpener site number (message_of c.args.message))
    (sym (seated.0 ∙ ap (λ (s : SiteWorld). s.site) c.self.view_is)) (sym (seated.1 ∙ c.from-place.ensures))
    c.requires.opener

pub come_in-requires-clause-room : goal.come_in-requires-clause-room
come_in-requires-clause-room c =
    placed-room (the_view c.self.inside).world c.self.inside.processes.items c.from-place.result c.index_mut.result.now
    refl
    (slice_get_read c.self.inside.processes.items _ _ _ refl (omega (arith, c.self.inside.processes.ok.0))
    c.index_mut.ensures.value)
    (subst WorldHasRoom (ap (λ (s : SiteWorld). s.world) (sym c.self.view_is)) c.requires.room)

pub invariant_of-self : goal.invariant_of-self
invariant_of-self c =
    standing-set c.self.inside.site c.self.inside.processes.items c.from-place.result c.index_mut.result.now
    c.come_in.new.self
    (slice_get_read c.self.inside.processes.items _ _ _ refl (omega (arith, c.self.inside.processes.ok.0))
    c.index_mut.ensures.value)
    c.come_in.ensures.site c.come_in.ensures.number c.self.invariant

pub invariant_of-self-2 : goal.invariant_of-self-2
invariant_of-self-2 c =
    standing-set c.self.inside.site c.self.inside.processes.items c.from-place.result c.index_mut.result.now
    c.come_in.new.self (there c)
    c.come_in.ensures.site c.come_in.ensures.number c.self.invariant

pub returns-clause-told : goal.returns-clause-told
returns-clause-told c =
    tells (does c) _ c.self.view_is c.from-place.ensures (told-found c.args.node (message_of c.args.message) (found c))
    c.in_ok-step.ensures.told

pub returns-clause-state : goal.returns-clause-state
returns-clause-state c =
    stands (does c) _ c.self.view_is c.from-place.ensures (found c)
    (told-found c.args.node (message_of c.args.message) (found c))
    c.in_ok-step.ensures.process c.in_ok-step.ensures.records
