use Rattle.std.proofs.Common.{refl, arith}
use Rattle.std.proofs.lemmas.Option.{slice_get_read}
use Rattle.process_copies.specs.machine_states.specs.Drives.{turned_at}
use Rattle.world_copies.proofs.Places.{standing-set}
use Rattle.world_copies.proofs.Turned.{turns-found}
use Rattle.world_copies.specs.contracts.copies.WorldCopies.{the_view}
use Rattle.world_copies.proofs.copies.WorldCopies.turn.Goals as goal

pub invariant_of-self : goal.invariant_of-self
invariant_of-self c =
    standing-set c.self.inside.site c.self.inside.processes.items c.from-place.result c.index_mut.result.now
    c.turn.new.self
    (slice_get_read c.self.inside.processes.items _ _ _ refl (omega (arith, c.self.inside.processes.ok.0))
    c.index_mut.ensures.value)
    c.turn.ensures.site c.turn.ensures.number c.self.invariant

pub returns : goal.returns
returns c =
    let there = slice_get_read c.self.inside.processes.items _ _ _ refl
    (omega (arith, c.self.inside.processes.ok.0)) c.index_mut.ensures.value in
    turns-found (turned_at c.args.event) (the_view c.self.inside) _ c.self.inside.processes.items c.from-place.result
    c.args.event.process c.index_mut.result.now c.turn.new.self c.turn.result c.self.view_is c.from-place.ensures
    (record {
      pairs = refl;
      there = there;
      site = (c.self.invariant.0 _ _ there).0;
      number = (c.self.invariant.0 _ _ there).1;
      drives = refl;
    }) c.turn.ensures.process
