use Rattle.std.proofs.Common.{◌∙◌, ap, refl, arith}
use Rattle.std.proofs.lemmas.Option.{slice_get_read}
use Rattle.world_copies.specs.SiteWorld.{SiteWorld}
use Rattle.world_copies.specs.Closing.{closed_at}
use Rattle.world_copies.specs.contracts.copies.WorldCopies.{the_view}
use Rattle.world_copies.proofs.Closes.{closes-put}
use Rattle.world_copies.proofs.Places.{standing-set}
use Rattle.world_copies.proofs.copies.WorldCopies.close_process.Goals as goal

pub invariant_of-self : goal.invariant_of-self
invariant_of-self c =
    standing-set c.self.inside.site c.self.inside.processes.items c.args.place c.index_mut.result.now c.close.new.self
    (slice_get_read c.self.inside.processes.items _ _ _ refl (omega (arith, c.self.inside.processes.ok.0))
    c.index_mut.ensures.value)
    c.close.ensures.site c.close.ensures.number c.self.invariant

pub invariant_of-self-2 : goal.invariant_of-self-2
invariant_of-self-2 c =
    standing-set c.self.inside.site c.self.inside.processes.items c.args.place c.index_mut.result.now c.close.new.self
    (slice_get_read c.self.inside.processes.items _ _ _ refl (omega (arith, c.self.inside.processes.ok.0))
    c.index_mut.ensures.value)
    c.close.ensures.site c.close.ensures.number c.self.invariant

pub returns : goal.returns
returns c =
    closes-put (the_view c.self.inside) c.self.inside.processes.items c.args.place c.index_mut.result.now
    c.close.new.self c.close.new.records refl refl
    (slice_get_read c.self.inside.processes.items _ _ _ refl (omega (arith, c.self.inside.processes.ok.0))
    c.index_mut.ensures.value)
    c.in_ok-close.ensures.process c.in_ok-close.ensures.records
    ∙ ap (λ (s : SiteWorld). record s { world = closed_at c.args.place s.world }) c.self.view_is
