use Rattle.std.proofs.Common.{◌≡◌, Some, slice_get, refl, arith}
use Rattle.std.proofs.lemmas.Option.{slice_get_read}
use Rattle.link_control.specs.Ends.{after_tick, sent_by_tick}
use Rattle.node.proofs.Changed.{end-changed, end-told}
use Rattle.node.proofs.Holding.{held-counted, now-counted, room-counted}
use Rattle.node.proofs.node.Node.on_tick.Goals as goal

pub counted_again-self-inside-requires-clause-some : goal.counted_again-self-inside-requires-clause-some
counted_again-self-inside-requires-clause-some c =
    let there : slice_get c.self.inside.ends.items c.from-place.result ≡ Some c.index_mut-end.result.now =
    slice_get_read c.self.inside.ends.items _ _ _ refl (omega (arith, c.self.inside.ends.ok.0))
    c.index_mut-end.ensures.value in
    held-counted c.self.inside.ends.items c.from-place.result c.index_mut-end.result.now c.on_tick-resent.new.self
    c.is_empty-held.result c.is_empty.result c.self.inside.holding there c.is_empty-held.ensures c.self.invariant

pub counted_again-self-inside-requires-clause-room : goal.counted_again-self-inside-requires-clause-room
counted_again-self-inside-requires-clause-room c =
    let there : slice_get c.self.inside.ends.items c.from-place.result ≡ Some c.index_mut-end.result.now =
    slice_get_read c.self.inside.ends.items _ _ _ refl (omega (arith, c.self.inside.ends.ok.0))
    c.index_mut-end.ensures.value in
    room-counted c.self.inside.ends.items c.from-place.result c.index_mut-end.result.now c.on_tick-resent.new.self
    c.is_empty-held.result c.is_empty.result c.self.inside.holding there c.is_empty-held.ensures c.self.invariant
    c.is_empty.ensures (omega (arith, c.self.inside.ends.ok.0))

pub invariant_of-self : goal.invariant_of-self
invariant_of-self c =
    let there : slice_get c.self.inside.ends.items c.from-place.result ≡ Some c.index_mut-end.result.now =
    slice_get_read c.self.inside.ends.items _ _ _ refl (omega (arith, c.self.inside.ends.ok.0))
    c.index_mut-end.ensures.value in
    now-counted c.self.inside.ends.items c.from-place.result c.index_mut-end.result.now c.on_tick-resent.new.self
    c.is_empty-held.result c.is_empty.result c.self.inside.holding there c.is_empty-held.ensures c.self.invariant
    c.is_empty.ensures c.counted_again-self-inside.result c.counted_again-self-inside.ensures

pub returns-clause-sent : goal.returns-clause-sent
returns-clause-sent c =
    let there : slice_get c.self.inside.ends.items c.from-place.result ≡ Some c.index_mut-end.result.now =
    slice_get_read c.self.inside.ends.items _ _ _ refl (omega (arith, c.self.inside.ends.ok.0))
    c.index_mut-end.ensures.value in
    end-told c.args.to c.from-place.result c.self.inside.ends.items c.self.inside.listener
    c.index_mut-end.result.now c.args.self.now c.from-place.ensures there c.self.view_is
    sent_by_tick c.on_tick-resent.result c.on_tick-resent.ensures.sent

pub returns-clause-after : goal.returns-clause-after
returns-clause-after c =
    let there : slice_get c.self.inside.ends.items c.from-place.result ≡ Some c.index_mut-end.result.now =
    slice_get_read c.self.inside.ends.items _ _ _ refl (omega (arith, c.self.inside.ends.ok.0))
    c.index_mut-end.ensures.value in
    end-changed c.args.to c.from-place.result c.self.inside.ends.items c.self.inside.listener
    c.index_mut-end.result.now c.args.self.now c.from-place.ensures there c.self.view_is
    after_tick c.on_tick-resent.new.self c.on_tick-resent.ensures.after
