use Rattle.std.proofs.Common.{◌≡◌, ◌∙◌, ap, ap₂, arith, get_or, length, Some, slice_get, slice_set, subst, sym}
use Rattle.std.proofs.lemmas.Option.{get_or_from_slice_get}
use Rattle.process_copies.specs.message_wires.specs.HasRoom.{PairHasRoom}
use Rattle.process_copies.specs.Reloading.{placed_reloaded}
use Rattle.process_copies.specs.Seen.{Placed}
use Rattle.world_copies.proofs.Reloads.{IsReloadedFrom, reload-next}
use Rattle.world_copies.proofs.Room.{room-there}
use Rattle.world_copies.proofs.reloading.reload_all.Goals as goal

pub reload-requires-clause-room : goal.reload-requires-clause-room
reload-requires-clause-room c =
    let processes = c.loop-last.processes in
    let more = c.pop.new.self.items in
    let next = reload-next c.args.processor c.args.processes.now processes c.loop-last.blanks.items more c.in-Some.last
    c.in-Some.ensures.items c.loop-last.invariant in
    let number_is : c.len-number.result ≡ length more = omega (arith, c.len-number.ensures, c.pop.new.self.ok.0) in
    let there : slice_get processes c.len-number.result ≡ Some next.placed =
    ap (slice_get processes) number_is ∙ next.there in
    let is : get_or processes c.len-number.result c.index-processes-number.result ≡ next.placed =
    get_or_from_slice_get processes c.len-number.result next.placed c.index-processes-number.result there in
    subst (λ (one : Placed). PairHasRoom one.pair) (sym is)
    (room-there c.args.processes.now (length more) next.placed next.first c.requires.room)

pub loop-last-preserved : goal.loop-last-preserved
loop-last-preserved c =
    let processes = c.loop-last.processes in
    let more = c.pop.new.self.items in
    let next = reload-next c.args.processor c.args.processes.now processes c.loop-last.blanks.items more c.in-Some.last
    c.in-Some.ensures.items c.loop-last.invariant in
    let number_is : c.len-number.result ≡ length more = omega (arith, c.len-number.ensures, c.pop.new.self.ok.0) in
    let there : slice_get processes c.len-number.result ≡ Some next.placed =
    ap (slice_get processes) number_is ∙ next.there in
    let is : get_or processes c.len-number.result c.index-processes-number.result ≡ next.placed =
    get_or_from_slice_get processes c.len-number.result next.placed c.index-processes-number.result there in
    subst (λ all. IsReloadedFrom c.args.processor c.args.processes.now all more)
    (sym (ap₂ (λ n one. slice_set processes n one) number_is
    (c.reload.ensures ∙ ap (placed_reloaded c.args.processor) is)))
    next.on
