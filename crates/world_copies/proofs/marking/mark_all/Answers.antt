use Rattle.std.proofs.Common.{◌≡◌, ◌<◌, ◌∙◌, get_or, length, Some, slice_get, subst, sym, arith}
use Rattle.std.proofs.lemmas.Option.{slice_get-get_or}
use Rattle.world_semantics.specs.Rules.{pair_at_down, told_at_down}
use Rattle.process_copies.specs.Seen.{Placed}
use Rattle.world_copies.specs.Changes.{changed}
use Rattle.world_copies.specs.Room.{WatchersHaveRoom}
use Rattle.world_copies.proofs.Changed.{changed-step, told-step}
use Rattle.world_copies.proofs.Places.{placed-set}
use Rattle.world_copies.proofs.Room.{marked-room, put-room, watcher-there}
use Rattle.world_copies.proofs.marking.mark_all.Goals as goal

pub mark-requires : goal.mark-requires
mark-requires c =
    let processes = c.loop-number.processes in
    let k = c.loop-number.number in
    let before = get_or processes k c.index-processes-number.result in
    let within : k < length processes = omega arith in
    let there : slice_get processes k ≡ Some before =
    slice_get-get_or processes k c.index-processes-number.result within in
    record { watching = watcher-there processes k before there c.loop-number.invariant.watching }

pub returns-in_err-mark-clause-placed : goal.returns-in_err-mark-clause-placed
returns-in_err-mark-clause-placed c =
    λ site seated.
    let processes = c.loop-number.processes in
    let k = c.loop-number.number in
    let before = get_or processes k c.index-processes-number.result in
    let within : k < length processes = omega arith in
    placed-set site processes k before c.mark.new.self
    (slice_get-get_or processes k c.index-processes-number.result within) c.mark.ensures.site
    c.mark.ensures.number (c.loop-number.invariant.placed site seated)

pub loop-number-preserved : goal.loop-number-preserved
loop-number-preserved c =
    let processes = c.loop-number.processes in
    let k = c.loop-number.number in
    let before = get_or processes k c.index-processes-number.result in
    let f = pair_at_down c.args.node c.args.processor in
    let g = told_at_down c.args.node c.args.processor in
    let within : k < length processes = omega arith in
    let there : slice_get processes k ≡ Some before =
    slice_get-get_or processes k c.index-processes-number.result within in
    record {
      marked = changed-step (changed f) processes k before c.mark.new.self there c.in_ok-mark.ensures.process
          ∙ c.loop-number.invariant.marked;
      told = told-step g processes k before c.mark.new.self c.loop-number.told c.mark.new.told there
          c.in_ok-mark.ensures.told ∙ c.loop-number.invariant.told;
      watching =
          put-room processes k c.mark.new.self
          (subst (λ (placed : Placed). WatchersHaveRoom placed.pair) (sym c.in_ok-mark.ensures.process)
          (marked-room c.args.node c.args.processor before.pair
          (watcher-there processes k before there c.loop-number.invariant.watching)))
          c.loop-number.invariant.watching;
      placed = λ site seated.
          placed-set site processes k before c.mark.new.self there c.mark.ensures.site c.mark.ensures.number
          (c.loop-number.invariant.placed site seated);
    }
