use Rattle.std.proofs.Common.{◌++◌, ◌∙◌, ap, slice_get, sym}
use Rattle.std.specs.Prelude.{option_to_list}
use Rattle.machine_views.proofs.Waits.{take-next}
use Rattle.machine_views.proofs.copies.waiting_requests.Goals as goal

pub loop-place-preserved : goal.loop-place-preserved
loop-place-preserved c =
    let waiting = c.args.waiting.now.requests in
    let place = c.loop-place.place in
    c.in_ok-add_waiting.ensures ∙ ap (λ requests. requests ++ option_to_list (slice_get waiting place))
    c.loop-place.invariant
    ∙ sym (take-next waiting place)
