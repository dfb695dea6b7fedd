use Rattle.std.proofs.Common.{◌≡◌, ◌<◌, ◌∙◌, Some, ap, arith, length, refl, slice_get}
use Rattle.std.specs.Option.{option_map}
use Rattle.std.proofs.lemmas.Option.{slice_get_read}
use Rattle.process_copies.specs.Seen.{Placed}
use Rattle.world_copies.proofs.Places.{pair-at}
use Rattle.world_copies.proofs.reloading.all_blanks.Goals as goal

pub blanks-requires-clause-room : goal.blanks-requires-clause-room
blanks-requires-clause-room c =
    let processes = c.args.processes.now in
    let k = c.loop-process.process-index in
    let within : k < length processes = omega (arith, c.loop-process-test.true) in
    let there : slice_get processes k ≡ Some c.process-item.result =
    slice_get_read processes (length processes) k c.process-item.result refl within c.process-item.is in
    c.requires.room k c.process-item.result.pair
    (pair-at processes k ∙ ap (option_map (λ (placed : Placed). placed.pair)) there)
