use Rattle.std.proofs.Common.{◌≡◌, ◌++◌, take, flat_map}
use Rattle.process_semantics.specs.Image.{frame_words}
use Rattle.tal_table.specs.Places.{places}
use Rattle.tal_interp.specs.SeenFrames.{frame_seen}
use Rattle.tal_interp.proofs.image.put_callers.Given as goal

abbrev pub invariant-loop-caller : goal.invariant-loop-caller
invariant-loop-caller l = l.out ≡ l.initial.out
    ++ flat_map (λ caller. frame_words (frame_seen (places l.table) caller)) (take l.caller-index l.callers)
