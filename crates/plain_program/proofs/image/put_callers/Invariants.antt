use Rattle.std.proofs.Common.{◌≡◌, ◌++◌, take}
use Rattle.std.specs.List.{flat_map}
use Rattle.process_semantics.specs.Image.{frame_words}
use Rattle.plain_program.proofs.image.put_callers.Given as goal

abbrev pub invariant-loop-caller : goal.invariant-loop-caller
invariant-loop-caller l = l.out ≡ l.initial.out ++ flat_map frame_words (take l.caller-index l.callers)
