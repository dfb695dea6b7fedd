use Rattle.std.proofs.Common.{◌≡◌, map, slice_get, take}
use Rattle.std.specs.Option.{unwrap_or}
use Rattle.process_control.proofs.files.numbers_of.Given as goal

abbrev pub invariant-loop-file : goal.invariant-loop-file
invariant-loop-file l = l.numbers ≡ map (λ file. record { file = file; next = unwrap_or (slice_get l.asker file) 1 })
    (take l.file-index l.files)
