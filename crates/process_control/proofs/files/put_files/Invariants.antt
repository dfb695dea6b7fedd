use Rattle.std.proofs.Common.{◌≡◌, drop}
use Rattle.computed_changes.specs.world_semantics.specs.Core.{with_files}
use Rattle.process_control.proofs.files.put_files.Given as goal

abbrev pub invariant-loop-named : goal.invariant-loop-named
invariant-loop-named l = with_files (drop l.named-index l.files) l.asker ≡ with_files l.files l.initial.asker
