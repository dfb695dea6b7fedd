use Rattle.std.proofs.Common.{◌≡◌, replicate}
use Rattle.sync_ids.proofs.asker.Asker.new.Given as goal

abbrev pub invariant-loop-file : goal.invariant-loop-file
invariant-loop-file l = l.next.items ≡ replicate l._file 1
