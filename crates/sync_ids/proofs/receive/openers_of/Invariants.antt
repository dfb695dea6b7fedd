use Rattle.std.proofs.Common.{◌≡◌, map, take}
use Rattle.sync_ids.specs.Openers.{untaken_of}
use Rattle.sync_ids.proofs.receive.openers_of.Given as goal

abbrev pub invariant-loop-opener : goal.invariant-loop-opener
invariant-loop-opener l = l.made.items ≡ map (λ opener. untaken_of opener.depth) (take l.opener-index l.openers)
