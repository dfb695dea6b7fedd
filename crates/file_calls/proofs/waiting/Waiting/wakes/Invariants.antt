use Rattle.std.proofs.Common.{◌≡◌}
use Rattle.checkpoint_image.specs.Receive.{choice_among}
use Rattle.file_calls.proofs.Taking.{chosen_from}
use Rattle.file_calls.proofs.waiting.Waiting.wakes.Given as goal

abbrev pub invariant-loop-request : goal.invariant-loop-request
invariant-loop-request l = (l.request-items ≡ l.self.requests)
    × (choice_among l.receive.table l.self.requests ≡ chosen_from l.receive.table l.self.requests l.request-index)
