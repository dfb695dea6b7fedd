use Rattle.std.proofs.Common.{◌≡◌, ◌≤◌, ◌-◌, length, vec_capacity}
use Rattle.file_calls.specs.Queue.{IsOnePerOpener, queue_of}
use Rattle.file_calls.specs.Takeover.{settlement_of}
use Rattle.file_calls.proofs.Taking.{settled_from}
use Rattle.file_calls.proofs.waiting.Waiting.settle.Given as goal

abbrev pub invariant-loop-place : goal.invariant-loop-place
invariant-loop-place l = record {
  openers : l.self-inside.openers ≡ l.fn.self.openers;
  sound : IsOnePerOpener (queue_of l.self-inside.openers l.self-inside.requests.items);
  room : l.self-inside.openers ≤ vec_capacity l.self-inside.requests;
  settled : settlement_of l.receive.table l.fn.self.requests
      ≡ settled_from l.receive.table l.self-inside.requests.items l.place;
}

abbrev pub decreases-loop-place : goal.decreases-loop-place
decreases-loop-place l = length l.self-inside.requests.items - l.place
