use Rattle.std.proofs.Common.{◌≡◌, ◌≤◌, vec_capacity}
use Rattle.checkpoint_image.specs.Receive.{choice_among}
use Rattle.file_calls.specs.Queue.{IsOnePerOpener, queue_of}
use Rattle.file_calls.proofs.Taking.{chosen_from}
use Rattle.file_calls.proofs.waiting.Waiting.choose.Given as goal

abbrev pub invariant-loop-place : goal.invariant-loop-place
invariant-loop-place l = record {
  openers : l.self-inside.openers ≡ l.fn.self.openers;
  requests : l.self-inside.requests.items ≡ l.fn.self.requests;
  sound : IsOnePerOpener (queue_of l.self-inside.openers l.self-inside.requests.items);
  room : l.self-inside.openers ≤ vec_capacity l.self-inside.requests;
  chosen : choice_among l.receive.table l.self-inside.requests.items
      ≡ chosen_from l.receive.table l.self-inside.requests.items l.place;
}
