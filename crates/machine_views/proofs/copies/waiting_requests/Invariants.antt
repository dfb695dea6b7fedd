use Rattle.std.proofs.Common.{◌≡◌, take}
use Rattle.machine_views.proofs.copies.waiting_requests.Given as goal

abbrev pub invariant-loop-place : goal.invariant-loop-place
invariant-loop-place l = l.requests ≡ take l.place l.waiting.requests
