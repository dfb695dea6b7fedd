use Rattle.std.proofs.Common.{◌≡◌, ◌++◌, take}
use Rattle.open_links.proofs.copies.add_all.Given as goal

abbrev pub invariant-loop-place : goal.invariant-loop-place
invariant-loop-place l = l.requests ≡ l.initial.requests ++ take l.place l.waiting.requests
