use Rattle.std.proofs.Common.{◌≡◌, replicate, None}
use Rattle.shown_sectors.proofs.table.Row.blank.Given as goal

abbrev pub invariant-loop : goal.invariant-loop
invariant-loop l = l.sectors.items ≡ replicate l.counter None
