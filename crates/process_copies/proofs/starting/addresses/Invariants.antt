use Rattle.std.proofs.Common.{◌≡◌, ◌++◌, drop}
use Rattle.node_copies.specs.Seen.{file_row}
use Rattle.process_copies.proofs.starting.addresses.Given as goal

abbrev pub invariant-loop-file : goal.invariant-loop-file
invariant-loop-file l =
    file_row l.site l.number 0 l.uses ≡ l.files ++ file_row l.site l.number l.file (drop l.file l.uses)
