use Rattle.std.proofs.Common.{◌≡◌, drop}
use Rattle.tal_declarations.specs.Files.{row_files}
use Rattle.tal_syntax.specs.Seen.{seen_row}
use Rattle.tal_declarations.proofs.files.+files.Given as goal

-- with what is left the files become those of the whole row
abbrev pub invariant-row_files-loop-next : goal.invariant-row_files-loop-next
invariant-row_files-loop-next l = row_files l.scope l.files (seen_row (drop l.next-index l.more))
    ≡ row_files l.scope l.initial.files (seen_row l.more)
