use Rattle.std.proofs.Common.{◌≡◌, ◌+◌, drop}
use Rattle.tal_tokens.specs.Cursor.{passed, IsNear}
use Rattle.tal_tokens.proofs.cursor.Cursor.past.Given as goal

-- what is left brings the cursor to the same place
abbrev pub invariant-loop-byte : goal.invariant-loop-byte
invariant-loop-byte l = (passed l.cursor (drop l.byte-index l.bytes) ≡ passed l.initial.cursor l.bytes)
    × (l.cursor.offset ≡ l.initial.cursor.offset + l.byte-index) × IsNear l.cursor
