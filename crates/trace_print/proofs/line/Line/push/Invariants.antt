use Rattle.std.proofs.Common.{◌≡◌, ◌++◌, take}
use Rattle.trace_print.proofs.line.Line.push.Given as goal

abbrev pub invariant-loop-byte : goal.invariant-loop-byte
invariant-loop-byte l = l.self-inside.bytes.items ≡ l.initial.self-inside.bytes.items ++ take l.byte-index l.text
