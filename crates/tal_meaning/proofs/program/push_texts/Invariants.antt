use Rattle.std.proofs.Common.{◌≡◌, ◌++◌, drop}
use Rattle.tal_meaning.specs.Programs.{texts_of}
use Rattle.tal_meaning.proofs.program.push_texts.Given as goal

-- those so far and those that are left are all
abbrev pub invariant-loop-named : goal.invariant-loop-named
invariant-loop-named l = l.all ++ texts_of (drop l.named-index l.names) ≡ l.initial.all ++ texts_of l.names
