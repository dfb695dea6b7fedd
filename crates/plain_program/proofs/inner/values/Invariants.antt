use Rattle.std.proofs.Common.{◌≡◌, ◌++◌, drop}
use Rattle.std.specs.Option.{option_map}
use Rattle.tal_values.specs.Seen.{memory_now}
use Rattle.process_semantics.specs.Steps.{values_of}
use Rattle.plain_program.proofs.inner.values.Given as goal

-- what is still to be evaluated stands after the words so far
abbrev pub invariant-loop-argument : goal.invariant-loop-argument
invariant-loop-argument l =
    values_of (memory_now l.memory) l.arguments ≡ option_map (λ rest. l.words ++ rest)
    (values_of (memory_now l.memory) (drop l.argument-index l.arguments))
