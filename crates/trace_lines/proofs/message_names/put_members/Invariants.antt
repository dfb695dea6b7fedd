use Rattle.std.proofs.Common.{◌≡◌, ◌++◌, flat_map, take}
use Rattle.trace_lines.specs.MessageNames.{member_text}
use Rattle.trace_lines.proofs.message_names.put_members.Given as goal

abbrev pub invariant-loop-processor : goal.invariant-loop-processor
invariant-loop-processor l =
    l.text ≡ l.initial.text ++ flat_map (member_text l.silent) (take l.processor-index l.processors)
