use Rattle.std.proofs.Common.{◌≡◌, ◌++◌, flat_map, take}
use Rattle.trace_lines.specs.FindingWords.{finding_text}
use Rattle.trace_lines.proofs.finding_words.put_findings.Given as goal

abbrev pub invariant-loop-finding : goal.invariant-loop-finding
invariant-loop-finding l =
    l.text ≡ l.initial.text ++ flat_map (finding_text l.site l.places) (take l.finding-index l.findings)
