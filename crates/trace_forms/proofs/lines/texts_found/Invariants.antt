use Rattle.std.proofs.Common.{◌≡◌, map, take}
use Rattle.trace_lines.specs.FindingWords.{found_text}
use Rattle.trace_forms.proofs.lines.texts_found.Given as goal

abbrev pub invariant-loop-finding : goal.invariant-loop-finding
invariant-loop-finding l = l.texts ≡ map (found_text l.site l.places) (take l.finding-index l.findings)
