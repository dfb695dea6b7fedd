use Rattle.std.proofs.Common.{take}
use Rattle.pair_findings.specs.Findings.{AreFindings}
use Rattle.pair_findings.proofs.findings.findings_of.Given as goal

abbrev pub invariant-loop-spec : goal.invariant-loop-spec
invariant-loop-spec l = AreFindings (take l.spec-index l.processes) l.findings
