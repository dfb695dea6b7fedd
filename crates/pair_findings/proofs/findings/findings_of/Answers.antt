use Rattle.pair_findings.proofs.More.{one-more}
use Rattle.pair_findings.proofs.findings.findings_of.Goals as goal

pub loop-spec-preserved : goal.loop-spec-preserved
loop-spec-preserved c =
    rw c.in_ok-push.ensures.ok
    (one-more c.args.processes.now c.loop-spec.spec-index c.spec-item.result c.loop-spec.findings
    c.in_ok-finding.finding c.spec-item.is c.loop-spec-test.true c.loop-spec.invariant c.in_ok-finding.ensures)
