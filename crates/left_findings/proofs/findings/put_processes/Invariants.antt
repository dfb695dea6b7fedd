use Rattle.std.proofs.Common.{◌≡◌, ◌++◌, drop}
use Rattle.left_findings.specs.Left.{processes_left}
use Rattle.left_findings.proofs.findings.put_processes.Given as goal

abbrev pub invariant-loop-process : goal.invariant-loop-process
invariant-loop-process l = l.initial.all ++ processes_left l.site l.copies 0 l.specs
    ≡ l.all ++ processes_left l.site l.copies l.process (drop l.process l.specs)
