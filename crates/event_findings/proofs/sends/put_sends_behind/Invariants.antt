use Rattle.std.proofs.Common.{◌≡◌, ◌++◌, drop}
use Rattle.event_findings.specs.Sends.{sends_behind}
use Rattle.event_findings.proofs.sends.put_sends_behind.Given as goal

abbrev pub invariant-loop-place : goal.invariant-loop-place
invariant-loop-place l =
    l.findings ++ sends_behind l.machine.state.site l.queued l.number l.waited (drop l.place l.sender.queue)
    ≡ l.fn.findings ++ sends_behind l.machine.state.site l.queued l.before l.queued.count l.sender.queue
