use Rattle.std.proofs.Common.{◌∙◌, ap}
use Rattle.event_findings.specs.Sends.{last_behind}
use Rattle.event_findings.proofs.Queues.{told_in_turn}
use Rattle.event_findings.proofs.sends.put_sends_behind.Goals as goal

pub loop-place-preserved : goal.loop-place-preserved
loop-place-preserved c =
    told_in_turn c.args.machine.now.state.site c.args.queued c.loop-place.number c.loop-place.waited
    c.args.sender.now.queue c.loop-place.place _ c.loop-place.findings c.put_unless.new.findings
    c.last_behind-number.result c.saturating_sub-waited.result c.in-Some.words.now
    c.as_slice-in-loop-place.result.now c.in-Some.ensures c.as_slice-in-loop-place.ensures
    (c.last_behind-number.ensures ∙ ap (last_behind c.loop-place.number) c.as_slice.ensures)
    c.saturating_sub-waited.ensures c.in_ok-put_unless.ensures c.loop-place.invariant
