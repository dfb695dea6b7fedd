use Rattle.std.proofs.Common.{◌≤◌, take}
use Rattle.plain_machine.specs.Writes.{most_write}
use Rattle.report_reader.specs.Reading.{acts_in}
use Rattle.report_judge.specs.Replays.{IsReplayOf}
use Rattle.report_judge.proofs.replay.replayed.Given as goal

-- the acts so far are made
abbrev pub invariant-loop-at : goal.invariant-loop-at
invariant-loop-at l =
    IsReplayOf l.site (acts_in (take l.at l.told)) l.replay × (most_write l.replay.plain.state.processes ≤ l.at)
