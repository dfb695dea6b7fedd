-- How a command may end that is never refused.
use Rattle.command_dues.specs.declared.outcome.Status.{Status}
use Rattle.command_dues.specs.declared.outcome.Status.TheVariants as status

-- a check or a sweep: all programs were accepted, a write failed, or memory ran out
abbrev pub IsStatusOfCheck : Status → Type 0
IsStatusOfCheck status.Done = Unit {0}
IsStatusOfCheck status.WriteFault = Unit {0}
IsStatusOfCheck (status.NoMemory _) = Unit {0}
IsStatusOfCheck _ = ⊥

-- a run: so, where it came to an idle end, or it was cut, or a second processor would have stopped, or a mirrored disc
-- would have been lost
abbrev pub IsStatusOfRun : Status → Type 0
IsStatusOfRun status.Cut = Unit {0}
IsStatusOfRun (status.SecondStop processor) = Unit {0}
IsStatusOfRun (status.DiscLost process) = Unit {0}
IsStatusOfRun end = IsStatusOfCheck end
