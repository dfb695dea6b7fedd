-- Commands that make a clear run of a calm schedule.
use Rattle.std.specs.Prelude.{Option, length}
use Rattle.std.specs.Option.{is_some}
use Rattle.deck_reader.specs.declared.deck.Deck.{Deck}
use Rattle.player.specs.declared.stop.ProcessorStop.{ProcessorStop}
use Rattle.calm_schedules.specs.Calm.{IsCalm}
use Rattle.bounded_runs.specs.packet_runs.specs.Ends.{IsRunOf}
use Rattle.bounded_runs.specs.packet_runs.specs.declared.ran.Ran.{Ran}
use Rattle.bounded_runs.specs.Moments.{AreClear}
use Rattle.command_laws.specs.command_dues.specs.declared.outcome.Status.{Status}
use Rattle.command_laws.specs.command_dues.specs.declared.outcome.Status.TheVariants as status

-- the schedule of a deck, with the stop of the words, is calm, and each drain round of its run is clear
pub record IsCalmAndClear (deck : Deck) (stop : Option ProcessorStop) : Type 0 where
  pub calm : IsCalm deck.lines (is_some stop)
  pub clear : (ran : Ran) (run : IsRunOf deck.site deck.lines stop ran)
      → AreClear deck.site deck.lines stop 0 (length run.events)

-- how a command may end that makes such a run: it came to an idle end or was cut, a write failed, or memory ran out
abbrev pub IsStatusOfCalmRun : Status → Type 0
IsStatusOfCalmRun status.Done = Unit {0}
IsStatusOfCalmRun status.Cut = Unit {0}
IsStatusOfCalmRun status.WriteFault = Unit {0}
IsStatusOfCalmRun (status.NoMemory _) = Unit {0}
IsStatusOfCalmRun _ = ⊥

-- how it ends where no read and no write failed: its run came to an idle end or was cut, or memory ran out
abbrev pub IsStatusWithoutFaults : Status → Type 0
IsStatusWithoutFaults status.WriteFault = ⊥
IsStatusWithoutFaults end = IsStatusOfCalmRun end
