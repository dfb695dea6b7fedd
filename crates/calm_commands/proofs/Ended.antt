-- How a command ends that makes a clear run of a calm schedule.
use Rattle.std.proofs.Common.{◌≡◌, ◌≢◌, ◌≤◌, ◌∙◌, ℕ, true, List, Option, Some, refl, subst, sym, ap}
use Rattle.std.specs.Prelude.{⊤, Bool, Result, Ok, Err}
use Rattle.command_words.specs.Asked.{asked_by}
use Rattle.command_words.specs.declared.asked.Command.TheVariants.{Run}
use Rattle.command_laws.proofs.Commands.{deck-run}
use Rattle.deck_reader.specs.Decks.{Decks}
use Rattle.deck_reader.specs.declared.deck.Deck.{Deck}
use Rattle.gd_io.specs.declared.writing.WriteFault.{WriteFault}
use Rattle.player.specs.declared.stop.ProcessorStop.{ProcessorStop}
use Rattle.schedule_loop.specs.declared.ran.Ending.{Ending}
use Rattle.schedule_loop.specs.declared.ran.Ending.TheVariants as ending
use Rattle.verdicts.specs.Refused.{AreAccepted}
use Rattle.bounded_runs.proofs.Runs.{never-harmed}
use Rattle.command_laws.specs.command_dues.specs.Decided.{IsDue, IsDueOfRun}
use Rattle.command_laws.specs.command_dues.specs.RunEnds.{status_of_run}
use Rattle.command_laws.specs.command_dues.specs.Tasks.{can_stop}
use Rattle.command_laws.specs.command_dues.specs.Written.{outcome_of, status_of}
use Rattle.command_laws.specs.command_dues.specs.declared.due.Due.{Due}
use Rattle.command_laws.specs.command_dues.specs.declared.due.Due.TheVariants as due
use Rattle.command_laws.specs.command_dues.specs.declared.outcome.Outcome.{Outcome}
use Rattle.command_laws.specs.command_dues.specs.declared.outcome.Status.{Status}
use Rattle.command_laws.specs.command_dues.specs.declared.outcome.Status.TheVariants as status
use Rattle.command_laws.specs.command_dues.specs.declared.task.Task.TheVariants as task
use Rattle.command_laws.specs.command_dues.specs.declared.task.Telling.{Telling}
use Rattle.command_laws.specs.command_dues.specs.declared.task.Telling.TheVariants.{Lines}
use Rattle.calm_commands.specs.CalmRuns.{IsCalmAndClear, IsStatusOfCalmRun, IsStatusWithoutFaults}
use Rattle.machine_states.specs.States.{Harm, SecondStop, DiscLoss}
use Rattle.schedule_loop.specs.Ends.{ending_by}

ended : (how : Ending) → ((harm : Harm) → how ≡ ending_by harm → ⊥) → IsStatusOfCalmRun (status_of_run how)
ended ending.Idle never = tt
ended ending.Cut never = tt
ended (ending.Second p) never = absurd (never (SecondStop p) refl)
ended (ending.Lost p) never = absurd (never (DiscLoss p) refl)

run-status : (deck : Deck) (stop : Option ProcessorStop) (tells : Telling) (decided : Due) → deck.site.processors ≤ 16
    → IsCalmAndClear deck stop → IsDueOfRun deck stop tells decided → IsStatusOfCalmRun (status_of decided)
run-status deck stop tells (due.Report report) few calm is =
    ended report.run.ran.ending (never-harmed deck.site few deck.lines stop calm.calm report.run.ran is.0.run
    (calm.clear report.run.ran is.0.run))
run-status deck stop tells (due.NoMemory _) few calm is = tt
run-status deck stop tells _ few calm is = absurd is

-- where the status tells no read fault and all was written, none was due
none-failed : (decided : Due) (done : ⊤) (outcome : Outcome) → outcome ≡ outcome_of decided (Ok done)
    → outcome.status ≢ status.ReadFault → decided ≢ due.ReadFault
none-failed decided done outcome same sure read = sure (ap (λ (o : Outcome). o.status) same ∙ ap status_of read)

pub calm-ends : (words : List (List ℕ)) (bytes : List ℕ) (before now : ℕ) (acts : Bool) (stop : Option ProcessorStop)
    (deck : Deck) (decided : Due) (result : Result ⊤ WriteFault) (outcome : Outcome)
    → asked_by words ≡ Some (Run acts stop) → Decks bytes deck → can_stop (task.Run (Lines acts) stop) deck.site ≡ true
    → AreAccepted deck.site.processes → IsDue words (Some bytes) before now decided
    → outcome ≡ outcome_of decided result → outcome.status ≢ status.ReadFault → deck.site.processors ≤ 16
    → IsCalmAndClear deck stop → IsStatusOfCalmRun outcome.status
calm-ends words bytes before now acts stop deck decided (Err fault) outcome asked spelt able accepted is same sure few
    calm =
    subst (λ (o : Outcome). IsStatusOfCalmRun o.status) (sym same) tt
calm-ends words bytes before now acts stop deck decided (Ok done) outcome asked spelt able accepted is same sure few
    calm =
    subst (λ (o : Outcome). IsStatusOfCalmRun o.status) (sym same)
    (run-status deck stop (Lines acts) decided few calm
    (deck-run words bytes before now acts stop deck decided asked spelt able accepted is
    (none-failed decided done outcome same sure)))

pub without-fault : (end : Status) → IsStatusOfCalmRun end → end ≢ status.WriteFault → IsStatusWithoutFaults end
without-fault status.Done is sure = tt
without-fault status.Cut is sure = tt
without-fault (status.NoMemory memory) is sure = tt
without-fault status.WriteFault is sure = absurd (sure refl)
without-fault status.Usage is sure = absurd is
without-fault (status.DeckRefused fault) is sure = absurd is
without-fault (status.Refused process refusal) is sure = absurd is
without-fault (status.SecondStop processor) is sure = absurd is
without-fault (status.DiscLost process) is sure = absurd is
without-fault status.ReadFault is sure = absurd is
without-fault (status.Rejected line why) is sure = absurd is
