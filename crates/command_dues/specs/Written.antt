-- What a command writes.
use Rattle.std.specs.Prelude.{◌≡◌, ℕ, Bool, List, [], Option, Some, None, Result, Ok, Err, ⊤, if◌then◌else◌}
use Rattle.gd_io.specs.Puts.{Puts}
use Rattle.gd_io.specs.declared.writing.WriteFault.{WriteFault}
use Rattle.plain_semantics.specs.SiteLimits.{KeepsSiteLimits}
use Rattle.tal_tree.specs.declared.act.Act.{Act}
use Rattle.report_judge.specs.trace_print.specs.AdviceText.{advised_text}
use Rattle.report_judge.specs.trace_print.specs.EndLine.{usage_line}
use Rattle.report_judge.specs.trace_print.specs.FaultLine.{fault_line, IsOfDeck}
use Rattle.report_judge.specs.trace_print.specs.ReportText.{load_report_text, run_text}
use Rattle.report_judge.specs.trace_print.specs.RowLine.{sweep_text}
use Rattle.report_judge.specs.trace_print.specs.VerdictLine.{rejected_line, verified_line}
use Rattle.report_judge.specs.trace_print.specs.VerdictText.{accepted_text, refusal_text}
use Rattle.report_judge.specs.declared.judge.Why.{Why}
use Rattle.report_judge.specs.declared.judge.Why.TheVariants as why
use Rattle.command_dues.specs.RunEnds.{acts_of_run, closing_of, load_counts, shown_in, status_of_run}
use Rattle.command_dues.specs.declared.due.Due.{Due}
use Rattle.command_dues.specs.declared.due.Due.TheVariants as due
use Rattle.command_dues.specs.declared.due.Report.{Report}
use Rattle.command_dues.specs.declared.outcome.Outcome.{Outcome}
use Rattle.command_dues.specs.declared.outcome.RunEnd.{RunEnd}
use Rattle.command_dues.specs.declared.outcome.Status.{Status}
use Rattle.command_dues.specs.declared.outcome.Status.TheVariants as status
use Rattle.command_dues.specs.declared.task.Telling.{Telling}
use Rattle.command_dues.specs.declared.task.Telling.TheVariants as telling

-- the acts that are told of a run: all that were kept, where they are asked for
abbrev pub told_acts : Bool → RunEnd → List Act
told_acts acts run = if acts then acts_of_run run else []

-- the report of a run, by what it tells
abbrev pub text_telling : Telling → Report → List ℕ
text_telling (telling.Lines acts) report =
    run_text report.site (shown_in report.run) report.sectors report.mirrors report.stopped
    (told_acts acts report.run) (closing_of report.run.ran.ending)
text_telling (telling.Counts requests) report =
    load_report_text report.site (load_counts requests report.run) report.sectors report.stopped
    (closing_of report.run.ran.ending)

abbrev pub text_of_run : Report → List ℕ
text_of_run report = text_telling report.tells report

-- the number of the cause for which a report is rejected
abbrev pub cause_of : Why → ℕ
cause_of why.Form = 1
cause_of why.Act = 2
cause_of why.Differs = 3
cause_of why.NotIdle = 4

-- the text that is due; nothing where reading failed or memory ran out
abbrev pub text_of : Due → List ℕ
text_of due.Usage = usage_line
text_of due.ReadFault = []
text_of (due.NoMemory _) = []
text_of (due.DeckRefused fault) = fault_line fault
text_of (due.ProgramRefused refused) =
    refusal_text refused.site refused.found.process refused.found.refusal refused.found.lines
text_of (due.Accepted site) = accepted_text site
text_of (due.Report report) = text_of_run report
text_of (due.Swept rows) = sweep_text rows
text_of (due.Verified acts) = verified_line acts
text_of (due.Rejected line cause) = rejected_line line (cause_of cause)
text_of (due.Advised advised) = advised_text advised.site advised.pairs
text_of (due.Unadvised refused) =
    refusal_text refused.site refused.found.process refused.found.refusal refused.found.lines

abbrev pub status_of : Due → Status
status_of due.Usage = status.Usage
status_of due.ReadFault = status.ReadFault
status_of (due.NoMemory memory) = status.NoMemory memory
status_of (due.DeckRefused fault) = status.DeckRefused fault
status_of (due.ProgramRefused refused) = status.Refused refused.found.process refused.found.refusal
status_of (due.Accepted site) = status.Done
status_of (due.Report report) = status_of_run report.run.ran.ending
status_of (due.Swept rows) = status.Done
status_of (due.Verified acts) = status.Done
status_of (due.Rejected line cause) = status.Rejected line cause
status_of (due.Advised advised) = status.Done
status_of (due.Unadvised refused) = status.Refused refused.found.process refused.found.refusal

abbrev pub run_of : Due → Option RunEnd
run_of (due.Report report) = Some report.run
run_of _ = None

-- the outcome, by whether the text went out whole
abbrev pub outcome_of : Due → Result ⊤ WriteFault → Outcome
outcome_of decided (Ok done) = record { status = status_of decided; run = run_of decided }
outcome_of decided (Err fault) = record { status = status.WriteFault; run = run_of decided }

-- a fault that has a line, and a site whose openers can be told
abbrev pub CanBeWritten : Due → Type 0
CanBeWritten (due.DeckRefused fault) = IsOfDeck fault
CanBeWritten (due.Report report) = KeepsSiteLimits report.site
CanBeWritten _ = Unit {0}

-- the text that is due goes out, whole or at a write fault a part of it, and the outcome is by that
pub record IsWritten {K : Type 0} (held : K → Option (List ℕ)) (faults : K → ℕ) (sure : K → ℕ → Type 0) (old new : K)
    (decided : Due) (outcome : Outcome) : Type 0 where
  pub result : Result ⊤ WriteFault
  pub puts : Puts held faults sure old new (text_of decided) result
  pub is : outcome ≡ outcome_of decided result
