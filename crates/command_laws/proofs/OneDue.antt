-- What is due of words and bytes is one.
use Rattle.std.proofs.Common.{◌≡◌, ◌<◌, ◌≤◌, ◌⊎◌, inl, inr, ℕ, true, false, List, length, Option, Some, None, refl}
use Rattle.std.proofs.Common.{subst, sym, ap, ap₂, ◌∙◌, arith}
use Rattle.std.specs.Prelude.{◌≢◌, Bool, Result, Ok, Err}
use Rattle.std.proofs.lemmas.Bool.{cases_order}
use Rattle.gd_words.specs.Memory.{no_memory}
use Rattle.tal_tree.specs.declared.fault.DeckFault.{DeckFault}
use Rattle.tal_tree.specs.declared.fault.DeckFault.TheVariants.{TooLong}
use Rattle.tal_tree.specs.declared.site.ProcessSpec.{ProcessSpec}
use Rattle.tal_tree.specs.declared.program.Program.{Program}
use Rattle.tal_tree.specs.declared.site.Site.{Site}
use Rattle.path_semantics.specs.Accepted.{IsAccepted}
use Rattle.command_words.specs.Asked.{asked_by}
use Rattle.command_words.specs.declared.asked.Command.{Command}
use Rattle.command_words.specs.declared.asked.Command.TheVariants.{Advise, Check, Load, Run, Sweep, Verify}
use Rattle.deck_reader.specs.Decks.{Decks}
use Rattle.deck_reader.specs.Refusals.{IsRefusalOf}
use Rattle.deck_reader.specs.declared.deck.Deck.{Deck}
use Rattle.deck_reader.proofs.OneAnswer.{no_deck, one_deck, one_refusal}
use Rattle.discipline.specs.Verdict.{IsVerdict}
use Rattle.discipline.proofs.Verdicts.{accepted-ok, verdicts-agree}
use Rattle.load_deck.specs.LoadText.{load_text}
use Rattle.player.specs.declared.stop.ProcessorStop.{ProcessorStop}
use Rattle.single_runs.specs.packet_runs.specs.declared.ran.Ran.{Ran}
use Rattle.shown_sectors.specs.Sectors.{sectors_after}
use Rattle.shown_sectors.specs.declared.sectors.SectorWords.{SectorWords}
use Rattle.single_runs.proofs.Runs.{one-run}
use Rattle.statement_lines.specs.Lines.{lines_of}
use Rattle.command_dues.specs.site_advice.specs.SiteAdvised.{AreAdvised}
use Rattle.command_dues.specs.site_advice.specs.declared.pairs.PairAdvice.{PairAdvice}
use Rattle.verdicts.specs.Refused.{AreAccepted, IsFirstRefused, program_at}
use Rattle.verdicts.specs.declared.refused.RefusedProgram.{RefusedProgram}
use Rattle.command_dues.specs.report_judge.specs.Verdicts.{IsVerdict as IsJudgement}
use Rattle.command_dues.specs.report_judge.specs.declared.judge.VerifyFault.{VerifyFault}
use Rattle.command_dues.specs.report_judge.specs.declared.judge.VerifyFault.TheVariants as refusal
use Rattle.command_dues.specs.report_judge.specs.declared.judge.Why.{Why}
use Rattle.command_dues.specs.report_judge.specs.trace_print.specs.declared.mirrors.MirrorDrives.{MirrorDrives}
use Rattle.report_laws.proofs.OneVerdict.{one-verdict}
use Rattle.report_laws.specs.OneVerdict.{IsSameVerdict}
use Rattle.command_dues.specs.Verified.{IsDueOfInput, IsDueOfJudged, deck_in, report_in}
use Rattle.command_dues.specs.Decided.{IsDue, IsDueOfTask, IsDueOfBytes, IsDueOfDeck, IsDueOfRun, IsDueOfSource}
use Rattle.command_dues.specs.Decided.{IsDueOfAdvice, IsDueOfSweep, IsDueOfVerify, IsDueOn, IsReportOf}
use Rattle.command_dues.specs.Mirrors.{mirrors_from}
use Rattle.command_dues.specs.RunEnds.{shown_in}
use Rattle.command_dues.specs.site_machine.specs.Stopped.{stopped_from}
use Rattle.command_dues.specs.Tasks.{can_stop, judges, load_task}
use Rattle.command_dues.specs.declared.due.AdvisedSite.{AdvisedSite}
use Rattle.command_dues.specs.declared.due.Due.{Due}
use Rattle.command_dues.specs.declared.due.Due.TheVariants as due
use Rattle.command_dues.specs.declared.due.RefusedSite.{RefusedSite}
use Rattle.command_dues.specs.declared.due.Report.{Report}
use Rattle.command_dues.specs.declared.outcome.RunEnd.{RunEnd}
use Rattle.command_dues.specs.declared.task.Task.{Task}
use Rattle.command_dues.specs.declared.task.Task.TheVariants as task
use Rattle.command_dues.specs.declared.task.Telling.{Telling}
use Rattle.command_dues.specs.declared.task.Telling.TheVariants.{Lines}
use Rattle.command_laws.specs.OneDue.{IsSameDue, IsSameRefusal}
use Rattle.command_laws.proofs.Accepted.{only-wanting}
use Rattle.command_laws.proofs.OneAdvice.{advised-or-not, one-advised, same-unadvised}
use Rattle.command_laws.proofs.OneSweep.{one-sweep}

-- Reports

pub one-report : (deck : Deck) (stop : Option ProcessorStop) (report other : Report) → IsReportOf deck stop report
    → IsReportOf deck stop other
    → report.tells ≡ other.tells → report ≡ other
one-report deck stop report other one two tells =
    same (one.site ∙ sym two.site) run
    (one.sectors ∙ ap (λ (run : RunEnd). sectors_after deck.site (shown_in run)) run ∙ sym two.sectors)
    (one.mirrors ∙ ap (λ (run : RunEnd). mirrors_from 0 deck.site.processes run.ran.machine.state.drives) run
    ∙ sym two.mirrors)
    (one.stopped ∙ ap (λ (run : RunEnd). stopped_from 0 run.ran.machine.state.world.stopped) run ∙ sym two.stopped)
    tells
  where
    run_of : Ran → RunEnd
    run_of ran = record { ran = ran }

    run : report.run ≡ other.run
    run = ap run_of (one-run deck.site deck.lines stop report.run.ran other.run.ran one.run two.run)

    report_of : Site → RunEnd → List SectorWords → List MirrorDrives → List ℕ → Telling → Report
    report_of site run sectors mirrors stopped tells = record {
      site = site;
      run = run;
      sectors = sectors;
      mirrors = mirrors;
      stopped = stopped;
      tells = tells;
    }

    same : {a b : Site} {r s : RunEnd} {m n : List SectorWords} {d e : List MirrorDrives} {p q : List ℕ} {x y : Telling}
        → a ≡ b → r ≡ s → m ≡ n → d ≡ e → p ≡ q → x ≡ y
        → report_of a r m d p x ≡ report_of b s n e q y
    same {a = a} {b = b} {r = r} {s = s} {m = m} {n = n} {d = d} {e = e} {p = p} {q = q} {x = x} {y = y} site
        run sectors mirrors stopped tells = cc

-- Refusals of programs

none-accepted : (specs : List ProcessSpec) (refused : RefusedProgram) (first : IsFirstRefused specs refused)
    → IsAccepted first.program → ⊥
none-accepted specs refused first accepted =
    first.told (only-wanting refused.refusal (accepted-ok first.program (Err refused.refusal) first.verdict accepted))

none-earlier : (specs : List ProcessSpec) (one other : RefusedProgram) → IsFirstRefused specs one
    → IsFirstRefused specs other → one.process < other.process → ⊥
none-earlier specs one other first later less =
    none-accepted specs one first (later.before one.process first.program less first.there)

same-process : (specs : List ProcessSpec) (one other : RefusedProgram) → IsFirstRefused specs one
    → IsFirstRefused specs other → one.process ≡ other.process
same-process specs one other first later = by (cases_order one.process other.process)
  where
    by : (one.process ≡ other.process) ⊎ ((one.process < other.process) ⊎ (other.process < one.process))
        → one.process ≡ other.process
    by (inl same) = same
    by (inr (inl less)) = absurd (none-earlier specs one other first later less)
    by (inr (inr more)) = absurd (none-earlier specs other one later first more)

one-found : {A X : Type 0} (f : A → Option X) (a b : A) (x y : X) → a ≡ b → f a ≡ Some x → f b ≡ Some y → x ≡ y
one-found f a b x y same one two = cc

same-refusal : (specs : List ProcessSpec) (one other : RefusedSite) → one.site ≡ other.site
    → IsFirstRefused specs one.found → IsFirstRefused specs other.found
    → IsSameRefusal one other
same-refusal specs one other site first later = record {
  site = site;
  process = process;
  lines = first.lines ∙ ap lines_of program ∙ sym later.lines;
  cause = verdicts-agree later.program (Err one.found.refusal) (Err other.found.refusal)
      (subst (λ (program : Program). IsVerdict program (Err one.found.refusal)) program first.verdict) later.verdict;
}
  where
    process : one.found.process ≡ other.found.process
    process = same-process specs one.found other.found first later

    program : first.program ≡ later.program
    program = one-found (program_at specs) one.found.process other.found.process first.program later.program process
        first.there later.there

-- Decks

is-free : (one : Due) → IsSameDue one (due.NoMemory no_memory)
is-free due.Usage = tt
is-free due.ReadFault = tt
is-free (due.NoMemory _) = tt
is-free (due.DeckRefused fault) = tt
is-free (due.ProgramRefused refused) = tt
is-free (due.Accepted site) = tt
is-free (due.Report report) = tt
is-free (due.Swept rows) = tt
is-free (due.Verified n) = tt
is-free (due.Rejected line cause) = tt
is-free (due.Advised advised) = tt
is-free (due.Unadvised refused) = tt

failing-is-free : (one : Due) → IsSameDue one due.ReadFault
failing-is-free due.Usage = tt
failing-is-free due.ReadFault = tt
failing-is-free (due.NoMemory _) = tt
failing-is-free (due.DeckRefused fault) = tt
failing-is-free (due.ProgramRefused refused) = tt
failing-is-free (due.Accepted site) = tt
failing-is-free (due.Report report) = tt
failing-is-free (due.Swept rows) = tt
failing-is-free (due.Verified n) = tt
failing-is-free (due.Rejected line cause) = tt
failing-is-free (due.Advised advised) = tt
failing-is-free (due.Unadvised refused) = tt

not-both : (test : Bool) → test ≡ true → test ≡ false → ⊥
not-both test is isnt = absurd (cc)

-- what may be due of a deck
data IsOfDeck (task : Task) (deck : Deck) : Due → Type 0 where
  wanting : IsOfDeck task deck (due.NoMemory no_memory)
  unable : can_stop task deck.site ≡ false → IsOfDeck task deck due.Usage
  refused : (found : RefusedSite) → can_stop task deck.site ≡ true → found.site ≡ deck.site
      → IsFirstRefused deck.site.processes found.found → judges task ≡ true
      → IsOfDeck task deck (due.ProgramRefused found)
  good : {decided : Due} → can_stop task deck.site ≡ true
      → (judges task ≡ true → AreAccepted deck.site.processes)
      → IsDueOfTask task deck decided → IsOfDeck task deck decided

of-deck : (task : Task) (deck : Deck) (decided : Due) → IsDueOfDeck task deck decided → IsOfDeck task deck decided
of-deck task deck (due.NoMemory _) is = wanting
of-deck task deck due.Usage is = unable is
of-deck task deck (due.ProgramRefused found) is = refused found is.0 is.1.0 is.1.1 is.1.2
of-deck task deck due.ReadFault is = good is.0 is.1.0 is.1.1
of-deck task deck (due.DeckRefused fault) is = good is.0 is.1.0 is.1.1
of-deck task deck (due.Accepted site) is = good is.0 is.1.0 is.1.1
of-deck task deck (due.Report report) is = good is.0 is.1.0 is.1.1
of-deck task deck (due.Swept rows) is = good is.0 is.1.0 is.1.1
of-deck task deck (due.Verified n) is = good is.0 is.1.0 is.1.1
of-deck task deck (due.Rejected line cause) is = good is.0 is.1.0 is.1.1
of-deck task deck (due.Advised advised) is = good is.0 is.1.0 is.1.1
of-deck task deck (due.Unadvised refusal) is = good is.0 is.1.0 is.1.1

same-run : (deck : Deck) (stop : Option ProcessorStop) (tells : Telling) (one other : Due)
    → IsDueOfRun deck stop tells one → IsDueOfRun deck stop tells other
    → IsSameDue one other
same-run deck stop tells (due.NoMemory _) other is two = tt
same-run deck stop tells one (due.NoMemory _) is two = is-free one
same-run deck stop tells (due.Report report) (due.Report other) is two =
    ap due.Report (one-report deck stop report other is.0 two.0 (is.1 ∙ sym two.1))
same-run deck stop tells (due.Report report) _ is two = absurd two
same-run deck stop tells _ other is two = absurd is

same-sweep : (deck : Deck) (runs : ℕ) (one other : Due) → IsDueOfSweep deck runs one → IsDueOfSweep deck runs other
    → IsSameDue one other
same-sweep deck runs (due.NoMemory _) other is two = tt
same-sweep deck runs one (due.NoMemory _) is two = is-free one
same-sweep deck runs (due.Swept rows) (due.Swept others) is two =
    ap due.Swept (one-sweep deck.site deck.lines runs rows others is two)
same-sweep deck runs (due.Swept rows) _ is two = absurd two
same-sweep deck runs _ other is two = absurd is

same-advised : (deck : Deck) (one other : AdvisedSite) → one.site ≡ deck.site → other.site ≡ deck.site
    → AreAdvised deck.site.processes one.pairs → AreAdvised deck.site.processes other.pairs → one ≡ other
same-advised deck one other site its first later =
    ap₂ (λ (s : Site) (pairs : List PairAdvice). record { site = s; pairs = pairs }) (site ∙ sym its)
    (one-advised deck.site.processes one.pairs other.pairs first later)

same-advice : (deck : Deck) (one other : Due) → IsDueOfAdvice deck one → IsDueOfAdvice deck other
    → IsSameDue one other
same-advice deck (due.NoMemory _) other is two = tt
same-advice deck one (due.NoMemory _) is two = is-free one
same-advice deck (due.Advised one) (due.Advised other) is two =
    ap due.Advised (same-advised deck one other is.0 two.0 is.1 two.1)
same-advice deck (due.Advised one) (due.Unadvised other) is two =
    absurd (advised-or-not deck.site.processes one.pairs other.found is.1 two.1)
same-advice deck (due.Unadvised one) (due.Advised other) is two =
    absurd (advised-or-not deck.site.processes other.pairs one.found two.1 is.1)
same-advice deck (due.Unadvised one) (due.Unadvised other) is two =
    same-unadvised deck.site.processes one other (is.0 ∙ sym two.0) is.1 two.1
same-advice deck (due.Advised one) _ is two = absurd two
same-advice deck (due.Unadvised one) _ is two = absurd two
same-advice deck _ other is two = absurd is

same-accepted : (task : Task) (deck : Deck) (one other : Due) → IsDueOfTask task deck one
    → IsDueOfTask task deck other → IsSameDue one other
same-accepted (task.Run tells stop) deck one other is two = same-run deck stop tells one other is two
same-accepted (task.Sweep runs) deck one other is two = same-sweep deck runs one other is two
same-accepted task.Advise deck one other is two = same-advice deck one other is two
same-accepted task.Check deck one other is two =
    subst (λ (d : Due). IsSameDue d other) (sym is)
    (subst (λ (d : Due). IsSameDue (due.Accepted deck.site) d) (sym two) refl)

none-refused : (specs : List ProcessSpec) (found : RefusedProgram) → AreAccepted specs → IsFirstRefused specs found → ⊥
none-refused specs found accepted first =
    none-accepted specs found first (accepted found.process first.program first.there)

same-of-deck : (task : Task) (deck : Deck) (one other : Due) → IsOfDeck task deck one → IsOfDeck task deck other
    → IsSameDue one other
same-of-deck task deck _ other wanting two = tt
same-of-deck task deck one _ is wanting = is-free one
same-of-deck task deck _ _ (unable cant) (unable too) = refl
same-of-deck task deck _ _ (unable cant) (refused found can site first judged) =
    absurd (not-both (can_stop task deck.site) can cant)
same-of-deck task deck _ _ (unable cant) (good can accepted is) = absurd (not-both (can_stop task deck.site) can cant)
same-of-deck task deck _ _ (refused found can site first judged) (unable cant) =
    absurd (not-both (can_stop task deck.site) can cant)
same-of-deck task deck _ _ (good can accepted is) (unable cant) = absurd (not-both (can_stop task deck.site) can cant)
same-of-deck task deck _ _ (refused found can site first judged) (refused other too its later its_judged) =
    same-refusal deck.site.processes found other (site ∙ sym its) first later
same-of-deck task deck _ _ (refused found can site first judged) (good too accepted is) =
    absurd (none-refused deck.site.processes found.found (accepted judged) first)
same-of-deck task deck _ _ (good too accepted is) (refused found can site first judged) =
    absurd (none-refused deck.site.processes found.found (accepted judged) first)
same-of-deck task deck one other (good can accepted is) (good too its two) = same-accepted task deck one other is two

-- Bytes

-- what may be due of bytes
data IsOfBytes (task : Task) (bytes : List ℕ) : Due → Type 0 where
  broken : (fault : DeckFault) → IsRefusalOf bytes fault → IsOfBytes task bytes (due.DeckRefused fault)
  spelt : {decided : Due} (deck : Deck) → Decks bytes deck → IsOfDeck task deck decided → IsOfBytes task bytes decided
  short : IsOfBytes task bytes (due.NoMemory no_memory)

of-spelt : (task : Task) (bytes : List ℕ) (deck : Deck) (decided : Due) → Decks bytes deck
    → IsDueOfDeck task deck decided → IsOfBytes task bytes decided
of-spelt task bytes deck decided is_spelt is = spelt deck is_spelt (of-deck task deck decided is)

of-bytes : (task : Task) (bytes : List ℕ) (decided : Due) → IsDueOfBytes task bytes decided
    → IsOfBytes task bytes decided
of-bytes task bytes (due.NoMemory _) is = short
of-bytes task bytes (due.DeckRefused fault) is = broken fault is
of-bytes task bytes due.Usage (deck, is_spelt, is) = of-spelt task bytes deck due.Usage is_spelt is
of-bytes task bytes due.ReadFault (deck, is_spelt, is) = of-spelt task bytes deck due.ReadFault is_spelt is
of-bytes task bytes (due.ProgramRefused found) (deck, is_spelt, is) =
    of-spelt task bytes deck (due.ProgramRefused found) is_spelt is
of-bytes task bytes (due.Accepted site) (deck, is_spelt, is) = of-spelt task bytes deck (due.Accepted site) is_spelt is
of-bytes task bytes (due.Report report) (deck, is_spelt, is) = of-spelt task bytes deck (due.Report report) is_spelt is
of-bytes task bytes (due.Swept rows) (deck, is_spelt, is) = of-spelt task bytes deck (due.Swept rows) is_spelt is
of-bytes task bytes (due.Verified n) (deck, is_spelt, is) = of-spelt task bytes deck (due.Verified n) is_spelt is
of-bytes task bytes (due.Rejected line cause) (deck, is_spelt, is) =
    of-spelt task bytes deck (due.Rejected line cause) is_spelt is
of-bytes task bytes (due.Advised advised) (deck, is_spelt, is) =
    of-spelt task bytes deck (due.Advised advised) is_spelt is
of-bytes task bytes (due.Unadvised refusal) (deck, is_spelt, is) =
    of-spelt task bytes deck (due.Unadvised refusal) is_spelt is

same-of-bytes : (task : Task) (bytes : List ℕ) (one other : Due) → IsOfBytes task bytes one
    → IsOfBytes task bytes other → IsSameDue one other
same-of-bytes task bytes _ other short two = tt
same-of-bytes task bytes one _ is short = is-free one
same-of-bytes task bytes _ _ (broken fault is) (broken other two) =
    ap due.DeckRefused (one_refusal bytes fault other is two)
same-of-bytes task bytes _ _ (broken fault is) (spelt deck is_spelt two) = absurd (no_deck bytes fault deck is is_spelt)
same-of-bytes task bytes _ _ (spelt deck is_spelt two) (broken fault is) = absurd (no_deck bytes fault deck is is_spelt)
same-of-bytes task bytes one other (spelt deck is_spelt is) (spelt same too two) =
    same-of-deck task deck one other is (subst (λ (d : Deck). IsOfDeck task d other)
    (one_deck bytes same deck too is_spelt) two)

-- Sources

-- what may be due of a source that tells its bytes
data IsOfSource (task : Task) (bytes : List ℕ) : Due → Type 0 where
  failing : IsOfSource task bytes due.ReadFault
  read : {decided : Due} → IsOfBytes task bytes decided → IsOfSource task bytes decided

of-told : (task : Task) (bytes found : List ℕ) (decided : Due) → bytes ≡ found → IsDueOfBytes task found decided
    → IsOfSource task bytes decided
of-told task bytes found decided same is =
    read (of-bytes task bytes decided (subst (λ (all : List ℕ). IsDueOfBytes task all decided) (sym same) is))

of-source : (task : Task) (bytes : List ℕ) (before now : ℕ) (decided : Due)
    → IsDueOfSource task (Some bytes) before now decided → IsOfSource task bytes decided
of-source task bytes before now due.ReadFault is = failing
of-source task bytes before now (due.NoMemory _) is = read short
of-source task bytes before now due.Usage (found, told, is) = of-told task bytes found due.Usage told is
of-source task bytes before now (due.DeckRefused fault) (found, told, is) =
    of-told task bytes found (due.DeckRefused fault) told is
of-source task bytes before now (due.ProgramRefused refusal) (found, told, is) =
    of-told task bytes found (due.ProgramRefused refusal) told is
of-source task bytes before now (due.Accepted site) (found, told, is) =
    of-told task bytes found (due.Accepted site) told is
of-source task bytes before now (due.Report report) (found, told, is) =
    of-told task bytes found (due.Report report) told is
of-source task bytes before now (due.Swept rows) (found, told, is) = of-told task bytes found (due.Swept rows) told is
of-source task bytes before now (due.Verified n) (found, told, is) = of-told task bytes found (due.Verified n) told is
of-source task bytes before now (due.Rejected line cause) (found, told, is) =
    of-told task bytes found (due.Rejected line cause) told is
of-source task bytes before now (due.Advised advised) (found, told, is) =
    of-told task bytes found (due.Advised advised) told is
of-source task bytes before now (due.Unadvised refusal) (found, told, is) =
    of-told task bytes found (due.Unadvised refusal) told is

failing-first : (other : Due) → IsSameDue due.ReadFault other
failing-first (due.NoMemory _) = tt
failing-first due.Usage = tt
failing-first due.ReadFault = tt
failing-first (due.DeckRefused fault) = tt
failing-first (due.ProgramRefused refusal) = tt
failing-first (due.Accepted site) = tt
failing-first (due.Report report) = tt
failing-first (due.Swept rows) = tt
failing-first (due.Verified n) = tt
failing-first (due.Rejected line cause) = tt
failing-first (due.Advised advised) = tt
failing-first (due.Unadvised refusal) = tt

same-of-source : (task : Task) (bytes : List ℕ) (one other : Due) → IsOfSource task bytes one
    → IsOfSource task bytes other → IsSameDue one other
same-of-source task bytes one other (read is) (read two) = same-of-bytes task bytes one other is two
same-of-source task bytes one _ is failing = failing-is-free one
same-of-source task bytes _ other failing (read two) = failing-first other

-- Reports that are judged

-- what may be due of a deck and its report
data IsOfJudged (deck : Deck) (report : List ℕ) : Due → Type 0 where
  no_room : IsOfJudged deck report (due.NoMemory no_memory)
  not_accepted : (found : RefusedSite) → found.site ≡ deck.site → IsFirstRefused deck.site.processes found.found
      → IsOfJudged deck report (due.ProgramRefused found)
  verified : (acts : ℕ) → AreAccepted deck.site.processes → IsJudgement deck.site report (Ok acts)
      → IsOfJudged deck report (due.Verified acts)
  rejected : (line : ℕ) (cause : Why) → AreAccepted deck.site.processes
      → IsJudgement deck.site report (Err (refusal.Rejected line cause))
      → IsOfJudged deck report (due.Rejected line cause)

of-judged : (deck : Deck) (report : List ℕ) (decided : Due) → IsDueOfJudged deck report decided
    → IsOfJudged deck report decided
of-judged deck report (due.NoMemory _) is = no_room
of-judged deck report (due.ProgramRefused found) is = not_accepted found is.0 is.1
of-judged deck report (due.Verified acts) is = verified acts is.0 is.1
of-judged deck report (due.Rejected line cause) is = rejected line cause is.0 is.1
of-judged deck report due.Usage is = absurd is.1
of-judged deck report due.ReadFault is = absurd is.1
of-judged deck report (due.DeckRefused fault) is = absurd is.1
of-judged deck report (due.Accepted site) is = absurd is.1
of-judged deck report (due.Report run) is = absurd is.1
of-judged deck report (due.Swept rows) is = absurd is.1
of-judged deck report (due.Advised advised) is = absurd is.1
of-judged deck report (due.Unadvised found) is = absurd is.1

-- what is due by a verdict
abbrev due_by : Result ℕ VerifyFault → Due
due_by (Ok acts) = due.Verified acts
due_by (Err (refusal.Rejected line cause)) = due.Rejected line cause
due_by (Err (refusal.NoMemory memory)) = due.NoMemory memory

same-verdict : (deck : Deck) (report : List ℕ) (one other : Result ℕ VerifyFault) → IsJudgement deck.site report one
    → IsJudgement deck.site report other
    → IsSameDue (due_by one) (due_by other)
same-verdict deck report one other is two = by one other (one-verdict deck.site report one other is two)
  where
    by : (one other : Result ℕ VerifyFault) → IsSameVerdict one other → IsSameDue (due_by one) (due_by other)
    by (Err (refusal.NoMemory memory)) other same = tt
    by (Ok acts) (Err (refusal.NoMemory memory)) same = tt
    by (Err (refusal.Rejected line cause)) (Err (refusal.NoMemory memory)) same = tt
    by (Ok acts) (Ok later) same = ap due_by same
    by (Ok acts) (Err (refusal.Rejected line cause)) same = absurd (cc)
    by (Err (refusal.Rejected line cause)) (Ok acts) same = absurd (cc)
    by (Err (refusal.Rejected line cause)) (Err (refusal.Rejected number why)) same = ap due_by same

same-of-judged : (deck : Deck) (report : List ℕ) (one other : Due) → IsOfJudged deck report one
    → IsOfJudged deck report other → IsSameDue one other
same-of-judged deck report _ other no_room two = tt
same-of-judged deck report one _ is no_room = is-free one
same-of-judged deck report _ _ (not_accepted found site first) (not_accepted other its later) =
    same-refusal deck.site.processes found other (site ∙ sym its) first later
same-of-judged deck report _ _ (not_accepted found site first) (verified acts accepted is) =
    absurd (none-refused deck.site.processes found.found accepted first)
same-of-judged deck report _ _ (not_accepted found site first) (rejected line cause accepted is) =
    absurd (none-refused deck.site.processes found.found accepted first)
same-of-judged deck report _ _ (verified acts accepted is) (not_accepted found site first) =
    absurd (none-refused deck.site.processes found.found accepted first)
same-of-judged deck report _ _ (rejected line cause accepted is) (not_accepted found site first) =
    absurd (none-refused deck.site.processes found.found accepted first)
same-of-judged deck report _ _ (verified acts accepted is) (verified later too two) =
    same-verdict deck report (Ok acts) (Ok later) is two
same-of-judged deck report _ _ (verified acts accepted is) (rejected line cause too two) =
    same-verdict deck report (Ok acts) (Err (refusal.Rejected line cause)) is two
same-of-judged deck report _ _ (rejected line cause accepted is) (verified acts too two) =
    same-verdict deck report (Err (refusal.Rejected line cause)) (Ok acts) is two
same-of-judged deck report _ _ (rejected line cause accepted is) (rejected other why too two) =
    same-verdict deck report (Err (refusal.Rejected line cause)) (Err (refusal.Rejected other why)) is two

-- what may be due of bytes that begin with a deck
data IsOfInput (bytes : List ℕ) : Due → Type 0 where
  too_many : 67108864 < length bytes → IsOfInput bytes (due.DeckRefused TooLong)
  no_such_deck : (fault : DeckFault) → length bytes ≤ 67108864 → IsRefusalOf (deck_in bytes) fault
      → IsOfInput bytes (due.DeckRefused fault)
  with_deck : {decided : Due} (deck : Deck) → length bytes ≤ 67108864 → Decks (deck_in bytes) deck
      → IsOfJudged deck (report_in bytes) decided → IsOfInput bytes decided
  no_memory_left : IsOfInput bytes (due.NoMemory no_memory)

of-input : (bytes : List ℕ) (decided : Due) → IsDueOfInput bytes decided → IsOfInput bytes decided
of-input bytes (due.NoMemory _) is = no_memory_left
of-input bytes (due.DeckRefused fault) (inl is) =
    subst (λ (f : DeckFault). IsOfInput bytes (due.DeckRefused f)) (sym is.1) (too_many is.0)
of-input bytes (due.DeckRefused fault) (inr is) = no_such_deck fault is.0 is.1
of-input bytes due.Usage (few, deck, decks, is) =
    with_deck deck few decks (of-judged deck (report_in bytes) due.Usage is)
of-input bytes due.ReadFault (few, deck, decks, is) =
    with_deck deck few decks (of-judged deck (report_in bytes) due.ReadFault is)
of-input bytes (due.ProgramRefused found) (few, deck, decks, is) =
    with_deck deck few decks (of-judged deck (report_in bytes) (due.ProgramRefused found) is)
of-input bytes (due.Accepted site) (few, deck, decks, is) =
    with_deck deck few decks (of-judged deck (report_in bytes) (due.Accepted site) is)
of-input bytes (due.Report report) (few, deck, decks, is) =
    with_deck deck few decks (of-judged deck (report_in bytes) (due.Report report) is)
of-input bytes (due.Swept rows) (few, deck, decks, is) =
    with_deck deck few decks (of-judged deck (report_in bytes) (due.Swept rows) is)
of-input bytes (due.Advised advised) (few, deck, decks, is) =
    with_deck deck few decks (of-judged deck (report_in bytes) (due.Advised advised) is)
of-input bytes (due.Unadvised found) (few, deck, decks, is) =
    with_deck deck few decks (of-judged deck (report_in bytes) (due.Unadvised found) is)
of-input bytes (due.Verified acts) (few, deck, decks, is) =
    with_deck deck few decks (of-judged deck (report_in bytes) (due.Verified acts) is)
of-input bytes (due.Rejected line cause) (few, deck, decks, is) =
    with_deck deck few decks (of-judged deck (report_in bytes) (due.Rejected line cause) is)

same-of-input : (bytes : List ℕ) (one other : Due) → IsOfInput bytes one → IsOfInput bytes other → IsSameDue one other
same-of-input bytes _ other no_memory_left two = tt
same-of-input bytes one _ is no_memory_left = is-free one
same-of-input bytes _ _ (too_many many) (too_many more) = refl
same-of-input bytes _ _ (too_many many) (no_such_deck fault few is) = absurd (omega (arith, many, few))
same-of-input bytes _ _ (too_many many) (with_deck deck few decks is) = absurd (omega (arith, many, few))
same-of-input bytes _ _ (no_such_deck fault few is) (too_many many) = absurd (omega (arith, many, few))
same-of-input bytes _ _ (with_deck deck few decks is) (too_many many) = absurd (omega (arith, many, few))
same-of-input bytes _ _ (no_such_deck fault few is) (no_such_deck other too two) =
    ap due.DeckRefused (one_refusal (deck_in bytes) fault other is two)
same-of-input bytes _ _ (no_such_deck fault few is) (with_deck deck too decks two) =
    absurd (no_deck (deck_in bytes) fault deck is decks)
same-of-input bytes _ _ (with_deck deck too decks two) (no_such_deck fault few is) =
    absurd (no_deck (deck_in bytes) fault deck is decks)
same-of-input bytes one other (with_deck deck few decks is) (with_deck same too again two) =
    same-of-judged deck (report_in bytes) one other is
    (subst (λ (d : Deck). IsOfJudged d (report_in bytes) other) (one_deck (deck_in bytes) same deck again decks) two)

of-read : (bytes found : List ℕ) (decided : Due) → bytes ≡ found → IsDueOfInput found decided → IsOfInput bytes decided
of-read bytes found decided same is =
    of-input bytes decided (subst (λ (all : List ℕ). IsDueOfInput all decided) (sym same) is)

-- what may be due of a source of a deck and a report
data IsOfVerify (bytes : List ℕ) : Due → Type 0 where
  cut_off : IsOfVerify bytes due.ReadFault
  from_input : {decided : Due} → IsOfInput bytes decided → IsOfVerify bytes decided

of-verify : (bytes : List ℕ) (before now : ℕ) (decided : Due) → IsDueOfVerify (Some bytes) before now decided
    → IsOfVerify bytes decided
of-verify bytes before now due.ReadFault is = cut_off
of-verify bytes before now (due.NoMemory _) is = from_input no_memory_left
of-verify bytes before now due.Usage (found, told, is) = from_input (of-read bytes found due.Usage told is)
of-verify bytes before now (due.DeckRefused fault) (found, told, is) =
    from_input (of-read bytes found (due.DeckRefused fault) told is)
of-verify bytes before now (due.ProgramRefused refusal) (found, told, is) =
    from_input (of-read bytes found (due.ProgramRefused refusal) told is)
of-verify bytes before now (due.Accepted site) (found, told, is) =
    from_input (of-read bytes found (due.Accepted site) told is)
of-verify bytes before now (due.Report report) (found, told, is) =
    from_input (of-read bytes found (due.Report report) told is)
of-verify bytes before now (due.Swept rows) (found, told, is) =
    from_input (of-read bytes found (due.Swept rows) told is)
of-verify bytes before now (due.Advised advised) (found, told, is) =
    from_input (of-read bytes found (due.Advised advised) told is)
of-verify bytes before now (due.Unadvised refusal) (found, told, is) =
    from_input (of-read bytes found (due.Unadvised refusal) told is)
of-verify bytes before now (due.Verified acts) (found, told, is) =
    from_input (of-read bytes found (due.Verified acts) told is)
of-verify bytes before now (due.Rejected line cause) (found, told, is) =
    from_input (of-read bytes found (due.Rejected line cause) told is)

same-of-verify : (bytes : List ℕ) (one other : Due) → IsOfVerify bytes one → IsOfVerify bytes other
    → IsSameDue one other
same-of-verify bytes one other (from_input is) (from_input two) = same-of-input bytes one other is two
same-of-verify bytes one _ is cut_off = failing-is-free one
same-of-verify bytes _ other cut_off (from_input two) = failing-first other

-- Words

same-usage : (one other : Due) → one ≡ due.Usage → other ≡ due.Usage → IsSameDue one other
same-usage one other is two =
    subst (λ (d : Due). IsSameDue d other) (sym is) (subst (λ (d : Due). IsSameDue due.Usage d) (sym two) refl)

same-asked : (asked : Option Command) (bytes : List ℕ) (before now earlier later : ℕ) (one other : Due)
    → IsDueOn asked (Some bytes) before now one
    → IsDueOn asked (Some bytes) earlier later other → IsSameDue one other
same-asked None bytes before now earlier later one other is two = same-usage one other is two
same-asked (Some (Run acts stop)) bytes before now earlier later one other is two =
    same-of-source (task.Run (Lines acts) stop) bytes one other
    (of-source (task.Run (Lines acts) stop) bytes before now one is)
    (of-source (task.Run (Lines acts) stop) bytes earlier later other two)
same-asked (Some Check) bytes before now earlier later one other is two =
    same-of-source task.Check bytes one other (of-source task.Check bytes before now one is)
    (of-source task.Check bytes earlier later other two)
same-asked (Some (Sweep runs)) bytes before now earlier later one other is two =
    same-of-source (task.Sweep runs) bytes one other (of-source (task.Sweep runs) bytes before now one is)
    (of-source (task.Sweep runs) bytes earlier later other two)
same-asked (Some Verify) bytes before now earlier later one other is two =
    same-of-verify bytes one other (of-verify bytes before now one is) (of-verify bytes earlier later other two)
same-asked (Some Advise) bytes before now earlier later one other is two =
    same-of-source task.Advise bytes one other (of-source task.Advise bytes before now one is)
    (of-source task.Advise bytes earlier later other two)
same-asked (Some (Load requests)) bytes before now earlier later one other is two =
    same-of-bytes (load_task requests) (load_text requests) one other
    (of-bytes (load_task requests) (load_text requests) one is)
    (of-bytes (load_task requests) (load_text requests) other two)

wanting-first : (one other : Due) → one ≡ due.NoMemory no_memory → IsSameDue one other
wanting-first one other none = subst (λ (d : Due). IsSameDue d other) (sym none) tt

wanting-last : (one other : Due) → other ≡ due.NoMemory no_memory → IsSameDue one other
wanting-last one other none = subst (λ (d : Due). IsSameDue one d) (sym none) (is-free one)

pub one-due : (words : List (List ℕ)) (bytes : List ℕ) (before now earlier later : ℕ) (one other : Due)
    → IsDue words (Some bytes) before now one
    → IsDue words (Some bytes) earlier later other → IsSameDue one other
one-due words bytes before now earlier later one other (inl none) two = wanting-first one other none
one-due words bytes before now earlier later one other (inr is) (inl none) = wanting-last one other none
one-due words bytes before now earlier later one other (inr is) (inr two) =
    same-asked (asked_by words) bytes before now earlier later one other is two

same-load : (requests : ℕ) (left told : Option (List ℕ)) (before now earlier later : ℕ) (one other : Due)
    → IsDueOn (Some (Load requests)) left before now one
    → IsDueOn (Some (Load requests)) told earlier later other → IsSameDue one other
same-load requests left told before now earlier later one other is two =
    same-of-bytes (load_task requests) (load_text requests) one other
    (of-bytes (load_task requests) (load_text requests) one is)
    (of-bytes (load_task requests) (load_text requests) other two)

pub one-load : (words : List (List ℕ)) (requests : ℕ) (left told : Option (List ℕ)) (before now earlier later : ℕ)
    (one other : Due)
    → asked_by words ≡ Some (Load requests) → IsDue words left before now one → IsDue words told earlier later other
    → IsSameDue one other
one-load words requests left told before now earlier later one other asked (inl none) two = wanting-first one other none
one-load words requests left told before now earlier later one other asked (inr is) (inl none) =
    wanting-last one other none
one-load words requests left told before now earlier later one other asked (inr is) (inr two) =
    same-load requests left told before now earlier later one other
    (subst (λ (c : Option Command). IsDueOn c left before now one) asked is)
    (subst (λ (c : Option Command). IsDueOn c told earlier later other) asked two)

-- Advice

not-able : {A : Type 0} → true ≡ false → A
not-able wrong = absurd (cc)

advice-of-deck : (deck : Deck) (decided : Due) → IsOfDeck task.Advise deck decided → IsDueOfAdvice deck decided
advice-of-deck deck _ wanting = tt
advice-of-deck deck _ (unable cant) = not-able cant
advice-of-deck deck _ (refused found can site first judged) = not-able (sym judged)
advice-of-deck deck decided (good can accepted is) = is

advice-of-bytes : (bytes : List ℕ) (deck : Deck) (decided : Due) → Decks bytes deck
    → IsOfBytes task.Advise bytes decided → IsDueOfAdvice deck decided
advice-of-bytes bytes deck _ spelt_too short = tt
advice-of-bytes bytes deck _ spelt_too (broken fault is) = absurd (no_deck bytes fault deck is spelt_too)
advice-of-bytes bytes deck decided spelt_too (spelt other its is) =
    subst (λ (d : Deck). IsDueOfAdvice d decided) (one_deck bytes other deck its spelt_too)
    (advice-of-deck other decided is)

advice-of-source : (bytes : List ℕ) (deck : Deck) (decided : Due) → Decks bytes deck → decided ≢ due.ReadFault
    → IsOfSource task.Advise bytes decided → IsDueOfAdvice deck decided
advice-of-source bytes deck decided spelt_too read_whole (read is) = advice-of-bytes bytes deck decided spelt_too is
advice-of-source bytes deck _ spelt_too read_whole failing = absurd (read_whole refl)

pub deck-advised : (words : List (List ℕ)) (bytes : List ℕ) (before now : ℕ) (deck : Deck) (decided : Due)
    → asked_by words ≡ Some Advise → Decks bytes deck → IsDue words (Some bytes) before now decided
    → decided ≢ due.ReadFault → IsDueOfAdvice deck decided
deck-advised words bytes before now deck decided asked spelt_too (inl none) read_whole =
    subst (IsDueOfAdvice deck) (sym none) tt
deck-advised words bytes before now deck decided asked spelt_too (inr is) read_whole =
    advice-of-source bytes deck decided spelt_too read_whole
    (of-source task.Advise bytes before now decided
    (subst (λ (c : Option Command). IsDueOn c (Some bytes) before now decided) asked is))
