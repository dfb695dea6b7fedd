-- A report whose lines tell what they were written for is read back.
use Rattle.std.proofs.Common.{◌≡◌, ℕ, ◌+◌, ◌≤◌, Bool, true, cond, nat_eq, List, [], ◌∷◌, ◌++◌, map, Option, Some, None}
use Rattle.std.proofs.Common.{refl, sym, ap, subst, ◌∙◌, arith, append_assoc, append-nil}
use Rattle.std.specs.Prelude.{Result, Ok, false, flat_map}
use Rattle.std.specs.List.{list_any}
use Rattle.std.specs.Option.{option_and_then}
use Rattle.std.proofs.lemmas.Bool.{lt-ltb}
use Rattle.report_reader.specs.Parts.{Parts, parts_of, parts_with}
use Rattle.report_reader.specs.Reading.{acts_in, closed, ended_by, read_lines}
use Rattle.report_reader.specs.Reading.{read_on, read_report, stops_in, told_first}
use Rattle.report_reader.specs.Telling.{may_follow, told_by}
use Rattle.report_reader.specs.declared.reading.Reading.{Reading}
use Rattle.report_reader.specs.declared.told.Told.{Told}
use Rattle.report_reader.specs.declared.told.Told.TheVariants as told
use Rattle.shown_sectors.specs.declared.sectors.SectorWords.{SectorWords}
use Rattle.tal_tree.specs.declared.act.Act.{Act}
use Rattle.tal_tree.specs.declared.act.Shown.{Shown}
use Rattle.tal_tree.specs.declared.site.Site.{Site}
use Rattle.trace_print.specs.ActLine.{act_line}
use Rattle.trace_print.specs.EndLine.{end_line}
use Rattle.trace_print.specs.ReportText.{report_text}
use Rattle.trace_print.specs.SectorLine.{sector_line}
use Rattle.trace_print.specs.ShownLine.{shown_line}
use Rattle.trace_print.specs.StopLine.{stop_line}
use Rattle.trace_print.specs.declared.closing.End.{End}
use Rattle.told_reports.specs.InForm.{AreEach, AreRisingFrom, IsInForm, IsSectorOf, IsShownOn, IsProcessorOf}
use Rattle.told_reports.specs.NamesApart.{IsNamedAct, TellsNamesApart}
use Rattle.told_reports.specs.ToldLine.{IsToldBy}
use Rattle.told_reports.proofs.Told.{act-is-told, end-is-told, sector-is-told, shown-is-told, stop-is-told}
use Rattle.told_reports.proofs.Words.{parts-before}

-- Lines

-- a text is lines that tell these
data AreTold (site : Site) : List ℕ → List Told → Type 0 where
  none_told : AreTold site [] []
  more_told : {text : List ℕ} {told : List Told} → (line : List ℕ) (one : Told)
      → list_any (λ c. nat_eq c 10) line ≡ false
      → told_by site line ≡ Some one → AreTold site text told → AreTold site (line ++ (10 ∷ text)) (one ∷ told)

told-both : {site : Site} {a b : List ℕ} {s t : List Told} → AreTold site a s → AreTold site b t
    → AreTold site (a ++ b) (s ++ t)
told-both none_told second = second
told-both {site = site} {b = b} {t = t} (more_told {text = text} {told = told} line one whole tells first) second =
    subst (λ (all : List ℕ). AreTold site all (one ∷ (told ++ t))) (sym (append_assoc line (10 ∷ text) b))
    (more_told line one whole tells (told-both first second))

one-told : {site : Site} {rest : List ℕ} {told : List Told} (written : List ℕ) (one : Told) → IsToldBy site written one
    → AreTold site rest told → AreTold site (written ++ rest) (one ∷ told)
one-told {site = site} {rest = rest} {told = told} written one is later =
    subst (λ (all : List ℕ). AreTold site all (one ∷ told))
    (sym (append_assoc is.line (10 ∷ []) rest) ∙ ap (λ (w : List ℕ). w ++ rest) (sym is.ended))
    (more_told is.line one is.whole is.tells later)

each-told : {X : Type 0} (site : Site) (write : X → List ℕ) (tells : X → Told) (P : X → Type 0)
    → ((x : X) → P x → IsToldBy site (write x) (tells x)) → (all : List X) → AreEach P all
    → AreTold site (flat_map write all) (map tells all)
each-told site write tells P told [] each = none_told
each-told site write tells P told (x ∷ all) each =
    one-told (write x) (tells x) (told x each.0) (each-told site write tells P told all each.1)

-- Reading

-- what is told stands in order
abbrev MayStand : Option Told → List Told → Type 0
MayStand before [] = Unit {0}
MayStand before (one ∷ told) = (may_follow before one ≡ true) × MayStand (Some one) told

-- the end that the last line tells
abbrev last_end : Option Told → List Told → Option End
last_end before [] = ended_by before []
last_end before (one ∷ told) = last_end (Some one) told

line-cut : (line text : List ℕ) → list_any (λ c. nat_eq c 10) line ≡ false
    → parts_of 10 (line ++ (10 ∷ text)) ≡ parts_with line (parts_of 10 text)
line-cut line text whole =
    parts-before 10 line (10 ∷ text) whole
    ∙ ap (λ (front : List ℕ). parts_with front (parts_of 10 text)) (append-nil line)

abbrev read_parts : Site → Option Told → ℕ → Parts → Result Reading ℕ
read_parts site before number parts = read_lines site before number parts.first parts.others

reads : {site : Site} {text : List ℕ} {told : List Told} (before : Option Told) (number : ℕ) (how : End)
    → AreTold site text told → MayStand before told → last_end before told ≡ Some how
    → read_parts site before number (parts_of 10 text) ≡ Ok (record { told = told; end = how })
reads before number how none_told stands ends = ap (closed number) ends
reads {site = site} before number how (more_told {text = text} {told = told} line one whole tells later) stands ends =
    ap (read_parts site before number) (line-cut line text whole)
    ∙ ap (λ (o : Option Told). read_on number rest
    (option_and_then (λ next. cond (may_follow before next) (Some next) None) o)) tells
    ∙ ap (λ (b : Bool). read_on number rest (cond b (Some one) None)) stands.0
    ∙ ap (told_first one) (reads (Some one) (number + 1) how later stands.1 ends)
  where
    rest : Told → Result Reading ℕ
    rest next = read_parts site (Some next) (number + 1) (parts_of 10 text)

-- The order

abbrev sector-told-by : SectorWords → Told
sector-told-by one = told.Sector

abbrev shown-told-by : Shown → Told
shown-told-by one = told.Shown

acts-stand : (before : Option Told) (how : End) (acts : List Act)
    → ((a : Act) → may_follow before (told.Act a) ≡ true) → may_follow before (told.End how) ≡ true
    → MayStand before (map told.Act acts ++ (told.End how ∷ []))
acts-stand before how [] act end = (end, tt)
acts-stand before how (a ∷ acts) act end = (act a, acts-stand (Some (told.Act a)) how acts (λ b. refl) refl)

stops-stand : (before : Option Told) (how : End) (acts : List Act) (least : ℕ) (stopped : List ℕ)
    → ((p : ℕ) → least ≤ p → may_follow before (told.Stop p) ≡ true)
    → ((a : Act) → may_follow before (told.Act a) ≡ true) → may_follow before (told.End how) ≡ true
    → AreRisingFrom least stopped
    → MayStand before (map told.Stop stopped ++ (map told.Act acts ++ (told.End how ∷ [])))
stops-stand before how acts least [] stop act end rising = acts-stand before how acts act end
stops-stand before how acts least (p ∷ stopped) stop act end rising = (
  stop p rising.0,
  stops-stand (Some (told.Stop p)) how acts (p + 1) stopped (λ q more. lt-ltb p q (omega (arith, more))) (λ a. refl)
      refl rising.1,
)

sectors-stand : (before : Option Told) (how : End) (acts : List Act) (stopped : List ℕ) (sectors : List SectorWords)
    → may_follow before told.Sector ≡ true → ((p : ℕ) → may_follow before (told.Stop p) ≡ true)
    → ((a : Act) → may_follow before (told.Act a) ≡ true) → may_follow before (told.End how) ≡ true
    → AreRisingFrom 0 stopped
    → MayStand before (map sector-told-by sectors
    ++ (map told.Stop stopped ++ (map told.Act acts ++ (told.End how ∷ []))))
sectors-stand before how acts stopped [] sector stop act end rising =
    stops-stand before how acts 0 stopped (λ p more. stop p) act end rising
sectors-stand before how acts stopped (one ∷ sectors) sector stop act end rising =
    (sector, sectors-stand (Some told.Sector) how acts stopped sectors refl (λ p. refl) (λ a. refl) refl rising)

all-stand : (before : Option Told) (how : End) (acts : List Act) (stopped : List ℕ) (sectors : List SectorWords)
    (shown : List Shown) → ((one : Told) → may_follow before one ≡ true) → AreRisingFrom 0 stopped
    → MayStand before (map shown-told-by shown ++ (map sector-told-by sectors
    ++ (map told.Stop stopped ++ (map told.Act acts ++ (told.End how ∷ [])))))
all-stand before how acts stopped sectors [] may rising =
    sectors-stand before how acts stopped sectors (may told.Sector) (λ p. may (told.Stop p)) (λ a. may (told.Act a))
    (may (told.End how)) rising
all-stand before how acts stopped sectors (one ∷ shown) may rising =
    (may told.Shown, all-stand (Some told.Shown) how acts stopped sectors shown (λ one. refl) rising)

last-of : (before : Option Told) (lines : List Told) (how : End)
    → last_end before (lines ++ (told.End how ∷ [])) ≡ Some how
last-of before [] how = refl
last-of before (one ∷ lines) how = last-of (Some one) lines how

-- What is told

module _ (how : End) where
  acts-told : (acts : List Act) → acts_in (map told.Act acts ++ (told.End how ∷ [])) ≡ acts
  acts-told [] = refl
  acts-told (a ∷ acts) = ap (λ (all : List Act). a ∷ all) (acts-told acts)

  acts-past-stops : (stopped : List ℕ) (rest : List Told) → acts_in (map told.Stop stopped ++ rest) ≡ acts_in rest
  acts-past-stops [] rest = refl
  acts-past-stops (p ∷ stopped) rest = acts-past-stops stopped rest

  acts-past-sectors : (sectors : List SectorWords) (rest : List Told)
      → acts_in (map sector-told-by sectors ++ rest) ≡ acts_in rest
  acts-past-sectors [] rest = refl
  acts-past-sectors (one ∷ sectors) rest = acts-past-sectors sectors rest

  acts-past-shown : (shown : List Shown) (rest : List Told) → acts_in (map shown-told-by shown ++ rest) ≡ acts_in rest
  acts-past-shown [] rest = refl
  acts-past-shown (one ∷ shown) rest = acts-past-shown shown rest

  no-stops : (acts : List Act) → stops_in (map told.Act acts ++ (told.End how ∷ [])) ≡ []
  no-stops [] = refl
  no-stops (a ∷ acts) = no-stops acts

  stops-told : (acts : List Act) (stopped : List ℕ)
      → stops_in (map told.Stop stopped ++ (map told.Act acts ++ (told.End how ∷ []))) ≡ stopped
  stops-told acts [] = no-stops acts
  stops-told acts (p ∷ stopped) = ap (λ (all : List ℕ). p ∷ all) (stops-told acts stopped)

  stops-past-sectors : (sectors : List SectorWords) (rest : List Told)
      → stops_in (map sector-told-by sectors ++ rest) ≡ stops_in rest
  stops-past-sectors [] rest = refl
  stops-past-sectors (one ∷ sectors) rest = stops-past-sectors sectors rest

  stops-past-shown : (shown : List Shown) (rest : List Told)
      → stops_in (map shown-told-by shown ++ rest) ≡ stops_in rest
  stops-past-shown [] rest = refl
  stops-past-shown (one ∷ shown) rest = stops-past-shown shown rest

-- The report

module _ (site : Site) (shown : List Shown) (sectors : List SectorWords) (stopped : List ℕ) (acts : List Act) (how :
    End)
  where
    abbrev told_of : List Told
    told_of = map shown-told-by shown ++ (map sector-told-by sectors
        ++ (map told.Stop stopped ++ (map told.Act acts ++ (told.End how ∷ []))))

    abbrev told_left : List Told
    told_left = (((map shown-told-by shown ++ map sector-told-by sectors) ++ map told.Stop stopped)
        ++ map told.Act acts) ++ (told.End how ∷ [])

    same-told : told_left ≡ told_of
    same-told =
        append_assoc ((map shown-told-by shown ++ map sector-told-by sectors) ++ map told.Stop stopped)
        (map told.Act acts) (told.End how ∷ [])
        ∙ append_assoc (map shown-told-by shown ++ map sector-told-by sectors) (map told.Stop stopped)
        (map told.Act acts ++ (told.End how ∷ []))
        ∙ append_assoc (map shown-told-by shown) (map sector-told-by sectors)
        (map told.Stop stopped ++ (map told.Act acts ++ (told.End how ∷ [])))

    report-told : TellsNamesApart site → IsInForm site shown sectors stopped acts how
        → AreTold site (report_text site shown sectors stopped acts how) told_left
    report-told apart is =
        told-both (told-both (told-both (told-both
        (each-told site (shown_line site) shown-told-by (IsShownOn site) (λ x p. shown-is-told site x apart p) shown
        is.each_shown)
        (each-told site (sector_line site) sector-told-by (IsSectorOf site) (λ x p. sector-is-told site x apart p)
        sectors
        is.each_sector))
        (each-told site stop_line told.Stop (IsProcessorOf site) (λ x p. stop-is-told site x p) stopped
        is.each_stopped))
        (each-told site (act_line site) told.Act (IsNamedAct site) (λ x p. act-is-told site x apart p) acts
        is.each_act))
        (subst (λ (text : List ℕ). AreTold site text (told.End how ∷ [])) (append-nil (end_line how))
        (one-told (end_line how) (told.End how) (end-is-told site how is.ends) none_told))

    pub report-read : TellsNamesApart site → IsInForm site shown sectors stopped acts how
        → (reading : Reading) × (read_report site (report_text site shown sectors stopped acts how) ≡ Ok reading)
        × (acts_in reading.told ≡ acts) × (stops_in reading.told ≡ stopped) × (reading.end ≡ how)
    report-read apart is = (
      record { told = told_of; end = how },
      reads None 1 how
          (subst (AreTold site (report_text site shown sectors stopped acts how)) same-told (report-told apart is))
          (all-stand None how acts stopped sectors shown (λ one. refl) is.rising)
          (ap (last_end None) (sym same-told) ∙ last-of None
          (((map shown-told-by shown ++ map sector-told-by sectors) ++ map told.Stop stopped)
          ++ map told.Act acts) how),
      acts-past-shown how shown _ ∙ acts-past-sectors how sectors _ ∙ acts-past-stops how stopped _
          ∙ acts-told how acts,
      stops-past-shown how shown _ ∙ stops-past-sectors how sectors _ ∙ stops-told how acts stopped,
      refl,
    )
