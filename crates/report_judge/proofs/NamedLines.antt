-- The processors that the lines of a report tell rise, and are those of the site.
use Rattle.std.proofs.Common.{◌≡◌, ℕ, ◌+◌, ◌<◌, Bool, true, false, cond, nat_lt, List, [], ◌∷◌, length, Option, Some}
use Rattle.std.proofs.Common.{None, refl, sym, subst, arith}
use Rattle.std.specs.Prelude.{Result, Ok, Err, codes, ◌==◌}
use Rattle.std.specs.Str.{bytes_eq}
use Rattle.std.specs.Option.{option_map, option_and_then}
use Rattle.std.proofs.lemmas.Bool.{ltb-true}
use Rattle.tal_tree.specs.declared.act.Act.{Act}
use Rattle.tal_tree.specs.declared.site.Site.{Site}
use Rattle.report_reader.specs.trace_print.specs.declared.closing.End.TheVariants as end
use Rattle.report_reader.specs.Parts.{parts_of, rest_after}
use Rattle.report_reader.specs.Numbers.{number_told}
use Rattle.report_reader.specs.Reading.{closed, ended_by, read_lines, read_on, read_report, stops_in, told_first}
use Rattle.report_reader.specs.Telling.{act_told, end_told, is_sector, is_shown, may_follow, or_else, other_told}
use Rattle.report_reader.specs.Telling.{processor_told, stop_told, told_by}
use Rattle.report_reader.specs.declared.reading.Reading.{Reading}
use Rattle.report_reader.specs.declared.told.Told.{Told}
use Rattle.report_reader.specs.declared.told.Told.TheVariants as told
use Rattle.report_judge.specs.Reported.{AreRising, IsEndOfRun}

-- what it names is there
abbrev IsNamed : Site → Told → Type 0
IsNamed site (told.Stop processor) = processor < site.processors
IsNamed site (told.End how) = IsEndOfRun site how
IsNamed site _ = Unit {0}

abbrev AreNamed : Site → Option Told → Type 0
AreNamed site None = Unit {0}
AreNamed site (Some one) = IsNamed site one

abbrev IsProcessor : Site → Option ℕ → Type 0
IsProcessor site None = Unit {0}
IsProcessor site (Some processor) = processor < site.processors

processor-there : (site : Site) (text : List ℕ) → IsProcessor site (processor_told site text)
processor-there site text = by (number_told text)
  where
    by : (number : Option ℕ) → IsProcessor site
        (option_and_then (λ n. cond (nat_lt n site.processors) (Some n) None) number)
    by None = tt
    by (Some n) = within (nat_lt n site.processors) refl
      where
        within : (b : Bool) → nat_lt n site.processors ≡ b → IsProcessor site (cond b (Some n) None)
        within true e = ltb-true n site.processors e
        within false e = tt

stop-there : (site : Site) (line : List ℕ) → AreNamed site (option_map told.Stop (stop_told site line))
stop-there site line = by (rest_after (codes "S ") line)
  where
    named : (processor : Option ℕ) → IsProcessor site processor → AreNamed site (option_map told.Stop processor)
    named None there = tt
    named (Some processor) there = there

    by : (text : Option (List ℕ)) → AreNamed site (option_map told.Stop (option_and_then (processor_told site) text))
    by None = tt
    by (Some text) = named (processor_told site text) (processor-there site text)

end-there : (site : Site) (line : List ℕ) → AreNamed site (option_map told.End (end_told site line))
end-there site line =
    by (bytes_eq line (codes "END idle")) (bytes_eq line (codes "END cut")) (rest_after (codes "END second ") line)
  where
    named : (processor : Option ℕ) → IsProcessor site processor
        → AreNamed site (option_map told.End (option_map end.Second processor))
    named None there = tt
    named (Some processor) there = there

    second : (text : Option (List ℕ)) → AreNamed site
        (option_map told.End (option_and_then (λ t. option_map end.Second (processor_told site t)) text))
    second None = tt
    second (Some text) = named (processor_told site text) (processor-there site text)

    by : (idle cut : Bool) (text : Option (List ℕ))
        → AreNamed site (option_map told.End (cond idle (Some end.Idle)
        (cond cut (Some end.Cut) (option_and_then (λ t. option_map end.Second (processor_told site t)) text))))
    by true cut text = tt
    by false true text = tt
    by false false text = second text

line-named : (site : Site) (line : List ℕ) → AreNamed site (told_by site line)
line-named site line = by (act_told site line)
  where
    either : (stop how : Option Told) → AreNamed site stop → AreNamed site how → AreNamed site (or_else stop how)
    either None how first later = later
    either (Some one) how first later = first

    other : (shown sector : Bool)
        → AreNamed site (cond shown (Some told.Shown)
        (cond sector (Some told.Sector) (or_else (option_map told.Stop (stop_told site line))
        (option_map told.End (end_told site line)))))
    other true sector = tt
    other false true = tt
    other false false =
        either (option_map told.Stop (stop_told site line)) (option_map told.End (end_told site line))
        (stop-there site line) (end-there site line)

    by : (act : Option Act) → AreNamed site (or_else (option_map told.Act act) (other_told site line))
    by None = other (is_shown site line) (is_sector site line)
    by (Some act) = tt

-- the processors that may be told after a line that told this
abbrev MayBeStops : ℕ → Option Told → List ℕ → Type 0
MayBeStops bound (Some (told.Stop last)) stops = AreRising (last + 1) bound stops
MayBeStops bound (Some (told.Act act)) stops = stops ≡ []
MayBeStops bound (Some (told.End how)) stops = stops ≡ []
MayBeStops bound _ stops = AreRising 0 bound stops

none-rise : (least bound : ℕ) (stops : List ℕ) → stops ≡ [] → AreRising least bound stops
none-rise least bound stops none = subst (AreRising least bound) (sym none) tt

-- those after one line more
stops-more : (site : Site) (before : Option Told) (next : Told) (reading : Reading) → may_follow before next ≡ true
    → IsNamed site next
    → MayBeStops site.processors (Some next) (stops_in reading.told)
    → MayBeStops site.processors before (stops_in (next ∷ reading.told))
stops-more site None told.Shown reading may named stops = stops
stops-more site None told.Sector reading may named stops = stops
stops-more site None (told.Stop p) reading may named stops = (omega arith, named, stops)
stops-more site None (told.Act act) reading may named stops = none-rise 0 site.processors (stops_in reading.told) stops
stops-more site None (told.End how) reading may named stops = none-rise 0 site.processors (stops_in reading.told) stops
stops-more site (Some told.Shown) told.Shown reading may named stops = stops
stops-more site (Some told.Shown) told.Sector reading may named stops = stops
stops-more site (Some told.Shown) (told.Stop p) reading may named stops = (omega arith, named, stops)
stops-more site (Some told.Shown) (told.Act act) reading may named stops =
    none-rise 0 site.processors (stops_in reading.told) stops
stops-more site (Some told.Shown) (told.End how) reading may named stops =
    none-rise 0 site.processors (stops_in reading.told) stops
stops-more site (Some told.Sector) told.Shown reading may named stops = stops
stops-more site (Some told.Sector) told.Sector reading may named stops = stops
stops-more site (Some told.Sector) (told.Stop p) reading may named stops = (omega arith, named, stops)
stops-more site (Some told.Sector) (told.Act act) reading may named stops =
    none-rise 0 site.processors (stops_in reading.told) stops
stops-more site (Some told.Sector) (told.End how) reading may named stops =
    none-rise 0 site.processors (stops_in reading.told) stops
stops-more site (Some (told.Stop last)) told.Shown reading may named stops = absurd (cc)
stops-more site (Some (told.Stop last)) told.Sector reading may named stops = absurd (cc)
stops-more site (Some (told.Stop last)) (told.Stop p) reading may named stops =
    (omega (arith, ltb-true last p may), named, stops)
stops-more site (Some (told.Stop last)) (told.Act act) reading may named stops =
    none-rise (last + 1) site.processors (stops_in reading.told) stops
stops-more site (Some (told.Stop last)) (told.End how) reading may named stops =
    none-rise (last + 1) site.processors (stops_in reading.told) stops
stops-more site (Some (told.Act act)) told.Shown reading may named stops = absurd (cc)
stops-more site (Some (told.Act act)) told.Sector reading may named stops = absurd (cc)
stops-more site (Some (told.Act act)) (told.Stop p) reading may named stops = absurd (cc)
stops-more site (Some (told.Act act)) (told.Act other) reading may named stops = stops
stops-more site (Some (told.Act act)) (told.End how) reading may named stops = stops
stops-more site (Some (told.End how)) next reading may named stops = absurd (cc)

-- what is known of the lines that are left
pub record AreNamedLines (site : Site) (before : Option Told) (reading : Reading) : Type 0 where
  pub stops : MayBeStops site.processors before (stops_in reading.told)
  pub end : IsEndOfRun site reading.end

abbrev IfRead : Site → Option Told → Result Reading ℕ → Type 0
IfRead site before (Err number) = Unit {0}
IfRead site before (Ok reading) = AreNamedLines site before reading

ending : (site : Site) (before : Option Told) (number : ℕ) (left : List ℕ) → AreNamed site before
    → IfRead site before (closed number (ended_by before left))
ending site None number left named = tt
ending site (Some told.Shown) number left named = tt
ending site (Some told.Sector) number left named = tt
ending site (Some (told.Stop p)) number left named = tt
ending site (Some (told.Act act)) number left named = tt
ending site (Some (told.End how)) number left named = by (length left == 0)
  where
    by : (b : Bool) → IfRead site (Some (told.End how)) (closed number (cond b (Some how) None))
    by true = record { stops = refl; end = named }
    by false = tt

line-read : (site : Site) (before : Option Told) (next : Told) (rest : Result Reading ℕ)
    → may_follow before next ≡ true → IsNamed site next
    → IfRead site (Some next) rest → IfRead site before (told_first next rest)
line-read site before next (Err number) may named read = tt
line-read site before next (Ok reading) may named read =
    record { stops = stops-more site before next reading may named read.stops; end = read.end }

lines-read : (site : Site) (before : Option Told) (number : ℕ) (line : List ℕ) (lines : List (List ℕ))
    → AreNamed site before
    → IfRead site before (read_lines site before number line lines)
lines-read site before number left [] named = ending site before number left named
lines-read site before number line (next ∷ lines) named =
    by (told_by site line) (line-named site line)
    (λ one there. lines-read site (Some one) (number + 1) next lines there)
  where
    rest : Told → Result Reading ℕ
    rest one = read_lines site (Some one) (number + 1) next lines

    follows : (one : Told) → IsNamed site one → IfRead site (Some one) (rest one) → (b : Bool)
        → may_follow before one ≡ b
        → IfRead site before (read_on number rest (cond b (Some one) None))
    follows one there read true may = line-read site before one (rest one) may there read
    follows one there read false may = tt

    by : (told : Option Told) → AreNamed site told
        → ((one : Told) → IsNamed site one → IfRead site (Some one) (rest one))
        → IfRead site before (read_on number rest
        (option_and_then (λ one. cond (may_follow before one) (Some one) None) told))
    by None there later = tt
    by (Some one) there later = follows one there (later one there) (may_follow before one) refl

pub are-named : (site : Site) (report : List ℕ) (reading : Reading) → read_report site report ≡ Ok reading
    → AreRising 0 site.processors (stops_in reading.told) × IsEndOfRun site reading.end
are-named site report reading read =
    let all : IfRead site None (Ok reading) =
    subst (IfRead site None) read (lines-read site None 1 (parts_of 10 report).first (parts_of 10 report).others
    tt) in
    (all.stops, all.end)
