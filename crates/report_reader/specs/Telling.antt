-- What a line of a report tells of a site, and after which line it may stand. Our own rule.
use Rattle.std.specs.Prelude.{ℕ, Bool, true, false, ◌==◌, ◌&&◌, nat_le, nat_lt, List, slice_get, codes, Option, Some}
use Rattle.std.specs.Prelude.{None, is_some, if◌then◌else◌}
use Rattle.std.specs.Option.{option_map, option_and_then}
use Rattle.std.specs.Str.{bytes_eq}
use Rattle.gd_words.specs.declared.limits.TheConstants.{MOST_MESSAGE_WORDS}
use Rattle.tal_tree.specs.declared.act.Act.{Act}
use Rattle.tal_tree.specs.declared.act.Act.TheVariants.{Step, Take, Enter, Print}
use Rattle.tal_tree.specs.declared.site.Kind.{Kind}
use Rattle.tal_tree.specs.declared.site.Kind.TheVariants as kind
use Rattle.tal_tree.specs.declared.site.ProcessSpec.{ProcessSpec}
use Rattle.tal_tree.specs.declared.site.Site.{Site}
use Rattle.trace_print.specs.declared.closing.End.{End}
use Rattle.trace_print.specs.declared.closing.End.TheVariants as end
use Rattle.report_reader.specs.Names.{opener_named, process_named, terminal_named}
use Rattle.report_reader.specs.Numbers.{number_told, word_count}
use Rattle.report_reader.specs.Parts.{cut_at, rest_after}
use Rattle.report_reader.specs.declared.told.Told.{Told}
use Rattle.report_reader.specs.declared.told.Told.TheVariants as told

-- `A step PROCESS`
abbrev pub step_told : Site → List ℕ → Option Act
step_told site line =
    option_and_then (λ name. option_map Step (process_named site name)) (rest_after (codes "A step ") line)

-- `PROCESS OPENER`, an opener of the process
abbrev pub take_of : Site → List ℕ × List ℕ → Option Act
take_of site names = option_and_then (λ process. option_map (Take process) (opener_named site process names.1))
    (process_named site names.0)

-- `A take PROCESS OPENER`
abbrev pub take_told : Site → List ℕ → Option Act
take_told site line =
    option_and_then (λ names. option_and_then (take_of site) (cut_at 32 names)) (rest_after (codes "A take ") line)

-- `A enter TERMINAL`
abbrev pub enter_told : Site → List ℕ → Option Act
enter_told site line =
    option_and_then (λ name. option_map Enter (terminal_named site name)) (rest_after (codes "A enter ") line)

-- `A print TERMINAL`
abbrev pub print_told : Site → List ℕ → Option Act
print_told site line =
    option_and_then (λ name. option_map Print (terminal_named site name)) (rest_after (codes "A print ") line)

-- the first of two answers that is there
abbrev pub or_else : {X : Type 0} → Option X → Option X → Option X
or_else None later = later
or_else (Some first) later = Some first

-- an act
abbrev pub act_told : Site → List ℕ → Option Act
act_told site line = or_else (step_told site line)
    (or_else (take_told site line) (or_else (enter_told site line) (print_told site line)))

-- `NAME number: words`: the name, the number, and how many words there are
abbrev pub parts_told : List ℕ → Option (List ℕ × ℕ × ℕ)
parts_told text =
    option_and_then (λ name. option_and_then
    (λ number. option_and_then (λ value. option_map (λ count. (name.0, value, count)) (word_count number.1))
    (number_told number.0)) (cut_at 58 name.1))
    (cut_at 32 text)

abbrev pub has_sectors : Kind → ℕ → Bool
has_sectors (kind.Disc sectors mirrored) sector = nat_lt sector sectors
has_sectors (kind.Pair program) sector = false

abbrev pub has_sectors_in : Option ProcessSpec → ℕ → Bool
has_sectors_in None sector = false
has_sectors_in (Some spec) sector = has_sectors spec.what sector

-- the process is a disc of the site with this sector
abbrev pub has_sector : Site → Option ℕ → ℕ → Bool
has_sector site None sector = false
has_sector site (Some process) sector = has_sectors_in (slice_get site.processes process) sector

abbrev pub is_write_of : Site → Option (List ℕ × ℕ × ℕ) → Bool
is_write_of site None = false
is_write_of site (Some parts) = has_sector site (process_named site parts.0) parts.1 && (parts.2 == 8)

-- whether it is `DISC sector: words`, with eight words
abbrev pub is_write_text : Site → List ℕ → Bool
is_write_text site text = is_write_of site (parts_told text)

abbrev pub is_reply_of : Site → Option (List ℕ × ℕ × ℕ) → Bool
is_reply_of site None = false
is_reply_of site (Some parts) = is_some (terminal_named site parts.0) && nat_le parts.2 MOST_MESSAGE_WORDS

-- there is a text, and it passes
abbrev pub passes : (List ℕ → Bool) → Option (List ℕ) → Bool
passes test None = false
passes test (Some text) = test text

-- whether it is `R TERMINAL number: words`, with at most 16 words
abbrev pub is_reply : Site → List ℕ → Bool
is_reply site line = passes (λ text. is_reply_of site (parts_told text)) (rest_after (codes "R ") line)

-- whether it is a write, `W DISC sector: words`, or else a reply
abbrev pub shown_by : Site → List ℕ → Option (List ℕ) → Bool
shown_by site line None = is_reply site line
shown_by site line (Some text) = is_write_text site text

abbrev pub is_shown : Site → List ℕ → Bool
is_shown site line = shown_by site line (rest_after (codes "W ") line)

-- whether it is `D DISC sector: words`
abbrev pub is_sector : Site → List ℕ → Bool
is_sector site line = passes (is_write_text site) (rest_after (codes "D ") line)

-- a processor of the site
abbrev pub processor_told : Site → List ℕ → Option ℕ
processor_told site text =
    option_and_then (λ number. if nat_lt number site.processors then Some number else None) (number_told text)

-- `S processor`
abbrev pub stop_told : Site → List ℕ → Option ℕ
stop_told site line = option_and_then (processor_told site) (rest_after (codes "S ") line)

-- `END second processor`
abbrev pub second_told : Site → List ℕ → Option End
second_told site line =
    option_and_then (λ text. option_map end.Second (processor_told site text)) (rest_after (codes "END second ") line)

-- `END idle`, `END cut`, or that of a second processor
abbrev pub end_told : Site → List ℕ → Option End
end_told site line =
    if bytes_eq line (codes "END idle") then Some end.Idle
    else if bytes_eq line (codes "END cut") then Some end.Cut
    else second_told site line

-- what is told beside acts
abbrev pub other_told : Site → List ℕ → Option Told
other_told site line =
    if is_shown site line then Some told.Shown
    else if is_sector site line then Some told.Sector
    else or_else (option_map told.Stop (stop_told site line)) (option_map told.End (end_told site line))

-- what a line tells, where it is written as reports write it and names what the site has
abbrev pub told_by : Site → List ℕ → Option Told
told_by site line = or_else (option_map told.Act (act_told site line)) (other_told site line)

-- what may stand where a sector, a stopped processor or an act was told: nothing that comes before it in a report, and
-- processors rising
abbrev pub may_follow_sector : Told → Bool
may_follow_sector told.Shown = false
may_follow_sector _ = true

abbrev pub may_follow_stop : ℕ → Told → Bool
may_follow_stop last told.Shown = false
may_follow_stop last told.Sector = false
may_follow_stop last (told.Stop processor) = nat_lt last processor
may_follow_stop last _ = true

abbrev pub may_follow_act : Told → Bool
may_follow_act (told.Act act) = true
may_follow_act (told.End how) = true
may_follow_act _ = false

-- whether a line that tells this may stand after one that told the other, or as the first; nothing stands after the end
abbrev pub may_follow : Option Told → Told → Bool
may_follow None next = true
may_follow (Some told.Shown) next = true
may_follow (Some told.Sector) next = may_follow_sector next
may_follow (Some (told.Stop last)) next = may_follow_stop last next
may_follow (Some (told.Act act)) next = may_follow_act next
may_follow (Some (told.End how)) next = false

-- what a line tells there
abbrev pub next_told : Site → Option Told → List ℕ → Option Told
next_told site before line =
    option_and_then (λ next. if may_follow before next then Some next else None) (told_by site line)
