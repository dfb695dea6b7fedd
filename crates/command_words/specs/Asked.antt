-- Which command the words of a command line ask for. Our own rule.
use Rattle.std.specs.Prelude.{ℕ, ◌≤◌, ◌<◌, Bool, false, ◌==◌, ◌&&◌, nat_le, nat_lt, List, Option, Some, None}
use Rattle.std.specs.Prelude.{option_and_then, option_map, codes, if◌then◌else◌}
use Rattle.std.specs.List.{before_first, after_first}
use Rattle.std.specs.Option.{option_map_or}
use Rattle.std.specs.Str.{bytes_eq}
use Rattle.clap.specs.Words.{Row, Text, first_of}
use Rattle.deck_lines.specs.Numbers.{written_number}
use Rattle.gd_words.specs.declared.limits.TheConstants.{MOST_PROCESSORS}
use Rattle.command_words.specs.Line.{parse_of}
use Rattle.command_words.specs.declared.asked.Command.{Command}
use Rattle.command_words.specs.declared.asked.Command.TheVariants.{Run, Check, Load, Sweep, Verify, Advise}
use Rattle.player.specs.declared.stop.ProcessorStop.{ProcessorStop}

-- a stop of P, a processor that a site may have, just before the event that K events precede
abbrev pub stop_at : Option ℕ → Option ℕ → Option ProcessorStop
stop_at (Some p) (Some k) = if nat_lt p MOST_PROCESSORS then Some (record { processor = p; after = k }) else None
stop_at _ _ = None

-- `P:K`, numbers before and after the first colon
abbrev pub stop_of : Text → Option ProcessorStop
stop_of text =
    stop_at (written_number (before_first (λ c. c == 58) text)) (written_number (after_first (λ c. c == 58) text))

-- `run` takes no number, and any of the flags
abbrev pub run_as : Option Text → Bool → Option Text → Option Command
run_as None acts None = Some (Run acts None)
run_as None acts (Some fail) = option_map (λ stop. Run acts (Some stop)) (stop_of fail)
run_as (Some number) acts fail = None

-- `check` takes nothing
abbrev pub check_as : Option Text → Bool → Option Text → Option Command
check_as None false None = Some Check
check_as _ _ _ = None

-- `load` of 1 to 200
abbrev pub load_of : Option ℕ → Option Command
load_of (Some n) = if nat_le 1 n && nat_le n 200 then Some (Load n) else None
load_of None = None

-- `load` takes a number, and no flag
abbrev pub load_as : Option Text → Bool → Option Text → Option Command
load_as (Some number) false None = load_of (written_number number)
load_as _ _ _ = None

-- `sweep` of 1 to 10,000
abbrev pub sweep_of : Option ℕ → Option Command
sweep_of (Some n) = if nat_le 1 n && nat_le n 10000 then Some (Sweep n) else None
sweep_of None = None

-- `sweep` takes a number, and no flag
abbrev pub sweep_as : Option Text → Bool → Option Text → Option Command
sweep_as (Some number) false None = sweep_of (written_number number)
sweep_as _ _ _ = None

-- `verify` takes nothing
abbrev pub verify_as : Option Text → Bool → Option Text → Option Command
verify_as None false None = Some Verify
verify_as _ _ _ = None

-- `advise` takes nothing
abbrev pub advise_as : Option Text → Bool → Option Text → Option Command
advise_as None false None = Some Advise
advise_as _ _ _ = None

-- what a mode asks for with this number, with or without `--acts`, and with this value of `--fail`
abbrev pub command_as : Text → Option Text → Bool → Option Text → Option Command
command_as mode number acts fail =
    if bytes_eq mode (codes "run") then run_as number acts fail
    else if bytes_eq mode (codes "check") then check_as number acts fail
    else if bytes_eq mode (codes "load") then load_as number acts fail
    else if bytes_eq mode (codes "sweep") then sweep_as number acts fail
    else if bytes_eq mode (codes "verify") then verify_as number acts fail
    else if bytes_eq mode (codes "advise") then advise_as number acts fail else None

-- whether `--acts` is given, which gives it the value `true`
abbrev pub asks_for_acts : List Row → Bool
asks_for_acts rows = option_map_or (λ text. bytes_eq text (codes "true")) (first_of (codes "acts") rows) false

-- what the parts that clap tells apart ask for
abbrev pub command_in : List Row → Option Command
command_in rows = option_and_then
    (λ mode. command_as mode (first_of (codes "number") rows) (asks_for_acts rows) (first_of (codes "fail") rows))
    (first_of (codes "mode") rows)

-- what the words ask for, the program's name first
abbrev pub asked_by : List Text → Option Command
asked_by words = option_and_then command_in (parse_of words)

-- a stop is of a processor that a site may have, a load is of 1 to 200, and a sweep of 1 to 10,000
abbrev pub IsInRange : Command → Type 0
IsInRange (Run acts None) = Unit {0}
IsInRange (Run acts (Some stop)) = stop.processor < MOST_PROCESSORS
IsInRange Check = Unit {0}
IsInRange (Load n) = (1 ≤ n) × (n ≤ 200)
IsInRange (Sweep n) = (1 ≤ n) × (n ≤ 10000)
IsInRange Verify = Unit {0}
IsInRange Advise = Unit {0}
