-- What is asked for is in its range.
use Rattle.std.proofs.Common.{◌≡◌, ◌<◌, ℕ, Bool, true, false, ◌&&◌, nat_le, nat_lt, suc, List, Option, Some, None, refl}
use Rattle.std.proofs.Common.{codes}
use Rattle.std.specs.Prelude.{IfSome, option_and_then, option_map, ◌==◌, if◌then◌else◌}
use Rattle.std.specs.List.{after_first, before_first}
use Rattle.std.specs.Str.{bytes_eq}
use Rattle.std.proofs.lemmas.Bool.{and_parts, leb-true}
use Rattle.clap.specs.Words.{Row, Text, first_of}
use Rattle.deck_lines.specs.Numbers.{written_number}
use Rattle.gd_words.specs.declared.limits.TheConstants.{MOST_PROCESSORS}
use Rattle.command_words.specs.Asked.{IsInRange, asks_for_acts, asked_by, check_as, command_as, command_in, load_as}
use Rattle.command_words.specs.Asked.{advise_as, load_of, run_as, stop_at, stop_of, sweep_as, sweep_of, verify_as}
use Rattle.command_words.specs.Line.{parse_of}
use Rattle.command_words.specs.declared.asked.Command.TheVariants.{Run, Load, Sweep}
use Rattle.player.specs.declared.stop.ProcessorStop.{ProcessorStop}

load : (number : Option ℕ) → IfSome (load_of number) IsInRange
load None = tt
load (Some n) = go (nat_le 1 n && nat_le n 200) refl
  where
    go : (holds : Bool) → (nat_le 1 n && nat_le n 200) ≡ holds
        → IfSome (if holds then Some (Load n) else None) IsInRange
    go false e = tt
    go true e = let parts = and_parts (nat_le 1 n) (nat_le n 200) e in (leb-true 1 n parts.0, leb-true n 200 parts.1)

sweep : (number : Option ℕ) → IfSome (sweep_of number) IsInRange
sweep None = tt
sweep (Some n) = go (nat_le 1 n && nat_le n 10000) refl
  where
    go : (holds : Bool) → (nat_le 1 n && nat_le n 10000) ≡ holds
        → IfSome (if holds then Some (Sweep n) else None) IsInRange
    go false e = tt
    go true e = let parts =
        and_parts (nat_le 1 n) (nat_le n 10000) e in (leb-true 1 n parts.0, leb-true n 10000 parts.1)

stop_in : (processor after : Option ℕ) → IfSome (stop_at processor after) (λ stop. stop.processor < MOST_PROCESSORS)
stop_in None after = tt
stop_in (Some p) None = tt
stop_in (Some p) (Some k) = go (nat_lt p MOST_PROCESSORS) refl
  where
    at : ProcessorStop
    at = record { processor = p; after = k }

    go : (holds : Bool) → nat_lt p MOST_PROCESSORS ≡ holds
        → IfSome (if holds then Some at else None) (λ stop. stop.processor < MOST_PROCESSORS)
    go false e = tt
    go true e = leb-true (suc p) MOST_PROCESSORS e

stopped : (acts : Bool) (found : Option ProcessorStop) → IfSome found (λ stop. stop.processor < MOST_PROCESSORS)
    → IfSome (option_map (λ stop. Run acts (Some stop)) found) IsInRange
stopped acts None h = tt
stopped acts (Some found) h = h

run : (number : Option Text) (acts : Bool) (fail : Option Text) → IfSome (run_as number acts fail) IsInRange
run (Some number) acts fail = tt
run None acts None = tt
run None acts (Some fail) = stopped acts (stop_of fail)
    (stop_in (written_number (before_first (λ c. c == 58) fail)) (written_number (after_first (λ c. c == 58) fail)))

check : (number : Option Text) (acts : Bool) (fail : Option Text) → IfSome (check_as number acts fail) IsInRange
check (Some number) acts fail = tt
check None true fail = tt
check None false (Some fail) = tt
check None false None = tt

loaded : (number : Option Text) (acts : Bool) (fail : Option Text) → IfSome (load_as number acts fail) IsInRange
loaded None acts fail = tt
loaded (Some number) true fail = tt
loaded (Some number) false (Some fail) = tt
loaded (Some number) false None = load (written_number number)

swept : (number : Option Text) (acts : Bool) (fail : Option Text) → IfSome (sweep_as number acts fail) IsInRange
swept None acts fail = tt
swept (Some number) true fail = tt
swept (Some number) false (Some fail) = tt
swept (Some number) false None = sweep (written_number number)

verified : (number : Option Text) (acts : Bool) (fail : Option Text) → IfSome (verify_as number acts fail) IsInRange
verified (Some number) acts fail = tt
verified None true fail = tt
verified None false (Some fail) = tt
verified None false None = tt

advised : (number : Option Text) (acts : Bool) (fail : Option Text) → IfSome (advise_as number acts fail) IsInRange
advised (Some number) acts fail = tt
advised None true fail = tt
advised None false (Some fail) = tt
advised None false None = tt

by_mode : (runs checks loads sweeps verifies advises : Bool) (number : Option Text) (acts : Bool) (fail : Option Text)
    → IfSome (if runs then run_as number acts fail else if checks then check_as number acts fail
    else if loads then load_as number acts fail else if sweeps then sweep_as number acts fail
    else if verifies then verify_as number acts fail
    else if advises then advise_as number acts fail else None) IsInRange
by_mode true checks loads sweeps verifies advises number acts fail = run number acts fail
by_mode false true loads sweeps verifies advises number acts fail = check number acts fail
by_mode false false true sweeps verifies advises number acts fail = loaded number acts fail
by_mode false false false true verifies advises number acts fail = swept number acts fail
by_mode false false false false true advises number acts fail = verified number acts fail
by_mode false false false false false true number acts fail = advised number acts fail
by_mode false false false false false false number acts fail = tt

moded : (mode number : Option Text) (acts : Bool) (fail : Option Text)
    → IfSome (option_and_then (λ mode. command_as mode number acts fail) mode) IsInRange
moded None number acts fail = tt
moded (Some mode) number acts fail =
    by_mode (bytes_eq mode (codes "run")) (bytes_eq mode (codes "check")) (bytes_eq mode (codes "load"))
    (bytes_eq mode (codes "sweep")) (bytes_eq mode (codes "verify")) (bytes_eq mode (codes "advise")) number acts fail

pub in_range : (rows : List Row) → IfSome (command_in rows) IsInRange
in_range rows = moded (first_of (codes "mode") rows) (first_of (codes "number") rows) (asks_for_acts rows)
    (first_of (codes "fail") rows)

found : (rows : Option (List Row)) → IfSome (option_and_then command_in rows) IsInRange
found None = tt
found (Some rows) = in_range rows

pub asked_in_range : (words : List Text) → IfSome (asked_by words) IsInRange
asked_in_range words = found (parse_of words)
