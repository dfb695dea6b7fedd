-- What a node knows of the processors of its site. I'm-alive packets over both buses, and that a processor which isn't
-- heard of is taken to be down, are Bartlett's; checks at every second tick, reports and the hold line are this
-- project's own rules.
use Rattle.std.specs.Prelude.{ℕ, [], ◌∷◌, ◌+◌, ◌==◌, ◌&&◌, not, nat_lt, Bool, true, false, List, map, take, drop}
use Rattle.std.specs.Prelude.{slice_get, slice_set, Option, Some, None, if◌then◌else◌}
use Rattle.std.specs.List.{list_all}
use Rattle.std.specs.Option.{option_map, unwrap_or}
use Rattle.gd_words.specs.declared.limits.TheConstants.{TERMINAL_NODE}
use Rattle.alive_regroup.specs.declared.neighbour.Missed.{Missed}
use Rattle.alive_regroup.specs.declared.neighbour.Missed.TheVariants as missed
use Rattle.alive_regroup.specs.declared.neighbour.Neighbour.{Neighbour}
use Rattle.alive_regroup.specs.declared.neighbour.Neighbour.TheVariants.{Absent, Up, Down}
use Rattle.std.specs.Bool.{beq}
use Rattle.std.specs.Cmp.Lexicographic.{pointwise}
use Rattle.alive_regroup.specs.declared.set.ProcessorSet.{ProcessorSet}
use Rattle.alive_regroup.specs.Sets.{has, nobody, without}

-- Of one processor

-- after one more check missed it
abbrev pub risen : Missed → Missed
risen missed.None = missed.One
risen missed.One = missed.More
risen missed.More = missed.More

abbrev pub is_more : Missed → Bool
is_more missed.None = false
is_more missed.One = false
is_more missed.More = true

-- after an alive packet from it
abbrev pub neighbour_after_alive : Neighbour → Neighbour
neighbour_after_alive Absent = Absent
neighbour_after_alive (Up came misses report) = Up true misses report
neighbour_after_alive (Down came) = Down came

-- after a check: no check has missed it where an alive packet came since the last one, and else one more has
abbrev pub neighbour_after_check : Neighbour → Neighbour
neighbour_after_check Absent = Absent
neighbour_after_check (Up came misses report) = Up false (if came then missed.None else risen misses) report
neighbour_after_check (Down came) = Down false

-- after a report from it
abbrev pub neighbour_after_report : ProcessorSet → Neighbour → Neighbour
neighbour_after_report set Absent = Absent
neighbour_after_report set (Up came misses report) = Up came misses set
neighbour_after_report set (Down came) = Down came

-- after it was marked down: whether an alive packet came since the last check is forgotten at checks alone
abbrev pub neighbour_after_down : Neighbour → Neighbour
neighbour_after_down Absent = Absent
neighbour_after_down (Up came misses report) = Down came
neighbour_after_down (Down came) = Down came

-- after it was loaded again: it is up, missed by no check, and reported nobody
abbrev pub neighbour_after_up : Neighbour → Neighbour
neighbour_after_up Absent = Absent
neighbour_after_up (Up came misses report) = Up came missed.None nobody
neighbour_after_up (Down came) = Up came missed.None nobody

-- after another processor was loaded again: its last report hasn't that one any more
abbrev pub neighbour_after_up_of : ℕ → Neighbour → Neighbour
neighbour_after_up_of processor Absent = Absent
neighbour_after_up_of processor (Up came misses report) = Up came misses (without processor report)
neighbour_after_up_of processor (Down came) = Down came

-- it is another processor that isn't marked down
abbrev pub is_up : Neighbour → Bool
is_up Absent = false
is_up (Up came misses report) = true
is_up (Down came) = false

abbrev pub is_down : Neighbour → Bool
is_down Absent = false
is_down (Up came misses report) = false
is_down (Down came) = true

-- two checks or more have missed it
abbrev pub is_silent : Neighbour → Bool
is_silent Absent = false
is_silent (Up came misses report) = is_more misses
is_silent (Down came) = false

-- the last check missed it
abbrev pub is_missed : Neighbour → Bool
is_missed Absent = false
is_missed (Up came missed.None report) = false
is_missed (Up came missed.One report) = true
is_missed (Up came missed.More report) = true
is_missed (Down came) = false

-- where it has a say, it reported this processor last
abbrev pub agrees : ℕ → Neighbour → Bool
agrees processor Absent = true
agrees processor (Up came misses report) = has report processor
agrees processor (Down came) = true

-- Of a node: its number, whether its next tick checks, what it knows of the processors 0 to 15, the silent set that it
-- reported last, and whether its next check reports even if it changes nothing

pub record Watching : Type 0 where
  pub me : ℕ
  pub checks : Bool
  pub neighbours : List Neighbour
  pub told : ProcessorSet
  pub due : Bool

-- the silent set
abbrev pub silent_set : List Neighbour → ProcessorSet
silent_set neighbours = record { members = map is_silent neighbours }

-- the knowledge with that of one processor changed
abbrev pub changed_at : ℕ → (Neighbour → Neighbour) → Watching → Watching
changed_at processor change w =
    record w {
      neighbours = unwrap_or (option_map (λ one. slice_set w.neighbours processor (change one))
          (slice_get w.neighbours processor)) w.neighbours;
    }

-- after a processor was loaded again: it is up, nobody reported it last, and the next check reports
abbrev pub after_up : ℕ → Watching → Watching
after_up processor w =
    changed_at processor neighbour_after_up
    (record w { neighbours = map (neighbour_after_up_of processor) w.neighbours; due = true })

-- Ticks. Every second tick of a processor checks; the node of the terminals checks never

abbrev pub does_check : Watching → Bool
does_check w = nat_lt w.me TERMINAL_NODE && w.checks

-- after a check, which has told the silent set where that changed
abbrev pub after_check : Watching → Watching
after_check w = record w {
  checks = false;
  neighbours = map neighbour_after_check w.neighbours;
  told = silent_set (map neighbour_after_check w.neighbours);
  due = false;
}

abbrev pub after_tick : Watching → Watching
after_tick w = if does_check w then after_check w else record w { checks = true }

-- the silent set that is to be reported: where a report is due, or a check changed the set
abbrev pub set_to_tell : Bool → ProcessorSet → ProcessorSet → Option ProcessorSet
set_to_tell due before now = if not due && pointwise beq before.members now.members then None else Some now

abbrev pub told_by_tick : Watching → Option ProcessorSet
told_by_tick w =
    if does_check w then set_to_tell w.due w.told (silent_set (map neighbour_after_check w.neighbours)) else None

-- The hold line

-- a processor is in the node's own silent set
abbrev pub is_silent_at : ℕ → Watching → Bool
is_silent_at processor w = unwrap_or (option_map is_silent (slice_get w.neighbours processor)) false

-- all but this one pass
abbrev pub all_but : ℕ → (Neighbour → Bool) → List Neighbour → Bool
all_but processor passes neighbours =
    list_all passes (take processor neighbours) && list_all passes (drop (processor + 1) neighbours)

-- the node is the lowest of the processors that it hasn't marked down, this one aside
abbrev pub is_coordinator : ℕ → Watching → Bool
is_coordinator processor w = all_but processor (λ one. not (is_up one)) (take w.me w.neighbours)

-- all agree: this processor is in the node's own silent set and in the last report of each other one that isn't marked
-- down, and the node is the coordinator
abbrev pub is_held : ℕ → Watching → Bool
is_held processor w =
    nat_lt w.me TERMINAL_NODE && is_silent_at processor w && is_coordinator processor w
    && all_but processor (agrees processor) w.neighbours

-- the last check missed none of the processors that it hasn't marked down
abbrev pub misses_none : Watching → Bool
misses_none w = list_all (λ one. not (is_missed one)) w.neighbours

-- whether a processor is marked down
abbrev pub is_marked : ℕ → Watching → Bool
is_marked processor w = unwrap_or (option_map is_down (slice_get w.neighbours processor)) false

-- The beginning

-- a number at the beginning: another processor of the site is up, not heard of and missed by no check
abbrev pub at_first : ℕ → ℕ → ℕ → Neighbour
at_first me processors place =
    if nat_lt place processors && not (place == me) then Up false missed.None nobody else Absent

abbrev pub places : List ℕ
places = 0 ∷ 1 ∷ 2 ∷ 3 ∷ 4 ∷ 5 ∷ 6 ∷ 7 ∷ 8 ∷ 9 ∷ 10 ∷ 11 ∷ 12 ∷ 13 ∷ 14 ∷ 15 ∷ []

abbrev pub new_watch : ℕ → ℕ → Watching
new_watch me processors =
    record { me = me; checks = false; neighbours = map (at_first me processors) places; told = nobody; due = false }
