-- Rounds of the machine of single unfailing processes. A round is, in this order: Enter of each terminal, one Take or
-- Step of each process, and Print of each terminal, each where it is possible. A Take takes the waiting opener of the
-- lowest place.
use Rattle.std.specs.Prelude.{ℕ, zero, suc, ◌+◌, List, [], ◌∷◌, ◌++◌, length, slice_get, Option, Some, None}
use Rattle.tal_tree.specs.declared.act.Act.{Act}
use Rattle.tal_tree.specs.declared.act.Act.TheVariants.{Step, Take, Enter, Print}
use Rattle.tal_tree.specs.declared.act.Shown.{Shown}
use Rattle.tal_tree.specs.declared.site.Site.{Site}
use Rattle.process_semantics.specs.declared.point.Point.{Point}
use Rattle.process_semantics.specs.declared.point.Point.TheVariants as point
use Rattle.process_semantics.specs.Process as process
use Rattle.plain_semantics.specs.declared.slot.Slot.{Slot}
use Rattle.plain_semantics.specs.declared.slot.Slot.TheVariants.{Waiting}
use Rattle.plain_semantics.specs.Machine.{Plain, PlainProcess, Made, made, plain_start}

-- a run so far: the machine, the acts that were made, and what they show
pub record Ran : Type 0 where
  pub plain : Plain
  pub acts : List Act
  pub shown : List Shown

-- the run after an act that came to this
abbrev pub ran_on : Ran → Act → Option Made → Ran
ran_on ran act None = ran
ran_on ran act (Some m) = record { plain = m.plain; acts = ran.acts ++ act ∷ []; shown = ran.shown ++ m.shown }

-- the run after an act, where it is possible
abbrev pub tried : Site → Act → Ran → Ran
tried site act ran = ran_on ran act (made site ran.plain act)

-- the place of the first slot in which a request waits, from a number on; past the last where there is none
abbrev pub waiting_from : ℕ → List Slot → ℕ
waiting_from number [] = number
waiting_from number (Waiting words ∷ slots) = number
waiting_from number (_ ∷ slots) = waiting_from (number + 1) slots

-- the Take or Step of a process at this point
abbrev pub move_at : ℕ → List Slot → Point → Act
move_at number slots point.Take = Take number (waiting_from 0 slots)
move_at number slots point.Inner = Step number
move_at number slots point.Ask = Step number
move_at number slots point.Await = Step number
move_at number slots point.Answer = Step number
move_at number slots point.AtCheckpoint = Step number
move_at number slots point.Device = Step number
move_at number slots point.Ended = Step number

-- the Take or Step that a process may make next
abbrev pub move_of : ℕ → Option PlainProcess → Act
move_of number None = Step number
move_of number (Some one) = move_at number one.slots (process.point one.state)

-- the Take or Step that a process of the machine may make next
abbrev pub next_move : Plain → ℕ → Act
next_move plain number = move_of number (slice_get plain.processes number)

-- the run after one act for each of so many numbers, from a number on, each where it is possible
abbrev pub swept : Site → (Plain → ℕ → Act) → ℕ → ℕ → Ran → Ran
swept site act number zero ran = ran
swept site act number (suc left) ran = swept site act (number + 1) left (tried site (act ran.plain number) ran)

-- Enter of a terminal
abbrev pub enter_of : Plain → ℕ → Act
enter_of plain terminal = Enter terminal

-- Print of a terminal
abbrev pub print_of : Plain → ℕ → Act
print_of plain terminal = Print terminal

-- the run after one more round
abbrev pub round : Site → Ran → Ran
round site ran =
    swept site print_of 0 (length site.terminals)
    (swept site next_move 0 (length site.processes) (swept site enter_of 0 (length site.terminals) ran))

-- a run so far, and so many rounds more
abbrev pub rounds_on : Site → ℕ → Ran → Ran
rounds_on site zero ran = ran
rounds_on site (suc left) ran = rounds_on site left (round site ran)

-- the run before its first act
abbrev pub run_start : Site → Ran
run_start site = record { plain = plain_start site; acts = []; shown = [] }
