-- An act raises the greatest number of a write by 1 at most.
use Rattle.std.proofs.Common.{◌≡◌, ◌≤◌, ◌<◌, ℕ, zero, suc, ◌+◌, ◌*◌, ℤ, List, [], ◌∷◌, length, Option, Some, None}
use Rattle.std.proofs.Common.{slice_get, slice_set, refl, ap, arith}
use native.Mathlib.Nat.{mul_comm, mul-suc}
use Rattle.std.specs.Option.{unwrap_or}
use Rattle.tal_tree.specs.declared.act.Act.{Act}
use Rattle.tal_tree.specs.declared.act.Act.TheVariants.{Step, Take, Enter, Print}
use Rattle.tal_tree.specs.declared.site.Kind.{Kind}
use Rattle.tal_tree.specs.declared.site.Kind.TheVariants as kind
use Rattle.tal_tree.specs.declared.site.ProcessSpec.{ProcessSpec}
use Rattle.tal_tree.specs.declared.site.Site.{Site}
use Rattle.tal_tree.specs.declared.site.Who.TheVariants as who
use Rattle.process_semantics.specs.declared.point.Point.{Point}
use Rattle.process_semantics.specs.declared.point.Point.TheVariants as point
use Rattle.process_semantics.specs.Process as process
use Rattle.process_semantics.specs.Process.{ProcessState, Runs, Serves}
use Rattle.checkpoint_image.specs.Behaving.{last_write_of}
use Rattle.plain_semantics.specs.declared.slot.Opener.{Opener}
use Rattle.plain_semantics.specs.declared.slot.Slot.{Slot}
use Rattle.plain_semantics.specs.declared.slot.Slot.TheVariants.{Empty, Waiting, Taken, Answered}
use Rattle.plain_semantics.specs.Machine.{Plain, PlainProcess, Made, made, plain_start, processes_at_first, own_opener}
use Rattle.plain_semantics.specs.Machine.{slot_of, slot_put, with_slot, with_process, with_state, got_made, step_at}
use Rattle.plain_semantics.specs.Machine.{step_made, take_slot, take_at, take_made, next_request, entered_at}
use Rattle.plain_semantics.specs.Machine.{enter_request, enter_made, print_made}
use Rattle.plain_semantics.specs.Openers.{opener_of}
use Rattle.plain_semantics.proofs.Writes.{call-next}
use Rattle.schedule.specs.declared.event.Event.{Event}
use Rattle.schedule.specs.declared.event.Event.TheVariants as event
use Rattle.schedule.specs.declared.line.Line.{Line}
use Rattle.schedule.specs.declared.line.Line.TheVariants as line
use Rattle.plain_machine.specs.Lines.{happened, repeated, line_played}
use Rattle.plain_machine.specs.Outcomes.{plain_after}
use Rattle.plain_machine.specs.Rounds.{Ran, ran_on, tried, swept, enter_of, next_move, print_of, round, rounds_on}
use Rattle.plain_machine.specs.Writes.{most_write, round_acts, line_acts}

-- Of a list of processes

pub write-at : (processes : List PlainProcess) (number : ℕ) (one : PlainProcess) → slice_get processes number ≡ Some one
    → last_write_of one.state ≤ most_write processes
write-at [] number one there = absurd (cc there)
write-at (first ∷ rest) zero one there =
    let same : first ≡ one = cc there in
    omega (arith, ap (λ (p : PlainProcess). last_write_of p.state) same)
write-at (first ∷ rest) (suc k) one there = omega (arith, write-at rest k one there)

write-set : (processes : List PlainProcess) (number most : ℕ) (one : PlainProcess) → most_write processes ≤ most
    → last_write_of one.state ≤ most
    → most_write (slice_set processes number one) ≤ most
write-set [] number most one all low = all
write-set (first ∷ rest) zero most one all low = omega (arith, all, low)
write-set (first ∷ rest) (suc k) most one all low =
    omega (arith, all, write-set rest k most one (omega (arith, all)) low)

-- Of the steps of a process

last-inner : (s : ProcessState) → last_write_of (process.after_inner s) ≡ last_write_of s
last-inner (Runs code s) = refl
last-inner (Serves sectors s) = refl

last-took : (s : ProcessState) (words : List ℤ) → last_write_of (process.after_took s words) ≡ last_write_of s
last-took (Runs code s) words = refl
last-took (Serves sectors s) words = refl

last-asked : (s : ProcessState) → last_write_of (process.after_asked s) ≡ last_write_of s
last-asked (Runs code s) = refl
last-asked (Serves sectors s) = refl

last-got : (s : ProcessState) (words : List ℤ) → last_write_of (process.after_got s words) ≡ last_write_of s
last-got (Runs code s) words = refl
last-got (Serves sectors s) words = refl

last-answered : (s : ProcessState) → last_write_of (process.after_answered s) ≡ last_write_of s
last-answered (Runs code s) = refl
last-answered (Serves sectors s) = refl

last-checkpointed : (s : ProcessState) → last_write_of (process.after_checkpoint s) ≡ last_write_of s
last-checkpointed (Runs code s) = refl
last-checkpointed (Serves sectors s) = refl

last-device : (s : ProcessState) (found : List ℤ) → last_write_of (process.after_device s found) ≤ last_write_of s + 1
last-device (Runs code s) found = omega arith
last-device (Serves sectors s) found = call-next sectors s.last_write (unwrap_or s.request [])

-- Of acts

-- an act that was made came to no greater number
abbrev Within : ℕ → Option Made → Type 0
Within most None = Unit {0}
Within most (Some m) = most_write m.plain.processes ≤ most

write-put : (most : ℕ) (opener : Opener) (slot : Slot) (plain : Plain) (server : Option PlainProcess)
    → slice_get plain.processes opener.server ≡ server
    → most_write plain.processes ≤ most → most_write (slot_put opener slot plain server).processes ≤ most
write-put most opener slot plain None there low = low
write-put most opener slot plain (Some server) there low =
    write-set plain.processes opener.server most (record server { slots = slice_set server.slots opener.place slot })
    low
    (omega (arith, low, write-at plain.processes opener.server server there))

write-slot : (most : ℕ) (opener : Option Opener) (slot : Slot) (plain : Plain) → most_write plain.processes ≤ most
    → most_write (with_slot opener slot plain).processes ≤ most
write-slot most None slot plain low = low
write-slot most (Some opener) slot plain low =
    write-put most opener slot plain (slice_get plain.processes opener.server) refl low

module _ (site : Site) (plain : Plain) where
  abbrev next : ℕ
  next = most_write plain.processes + 1

  module _ (number : ℕ) (one : PlainProcess) (there : slice_get plain.processes number ≡ Some one) where
    write-one : (changed : PlainProcess) → last_write_of changed.state ≤ last_write_of one.state + 1
        → most_write (with_process number changed plain).processes ≤ next
    write-one changed low =
        write-set plain.processes number next changed (omega arith)
        (omega (arith, low, write-at plain.processes number one there))

    write-state : (state : ProcessState) → last_write_of state ≡ last_write_of one.state
        → most_write (with_state number one state plain).processes ≤ next
    write-state state same = write-one (record one { state = state }) (omega (arith, same))

    got-within : (opener : Option Opener) (slot : Option Slot) → Within next (got_made number one opener plain slot)
    got-within opener None = tt
    got-within opener (Some Empty) = tt
    got-within opener (Some (Waiting words)) = tt
    got-within opener (Some Taken) = tt
    got-within opener (Some (Answered words)) =
        write-slot next opener Empty (with_state number one (process.after_got one.state words) plain)
        (write-state (process.after_got one.state words) (last-got one.state words))

    step-at-within : (stands : Point) → Within next (step_at site number one plain stands)
    step-at-within point.Inner = write-state (process.after_inner one.state) (last-inner one.state)
    step-at-within point.Ask =
        write-slot next (own_opener site number one) (Waiting (process.asked_words one.state))
        (with_state number one (process.after_asked one.state) plain)
        (write-state (process.after_asked one.state) (last-asked one.state))
    step-at-within point.Await = got-within (own_opener site number one) (slot_of plain (own_opener site number one))
    step-at-within point.Answer =
        write-slot next _ (Answered (process.answer_of one.state))
        (with_process number (record one { state = process.after_answered one.state; hand = None }) plain)
        (write-one (record one { state = process.after_answered one.state; hand = None })
        (omega (arith, last-answered one.state)))
    step-at-within point.AtCheckpoint = write-state (process.after_checkpoint one.state) (last-checkpointed one.state)
    step-at-within point.Device = write-one _ (last-device one.state _)
    step-at-within point.Take = tt
    step-at-within point.Ended = tt

    take-slot-within : (place : ℕ) (slot : Option Slot) → Within next (take_slot number place one plain slot)
    take-slot-within place None = tt
    take-slot-within place (Some Empty) = tt
    take-slot-within place (Some Taken) = tt
    take-slot-within place (Some (Answered words)) = tt
    take-slot-within place (Some (Waiting words)) = write-one _ (omega (arith, last-took one.state words))

    take-at-within : (place : ℕ) (stands : Point) → Within next (take_at number place one plain stands)
    take-at-within place point.Take = take-slot-within place (slice_get one.slots place)
    take-at-within place point.Inner = tt
    take-at-within place point.Ask = tt
    take-at-within place point.Await = tt
    take-at-within place point.Answer = tt
    take-at-within place point.AtCheckpoint = tt
    take-at-within place point.Device = tt
    take-at-within place point.Ended = tt

  step-within : (number : ℕ) (found : Option PlainProcess) → slice_get plain.processes number ≡ found
      → Within next (step_made site number plain found)
  step-within number None there = tt
  step-within number (Some one) there = step-at-within number one there (process.point one.state)

  take-within : (number place : ℕ) (found : Option PlainProcess) → slice_get plain.processes number ≡ found
      → Within next (take_made number place plain found)
  take-within number place None there = tt
  take-within number place (Some one) there = take-at-within number one there place (process.point one.state)

  enter-request-within : (terminal : ℕ) (opener : Option Opener) (words : Option (List ℤ))
      → Within next (enter_request terminal opener plain words)
  enter-request-within terminal opener None = tt
  enter-request-within terminal opener (Some words) =
      write-slot next opener (Waiting words) (record plain
      { entered = slice_set plain.entered terminal (entered_at plain terminal + 1) }) (omega arith)

  enter-within : (terminal : ℕ) (opener : Option Opener) (slot : Option Slot)
      → Within next (enter_made site terminal opener plain slot)
  enter-within terminal opener None = tt
  enter-within terminal opener (Some Empty) =
      enter-request-within terminal opener (next_request site terminal (entered_at plain terminal))
  enter-within terminal opener (Some Taken) = tt
  enter-within terminal opener (Some (Waiting words)) = tt
  enter-within terminal opener (Some (Answered words)) = tt

  print-within : (terminal : ℕ) (opener : Option Opener) (slot : Option Slot)
      → Within next (print_made terminal opener plain slot)
  print-within terminal opener None = tt
  print-within terminal opener (Some Empty) = tt
  print-within terminal opener (Some Taken) = tt
  print-within terminal opener (Some (Waiting words)) = tt
  print-within terminal opener (Some (Answered words)) = write-slot next opener Empty plain (omega arith)

  made-within : (act : Act) → Within next (made site plain act)
  made-within (Step number) = step-within number (slice_get plain.processes number) refl
  made-within (Take number place) = take-within number place (slice_get plain.processes number) refl
  made-within (Enter terminal) =
      enter-within terminal (opener_of site (who.Terminal terminal))
      (slot_of plain (opener_of site (who.Terminal terminal)))
  made-within (Print terminal) =
      print-within terminal (opener_of site (who.Terminal terminal))
      (slot_of plain (opener_of site (who.Terminal terminal)))

  pub settled-within : (act : Act) (new : Plain) → new ≡ plain_after plain (made site plain act)
      → most_write new.processes ≤ most_write plain.processes + 1
  settled-within act new settled = by (made site plain act) settled (made-within act)
    where
      by : (all : Option Made) → new ≡ plain_after plain all → Within next all → most_write new.processes ≤ next
      by None is low = omega (arith, ap (λ (p : Plain). most_write p.processes) is)
      by (Some m) is low = omega (arith, low, ap (λ (p : Plain). most_write p.processes) is)

-- Of a run

ran-within : (ran : Ran) (act : Act) (m : Option Made) → Within (most_write ran.plain.processes + 1) m
    → most_write (ran_on ran act m).plain.processes ≤ most_write ran.plain.processes + 1
ran-within ran act None low = omega arith
ran-within ran act (Some m) low = low

pub tried-within : (site : Site) (act : Act) (ran : Ran)
    → most_write (tried site act ran).plain.processes ≤ most_write ran.plain.processes + 1
tried-within site act ran = ran-within ran act (made site ran.plain act) (made-within site ran.plain act)

pub swept-within : (site : Site) (act : Plain → ℕ → Act) (n left : ℕ) (ran : Ran)
    → most_write (swept site act n left ran).plain.processes ≤ most_write ran.plain.processes + left
swept-within site act n zero ran = omega arith
swept-within site act n (suc left) ran =
    omega (
      arith,
      swept-within site act (n + 1) left (tried site (act ran.plain n) ran),
      tried-within site (act ran.plain n) ran,
    )

pub round-within : (site : Site) (ran : Ran)
    → most_write (round site ran).plain.processes ≤ most_write ran.plain.processes + round_acts site
round-within site ran =
    let entered = swept site enter_of 0 (length site.terminals) ran in
    let moved = swept site next_move 0 (length site.processes) entered in
    omega (
      arith,
      swept-within site enter_of 0 (length site.terminals) ran,
      swept-within site next_move 0 (length site.processes) entered,
      swept-within site print_of 0 (length site.terminals) moved,
    )

pub happened-within : (site : Site) (event : Event) (ran : Ran)
    → most_write (happened site event ran).plain.processes ≤ most_write ran.plain.processes + 1
happened-within site (event.Run process) ran = tried-within site (next_move ran.plain process) ran
happened-within site (event.Enter terminal) ran = tried-within site (Enter terminal) ran
happened-within site (event.Deliver bus k) ran = omega arith
happened-within site (event.Lose bus k) ran = omega arith
happened-within site (event.Repeat bus k) ran = omega arith
happened-within site (event.Tick node) ran = omega arith
happened-within site (event.Fail processor) ran = omega arith
happened-within site (event.Reload processor) ran = omega arith
happened-within site (event.Drive turn) ran = omega arith

repeated-within : (site : Site) (event : Event) (times : ℕ) (ran : Ran)
    → most_write (repeated site event times ran).plain.processes ≤ most_write ran.plain.processes + times
repeated-within site event zero ran = omega arith
repeated-within site event (suc left) ran =
    omega (arith, repeated-within site event left (happened site event ran), happened-within site event ran)

pub times-more : (k n : ℕ) → suc k * n ≡ n + k * n
times-more k n = omega (arith, mul_comm (suc k) n, mul-suc n k, mul_comm n k)

rounds-within : (site : Site) (count : ℕ) (ran : Ran)
    → most_write (rounds_on site count ran).plain.processes ≤ most_write ran.plain.processes + count * round_acts site
rounds-within site zero ran = omega arith
rounds-within site (suc left) ran =
    omega (arith, rounds-within site left (round site ran), round-within site ran, times-more left (round_acts site))

pub line-within : (site : Site) (line : Line) (ran : Ran)
    → most_write (line_played site line ran).plain.processes ≤ most_write ran.plain.processes + line_acts site line
line-within site (line.One event) ran = happened-within site event ran
line-within site (line.Many event times) ran = repeated-within site event times ran
line-within site (line.Drain rounds) ran = rounds-within site rounds ran
line-within site (line.Mix start rounds) ran = omega arith
line-within site (line.Mute node rounds) ran = omega arith
line-within site (line.Until writes count rounds) ran = omega arith

-- one turn more of so many
pub turn-within : (k n size : ℕ) → k < n → k * size + size ≤ n * size
turn-within k zero size within = absurd (omega (arith, within))
turn-within zero (suc n) size within = omega (arith, times-more n size)
turn-within (suc k) (suc n) size within =
    omega (arith, turn-within k n size (omega (arith, within)), times-more k size, times-more n size)

-- At the beginning

start-last : (what : Kind) → last_write_of (process.start_of what) ≡ 0
start-last (kind.Disc sectors mirrored) = refl
start-last (kind.Pair program) = refl

first-none : (site : Site) (number : ℕ) (specs : List ProcessSpec)
    → most_write (processes_at_first site number specs) ≡ 0
first-none site number [] = refl
first-none site number (spec ∷ specs) = omega (arith, start-last spec.what, first-none site (number + 1) specs)

pub start-none : (site : Site) → most_write (plain_start site).processes ≡ 0
start-none site = first-none site 0 site.processes
