-- The machine of single unfailing processes: its state, which acts are possible in it, what they change and what they
-- show.
use Rattle.std.specs.Prelude.{ℕ, ◌+◌, ℤ, ◌≡◌, List, [], ◌∷◌, ◌++◌, map, replicate, slice_get, slice_set, Option, Some}
use Rattle.std.specs.Prelude.{None}
use Rattle.std.specs.Option.{option_map, option_and_then, unwrap_or, IsSome}
use Rattle.process_semantics.specs.gd_words.specs.declared.device.DeviceCall.{DeviceCall}
use Rattle.process_semantics.specs.gd_words.specs.declared.device.DeviceCall.TheVariants as call
use Rattle.process_semantics.specs.tal_tree.specs.declared.act.Act.{Act}
use Rattle.process_semantics.specs.tal_tree.specs.declared.act.Act.TheVariants.{Step, Take, Enter, Print}
use Rattle.process_semantics.specs.tal_tree.specs.declared.act.Shown.{Shown}
use Rattle.process_semantics.specs.tal_tree.specs.declared.act.Shown.TheVariants.{Write, Reply}
use Rattle.process_semantics.specs.tal_tree.specs.declared.site.Site.{Site}
use Rattle.process_semantics.specs.tal_tree.specs.declared.site.ProcessSpec.{ProcessSpec}
use Rattle.process_semantics.specs.tal_tree.specs.declared.site.Kind.{Kind}
use Rattle.process_semantics.specs.tal_tree.specs.declared.site.Kind.TheVariants as kind
use Rattle.process_semantics.specs.tal_tree.specs.declared.site.Who.TheVariants as who
use Rattle.process_semantics.specs.declared.point.Point.{Point}
use Rattle.process_semantics.specs.declared.point.Point.TheVariants as point
use Rattle.process_semantics.specs.Process as process
use Rattle.process_semantics.specs.State.{zeros}
use Rattle.plain_semantics.specs.declared.slot.Opener.{Opener}
use Rattle.plain_semantics.specs.declared.slot.Slot.{Slot}
use Rattle.plain_semantics.specs.declared.slot.Slot.TheVariants.{Empty, Waiting, Taken, Answered}
use Rattle.plain_semantics.specs.Openers.{openers_of, opener_of}
use Rattle.process_semantics.specs.gd_words.specs.declared.limits.TheConstants.{SECTOR_WORDS}

-- a process: its state, the place of the opener whose request is in hand, a slot for each of its openers, and the
-- sectors of a disc
pub record PlainProcess : Type 0 where
  pub state : process.ProcessState
  pub hand : Option ℕ
  pub slots : List Slot
  pub sectors : List (List ℤ)

-- the state of the machine: its processes, and for each terminal how many requests it has entered
pub record Plain : Type 0 where
  pub processes : List PlainProcess
  pub entered : List ℕ

-- a disc's sectors, all zero
abbrev pub sectors_at_first : Kind → List (List ℤ)
sectors_at_first (kind.Disc sectors mirrored) = replicate sectors (zeros SECTOR_WORDS)
sectors_at_first (kind.Pair program) = []

-- a process at its beginning, with an empty slot for each opener
abbrev pub process_at_first : Site → ℕ → ProcessSpec → PlainProcess
process_at_first site number spec = record {
  state = process.start_of spec.what;
  hand = None;
  slots = map (λ opener. Empty) (openers_of site number);
  sectors = sectors_at_first spec.what;
}

-- processes at their beginning, from a place in the deck on
abbrev pub processes_at_first : Site → ℕ → List ProcessSpec → List PlainProcess
processes_at_first site number [] = []
processes_at_first site number (spec ∷ specs) =
    process_at_first site number spec ∷ processes_at_first site (number + 1) specs

-- all states are at their beginning, all slots empty, all sectors zero
abbrev pub plain_start : Site → Plain
plain_start site =
    record { processes = processes_at_first site 0 site.processes; entered = map (λ terminal. 0) site.terminals }

-- Slots

-- the slot of an opener
abbrev pub slot_at : Plain → Opener → Option Slot
slot_at plain opener =
    option_and_then (λ server. slice_get server.slots opener.place) (slice_get plain.processes opener.server)

-- the slot of an opener, if there is an opener
abbrev pub slot_of : Plain → Option Opener → Option Slot
slot_of plain opener = option_and_then (slot_at plain) opener

-- the machine with a process changed
abbrev pub with_process : ℕ → PlainProcess → Plain → Plain
with_process number changed plain = record plain { processes = slice_set plain.processes number changed }

-- the machine with a slot of this server changed
abbrev pub slot_put : Opener → Slot → Plain → Option PlainProcess → Plain
slot_put opener slot plain None = plain
slot_put opener slot plain (Some server) =
    with_process opener.server (record server { slots = slice_set server.slots opener.place slot }) plain

-- the machine with a slot changed
abbrev pub with_slot : Option Opener → Slot → Plain → Plain
with_slot None slot plain = plain
with_slot (Some opener) slot plain = slot_put opener slot plain (slice_get plain.processes opener.server)

-- the machine with the state of a process changed
abbrev pub with_state : ℕ → PlainProcess → process.ProcessState → Plain → Plain
with_state number old state plain = with_process number (record old { state = state }) plain

-- Acts

-- an act that was made: the machine after it, and what it shows
pub record Made : Type 0 where
  pub plain : Plain
  pub shown : List Shown

-- an act that shows nothing
abbrev pub quiet : Plain → Made
quiet plain = record { plain = plain; shown = [] }

-- the opener that a process is on the file where it stands
abbrev pub own_opener : Site → ℕ → PlainProcess → Option Opener
own_opener site number one = opener_of site (who.File number (process.asked_file one.state))

-- a process takes the reply to what it asked
abbrev pub got_made : ℕ → PlainProcess → Option Opener → Plain → Option Slot → Option Made
got_made number one opener plain (Some (Answered words)) =
    Some (quiet (with_slot opener Empty (with_state number one (process.after_got one.state words) plain)))
got_made number one opener plain _ = None

-- the opener of this process whose request is in hand
abbrev pub answered_by : ℕ → Option ℕ → Option Opener
answered_by number hand = option_map (λ place. record { server = number; place = place }) hand

-- the reply goes to the opener whose request is in hand
abbrev pub answer_made : ℕ → PlainProcess → Plain → Plain
answer_made number one plain =
    with_slot (answered_by number one.hand) (Answered (process.answer_of one.state))
    (with_process number (record one { state = process.after_answered one.state; hand = None }) plain)

-- the words that stand on the sector of a read
abbrev pub found_by : List (List ℤ) → DeviceCall → List ℤ
found_by sectors (call.Read sector) = unwrap_or (slice_get sectors sector) (zeros SECTOR_WORDS)
found_by sectors _ = zeros SECTOR_WORDS

-- the sectors after an act on the device
abbrev pub written_by : List (List ℤ) → DeviceCall → List (List ℤ)
written_by sectors (call.Write sector words number) = slice_set sectors sector words
written_by sectors _ = sectors

-- what an act on the device shows: a write
abbrev pub shown_by_device : ℕ → DeviceCall → List Shown
shown_by_device number (call.Write sector words written) = Write number sector words ∷ []
shown_by_device number _ = []

-- an act on the disc device; a write is shown
abbrev pub device_made : ℕ → PlainProcess → Plain → DeviceCall → Made
device_made number one plain asked = record {
  plain = with_process number
      (record one {
        state = process.after_device one.state (found_by one.sectors asked);
        sectors = written_by one.sectors asked;
      }) plain;
  shown = shown_by_device number asked;
}

-- the step of a process at this point
abbrev pub step_at : Site → ℕ → PlainProcess → Plain → Point → Option Made
step_at site number one plain point.Inner = Some (quiet (with_state number one (process.after_inner one.state) plain))
step_at site number one plain point.Ask =
    Some (quiet (with_slot (own_opener site number one) (Waiting (process.asked_words one.state))
    (with_state number one (process.after_asked one.state) plain)))
step_at site number one plain point.Await =
    got_made number one (own_opener site number one) plain (slot_of plain (own_opener site number one))
step_at site number one plain point.Answer = Some (quiet (answer_made number one plain))
step_at site number one plain point.AtCheckpoint =
    Some (quiet (with_state number one (process.after_checkpoint one.state) plain))
step_at site number one plain point.Device = Some (device_made number one plain (process.call_of one.state))
step_at site number one plain point.Take = None
step_at site number one plain point.Ended = None

-- Step(p): p's step, where p isn't at Take or Ended, and at Await only where the slot that it asked is answered
abbrev pub step_made : Site → ℕ → Plain → Option PlainProcess → Option Made
step_made site number plain None = None
step_made site number plain (Some one) = step_at site number one plain (process.point one.state)

-- Take from this slot
abbrev pub take_slot : ℕ → ℕ → PlainProcess → Plain → Option Slot → Option Made
take_slot number place one plain (Some (Waiting words)) =
    Some (quiet (with_process number
    (record one {
      state = process.after_took one.state words;
      hand = Some place;
      slots = slice_set one.slots place Taken;
    }) plain))
take_slot number place one plain _ = None

-- Take of a process at this point
abbrev pub take_at : ℕ → ℕ → PlainProcess → Plain → Point → Option Made
take_at number place one plain point.Take = take_slot number place one plain (slice_get one.slots place)
take_at number place one plain _ = None

-- Take(p, o): p at Take takes the request that waits in the slot of its opener o
abbrev pub take_made : ℕ → ℕ → Plain → Option PlainProcess → Option Made
take_made number place plain None = None
take_made number place plain (Some one) = take_at number place one plain (process.point one.state)

-- how many requests a terminal has entered
abbrev pub entered_at : Plain → ℕ → ℕ
entered_at plain terminal = unwrap_or (slice_get plain.entered terminal) 0

-- the request of a terminal after so many
abbrev pub next_request : Site → ℕ → ℕ → Option (List ℤ)
next_request site terminal entered =
    option_and_then (λ spec. slice_get spec.requests entered) (slice_get site.terminals terminal)

-- Enter of this request
abbrev pub enter_request : ℕ → Option Opener → Plain → Option (List ℤ) → Option Made
enter_request terminal opener plain None = None
enter_request terminal opener plain (Some words) =
    Some (quiet (with_slot opener (Waiting words)
    (record plain { entered = slice_set plain.entered terminal (entered_at plain terminal + 1) })))

-- Enter(t): the terminal's next request waits in its slot, which is empty
abbrev pub enter_made : Site → ℕ → Option Opener → Plain → Option Slot → Option Made
enter_made site terminal opener plain (Some Empty) =
    enter_request terminal opener plain (next_request site terminal (entered_at plain terminal))
enter_made site terminal opener plain _ = None

-- Print(t): the reply in the terminal's slot is shown with the number of its request
abbrev pub print_made : ℕ → Option Opener → Plain → Option Slot → Option Made
print_made terminal opener plain (Some (Answered words)) =
    Some (record {
      plain = with_slot opener Empty plain;
      shown = Reply terminal (entered_at plain terminal) words ∷ [];
    })
print_made terminal opener plain _ = None

-- an act in a state of the machine; none where it isn't possible
abbrev pub made : Site → Plain → Act → Option Made
made site plain (Step number) = step_made site number plain (slice_get plain.processes number)
made site plain (Take number place) = take_made number place plain (slice_get plain.processes number)
made site plain (Enter terminal) = enter_made site terminal (opener_of site (who.Terminal terminal)) plain
    (slot_of plain (opener_of site (who.Terminal terminal)))
made site plain (Print terminal) = print_made terminal (opener_of site (who.Terminal terminal)) plain
    (slot_of plain (opener_of site (who.Terminal terminal)))

-- Lists of acts

-- an act after others that showed these
abbrev pub made_before : List Shown → Made → Made
made_before shown m = record m { shown = shown ++ m.shown }

-- acts one after the other: the machine after them and all that they show; none where one isn't possible
abbrev pub made_all : Site → Plain → List Act → Option Made
made_all site plain [] = Some (quiet plain)
made_all site plain (act ∷ acts) = option_and_then
    (λ first. option_map (made_before first.shown) (made_all site first.plain acts)) (made site plain act)

-- acts that go on after others, which came to m
abbrev pub made_after : Site → List Act → Made → Option Made
made_after site acts m = option_map (made_before m.shown) (made_all site m.plain acts)

-- the acts are possible: each in the state that the acts before it leave
abbrev pub IsPossible : Site → List Act → Type 0
IsPossible site acts = IsSome (made_all site (plain_start site) acts)

-- what the acts show, in order
abbrev pub shown_by : Site → List Act → List Shown
shown_by site acts = unwrap_or (option_map (λ m. m.shown) (made_all site (plain_start site) acts)) []

-- no act is possible
abbrev pub IsStill : Site → Plain → Type 0
IsStill site plain = (act : Act) → made site plain act ≡ None

-- the acts are possible, and after them no act is
abbrev pub IsNoneLeft : Site → List Act → Type 0
IsNoneLeft site acts = (m : Made) × (made_all site (plain_start site) acts ≡ Some m) × IsStill site m.plain
