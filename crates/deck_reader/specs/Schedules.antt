-- What the event lines of a deck ask for together, and the limits of that: 1,000,000 single events and 100,000 rounds.
use Rattle.std.specs.Prelude.{◌≡◌, ◌⊎◌, ◌<◌, ◌≤◌, ℕ, ◌+◌, List, [], ◌∷◌}
use Rattle.schedule.specs.declared.event.DriveChange.TheVariants.{Copy}
use Rattle.schedule.specs.declared.event.Event.{Event}
use Rattle.schedule.specs.declared.event.Event.TheVariants as event
use Rattle.schedule.specs.declared.line.Line.{Line}
use Rattle.schedule.specs.declared.line.Line.TheVariants as line
use Rattle.gd_words.specs.declared.limits.TheConstants.{TERMINAL_NODE}

-- how many single events a line asks for
abbrev pub singles_in : Line → ℕ
singles_in (line.One one) = 1
singles_in (line.Many one times) = times
singles_in _ = 0

-- how many rounds a line asks for at most
abbrev pub rounds_in : Line → ℕ
rounds_in (line.Drain rounds) = rounds
rounds_in (line.Mix start rounds) = rounds
rounds_in (line.Mute node rounds) = rounds
rounds_in (line.Until writes count rounds) = rounds
rounds_in _ = 0

-- how many single events lines ask for together
abbrev pub singles_of : List Line → ℕ
singles_of [] = 0
singles_of (one ∷ lines) = singles_in one + singles_of lines

-- how many rounds lines ask for together at most
abbrev pub rounds_of : List Line → ℕ
rounds_of [] = 0
rounds_of (one ∷ lines) = rounds_in one + rounds_of lines

-- what is asked for so many times: a step of one of so many processes, or a sector copied on a drive of one
abbrev pub IsManyBelow : ℕ → Event → Type 0
IsManyBelow processes (event.Run place) = place < processes
IsManyBelow processes (event.Drive one) = (one.process < processes) × (one.change ≡ Copy)
IsManyBelow processes _ = ⊥

-- a processor of so many, or node 16, which is that of the terminals
abbrev pub IsNodeOf : ℕ → ℕ → Type 0
IsNodeOf processors node = (node < processors) ⊎ (node ≡ TERMINAL_NODE)

-- an event of a site with so many processors, processes and terminals: a step of a process, the next request of a
-- terminal, what becomes of a packet, the tick of a node, the stop or the reload of a processor or what befalls a drive
abbrev pub IsEventOf : ℕ → ℕ → ℕ → Event → Type 0
IsEventOf processors processes terminals (event.Run place) = place < processes
IsEventOf processors processes terminals (event.Enter place) = place < terminals
IsEventOf processors processes terminals (event.Deliver bus k) = Unit {0}
IsEventOf processors processes terminals (event.Lose bus k) = Unit {0}
IsEventOf processors processes terminals (event.Repeat bus k) = Unit {0}
IsEventOf processors processes terminals (event.Tick node) = IsNodeOf processors node
IsEventOf processors processes terminals (event.Fail node) = node < processors
IsEventOf processors processes terminals (event.Reload node) = node < processors
IsEventOf processors processes terminals (event.Drive one) = one.process < processes

-- one such event, one or more steps of a process or copies of a sector, or rounds; those that lose alive packets lose
-- those of a processor
abbrev pub IsLineOf : ℕ → ℕ → ℕ → Line → Type 0
IsLineOf processors processes terminals (line.One one) = IsEventOf processors processes terminals one
IsLineOf processors processes terminals (line.Many one times) = IsManyBelow processes one × (1 ≤ times)
IsLineOf processors processes terminals (line.Drain rounds) = Unit {0}
IsLineOf processors processes terminals (line.Mix start rounds) = Unit {0}
IsLineOf processors processes terminals (line.Mute node rounds) = node < processors
IsLineOf processors processes terminals (line.Until writes count rounds) = Unit {0}
