-- What one more line of a deck adds, or why it can't stand where it does: a rule for each form of line, with its faults
-- in their order. The forms and their limits are our own. The numbers of limits: 1 processes (16), 2 terminals (16), 3
-- requests of a terminal (1,000), 4 words of a request (16), 5 sectors (1 to 64), 6 single events (1,000,000), 7 rounds
-- (100,000), 8 processors (2 to 16).
use Rattle.std.specs.Prelude.{ℕ, ◌+◌, Bool, not, ◌&&◌, ◌||◌, ◌==◌, nat_lt, nat_le, List, [], length, Result, Ok, Err}
use Rattle.std.specs.Prelude.{None, if◌then◌else◌}
use Rattle.name_table.specs.Entries.{Named, has_name}
use Rattle.deck_lines.specs.declared.event_saying.EventSaying.{EventSaying}
use Rattle.deck_lines.specs.declared.event_saying.EventSaying.TheVariants as said
use Rattle.deck_reader.specs.declared.line_fault.LineFault.{LineFault}
use Rattle.deck_reader.specs.declared.line_fault.LineFault.TheVariants as fault
use Rattle.deck_reader.specs.declared.outline.Body.{Body}
use Rattle.deck_reader.specs.declared.outline.Body.TheVariants as body
use Rattle.deck_reader.specs.declared.outline.Heading.{Heading}
use Rattle.deck_reader.specs.declared.outline.Outline.{Outline}
use Rattle.deck_reader.specs.declared.outline.ProcessLines.{ProcessLines}
use Rattle.deck_reader.specs.declared.outline.Sums.{Sums}
use Rattle.deck_reader.specs.declared.outline.TerminalLines.{TerminalLines}
use Rattle.deck_lines.specs.declared.saying.Placing.{Placing}
use Rattle.gd_words.specs.declared.limits.TheConstants.{MOST_PROCESSES, MOST_PROCESSORS, MOST_ROUNDS, MOST_SECTORS}
use Rattle.gd_words.specs.declared.limits.TheConstants.{MOST_SINGLES, MOST_TERMINALS, TERMINAL_NODE}
use Rattle.tal_tree.specs.declared.limit.DeckLimit.TheVariants as deck_limit

-- `processors N`: a site of 2 to 16 processors, with nothing else yet
abbrev pub outline_with : ℕ → Outline
outline_with processors = record {
  processors = processors;
  processes = [];
  terminals = [];
  events = record { lines = []; sums = record { singles = 0; rounds = 0 }; unknown = None };
}

abbrev pub processors_of : ℕ → Result Outline LineFault
processors_of count =
    if nat_lt count 2 then Err (fault.Limit deck_limit.Processors)
    else if nat_lt MOST_PROCESSORS count then Err (fault.Limit deck_limit.Processors)
    else Ok (outline_with count)

-- no process and no terminal has the name
abbrev pub is_new : Outline → List ℕ → Bool
is_new outline name = not (has_name outline.processes name) && not (has_name outline.terminals name)

-- `NAME P B`: a new name, and two different processors of the site; there are at most 16 processes
abbrev pub heading_of : Outline → Placing → Result Heading LineFault
heading_of outline placing =
    if not (is_new outline placing.name) then Err fault.NameTwice
    else if placing.primary == placing.backup then Err fault.SameProcessor
    else if nat_le outline.processors placing.primary then Err fault.NoProcessor
    else if nat_le outline.processors placing.backup then Err fault.NoProcessor
    else if nat_le MOST_PROCESSES (length outline.processes) then Err (fault.Limit deck_limit.Processes)
    else Ok (record { name = placing.name; primary = placing.primary; backup = placing.backup })

-- a process: under the name of its heading stand the processors of its two copies, and what it is
abbrev pub process_with : Heading → Body → Named ProcessLines
process_with heading body = (heading.name, record { primary = heading.primary; backup = heading.backup; body = body })

-- 1 to 64 sectors
abbrev pub with_sectors : ℕ → Bool → Result Heading LineFault → Result (Named ProcessLines) LineFault
with_sectors sectors mirrored (Err why) = Err why
with_sectors sectors mirrored (Ok heading) =
    if nat_lt sectors 1 then Err (fault.Limit deck_limit.Sectors)
    else if nat_lt MOST_SECTORS sectors then Err (fault.Limit deck_limit.Sectors)
    else Ok (process_with heading (body.Disc sectors mirrored))

-- `disc NAME P B SECTORS` and `mirror NAME P B SECTORS`
abbrev pub disc_of : Outline → Placing → ℕ → Bool → Result (Named ProcessLines) LineFault
disc_of outline placing sectors mirrored = with_sectors sectors mirrored (heading_of outline placing)

-- `terminal NAME TARGET` on the line of this number: a new name; there are at most 16 terminals
abbrev pub terminal_of : Outline → ℕ → List ℕ → List ℕ → Result TerminalLines LineFault
terminal_of outline line name target =
    if not (is_new outline name) then Err fault.NameTwice
    else if nat_le MOST_TERMINALS (length outline.terminals) then Err (fault.Limit deck_limit.Terminals)
    else Ok (record { line = line; target = target; requests = [] })

-- so many more single events, or rounds
abbrev pub more_singles : Sums → ℕ → Result Sums LineFault
more_singles sums more =
    if nat_lt MOST_SINGLES (sums.singles + more) then Err (fault.Limit deck_limit.Singles) else Ok
    (record { singles = sums.singles + more; rounds = sums.rounds })

abbrev pub more_rounds : Sums → ℕ → Result Sums LineFault
more_rounds sums more =
    if nat_lt MOST_ROUNDS (sums.rounds + more) then Err (fault.Limit deck_limit.Rounds) else Ok
    (record { singles = sums.singles; rounds = sums.rounds + more })

-- `run NAME TIMES` and `copy NAME D TIMES`: at least once
abbrev pub times_asks : Sums → ℕ → Result Sums LineFault
times_asks sums times = if nat_lt times 1 then Err fault.Form else more_singles sums times

-- `tick N`: a processor of the site, or node 16, which is that of the terminals
abbrev pub tick_asks : ℕ → Sums → ℕ → Result Sums LineFault
tick_asks processors sums node =
    if nat_lt node processors || node == TERMINAL_NODE then more_singles sums 1 else Err fault.NoProcessor

-- `fail P` and `reload P`: a processor of the site
abbrev pub processor_asks : ℕ → Sums → ℕ → Result Sums LineFault
processor_asks processors sums processor =
    if nat_lt processor processors then more_singles sums 1 else Err fault.NoProcessor

-- `mute P R`: a processor of the site
abbrev pub mute_asks : ℕ → Sums → ℕ → ℕ → Result Sums LineFault
mute_asks processors sums processor rounds =
    if nat_lt processor processors then more_rounds sums rounds else Err fault.NoProcessor

-- what event lines ask for together with one more, on a site with so many processors
abbrev pub asks : ℕ → Sums → EventSaying → Result Sums LineFault
asks processors sums (said.Run name) = more_singles sums 1
asks processors sums (said.RunTimes name times) = times_asks sums times
asks processors sums (said.Enter name) = more_singles sums 1
asks processors sums (said.Deliver place) = more_singles sums 1
asks processors sums (said.Lose place) = more_singles sums 1
asks processors sums (said.Repeat place) = more_singles sums 1
asks processors sums (said.Tick node) = tick_asks processors sums node
asks processors sums (said.Fail processor) = processor_asks processors sums processor
asks processors sums (said.Reload processor) = processor_asks processors sums processor
asks processors sums (said.Drive name drive change) = more_singles sums 1
asks processors sums (said.CopyTimes name drive times) = times_asks sums times
asks processors sums (said.Drain rounds) = more_rounds sums rounds
asks processors sums (said.Mix start rounds) = more_rounds sums rounds
asks processors sums (said.Mute processor rounds) = mute_asks processors sums processor rounds
asks processors sums (said.Until writes count rounds) = more_rounds sums rounds
