-- What the grammar of decks spells of some lines, and decks that the guards name.
use Rattle.std.specs.Prelude.{ℕ, ◌+◌, zero, suc, pos, negsuc, true, false, List, [], ◌∷◌, ◌++◌, codes}
use Rattle.schedule.specs.declared.bus_name.BusName.TheVariants as bus
use Rattle.schedule.specs.declared.event.DriveChange.{DriveChange}
use Rattle.schedule.specs.declared.event.DriveChange.TheVariants.{Break, Copy, Revive}
use Rattle.schedule.specs.declared.event.Event.{Event}
use Rattle.schedule.specs.declared.event.Event.TheVariants as event
use Rattle.schedule.specs.declared.line.Line.{Line}
use Rattle.schedule.specs.declared.line.Line.TheVariants as line
use Rattle.tal_tree.specs.declared.site.Kind.TheVariants as kind
use Rattle.tal_tree.specs.declared.site.ProcessSpec.{ProcessSpec}
use Rattle.tal_tree.specs.declared.site.TerminalSpec.{TerminalSpec}
use Rattle.deck_reader.specs.declared.deck.Deck.{Deck}
use Rattle.deck_grammar.specs.Grammar.{text_of}
use Rattle.deck_grammar.specs.Spells.{Spells}

-- the lines spell this deck, and no deck
abbrev pub LinesSpell : List (List ℕ) → Deck → Type 0
LinesSpell lines deck = Spells (text_of lines) deck

abbrev pub SpellNone : List (List ℕ) → Type 0
SpellNone lines = (deck : Deck) → LinesSpell lines deck → ⊥

-- so many processors, and what a schedule asks of them
abbrev pub bare : ℕ → List Line → Deck
bare processors lines =
    record { site = record { processors = processors; processes = []; terminals = [] }; lines = lines }

-- lines between those of the processors and of the schedule, and event lines
abbrev pub with_blocks : List (List ℕ) → List (List ℕ)
with_blocks blocks = codes "processors 3" ∷ blocks ++ codes "schedule" ∷ codes "END" ∷ []

abbrev pub with_events : List (List ℕ) → List (List ℕ)
with_events events = codes "processors 3" ∷ codes "schedule" ∷ events ++ codes "END" ∷ []

-- event lines of a disc, and of a mirrored one
abbrev pub with_a_disc : List (List ℕ) → List (List ℕ)
with_a_disc events =
    codes "processors 3" ∷ codes "disc $D 0 1 8" ∷ codes "schedule" ∷ events ++ codes "END" ∷ []

abbrev pub with_a_mirror : List (List ℕ) → List (List ℕ)
with_a_mirror events =
    codes "processors 3" ∷ codes "mirror $M 0 1 8" ∷ codes "schedule" ∷ events ++ codes "END" ∷ []

-- a drive that breaks, and is revived and filled
abbrev pub mirror_lines : List (List ℕ)
mirror_lines = with_a_mirror (codes "break $M 1" ∷ codes "revive $m 1" ∷ codes "copy $M 1" ∷ codes "copy $M 1 7" ∷ [])

abbrev pub second_drive : DriveChange → Event
second_drive change = event.Drive (record { process = 0; drive = 1; change = change })

abbrev pub mirrored_disc : ProcessSpec
mirrored_disc = record { name = codes "$M"; primary = 0; backup = 1; what = kind.Disc 8 true }

abbrev pub drive_lines : List Line
drive_lines =
    line.One (second_drive Break) ∷ line.One (second_drive Revive) ∷ line.One (second_drive Copy)
    ∷ line.Many (second_drive Copy) 7 ∷ []

abbrev pub mirrored : Deck
mirrored = record {
  site = record { processors = 3; processes = mirrored_disc ∷ []; terminals = [] };
  lines = drive_lines;
}

-- a disc under a name of one letter, and so many of them
abbrev pub disc_line : ℕ → List ℕ
disc_line number = codes "disc $" ++ (65 + number) ∷ codes " 0 1 8"

abbrev pub disc_lines : ℕ → List (List ℕ)
disc_lines zero = []
disc_lines (suc number) = disc_line number ∷ disc_lines number

-- terminals of a disc
abbrev pub terminal_lines : ℕ → List (List ℕ)
terminal_lines zero = []
terminal_lines (suc number) = (codes "terminal $" ++ (65 + number) ∷ codes " $D0") ∷ terminal_lines number

-- a terminal that asks the disc of a later line, and events of both
abbrev pub asking_lines : List (List ℕ)
asking_lines =
    codes "# remark" ∷ codes " processors  002 " ∷ [] ∷ codes "terminal $t $D" ∷ codes "send 5 -7" ∷ codes " "
    ∷ codes "send" ∷ codes "disc $d 1 0 64"
    ∷ codes "schedule" ∷ codes "run $D 3" ∷ codes "enter $T" ∷ codes "lose y 007" ∷ codes "tick 16" ∷ codes "END"
    ∷ codes "# END" ∷ []

abbrev pub asked_disc : ProcessSpec
asked_disc = record { name = codes "$D"; primary = 1; backup = 0; what = kind.Disc 64 false }

abbrev pub asking_terminal : TerminalSpec
asking_terminal = record { name = codes "$T"; target = 0; requests = (pos 5 ∷ negsuc 6 ∷ []) ∷ [] ∷ [] }

abbrev pub later_events : List Line
later_events = line.One (event.Lose bus.Y 7) ∷ line.One (event.Tick 16) ∷ []

abbrev pub asking : Deck
asking = record {
  site = record { processors = 2; processes = asked_disc ∷ []; terminals = asking_terminal ∷ [] };
  lines = line.Many (event.Run 0) 3 ∷ line.One (event.Enter 0) ∷ later_events;
}
