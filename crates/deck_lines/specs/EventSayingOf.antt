-- What an event line of a deck says, after its first word. The forms of these lines are our own.
use Rattle.std.specs.Prelude.{ℕ, nat_lt, Bool, true, false, List, [], ◌∷◌, codes, Option, Some, None, option_map}
use Rattle.std.specs.Prelude.{option_and_then, if◌then◌else◌}
use Rattle.std.specs.Str.{bytes_eq}
use Rattle.gd_words.specs.Spelling.{name_of}
use Rattle.schedule.specs.declared.bus_name.BusName.{BusName}
use Rattle.schedule.specs.declared.bus_name.BusName.TheVariants as bus
use Rattle.schedule.specs.declared.event.DriveChange.{DriveChange}
use Rattle.schedule.specs.declared.event.DriveChange.TheVariants.{Break, Revive, Copy}
use Rattle.deck_lines.specs.Lines.{is_blank, one_word, two_words, three_words}
use Rattle.deck_lines.specs.Numbers.{written_number}
use Rattle.deck_lines.specs.declared.event_saying.EventKeyword.{EventKeyword}
use Rattle.deck_lines.specs.declared.event_saying.EventKeyword.TheVariants as key
use Rattle.deck_lines.specs.declared.event_saying.EventSaying.{EventSaying}
use Rattle.deck_lines.specs.declared.event_saying.EventSaying.TheVariants as said
use Rattle.deck_lines.specs.declared.event_saying.PacketPlace.{PacketPlace}

-- how often a process runs: once, or TIMES times
abbrev pub run_of : List ℕ → List (List ℕ) → Option EventSaying
run_of name parts =
    if is_blank parts then Some (said.Run name) else option_and_then
    (λ word. option_map (λ times. said.RunTimes name times) (written_number word)) (one_word parts)

-- `run NAME` and `run NAME TIMES`
abbrev pub run_said : List (List ℕ) → Option EventSaying
run_said [] = None
run_said (word ∷ parts) = option_and_then (λ name. run_of name parts) (name_of word)

-- `enter NAME`
abbrev pub enter_said : List (List ℕ) → Option EventSaying
enter_said parts = option_and_then (λ word. option_map said.Enter (name_of word)) (one_word parts)

-- a bus is `x` or `y`
abbrev pub bus_of : List ℕ → Option BusName
bus_of word = if bytes_eq word (codes "x") then Some bus.X else if bytes_eq word (codes "y") then Some bus.Y else None

-- `B K`: the packet at position K of bus B
abbrev pub packet_of : List (List ℕ) → Option PacketPlace
packet_of parts = option_and_then (λ words.
    option_and_then (λ name. option_map (λ k. record { bus = name; k = k }) (written_number words.1)) (bus_of words.0))
    (two_words parts)

-- `deliver B K`, `lose B K` and `repeat B K`
abbrev pub deliver_said : List (List ℕ) → Option EventSaying
deliver_said parts = option_map said.Deliver (packet_of parts)

abbrev pub lose_said : List (List ℕ) → Option EventSaying
lose_said parts = option_map said.Lose (packet_of parts)

abbrev pub repeat_said : List (List ℕ) → Option EventSaying
repeat_said parts = option_map said.Repeat (packet_of parts)

-- `tick N`
abbrev pub tick_said : List (List ℕ) → Option EventSaying
tick_said parts = option_and_then (λ word. option_map said.Tick (written_number word)) (one_word parts)

-- `fail P`
abbrev pub fail_said : List (List ℕ) → Option EventSaying
fail_said parts = option_and_then (λ word. option_map said.Fail (written_number word)) (one_word parts)

-- `reload P`
abbrev pub reload_said : List (List ℕ) → Option EventSaying
reload_said parts = option_and_then (λ word. option_map said.Reload (written_number word)) (one_word parts)

-- a drive is 0 or 1
abbrev pub drive_of : List ℕ → Option ℕ
drive_of word = option_and_then (λ drive. if nat_lt drive 2 then Some drive else None) (written_number word)

-- `break NAME D`, `revive NAME D` and `copy NAME D`
abbrev pub drive_named : DriveChange → List (List ℕ) → Option EventSaying
drive_named change parts = option_and_then (λ words.
    option_and_then (λ name. option_map (λ drive. said.Drive name drive change) (drive_of words.1))
    (name_of words.0)) (two_words parts)

-- `copy NAME D TIMES`
abbrev pub copies_said : List (List ℕ) → Option EventSaying
copies_said parts =
    option_and_then (λ words. option_and_then
    (λ name. option_and_then (λ drive. option_map (λ times. said.CopyTimes name drive times)
    (written_number words.2)) (drive_of words.1)) (name_of words.0))
    (three_words parts)

abbrev pub or_copies : List (List ℕ) → Option EventSaying → Option EventSaying
or_copies parts None = copies_said parts
or_copies parts (Some saying) = Some saying

-- `copy NAME D` and `copy NAME D TIMES`
abbrev pub copy_said : List (List ℕ) → Option EventSaying
copy_said parts = or_copies parts (drive_named Copy parts)

abbrev pub drive_said : List (List ℕ) → DriveChange → Option EventSaying
drive_said parts Break = drive_named Break parts
drive_said parts Revive = drive_named Revive parts
drive_said parts Copy = copy_said parts

-- `drain R`
abbrev pub drain_said : List (List ℕ) → Option EventSaying
drain_said parts = option_and_then (λ word. option_map said.Drain (written_number word)) (one_word parts)

-- a number and R
abbrev pub rounds_with : List (List ℕ) → Option (ℕ × ℕ)
rounds_with parts = option_and_then (λ words.
    option_and_then (λ first. option_map (λ rounds. (first, rounds)) (written_number words.1))
    (written_number words.0)) (two_words parts)

-- `mix S R`
abbrev pub mix_said : List (List ℕ) → Option EventSaying
mix_said parts = option_map (λ numbers. said.Mix numbers.0 numbers.1) (rounds_with parts)

-- `mute P R`
abbrev pub mute_said : List (List ℕ) → Option EventSaying
mute_said parts = option_map (λ numbers. said.Mute numbers.0 numbers.1) (rounds_with parts)

-- what is counted is writes, `W`, or replies, `R`
abbrev pub is_writes_of : List ℕ → Option Bool
is_writes_of word =
    if bytes_eq word (codes "W") then Some true else if bytes_eq word (codes "R") then Some false else None

-- `until W N R` and `until R N R`
abbrev pub until_said : List (List ℕ) → Option EventSaying
until_said parts =
    option_and_then (λ words. option_and_then
    (λ writes. option_and_then (λ count. option_map (λ rounds. said.Until writes count rounds)
    (written_number words.2)) (written_number words.1)) (is_writes_of words.0))
    (three_words parts)

-- the parts of an event line by its first word
abbrev pub event_said : List (List ℕ) → EventKeyword → Option EventSaying
event_said parts key.Run = run_said parts
event_said parts key.Enter = enter_said parts
event_said parts key.Deliver = deliver_said parts
event_said parts key.Lose = lose_said parts
event_said parts key.Repeat = repeat_said parts
event_said parts key.Tick = tick_said parts
event_said parts key.Fail = fail_said parts
event_said parts key.Reload = reload_said parts
event_said parts (key.Drive change) = drive_said parts change
event_said parts key.Drain = drain_said parts
event_said parts key.Mix = mix_said parts
event_said parts key.Mute = mute_said parts
event_said parts key.Until = until_said parts
