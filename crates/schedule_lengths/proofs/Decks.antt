-- What the limits of a deck make of the most events of its schedule.
use Rattle.std.proofs.Common.{◌≡◌, ◌≤◌, ℕ, ◌+◌, ◌*◌, List, [], ◌∷◌, length, Option, Some, None, arith, add-mul}
use Rattle.std.proofs.Common.{mul-le-mul}
use Rattle.tal_tree.specs.declared.site.Site.{Site}
use Rattle.schedule.specs.declared.event.Event.{Event}
use Rattle.schedule.specs.declared.line.Line.{Line}
use Rattle.schedule.specs.declared.line.Line.TheVariants.{One, Many, Drain, Mix, Mute, Until}
use Rattle.player.specs.declared.stop.ProcessorStop.{ProcessorStop}
use Rattle.schedule_runs.specs.message_wires.specs.Play.{MachineState}
use Rattle.schedule_runs.specs.Rules.{pair_rules}
use Rattle.schedule_runs.specs.Runs.{Agenda, course_on}
use Rattle.schedule_runs.specs.schedule_loop.specs.Ends.{Plays}
use Rattle.deck_reader.specs.Limits.{IsWithinDeckLimits}
use Rattle.deck_reader.specs.Schedules.{singles_in, singles_of, rounds_in, rounds_of}
use Rattle.deck_reader.specs.declared.deck.Deck.{Deck}
use Rattle.line_lengths.specs.Lengths.{most_in_line, most_in_lines, stops_of_words}
use Rattle.schedule_runs.specs.Lengths.{most_events, most_in_round}
use Rattle.schedule_runs.proofs.Lengths.{so-many}

-- a line asks for its single events and its rounds
line-is : (round : ℕ) (line : Line) → most_in_line round line ≡ singles_in line + rounds_in line * round
line-is round (One event) = omega arith
line-is round (Many event times) = omega arith
line-is round (Drain rounds) = omega arith
line-is round (Mix start rounds) = omega arith
line-is round (Mute node rounds) = omega arith
line-is round (Until writes count rounds) = omega arith

-- and so do lines together
lines-are : (round : ℕ) (lines : List Line) → most_in_lines round lines ≡ singles_of lines + rounds_of lines * round
lines-are round [] = omega arith
lines-are round (line ∷ lines) =
    let one = line-is round line in
    let rest = lines-are round lines in
    let sum : (rounds_in line + rounds_of lines) * round ≡ rounds_in line * round + rounds_of lines * round =
    add-mul (rounds_in line) (rounds_of lines) round in
    omega (arith, one, rest, sum)

one-stop : (stop : Option ProcessorStop) → stops_of_words stop ≤ 1
one-stop None = omega arith
one-stop (Some stop) = omega arith

round-few : (site : Site) → site.processors ≤ 16 → length site.processes ≤ 16 → length site.terminals ≤ 16
    → most_in_round site ≤ 8273
round-few site processors processes terminals = omega (arith, processors, processes, terminals)

pub deck-asks : (deck : Deck) (stop : Option ProcessorStop) → IsWithinDeckLimits deck
    → most_events deck.site deck.lines stop ≤ 828300001
deck-asks deck stop within =
    let sum = lines-are (most_in_round deck.site) deck.lines in
    let round = round-few deck.site within.site.most_processors within.site.processes within.site.terminals in
    let rounds : rounds_of deck.lines * most_in_round deck.site ≤ 100000 * 8273 = mul-le-mul within.rounds round in
    let singles = within.singles in
    let one = one-stop stop in
    omega (arith, sum, rounds, singles, one)

pub deck-few : (deck : Deck) (stop : Option ProcessorStop) (events : List Event) (agenda : Agenda) (s : MachineState)
    → IsWithinDeckLimits deck
    → Plays pair_rules (course_on deck.site deck.lines stop) events agenda s → length events ≤ 828300001
deck-few deck stop events agenda s within plays =
    let played = so-many deck.site deck.lines stop events agenda s plays in
    let most = deck-asks deck stop within in
    omega (arith, played, most)
