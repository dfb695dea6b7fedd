-- How many events a schedule asks for at most over packets.
use Rattle.std.specs.Prelude.{◌<◌, ℕ, List, Option}
use Rattle.tal_tree.specs.declared.site.Site.{Site}
use Rattle.schedule.specs.declared.line.Line.{Line}
use Rattle.player.specs.declared.stop.ProcessorStop.{ProcessorStop}
use Rattle.line_lengths.specs.Lengths as any_machine
use Rattle.line_lengths.specs.Lengths.{Room}
use Rattle.packet_runs.specs.Runs.{sizes_of}
use Rattle.packet_words.specs.gd_words.specs.declared.limits.TheConstants.{MOST_PACKETS}

-- each of the two buses has room for 4,096 packets
abbrev pub both_buses : Room
both_buses = record { x = MOST_PACKETS; y = MOST_PACKETS }

-- a round on a site
abbrev pub most_in_round : Site → ℕ
most_in_round site = any_machine.most_in_round (sizes_of site) both_buses

-- a schedule with a stop on a site
abbrev pub most_events : Site → List Line → Option ProcessorStop → ℕ
most_events site = any_machine.most_events (sizes_of site) both_buses

-- so few that each of them has a number of 32 bits, and so has the next one after it
abbrev pub AsksForFewEvents : Site → List Line → Option ProcessorStop → Type 0
AsksForFewEvents site lines stop = most_events site lines stop < 4294967294
