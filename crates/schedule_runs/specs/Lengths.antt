-- How many events a schedule asks for at most.
use Rattle.std.specs.Prelude.{◌<◌, ℕ, List, Option}
use Rattle.tal_tree.specs.declared.site.Site.{Site}
use Rattle.schedule.specs.declared.line.Line.{Line}
use Rattle.player.specs.declared.stop.ProcessorStop.{ProcessorStop}
use Rattle.line_lengths.specs.Lengths as any_machine
use Rattle.line_lengths.specs.Lengths.{Room}
use Rattle.schedule_runs.specs.Runs.{sizes_of}
use Rattle.gd_words.specs.declared.limits.TheConstants.{MOST_PACKETS}

-- bus X has room for 4,096 packets, and bus Y isn't used
abbrev pub one_bus : Room
one_bus = record { x = MOST_PACKETS; y = 0 }

-- a round on a site
abbrev pub most_in_round : Site → ℕ
most_in_round site = any_machine.most_in_round (sizes_of site) one_bus

-- a schedule with a stop on a site
abbrev pub most_events : Site → List Line → Option ProcessorStop → ℕ
most_events site = any_machine.most_events (sizes_of site) one_bus

-- so few that each of them has a number of 32 bits, and so has the next one after it
abbrev pub AsksForFewEvents : Site → List Line → Option ProcessorStop → Type 0
AsksForFewEvents site lines stop = most_events site lines stop < 4294967294
