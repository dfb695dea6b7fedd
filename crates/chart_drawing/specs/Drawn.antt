-- What is drawn of an event, by what it did and what it showed. Our own.
use Rattle.gd_words.specs.declared.limits.TheConstants.{TERMINAL_NODE}
use Rattle.std.specs.Prelude.{ℕ}
use Rattle.chart_drawing.specs.declared.drawn.Drawn.{Drawn}
use Rattle.chart_drawing.specs.declared.drawn.Drawn.TheVariants as drawn
use Rattle.chart_drawing.specs.declared.drawn.Place.TheVariants as place
use Rattle.chart_drawing.specs.declared.drawn.Sign.{Sign}
use Rattle.chart_drawing.specs.declared.drawn.Sign.TheVariants.{Dot, Cross, Letter}
use Rattle.schedule.specs.declared.event.Event.{Event}
use Rattle.schedule.specs.declared.event.Event.TheVariants as event
use Rattle.tal_tree.specs.declared.act.Shown.{Shown}
use Rattle.tal_tree.specs.declared.act.Shown.TheVariants.{Write, Reply}
use Rattle.trace_lines.specs.declared.finding.Finding.{Finding}
use Rattle.trace_lines.specs.declared.finding.Finding.TheVariants as finding

abbrev pub at_node : Sign → ℕ → Drawn
at_node sign node = drawn.Sign sign (place.Node node)

abbrev pub at_acting : Sign → ℕ → Drawn
at_acting sign process = drawn.Sign sign (place.Acting process)

abbrev pub at_copy : Sign → ℕ → ℕ → Drawn
at_copy sign process processor = drawn.Sign sign (place.Copy process processor)

-- what is drawn at the process that an event concerns
abbrev pub own_drawn : Event → Sign → Drawn
own_drawn (event.Run process) sign = at_acting sign process
own_drawn (event.Drive one) sign = at_acting sign one.process
own_drawn (event.Enter terminal) sign = drawn.Nothing
own_drawn (event.Deliver bus k) sign = drawn.Nothing
own_drawn (event.Lose bus k) sign = drawn.Nothing
own_drawn (event.Repeat bus k) sign = drawn.Nothing
own_drawn (event.Tick node) sign = drawn.Nothing
own_drawn (event.Fail processor) sign = drawn.Nothing
own_drawn (event.Reload processor) sign = drawn.Nothing

-- of one thing that an event did. The letters are C for a checkpoint that is sent, P for one that is put in, T for a
-- takeover, M for a mark, E for a request that is entered, and D for a change of a drive
abbrev pub drawn_by : Event → Finding → Drawn
drawn_by event finding.Skipped = drawn.Nothing
drawn_by event (finding.StandsStill point) = drawn.Nothing
drawn_by event (finding.WouldStopSecond processor) = at_node Cross processor
drawn_by event (finding.WouldLoseDisc process) = at_acting Cross process
drawn_by event (finding.Packet packet fate message) = drawn.Packet packet fate
drawn_by event (finding.Sends sender receiver last message again) = drawn.Nothing
drawn_by event (finding.Makes process statement) = at_acting Dot process
drawn_by event (finding.Sets process item place value) = drawn.Nothing
drawn_by event (finding.DiscGoesOn point) = own_drawn event Dot
drawn_by event (finding.SendsCheckpoint number) = own_drawn event (Letter 67)
drawn_by event finding.PassesCheckpoint = own_drawn event Dot
drawn_by event (finding.SendsEverything number) = own_drawn event (Letter 67)
drawn_by event finding.EndsSending = own_drawn event Dot
drawn_by event (finding.AppliesCheckpoint process processor number) = at_copy (Letter 80) process processor
drawn_by event (finding.Waits process processor number) = drawn.Nothing
drawn_by event (finding.TakesOver process processor era statement) = at_copy (Letter 84) process processor
drawn_by event (finding.Stops processor) = at_node Cross processor
drawn_by event (finding.Reloads processor) = at_node Dot processor
drawn_by event (finding.Marks node processor) = at_node (Letter 77) node
drawn_by event (finding.Misses node processor) = at_node Dot node
drawn_by event (finding.FindsSilent node processor) = at_node Dot node
drawn_by event (finding.Reports node silent) = drawn.Nothing
drawn_by event (finding.PullsLine node processor) = drawn.Hold node processor
drawn_by event (finding.IgnoresCheckpoint process processor number why) = at_copy Dot process processor
drawn_by event (finding.HearsTaken process processor number) = at_copy Dot process processor
drawn_by event (finding.Keeps act) = drawn.Nothing
drawn_by event (finding.HoldsBack act) = drawn.Nothing
drawn_by event (finding.Enters number) = at_node (Letter 69) TERMINAL_NODE
drawn_by event (finding.Drive state) = own_drawn event (Letter 68)

-- of something that was shown: W for a write, R for a reply
abbrev pub drawn_of : Shown → Drawn
drawn_of (Write process sector words) = at_acting (Letter 87) process
drawn_of (Reply terminal number words) = at_node (Letter 82) TERMINAL_NODE
