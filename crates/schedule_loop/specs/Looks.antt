-- Where the next event of a line depends on which packet it concerns.
use Rattle.std.specs.Prelude.{Bool, true, false}
use Rattle.schedule.specs.declared.event.Event.{Event}
use Rattle.schedule.specs.declared.event.Event.TheVariants as event
use Rattle.player.specs.declared.standing.LinePlace.{LinePlace}
use Rattle.player.specs.declared.standing.LinePlace.TheVariants as standing
use Rattle.player.specs.declared.standing.Rule.TheVariants as rule

-- of a muted node the alive packets are lost, and in a mixed round none is
abbrev pub asks_packet : LinePlace → Bool
asks_packet (standing.Rounds (rule.Mute node) left place) = true
asks_packet (standing.Mixed left place draws) = true
asks_packet _ = false

-- whether an event loses a packet
abbrev pub loses : Event → Bool
loses (event.Lose bus k) = true
loses _ = false
