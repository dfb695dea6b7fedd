-- Where a line stands in a drain round.
use Rattle.std.specs.Prelude.{Bool, false}
use Rattle.player.specs.declared.standing.LinePlace.{LinePlace}
use Rattle.player.specs.declared.standing.LinePlace.TheVariants as standing
use Rattle.round_laws.specs.Stretches.{is_drain}

-- in a round, whole or broken off, of a line by which all packets are delivered
abbrev pub is_in_drain_round : LinePlace → Bool
is_in_drain_round standing.Ended = false
is_in_drain_round (standing.Event event left) = false
is_in_drain_round (standing.Rounds rule left place) = is_drain rule
is_in_drain_round (standing.Mixed left place draws) = false
