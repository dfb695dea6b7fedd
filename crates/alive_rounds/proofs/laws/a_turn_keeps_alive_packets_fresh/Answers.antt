use Rattle.alive_rounds.specs.Runs.{PlaysTo}
use Rattle.alive_rounds.proofs.Freshness.{fresh-turn}
use Rattle.alive_rounds.proofs.laws.a_turn_keeps_alive_packets_fresh.Goals as goal

pub returns : goal.returns
returns c sizes w machine watched = fresh-turn sizes w (PlaysTo machine) watched
