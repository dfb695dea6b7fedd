use Rattle.packet_nets.proofs.Ticking.{down-ties, ticked-ties}
use Rattle.packet_nets.proofs.laws.ticks_owe_nothing_more.Goals as goal

pub returns : goal.returns
returns c = record {
  tick = λ site stopped reloads on midst owed sent node runs tied. ticked-ties node runs midst tied;
  declare = λ site stopped reloads on midst owed sent node processor runs few gone tied.
      down-ties node runs midst processor few gone tied;
}
