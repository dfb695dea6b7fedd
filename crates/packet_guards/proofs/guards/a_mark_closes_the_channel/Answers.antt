use Rattle.packet_guards.proofs.Marks.{a-mark-closes-the-channel-thrown, a-mark-closes-the-channel-dropped}
use Rattle.packet_guards.proofs.Marks.{a-mark-closes-the-channel-no-more-alive}
use Rattle.packet_guards.proofs.guards.a_mark_closes_the_channel.Goals as goal

pub returns : goal.returns
returns c = record {
  thrown = a-mark-closes-the-channel-thrown;
  dropped = a-mark-closes-the-channel-dropped;
  no_more_alive = a-mark-closes-the-channel-no-more-alive;
}
