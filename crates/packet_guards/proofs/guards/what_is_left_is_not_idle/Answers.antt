use Rattle.packet_guards.proofs.Words.{what-is-left-is-not-idle-outstanding, what-is-left-is-not-idle-unmarked}
use Rattle.packet_guards.proofs.Words.{what-is-left-is-not-idle-idle}
use Rattle.packet_guards.proofs.guards.what_is_left_is_not_idle.Goals as goal

pub returns : goal.returns
returns c = record {
  outstanding = what-is-left-is-not-idle-outstanding;
  unmarked = what-is-left-is-not-idle-unmarked;
  idle = what-is-left-is-not-idle-idle;
}
