use Rattle.std.proofs.Common.{arith}
use Rattle.link_control.specs.Ends.{after_kind, after_push_of, after_tick_of}
use Rattle.channel_laws.proofs.Numbers.{one-pushed, one-kind, one-ticked, one-unless_down}
use Rattle.channel_laws.proofs.laws.numbers_rise_one_by_one.Goals as goal

pub returns-clause-push : goal.returns-clause-push
returns-clause-push c message e = one-unless_down e.down e (record e { sending = after_push_of message e.sending })
    (one-pushed message e.sending, omega arith)

pub returns-clause-packet : goal.returns-clause-packet
returns-clause-packet c p e = one-unless_down e.down e (after_kind p.kind e) (one-kind p.kind e)

pub returns-clause-tick : goal.returns-clause-tick
returns-clause-tick c e =
    one-unless_down e.down e (record e { sending = after_tick_of e.sending }) (one-ticked e.sending, omega arith)
