use Rattle.std.proofs.Common.{inl}
use Rattle.reload_guards.proofs.Level.{applied-level}
use Rattle.reload_guards.proofs.Plain.{applied-where, free-away, plain-of, sends-where}
use Rattle.reload_guards.proofs.without.checkpoints_without_a_reload.Goals as goal

pub returns : goal.returns
returns c = record {
  sends = λ site events w number pair k run none there. (sends-where run none number there k, λ at. inl at);
  ends = λ site events w number pair k run none there. (plain-of run none number there k).sent;
  free = λ site events w number pair k cause run none there away. free-away run none number there k cause away;
  applies = λ site events w number pair k message placed run none there gets_them among era is.
      applied-where run none number there placed k message gets_them among era is;
  level = λ site events w number pair k message placed run none there gets_them among era is.
      applied-level placed run none number there k message gets_them among era is;
}
