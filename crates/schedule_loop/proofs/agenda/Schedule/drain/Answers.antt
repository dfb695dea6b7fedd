use Rattle.std.proofs.Common.{◌≡◌, ◌+◌, ◌-◌, ℕ, None, arith, subst}
use Rattle.agendas.specs.Agendas.{coming}
use Rattle.schedule_loop.proofs.agenda.Schedule.drain.Goals as goal

pub returns-in-None-clause-free : goal.returns-in-None-clause-free
returns-in-None-clause-free c = λ n from until.
    let same : c.args.before + (n - c.args.before) ≡ n = omega (arith, from) in
    subst (λ (m : ℕ). coming c.args.self.now.agenda.stop m ≡ None) same
    (c.free_after.ensures.free (n - c.args.before) (omega (arith, from, until)))
