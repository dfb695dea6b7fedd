use Rattle.std.proofs.Common.{◌≡◌, ◌∙◌, ◌+◌, ◌-◌, ℕ, arith, refl, subst, sym}
use Rattle.schedule_loop.specs.Playing.{IsPlaying}
use Rattle.schedule_loop.specs.Seen.{Scheduled, with_left}
use Rattle.schedule_loop.proofs.Draining.{GoesOn, at-first, one-more}
use Rattle.schedule_loop.proofs.agenda.Schedule.left_behind.Goals as goal

pub loop-left-init : goal.loop-left-init
loop-left-init g c =
    let none : c.args.before ≡ c.args.before + (c.args.packets - c.args.packets) = omega arith in (
      λ course playing. subst (λ (n : ℕ). IsPlaying g.M.ScheduleMachine.rules course
          (with_left c.args.packets c.args.self.now) (g.M.ScheduleMachine.state c.args.machine.now) n) none
          (subst (λ (all : Scheduled). IsPlaying g.M.ScheduleMachine.rules course all
          (g.M.ScheduleMachine.state c.args.machine.now) c.args.before)
          (sym (at-first c.args.self.now c.args.bus c.args.packets c.requires)) playing),
      omega arith,
      omega (arith, c.saturating_sub-kept.ensures),
      refl,
    )

pub loop-left-preserved : goal.loop-left-preserved
loop-left-preserved g c =
    let played : ℕ = c.args.before + (c.args.packets - c.loop-left.left) in
    let next : played + 1 ≡ c.args.before + (c.args.packets - (c.loop-left.left - 1)) =
    omega (arith, c.loop-left.invariant.1, c.loop-left-test.true) in (
      subst (λ (n : ℕ). GoesOn g.M.ScheduleMachine.rules c.args.self.now
          (g.M.ScheduleMachine.state c.args.machine.now) c.args.before (c.loop-left.left - 1)
          (g.M.ScheduleMachine.state c.deliver_at_once.new.self) n) next
          (one-more g.M.ScheduleMachine.rules c.args.self.now (g.M.ScheduleMachine.state c.args.machine.now)
          c.args.before c.args.bus c.args.packets c.loop-left.left (g.M.ScheduleMachine.state c.loop-left.machine)
          (g.M.ScheduleMachine.state c.deliver_at_once.new.self) played c.requires
          (omega (arith, c.loop-left-test.true))
          (c.free_after.ensures.free (c.args.packets - c.loop-left.left)
          (omega (arith, c.saturating_sub-kept.ensures, c.loop-left.invariant.1, c.loop-left-test.true)))
          c.if-not-deliver_at_once.ensures.done c.loop-left.invariant.0),
      omega (arith, c.loop-left.invariant.1),
      omega (arith, c.loop-left-test.true),
      c.deliver_at_once.ensures.whole ∙ c.loop-left.invariant.3,
    )
