use Rattle.std.proofs.Common.{◌≡◌, ◌+◌, ◌*◌, ℕ, None, Option, Some, below_more, rules, subst}
use Rattle.std.proofs.lemmas.Result.{IfOk-from_err}
use Rattle.break_runs.specs.Breaks.{IsFirstOf, IsTriedAs, stop_of}
use Rattle.break_runs.specs.Meanwhile.{sound_of, tried_before}
use Rattle.break_runs.proofs.stops.first_of.Goals as goal
use Rattle.unfailing_judge.specs.declared.wrong.Wrong.{Wrong}

pub tried-requires-clause-few : goal.tried-requires-clause-few
tried-requires-clause-few g c = c.requires.few (Some (stop_of c.args.processor c.loop-after.after))

pub returns-in_err-wrong : goal.returns-in_err-wrong
returns-in_err-wrong g c = (
  tried_before c.args.places (stop_of c.args.processor c.loop-after.after),
  c.loop-after.invariant.1,
  IfOk-from_err c.from_residual.result
      (λ found. IsFirstOf c.args.site.now c.args.lines.now c.args.places c.args.processor found
      × tried_before c.args.places (stop_of c.args.processor c.loop-after.after)
      ≡ 1 + c.args.processor * c.args.places + sound_of c.args.places found) c.from_residual.ensures.0,
)

pub loop-after-preserved : goal.loop-after-preserved
loop-after-preserved g c =
    let stop = λ (after : ℕ). Some (stop_of c.args.processor after) in (
      below_more (λ (after : ℕ). IsTriedAs c.args.site.now c.args.lines.now (stop after) None) c.loop-after.after
          c.loop-after.invariant.0
          (subst (λ (found : Option Wrong).
          IsTriedAs c.args.site.now c.args.lines.now (stop c.loop-after.after) found) c.in_default.is
          c.in_ok-wrong.ensures),
      search rules,
    )
