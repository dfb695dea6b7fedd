use Rattle.std.proofs.Common.{◌≡◌, ap, arith, length, List, subst, sym, ◌∙◌}
use Rattle.std.proofs.lemmas.Result.{err_from_is_err_and}
use Rattle.report_reader.specs.Reading.{acts_in}
use Rattle.report_reader.specs.declared.told.Told.{Told}
use Rattle.report_judge.specs.Replays.{IsEndRefusal, IsReplayOf}
use Rattle.report_judge.proofs.ReplayLemmas.{acts-few, end-refused, reported}
use Rattle.report_judge.proofs.judge.judge.Goals as goal

pub returns-in_err-judge_end : goal.returns-in_err-judge_end
returns-in_err-judge_end c =
    let told : c.as_slice-acts.result.now ≡ acts_in c.args.reading.now.told =
    c.as_slice-acts.ensures ∙ c.in_ok-acts.ensures ∙ ap acts_in c.as_slice-told.ensures in
    let is : IsReplayOf c.args.site.now (acts_in c.args.reading.now.told) c.in_ok-replay.replay =
    subst (λ (lines : List Told). IsReplayOf c.args.site.now (acts_in lines) c.in_ok-replay.replay)
    c.as_slice-told.ensures c.in_ok-replay.ensures.ok in
    let why = err_from_is_err_and c.from_residual-in_err-judge_end.result c.from_residual-in_err-judge_end.ensures.1 in
    rw (why.1, why.2)
    (end-refused c.args.site.now c.args.report.now c.args.reading.now c.as_slice-acts.result.now c.in_ok-replay.replay
    told is c.in_ok-compare.ensures.ok c.in_err-judge_end.field-0.0
    (subst (λ (lines : List Told). IsEndRefusal lines c.args.reading.now.end c.in_ok-replay.replay
    c.in_err-judge_end.field-0.0) c.as_slice-told.ensures c.in_err-judge_end.ensures.err))

pub overflow_cast-result : goal.overflow_cast-result
overflow_cast-result c =
    let told : c.as_slice-acts.result.now ≡ acts_in c.args.reading.now.told =
    c.as_slice-acts.ensures ∙ c.in_ok-acts.ensures ∙ ap acts_in c.as_slice-told.ensures in
    omega (arith, ap length told, acts-few c.args.reading.now.told, c.requires.few)

pub returns : goal.returns
returns c =
    let told : c.as_slice-acts.result.now ≡ acts_in c.args.reading.now.told =
    c.as_slice-acts.ensures ∙ c.in_ok-acts.ensures ∙ ap acts_in c.as_slice-told.ensures in
    let is : IsReplayOf c.args.site.now (acts_in c.args.reading.now.told) c.in_ok-replay.replay =
    subst (λ (lines : List Told). IsReplayOf c.args.site.now (acts_in lines) c.in_ok-replay.replay)
    c.as_slice-told.ensures c.in_ok-replay.ensures.ok in (
      reported c.args.site.now c.args.report.now c.args.reading.now c.as_slice-acts.result.now c.in_ok-replay.replay
          told is c.in_ok-compare.ensures.ok c.requires.read c.in_ok-judge_end.ensures.ok,
      ap length (sym told),
    )
