use Rattle.std.proofs.Common.{◌∙◌, subst, sym}
use Rattle.std.proofs.lemmas.Result.{IfOk-weaker}
use Rattle.explain_left.specs.LeftRuns.{IsTextOfRun}
use Rattle.noted_runs.specs.Runs.{IsRunWithSteps}
use Rattle.noted_runs.specs.packet_runs.specs.Runs.{course_on, packet_rules}
use Rattle.noted_runs.specs.packet_runs.specs.site_machine.specs.Needs.{IsReady}
use Rattle.schedule_loop.specs.Ends.{CanBePlayed}
use Rattle.explain_left.proofs.run.left_after.Goals as goal

pub returns : goal.returns
returns c =
    let run : IsRunWithSteps c.args.deck.site c.args.deck.lines c.args.stop c.in_ok-noted.noted =
    subst (λ site. IsRunWithSteps site c.args.deck.lines c.args.stop c.in_ok-noted.noted) c.in_ok-site.ensures
    (subst (λ lines. IsRunWithSteps c.in_ok-site.site lines c.args.stop c.in_ok-noted.noted) c.as_slice.ensures
    c.in_ok-noted.ensures) in
    IfOk-weaker c.text_of_run.result _ _
    (λ text is. (
      c.in_ok-noted.noted,
      run,
      subst (λ site. IsTextOfRun c.args.bytes.now site c.in_ok-noted.noted text) (c.get.ensures ∙ c.in_ok-site.ensures)
          is,
    ))
    c.text_of_run.ensures

pub run-requires-clause-can : goal.run-requires-clause-can
run-requires-clause-can c =
    subst (λ lines. CanBePlayed packet_rules IsReady (course_on c.in_ok-site.site lines c.args.stop))
    (sym c.as_slice.ensures)
    (subst (λ site. CanBePlayed packet_rules IsReady (course_on site c.args.deck.lines c.args.stop))
    (sym c.in_ok-site.ensures)
    (c.an_accepted_deck_meets_the_premises.ensures.can c.args.bytes.now c.args.deck c.args.stop c.requires.spelt
    c.requires.accepted))
