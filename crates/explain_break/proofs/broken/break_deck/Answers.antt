use Rattle.std.proofs.Common.{List, [], inl, inr, refl, subst}
use Rattle.std.proofs.lemmas.Result.{IfOk-from_err}
use Rattle.tal_tree.specs.declared.site.ProcessSpec.{ProcessSpec}
use Rattle.break_text.specs.break_runs.specs.break_progress.proofs.Told.{nothing_goes_out, nothing_is_told}
use Rattle.explain_why.specs.Judged.{IsJudgedDeck}
use Rattle.explain_break.specs.Broken.{IsBreakDeck}
use Rattle.explain_break.proofs.broken.break_deck.Goals as goal

pub returns-in_err-judged : goal.returns-in_err-judged
returns-in_err-judged g c = (
  [],
  nothing_goes_out g.K.Sink.held g.K.Sink.faults g.K.Sink.sure c.args.sink.now,
  nothing_is_told,
  IfOk-from_err c.from_residual.result (IsBreakDeck c.args.bytes.now c.args.deck []) c.from_residual.ensures.0,
)

pub returns-in_err-text : goal.returns-in_err-text
returns-in_err-text g c = (
  [],
  nothing_goes_out g.K.Sink.held g.K.Sink.faults g.K.Sink.sure c.args.sink.now,
  nothing_is_told,
  IfOk-from_err c.from_residual-in_err-text.result (IsBreakDeck c.args.bytes.now c.args.deck [])
      c.from_residual-in_err-text.ensures.0,
)

pub returns-then-judged : goal.returns-then-judged
returns-then-judged g c =
    let specs = c.args.deck.site.processes in
    let is : IsJudgedDeck c.args.bytes.now specs c.in_ok-judged.judged =
    subst (λ (all : List ProcessSpec). IsJudgedDeck c.args.bytes.now all c.in_ok-judged.judged) c.as_slice.ensures
    c.in_ok-judged.ensures in
    let found = c.in_ok-told.ensures in (
      found.0,
      found.1,
      found.2,
      inr (record {
        whys = c.in_ok-judged.judged;
        search = found.3.0;
        refused = c.if-judged.true;
        judged_is = is;
        searched = found.3.1;
        meanwhile_is = found.3.2;
        answered = refl;
        told_is = found.3.3;
      }),
    )

pub returns : goal.returns
returns g c =
    let specs = c.args.deck.site.processes in
    let is : IsJudgedDeck c.args.bytes.now specs c.in_ok-judged.judged =
    subst (λ (all : List ProcessSpec). IsJudgedDeck c.args.bytes.now all c.in_ok-judged.judged) c.as_slice.ensures
    c.in_ok-judged.ensures in (
      [],
      nothing_goes_out g.K.Sink.held g.K.Sink.faults g.K.Sink.sure c.args.sink.now,
      nothing_is_told,
      inl (
        refl,
        c.unrefused_programs_are_accepted.ensures c.args.bytes.now specs c.in_ok-judged.judged is c.if-judged.false,
        c.in_ok-text.ensures,
        refl,
      ),
    )
