use Rattle.std.proofs.Common.{◌≡◌, ℕ, ◌+◌, List, Result, refl, subst, sym, ◌∙◌}
use Rattle.std.specs.Prelude.{⊤}
use Rattle.std.proofs.lemmas.Result.{IfOk-from_err}
use Rattle.gd_io.specs.Puts.{Puts}
use Rattle.gd_io.specs.declared.writing.WriteFault.{WriteFault}
use Rattle.break_progress.specs.Progress.{TellsOn, tried_line}
use Rattle.break_progress.proofs.Told.{tells_line, tells_no_more, tells_nothing}
use Rattle.break_progress.proofs.telling.tell_run.Goals as goal

pub returns-then-not-is_hundredth : goal.returns-then-not-is_hundredth
returns-then-not-is_hundredth g c = (
  c.args.before + 1,
  tells_nothing g.K.Sink.held g.K.Sink.faults g.K.Sink.sure c.args.total c.args.before c.args.sink.now
      c.args.written.now (sym c.is_hundredth.ensures ∙ c.if-not-is_hundredth.true),
  refl,
)

pub returns-in-Err : goal.returns-in-Err
returns-in-Err g c = (
  c.args.before + 1,
  subst (λ (written : Result ⊤ WriteFault). TellsOn g.K.Sink.held g.K.Sink.faults g.K.Sink.sure c.args.total
      c.args.before (c.args.before + 1) c.args.sink.now written c.args.sink.now written) (sym c.in-Err.is)
      (tells_no_more g.K.Sink.held g.K.Sink.faults g.K.Sink.sure c.args.total c.args.before c.args.sink.now
      c.in-Err.field-0),
  refl,
)

pub returns-in_err-line-in-Ok : goal.returns-in_err-line-in-Ok
returns-in_err-line-in-Ok g c = (
  c.args.before,
  (λ first puts. puts),
  IfOk-from_err c.from_residual.result (λ _. c.args.before ≡ c.args.before + 1) c.from_residual.ensures.0,
)

pub returns-in_ok-line-in-Ok : goal.returns-in_ok-line-in-Ok
returns-in_ok-line-in-Ok g c =
    let whole = sym c.is_hundredth.ensures ∙ c.if-not-is_hundredth.false in
    let line = subst (λ (text : List ℕ). Puts g.K.Sink.held g.K.Sink.faults g.K.Sink.sure c.args.sink.now
    c.put_all.new.sink text c.put_all.result) (c.as_slice.ensures ∙ c.in_ok-line-in-Ok.ensures) c.put_all.ensures in (
      c.args.before + 1,
      subst (λ (written : Result ⊤ WriteFault). TellsOn g.K.Sink.held g.K.Sink.faults g.K.Sink.sure c.args.total
          c.args.before (c.args.before + 1) c.args.sink.now written c.put_all.new.sink c.put_all.result)
          (sym c.in-Ok.is)
          (tells_line g.K.Sink.held g.K.Sink.faults g.K.Sink.sure c.args.total c.args.before c.args.sink.now
          c.put_all.new.sink c.put_all.result whole line),
      refl,
    )
