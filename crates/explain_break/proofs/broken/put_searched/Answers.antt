use Rattle.std.proofs.Common.{◌≡◌, ◌++◌, []}
use Rattle.std.proofs.lemmas.Result.{IfOk-from_err}
use Rattle.break_text.specs.BreakText.{search_text}
use Rattle.break_text.specs.break_runs.specs.Breaks.{IsSearch}
use Rattle.break_text.specs.break_runs.specs.Meanwhile.{search_progress}
use Rattle.break_text.specs.break_runs.specs.break_progress.proofs.Told.{nothing_goes_out, nothing_is_told}
use Rattle.break_text.specs.break_runs.specs.declared.found.Search.{Search}
use Rattle.explain_break.proofs.broken.put_searched.Goals as goal

pub returns-in_err-site : goal.returns-in_err-site
returns-in_err-site g c = (
  [],
  nothing_goes_out g.K.Sink.held g.K.Sink.faults g.K.Sink.sure c.args.sink.now,
  nothing_is_told,
  IfOk-from_err c.from_residual.result
      (λ told. (search : Search) × IsSearch c.args.deck.site c.args.deck.lines search
      × ([] ≡ search_progress c.args.deck.site search) × (told ≡ c.args.text ++ search_text c.args.deck.site search))
      c.from_residual.ensures.0,
)
