use Rattle.std.proofs.Common.{◌≡◌, [], None, ap, refl}
use Rattle.std.proofs.lemmas.Result.{IfOk-from_err}
use Rattle.gd_io.specs.Joining.{puts_nothing}
use Rattle.break_progress.specs.Progress.{progress_text, runs_of}
use Rattle.break_progress.proofs.Told.{nothing_goes_out, nothing_is_told}
use Rattle.break_runs.specs.Breaks.{IsSearch}
use Rattle.break_runs.specs.Meanwhile.{search_progress}
use Rattle.break_runs.proofs.searching.search_breaks.Goals as goal

pub run-requires-clause-few : goal.run-requires-clause-few
run-requires-clause-few g c = c.requires.few None

pub returns-in_err-ran : goal.returns-in_err-ran
returns-in_err-ran g c = record {
  text = [];
  told = nothing_goes_out g.K.Sink.held g.K.Sink.faults g.K.Sink.sure c.args.sink.now;
  progress = nothing_is_told;
  searched = IfOk-from_err c.from_residual.result
      (λ search. IsSearch c.args.site.now c.args.lines.now search × ([] ≡ search_progress c.args.site.now search))
      c.from_residual.ensures.0;
}

pub returns-in_err-found : goal.returns-in_err-found
returns-in_err-found g c =
    let total = runs_of c.args.site.now.processors c.places_of-places.result in
    let told = c.first_break.ensures in
    record {
      text = progress_text total told.0;
      told = (
        c.first_break.new.written,
        told.1 c.args.sink.now (puts_nothing g.K.Sink.held g.K.Sink.faults g.K.Sink.sure c.args.sink.now),
      );
      progress = (total, told.0, refl);
      searched = IfOk-from_err c.from_residual-in_err-found.result
          (λ search. IsSearch c.args.site.now c.args.lines.now search
          × (progress_text total told.0 ≡ search_progress c.args.site.now search))
          c.from_residual-in_err-found.ensures.0;
    }

pub returns : goal.returns
returns g c =
    let total = runs_of c.args.site.now.processors c.places_of-places.result in
    let told = c.in_ok-found.ensures in
    record {
      text = progress_text total told.0;
      told = (
        c.first_break.new.written,
        told.1 c.args.sink.now (puts_nothing g.K.Sink.held g.K.Sink.faults g.K.Sink.sure c.args.sink.now),
      );
      progress = (total, told.0, refl);
      searched = (
        record {
          ran = c.in_ok-ran.ran;
          is_run = c.in_ok-ran.ensures;
          asked = refl;
          places = c.places_of-places.ensures;
          found = told.2.0;
        },
        ap (progress_text total) told.2.1,
      );
    }
