use Rattle.std.proofs.Common.{ℕ, ◌+◌, ◌∷◌, ◌++◌, flat_map, take, drop, get_or}
use Rattle.gd_io.specs.Joining.{puts_both, puts_part, puts_passed_on}
use Rattle.trace_print.specs.ActLine.{variable_name}
use Rattle.trace_print.proofs.Lines.{lines-more, lines-split, got}
use Rattle.trace_print.proofs.advised.write_files.Goals as goal

pub returns-in_err-write_file : goal.returns-in_err-write_file
returns-in_err-write_file g c =
    let line = λ (file : ℕ). 32 ∷ variable_name c.args.site.now c.args.process file in
    let all = c.args.files.now in
    let i = c.loop-file.file-index in
    let one = get_or all i 0 in
    puts_passed_on g.K.Sink.held g.K.Sink.faults g.K.Sink.sure _ _ (flat_map line all) _ c.from_residual.result
    c.from_residual.ensures.0
    (rw (lines-split line all i one c.loop-file-test.true (got all i 0 c.loop-file-test.true))
    (puts_part g.K.Sink.held g.K.Sink.faults g.K.Sink.sure _ _ (flat_map line (take i all) ++ line one)
    (flat_map line (drop (i + 1) all)) _
    (puts_both g.K.Sink.held g.K.Sink.faults g.K.Sink.sure _ _ _ (flat_map line (take i all)) (line one) _
    c.loop-file.invariant c.in_err-write_file.ensures)))

pub loop-file-preserved : goal.loop-file-preserved
loop-file-preserved g c =
    let line = λ (file : ℕ). 32 ∷ variable_name c.args.site.now c.args.process file in
    let all = c.args.files.now in
    let i = c.loop-file.file-index in
    let one = get_or all i 0 in
    rw (lines-more line all i one c.loop-file-test.true (got all i 0 c.loop-file-test.true))
    (puts_both g.K.Sink.held g.K.Sink.faults g.K.Sink.sure _ _ _ (flat_map line (take i all)) (line one) _
    c.loop-file.invariant c.in_ok-write_file.ensures)
