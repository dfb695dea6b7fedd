use Rattle.std.specs.Prelude.{◌++◌}
use Rattle.gd_io.specs.Joining.{puts_both, puts_part, puts_passed_on}
use Rattle.trace_print.specs.AdviceText.{place_text, globals_text, files_text}
use Rattle.trace_print.proofs.advised.write_named.Goals as goal

pub returns-in_err-write_place_and_globals : goal.returns-in_err-write_place_and_globals
returns-in_err-write_place_and_globals g c =
    puts_passed_on g.K.Sink.held g.K.Sink.faults g.K.Sink.sure _ _ _ _ c.from_residual.result c.from_residual.ensures.0
    (puts_part g.K.Sink.held g.K.Sink.faults g.K.Sink.sure _ _
    (place_text c.args.one.now ++ globals_text c.args.site.now c.args.process c.args.one.now.items)
    (files_text c.args.site.now c.args.process c.args.one.now.files) _
    c.in_err-write_place_and_globals.ensures)

pub returns : goal.returns
returns g c =
    puts_both g.K.Sink.held g.K.Sink.faults g.K.Sink.sure _ _ _
    (place_text c.args.one.now ++ globals_text c.args.site.now c.args.process c.args.one.now.items)
    (files_text c.args.site.now c.args.process c.args.one.now.files) _
    c.in_ok-write_place_and_globals.ensures (rw c.as_slice.ensures at c.write_files.ensures)
