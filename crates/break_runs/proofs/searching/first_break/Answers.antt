use Rattle.std.proofs.Common.{None}
use Rattle.break_runs.proofs.searching.first_break.Goals as goal

pub wrong_of-requires-clause-few : goal.wrong_of-requires-clause-few
wrong_of-requires-clause-few g c =
    c.a_run_does_few_acts.ensures c.args.site.now c.args.lines.now None c.args.ran c.requires.is
