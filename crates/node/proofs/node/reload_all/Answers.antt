use Rattle.std.proofs.Common.{rules}
use Rattle.std.proofs.lemmas.List.Edits.{map_over_more}
use Rattle.link_control.specs.Ends.{end_after_reload}
use Rattle.node.proofs.node.reload_all.Goals as goal

pub loop-end-preserved : goal.loop-end-preserved
loop-end-preserved c = search (rules, map_over_more (end_after_reload c.args.loaded))
