use Rattle.std.proofs.Common.{◌∙◌}
use Rattle.open_links.proofs.Gathered.{terminal-step}
use Rattle.open_links.proofs.telling.add_awaited_by_terminals.Goals as goal

pub loop-number-preserved : goal.loop-number-preserved
loop-number-preserved c =
    terminal-step c.args.world.now.site c.loop-number.number c.args.world.now.world.terminals
    c.loop-number.requests c.add_awaited_by.new.requests c.in_ok-add_awaited_by.ensures
    ∙ c.loop-number.invariant
