use Rattle.open_links.proofs.Gathered.{links-are}
use Rattle.open_links.proofs.telling.links_of.Goals as goal

pub returns : goal.returns
returns c =
    links-are c.args.world.now.site c.args.world.now.world c.args.node c.processes-processes.result.now
    c.processes-processes.ensures.placed c.processes-processes.ensures.processes _ _ _ _
    c.in_ok-waiting.ensures c.in_ok-in_hand.ensures c.in_ok-awaited.ensures
    c.in_ok-add_awaited_at_terminals.ensures
