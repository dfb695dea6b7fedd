use Rattle.std.proofs.Common.{ap}
use Rattle.alive_regroup.proofs.Heard.{none-heard, with_neighbours}
use Rattle.alive_regroup.proofs.listener.Listener.of.Goals as goal

pub returns : goal.returns
returns c = ap (with_neighbours c.args.watch) (none-heard 16 c.args.watch.neighbours)
