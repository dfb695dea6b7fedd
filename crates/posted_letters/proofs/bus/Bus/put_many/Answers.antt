use Rattle.std.proofs.Common.{rules}
use Rattle.posted_letters.proofs.OnBus.{next_told, next_put}
use Rattle.posted_letters.proofs.bus.Bus.put_many.Goals as goal

pub loop-k-preserved : goal.loop-k-preserved
loop-k-preserved c = (
  next_put c.args.stopped.now c.args.node c.loop-k.k c.args.owed.now c.loop-k.self c.put_due_once.new.self _
      c.index-owed-k.result (search rules) c.index-owed-k.is
      c.in_ok-put_due_once.ensures c.loop-k.invariant.0,
  next_told c.args.stopped.now c.args.node c.requires.0 c.loop-k.k c.args.owed.now c.in_ok-on_bus.on_bus.items
      c.loop-k.self c.put_due_once.new.self
      c.index-owed-k.result c.requires.1 (search rules) c.loop-k.invariant.2 c.index-owed-k.is
      c.in_ok-put_due_once.ensures c.loop-k.invariant.1,
  c.loop-k.invariant.2,
)
