use Rattle.std.proofs.Common.{◌++◌, map, ap, arith}
use Rattle.world_semantics.specs.Messages.{Replying, sent_at}
use Rattle.process_copies.specs.letters.specs.Again.{numbered}
use Rattle.world_copies.proofs.telling_again.tell_numbered.Goals as goal

pub loop-words-init : goal.loop-words-init
loop-words-init c = (
  omega (arith, c.requires),
  ap (λ n. c.args.again.now ++ sent_at c.args.node
      (map Replying (numbered c.args.process c.args.opener n c.args.kept.now))) (omega (arith, c.requires)),
)
