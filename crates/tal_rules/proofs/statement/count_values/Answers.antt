use Rattle.std.proofs.Common.{◌+◌, sym, ap}
use Rattle.tal_rules.proofs.Counted.{length-values}
use Rattle.tal_rules.proofs.statement.count_values.Goals as goal

pub returns : goal.returns
returns c = ap (λ n. n + 1) (sym (length-values c.args.more.now))
