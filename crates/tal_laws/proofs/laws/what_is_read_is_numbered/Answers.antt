use Rattle.tal_laws.proofs.Ordered.{read_is_numbered}
use Rattle.tal_laws.proofs.laws.what_is_read_is_numbered.Goals as goal

pub returns : goal.returns
returns c = read_is_numbered
