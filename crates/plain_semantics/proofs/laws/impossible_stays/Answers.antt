use Rattle.plain_semantics.proofs.Apart.{apart-still}
use Rattle.plain_semantics.proofs.laws.impossible_stays.Goals as goal

pub returns : goal.returns
returns c = apart-still
