use Rattle.discipline_laws.proofs.Covering.{cover}
use Rattle.discipline_laws.proofs.laws.what_was_done_is_due.Goals as goal

pub returns : goal.returns
returns c = λ site number spec program deeds core s is regular done at alive. cover s is regular done at alive
