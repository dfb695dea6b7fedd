use Rattle.idle_end.proofs.Reached.{done-kept}
use Rattle.idle_end.proofs.laws.no_copy_is_behind_at_an_idle_end.Goals as goal

pub returns : goal.returns
returns c = λ site events post number pair k end. done-kept end number pair k
