use Rattle.order_laws.proofs.Commuting.{commute}
use Rattle.order_laws.proofs.Turns.{other-actor}
use Rattle.order_laws.proofs.Verdicts.{orderly-reached}
use Rattle.order_laws.proofs.laws.possible_acts_commute.Goals as goal

pub returns : goal.returns
returns c = λ site before reached one other first second came is that apart.
    let both = commute site reached.plain one other first second (orderly-reached site before reached came) is that
    (other-actor one other apart) in
    (both.end, both.other_last, both.act_last)
