use Rattle.unfailing_judge.specs.Order.{way_of}
use Rattle.unfailing_judge.proofs.Orders.{turns-kept}
use Rattle.unfailing_judge.proofs.laws.the_order_keeps_turns.Goals as goal

pub returns : goal.returns
returns c = λ site acts order shown end goes. turns-kept site order (way_of site acts shown) end goes
