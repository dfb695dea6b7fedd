use Rattle.unfailing_judge.specs.Order.{way_of}
use Rattle.unfailing_judge.proofs.Orders.{order-made}
use Rattle.unfailing_judge.proofs.laws.the_order_is_possible.Goals as goal

pub returns : goal.returns
returns c = λ site acts order shown end goes. order-made site order (way_of site acts shown) end goes
