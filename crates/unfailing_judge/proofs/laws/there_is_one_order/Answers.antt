use Rattle.unfailing_judge.proofs.Orders.{order-same}
use Rattle.unfailing_judge.proofs.laws.there_is_one_order.Goals as goal

pub returns : goal.returns
returns c = order-same
