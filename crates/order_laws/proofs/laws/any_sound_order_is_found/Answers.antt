use Rattle.order_laws.proofs.Found.{found}
use Rattle.order_laws.proofs.laws.any_sound_order_is_found.Goals as goal

pub returns : goal.returns
returns c = found
