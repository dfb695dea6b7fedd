use Rattle.deck_guards.proofs.Spelt.{asking_spelt}
use Rattle.deck_guards.proofs.order.a_deck_may_have_remarks.Goals as goal

pub returns : goal.returns
returns c = asking_spelt
