use Rattle.std.proofs.Common.{◌∙◌, sym}
use Rattle.open_links.proofs.Gathered.{held-there}
use Rattle.open_links.proofs.copies.in_hand_of.Goals as goal

pub taken-requires : goal.taken-requires
taken-requires c =
    held-there c.receive-receive.result.now c.in-Some.opener c.in_hand.ensures.sound
    (sym c.in-Some.is ∙ c.in_hand.ensures.value)
