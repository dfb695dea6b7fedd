use Rattle.std.proofs.Common.{IfSome, subst, sym}
use Rattle.tal_tree.specs.declared.site.Who.TheVariants as who
use Rattle.process_copies.specs.Starting.{HasAddress}
use Rattle.process_copies.proofs.Addresses.{has-address}
use Rattle.world_copies.proofs.starting.place_of.Goals as goal

pub address_of-requires : goal.address_of-requires
address_of-requires c = subst (λ found. IfSome found HasAddress) (sym c.in_ok-opener.ensures)
    (has-address c.args.site.now (who.Terminal c.args.terminal) c.requires)
