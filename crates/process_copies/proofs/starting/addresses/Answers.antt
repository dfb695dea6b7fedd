use Rattle.std.proofs.Common.{IfSome, subst, sym}
use Rattle.tal_tree.specs.declared.site.Who.TheVariants as who
use Rattle.process_copies.specs.Starting.{HasAddress}
use Rattle.process_copies.proofs.Addresses.{has-address}
use Rattle.process_copies.proofs.starting.addresses.Goals as goal

pub address_of-requires : goal.address_of-requires
address_of-requires c = subst (λ found. IfSome found HasAddress) (sym c.in_ok-opener.ensures)
    (has-address c.args.site.now (who.File c.args.number c.loop-file.file) c.requires.limits)
