use Rattle.std.proofs.Common.{◌∙◌, ◌&&◌, nat_lt, ap, sym}
use Rattle.process_copies.proofs.Turned.{of-two}
use Rattle.process_copies.proofs.turning.is_of_two.Goals as goal

pub returns-then-is_mirrored-clause-is : goal.returns-then-is_mirrored-clause-is
returns-then-is_mirrored-clause-is c =
    sym (ap (λ b. b && nat_lt c.args.drive 2) c.if-is_mirrored.true)
    ∙ of-two c.args.disc.now c.is_mirrored.result c.args.drive c.is_mirrored.ensures

pub returns-else-is_mirrored-clause-is : goal.returns-else-is_mirrored-clause-is
returns-else-is_mirrored-clause-is c =
    c.if-is_mirrored.false ∙ sym (ap (λ b. b && nat_lt c.args.drive 2) c.if-is_mirrored.false)
    ∙ of-two c.args.disc.now c.is_mirrored.result c.args.drive c.is_mirrored.ensures
