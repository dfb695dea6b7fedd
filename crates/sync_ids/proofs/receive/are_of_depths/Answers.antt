use Rattle.std.proofs.Common.{◌∙◌, sym, length, map}
use Rattle.std.proofs.lemmas.List.{length-map}
use Rattle.sync_ids.specs.Openers.{depth_of}
use Rattle.sync_ids.proofs.Tables.{no-eqb, unequal}
use Rattle.sync_ids.proofs.receive.are_of_depths.Goals as goal

pub returns-else-openers-blocks : goal.returns-else-openers-blocks
returns-else-openers-blocks c =
    let openers = c.args.openers.now in
    no-eqb (length openers) (length c.args.blocks.now) c.if-openers-blocks.false
    ∙ sym (unequal c.args.blocks.now (map depth_of openers)
    (λ same. c.if-openers-blocks.false (sym (same ∙ length-map openers depth_of))))
