use Rattle.std.proofs.Common.{length, option_copied, ap, sym, ◌∙◌, arith}
use Rattle.world_semantics.specs.checkpoint_image.specs.Receive.{answered}
use Rattle.world_copies.proofs.Kept.{kept-few, place-fits}
use Rattle.world_copies.proofs.telling_again.tell_kept.Goals as goal

pub overflow_cast-opener : goal.overflow_cast-opener
overflow_cast-opener c =
    let there = sym c.get.ensures.value ∙ ap option_copied c.in-Some.is in
    let fits = place-fits c.args.table.now c.args.place c.in-Some.block.now c.requires there in
    omega (arith, fits)

pub tell_numbered-requires : goal.tell_numbered-requires
tell_numbered-requires c =
    let there = sym c.get.ensures.value ∙ ap option_copied c.in-Some.is in
    let few = kept-few c.args.table.now c.args.place c.in-Some.block.now c.requires there in
    let words = ap length c.as_slice.ensures in
    let last = c.answered-last.ensures ∙ ap (λ held. answered held c.in-Some.block.now) c.holds.ensures in
    omega (arith, few, words, last)
