use Rattle.std.proofs.Common.{◌∙◌, ap, length, refl, sym}
use Rattle.std.proofs.lemmas.Option.{slice_get_read}
use Rattle.sync_ids.specs.Changes.{put_in}
use Rattle.sync_ids.specs.Openers.{block_of, depth_of}
use Rattle.sync_ids.specs.declared.opener.Opener.{Opener}
use Rattle.sync_ids.proofs.Openers.{depths-same}
use Rattle.sync_ids.proofs.Putting.{one-changed}
use Rattle.sync_ids.proofs.changing.put_one.Goals as goal

pub returns-then-place-openers-clause-blocks : goal.returns-then-place-openers-clause-blocks
returns-then-place-openers-clause-blocks c =
    let there = slice_get_read c.args.openers.now (length c.args.openers.now) c.from-place.result
    c.index-openers-place.result refl c.if-place-openers.true c.index-openers-place.is in
    one-changed c.args.openers.now c.from-place.result c.index-openers-place.result c.add.new.self c.args.change.now
    there c.from-place.ensures
    (c.add.ensures.block
    ∙ ap (λ (o : Opener). put_in (depth_of o) (block_of o) c.args.change.now) (sym c.index-openers-place.is))

pub returns-then-place-openers-clause-depths : goal.returns-then-place-openers-clause-depths
returns-then-place-openers-clause-depths c =
    let there = slice_get_read c.args.openers.now (length c.args.openers.now) c.from-place.result
    c.index-openers-place.result refl c.if-place-openers.true c.index-openers-place.is in
    depths-same c.args.openers.now c.from-place.result c.index-openers-place.result c.add.new.self there
    (c.add.ensures.depth ∙ ap depth_of (sym c.index-openers-place.is))
