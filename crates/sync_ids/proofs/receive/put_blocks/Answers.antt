use Rattle.std.proofs.Common.{◌∙◌, ◌<◌, ap, arith, length, map, refl, sym}
use Rattle.std.proofs.lemmas.List.{take_all}
use Rattle.std.proofs.lemmas.Option.{slice_get_read}
use Rattle.sync_ids.specs.Openers.{block_of, depth_of}
use Rattle.sync_ids.proofs.Openers.{as-many, depths-same, one-more-put, room}
use Rattle.sync_ids.proofs.receive.put_blocks.Goals as goal

pub bounds-openers-k : goal.bounds-openers-k
bounds-openers-k c =
    omega (
      arith,
      c.loop-k-test.true,
      as-many c.args.openers.now c.loop-k.openers c.args.blocks.now c.requires
          c.loop-k.invariant.1,
    )

pub put-requires : goal.put-requires
put-requires c =
    let there : c.loop-k.k < length c.loop-k.openers =
    omega (
      arith,
      c.loop-k-test.true,
      as-many c.args.openers.now c.loop-k.openers c.args.blocks.now c.requires
          c.loop-k.invariant.1,
    ) in
    rw (sym c.index-openers-k.is)
    (room c.args.openers.now c.loop-k.openers c.args.blocks.now c.loop-k.k c.index-blocks-k.result
    c.index-openers-k.result c.requires c.loop-k.invariant.1
    (slice_get_read c.args.blocks.now (length c.args.blocks.now) c.loop-k.k c.index-blocks-k.result refl
    c.loop-k-test.true c.index-blocks-k.is)
    (slice_get_read c.loop-k.openers (length c.loop-k.openers) c.loop-k.k c.index-openers-k.result refl there
    c.index-openers-k.is))

pub loop-k-preserved : goal.loop-k-preserved
loop-k-preserved c =
    let there : c.loop-k.k < length c.loop-k.openers =
    omega (
      arith,
      c.loop-k-test.true,
      as-many c.args.openers.now c.loop-k.openers c.args.blocks.now c.requires
          c.loop-k.invariant.1,
    ) in
    let old = slice_get_read c.loop-k.openers (length c.loop-k.openers) c.loop-k.k c.index-openers-k.result refl there
    c.index-openers-k.is in (
      one-more-put c.loop-k.openers c.args.blocks.now c.loop-k.k c.index-blocks-k.result c.put.new.self there
          c.loop-k-test.true c.index-blocks-k.is
          (ap block_of c.put.ensures) c.loop-k.invariant.0,
      depths-same c.loop-k.openers c.loop-k.k c.index-openers-k.result c.put.new.self old
          (ap depth_of c.put.ensures ∙ ap depth_of (sym c.index-openers-k.is)) ∙ c.loop-k.invariant.1,
    )

pub returns-clause-blocks : goal.returns-clause-blocks
returns-clause-blocks c =
    let many = as-many c.args.openers.now c.loop-k.openers c.args.blocks.now c.requires c.loop-k.invariant.1 in
    ap (map block_of) (sym (take_all c.loop-k.k c.loop-k.openers (omega (arith, c.loop-k-test.false, many))))
    ∙ c.loop-k.invariant.0 ∙ take_all c.loop-k.k c.args.blocks.now c.loop-k-test.false
