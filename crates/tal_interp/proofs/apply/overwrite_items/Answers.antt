use Rattle.std.proofs.Common.{◌≡◌, ◌≤◌, ◌<◌, Some, ap, sym, subst, ◌∙◌, arith, length, slice_index_or}
use Rattle.tal_interp.specs.Images.{listed_item}
use Rattle.tal_interp.proofs.ListedItems.{as-many, found-width, put-one, overwrites-end}
use Rattle.tal_interp.proofs.apply.overwrite_items.Goals as goal

pub overwrite-requires : goal.overwrite-requires
overwrite-requires c =
    let is : listed_item c.args.table.now.items c.loop-number.left.now
    ≡ Some ((c.in-Some.number, c.in-Some.found.now), c.in-Some.rest.now) =
    ap (λ items. listed_item items c.loop-number.left.now) (sym c.items.ensures) ∙ c.in-Some.ensures.read in
    let many = as-many c.args.table.now c.loop-number.globals c.loop-number.invariant.sizes in
    let there : c.in-Some.number < length c.loop-number.globals =
    omega (arith, c.in-Some.ensures.there, many, ap length c.items.ensures) in
    let long : length c.in-Some.found.now ≡ length
    (slice_index_or c.loop-number.globals c.in-Some.number c.index-globals-from.result) =
    found-width c.args.table.now c.loop-number.globals c.loop-number.left.now c.in-Some.number c.in-Some.found.now
    c.in-Some.rest.now
    c.index-globals-from.result c.loop-number.invariant.sizes is there in
    subst (λ place. length c.in-Some.found.now
    ≤ length (slice_index_or c.loop-number.globals place c.index-globals-from.result)) (sym c.from.ensures)
    (omega (arith, long))

pub loop-number-preserved : goal.loop-number-preserved
loop-number-preserved c =
    let is : listed_item c.args.table.now.items c.loop-number.left.now
    ≡ Some ((c.in-Some.number, c.in-Some.found.now), c.in-Some.rest.now) =
    ap (λ items. listed_item items c.loop-number.left.now) (sym c.items.ensures) ∙ c.in-Some.ensures.read in
    let many = as-many c.args.table.now c.loop-number.globals c.loop-number.invariant.sizes in
    let there : c.in-Some.number < length c.loop-number.globals =
    omega (arith, c.in-Some.ensures.there, many, ap length c.items.ensures) in
    let put = put-one c.args.table.now c.loop-number.globals c.loop-number.left.now c.in-Some.number c.from.result
    c.in-Some.found.now c.in-Some.rest.now
    c.index-globals-from.result c.overwrite.new.cells c.loop-number.invariant.sizes is c.from.ensures there
    c.overwrite.ensures in
    record { sizes = put.0; holds = λ others holds. put.1 others (c.loop-number.invariant.holds others holds) }

pub returns : goal.returns
returns c = λ others holds.
    overwrites-end c.args.table.now c.loop-number.globals others c.loop-number.left.now
    (c.loop-number.invariant.holds others holds)
    (ap (λ items. listed_item items c.loop-number.left.now) (sym c.items.ensures) ∙ c.in_default.ensures.read)
