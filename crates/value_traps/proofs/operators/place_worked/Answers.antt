use Rattle.std.proofs.Common.{◌≡◌, ℤ, length, Option, Some, slice_get, refl, ap, sym, ◌∙◌}
use Rattle.std.proofs.lemmas.Int.{to_z-of_z}
use Rattle.std.proofs.lemmas.Option.{slice_get_read}
use Rattle.std.specs.Int.{w16}
use Rattle.tal_tree.specs.declared.program.Item.{Item}
use Rattle.value_traps.specs.Traps.{place_at, place_or_trap}
use Rattle.value_traps.proofs.operators.place_worked.Goals as goal

pub returns-in-Some : goal.returns-in-Some
returns-in-Some c =
    let items = c.args.memory.items.now in
    let there : slice_get items c.args.item ≡ Some c.in-Some.item.now =
    ap (slice_get items) (sym c.from.ensures)
    ∙ slice_get_read items (length items) c.from.result c.in-Some.item.now refl c.in-Some.ensures.lookup.3.0
    c.in-Some.ensures.lookup.1 in
    c.place_or_trap.ensures
    ∙ ap (λ (index : ℤ). place_or_trap c.in-Some.item.now.shape index) (to_z-of_z w16 c.args.index c.ranges.index)
    ∙ ap (λ (one : Option Item). place_at one c.args.index) (sym there)
