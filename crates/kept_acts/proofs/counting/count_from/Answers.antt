use Rattle.std.proofs.Common.{rules, ◌<◌, ◌+◌, reverse, take, Fits, w64, arith, Some, sym, ap, ◌∙◌}
use Rattle.tal_tree.specs.declared.act.Act.TheVariants.{Step}
use Rattle.kept_acts.proofs.Tables.{within, count-most, counts-next, counts-same}
use Rattle.kept_acts.proofs.counting.count_from.Goals as goal
use Rattle.kept_acts.proofs.counting.count_from.Goals.{in-Some, in_default}

pub bounds-table-from : goal.bounds-table-from
bounds-table-from c =
    let few : c.from.result < 256 = search rules in
    within c.loop-place.table (reverse (take c.loop-place.place c.args.acts.now)) c.loop-place.invariant c.from.result
    few

pub overflow_add-table : goal.overflow_add-table
overflow_add-table c =
    let few : c.from.result < 256 = search rules in
    let most = count-most c.loop-place.table c.args.acts.now c.loop-place.place c.loop-place.invariant c.from.result
    few in
    let next : Fits w64 (c.loop-place.place + 1) = search rules in
    omega (arith, most, next)

pub bounds-table-from-in-Some : goal.bounds-table-from-in-Some
bounds-table-from-in-Some c =
    let few : c.from.result < 256 = search rules in
    within c.loop-place.table (reverse (take c.loop-place.place c.args.acts.now)) c.loop-place.invariant c.from.result
    few

pub loop-place-preserved : goal.loop-place-preserved
loop-place-preserved c = elim c.match-owner.branch [
  | in-Some w ↦
      let few : w.from.result < 256 = search rules in
      counts-next c.loop-place.table c.match-owner.table c.args.acts.now c.loop-place.place w.from.result (Step 0)
      c.loop-place-test.true
      (sym c.owner.ensures ∙ w.in-Some.is ∙ ap Some (sym w.from.ensures)) few w.table-is c.loop-place.invariant
  | in_default w ↦
      counts-same c.loop-place.table c.match-owner.table c.args.acts.now c.loop-place.place (Step 0)
      c.loop-place-test.true
      (sym c.owner.ensures ∙ w.in_default.is) w.table-is c.loop-place.invariant
]
