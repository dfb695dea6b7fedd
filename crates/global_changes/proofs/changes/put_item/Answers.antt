use Rattle.std.proofs.Common.{◌≡◌, ◌∙◌, ◌++◌, ℤ, List, [], ap, append-nil, drop, sym}
use Rattle.std.proofs.lemmas.List.{nil_from_length}
use Rattle.global_changes.specs.Changes.{item_set}
use Rattle.global_changes.specs.declared.changes.WordSet.{WordSet}
use Rattle.global_changes.proofs.Nothing.{none_left}
use Rattle.global_changes.proofs.changes.put_item.Goals as goal

pub returns-in_default : goal.returns-in_default
returns-in_default c =
    let none : c.loop-place.after_left.now ≡ [] =
    nil_from_length c.loop-place.after_left.now c.in_default.ensures.cases in
    sym (c.loop-place.invariant
    ∙ ap (λ (rest : List ℤ). c.loop-place.sets
    ++ item_set c.args.item c.loop-place.place (drop c.loop-place.place c.args.before.now) rest) none
    ∙ ap (λ (more : List WordSet). c.loop-place.sets ++ more)
    (none_left c.args.item c.loop-place.place (drop c.loop-place.place c.args.before.now))
    ∙ append-nil c.loop-place.sets)
