use Rattle.std.proofs.Common.{◌≡◌, ◌∙◌, List, [], ◌∷◌, length, map, replicate, refl, ap, arith}
use Rattle.plain_semantics.specs.declared.slot.Slot.TheVariants.{Empty}
use Rattle.plain_machine.proofs.process.empties.Goals as goal

one-each : {A B : Type 0} (b : B) (items : List A) → replicate (length items) b ≡ map (λ item. b) items
one-each b [] = refl
one-each b (item ∷ items) = ap (λ rest. b ∷ rest) (one-each b items)

pub returns-clause-slots : goal.returns-clause-slots
returns-clause-slots c =
    let all : c.loop.counter ≡ length c.args.openers.now = omega arith in
    c.loop.invariant ∙ ap (λ n. replicate n Empty) all ∙ one-each Empty c.args.openers.now
