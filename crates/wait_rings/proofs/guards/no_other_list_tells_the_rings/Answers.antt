use Rattle.std.proofs.Common.{◌≡◌, ℕ, List, [], ◌∷◌, Option, Some, None}
use Rattle.wait_rings.specs.Rings.{rings_of}
use Rattle.wait_rings.specs.Waits.{TellsRings}
use Rattle.wait_rings.proofs.Told.{rings-told, told-once}
use Rattle.wait_rings.proofs.guards.no_other_list_tells_the_rings.Goals as goal

told-is : (awaited : List (Option ℕ)) (told : List (List ℕ)) → TellsRings awaited told → told ≡ rings_of awaited
told-is awaited told tells = told-once awaited told (rings_of awaited) tells (rings-told awaited)

pub returns-clause-left_out : goal.returns-clause-left_out
returns-clause-left_out c = λ tells. let is = told-is (Some 1 ∷ Some 0 ∷ []) [] tells in absurd (cc)

pub returns-clause-twice : goal.returns-clause-twice
returns-clause-twice c = λ tells.
    let is = told-is (Some 1 ∷ Some 0 ∷ []) ((0 ∷ 1 ∷ []) ∷ (0 ∷ 1 ∷ []) ∷ []) tells in absurd (cc)

pub returns-clause-turned : goal.returns-clause-turned
returns-clause-turned c = λ tells. let is = told-is (Some 1 ∷ Some 0 ∷ []) ((1 ∷ 0 ∷ []) ∷ []) tells in absurd (cc)

pub returns-clause-no_ring : goal.returns-clause-no_ring
returns-clause-no_ring c = λ tells. let is = told-is (Some 1 ∷ None ∷ []) ((0 ∷ 1 ∷ []) ∷ []) tells in absurd (cc)
