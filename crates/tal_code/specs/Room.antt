-- How many words flat code leaves below the top: at most 80, the room of a stack.
use Rattle.std.specs.Prelude.{ℕ, ◌+◌, ◌-◌, ◌≤◌, ◌<◌, List, [], ◌∷◌, length}
use Rattle.tal_code.specs.declared.step.Instruction.{Instruction}
use Rattle.tal_code.specs.declared.step.Instruction.TheVariants as step
use Rattle.tal_code.specs.Parts.{PartStack, nothing, parts_after}

-- there is room for a step where so many words stand below the top
abbrev pub IsRoom : Instruction → ℕ → Type 0
IsRoom (step.Load o) n = n < 80
IsRoom _ n = Unit {0}

-- how many words stand below the top after a step
abbrev pub height_after : Instruction → ℕ → ℕ
height_after (step.Load o) n = n + 1
height_after (step.Two op) n = n - 1
height_after (step.Compare rel) n = n - 1
height_after step.And n = n - 1
height_after step.Or n = n - 1
height_after _ n = n

-- there is room for each of the steps, one after the other
abbrev pub RoomFrom : ℕ → List Instruction → Type 0
RoomFrom n [] = Unit {0}
RoomFrom n (step ∷ steps) = IsRoom step n × RoomFrom (height_after step n) steps

-- neither now nor after any of the steps more parts stand below the top than there is room for
abbrev pub LowFrom : PartStack → List Instruction → Type 0
LowFrom parts [] = length parts.below ≤ 80
LowFrom parts (step ∷ steps) = (length parts.below ≤ 80) × LowFrom (parts_after step parts) steps

-- code for which there is room
abbrev pub IsLow : List Instruction → Type 0
IsLow steps = LowFrom nothing steps
