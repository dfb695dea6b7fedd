-- Room for the words of code: what is kept low while it is made has room for each of its steps.
use Rattle.std.proofs.Common.{◌≡◌, length-drop, ◌≤◌, List, [], ◌∷◌, ◌++◌, length, refl, subst, arith}
use Rattle.tal_code.specs.declared.step.Operand.{Operand}
use Rattle.tal_code.specs.declared.step.Instruction.{Instruction}
use Rattle.tal_code.specs.declared.step.Instruction.TheVariants as step
use Rattle.tal_code.specs.Parts.{PartStack, nothing, built, parts_after, parts_after_all}
use Rattle.tal_code.specs.Room.{IsRoom, height_after, RoomFrom, LowFrom, IsLow}

-- one more step after others
pub after-push : (steps : List Instruction) (s : Instruction) (parts : PartStack)
    → parts_after_all (steps ++ s ∷ []) parts ≡ parts_after s (parts_after_all steps parts)
after-push [] s parts = refl
after-push (first ∷ steps) s parts = after-push steps s (parts_after first parts)

-- there is room for a step after which no more words stand below the top than there is room for
room : (s : Instruction) (parts : PartStack) → length (parts_after s parts).below ≤ 80 → IsRoom s (length parts.below)
room (step.Load o) parts low = omega arith
room (step.With op o) parts low = tt
room (step.Two op) parts low = tt
room step.Minus parts low = tt
room (step.Element item) parts low = tt
room step.Truth parts low = tt
room (step.CompareWith rel o) parts low = tt
room (step.Compare rel) parts low = tt
room step.Not parts low = tt
room step.And parts low = tt
room step.Or parts low = tt

-- code stays low by a step that leaves it so
low-push : (parts : PartStack) (steps : List Instruction) (s : Instruction) → LowFrom parts steps
    → length (parts_after s (parts_after_all steps parts)).below ≤ 80 → LowFrom parts (steps ++ s ∷ [])
low-push parts [] s low top = (low, top)
low-push parts (first ∷ steps) s low top = (low.0, low-push (parts_after first parts) steps s low.1 top)

pub low-end : (parts : PartStack) (steps : List Instruction) → LowFrom parts steps
    → length (parts_after_all steps parts).below ≤ 80
low-end parts [] low = low
low-end parts (first ∷ steps) low = low-end (parts_after first parts) steps low.1

low-first : (parts : PartStack) (steps : List Instruction) → LowFrom parts steps → length parts.below ≤ 80
low-first parts [] low = low
low-first parts (first ∷ steps) low = low.0

-- a draft stays low by a step that leaves it so
pub push-keeps : (old new : List Instruction) (s : Instruction) → new ≡ old ++ s ∷ [] → IsLow old
    → length (parts_after s (built old)).below ≤ 80 → IsLow new
push-keeps old new s is inv low = rw is (low-push nothing old s inv low)

-- the parts after a step are as many as it says
height-of-parts : (s : Instruction) (parts : PartStack)
    → length (parts_after s parts).below ≡ height_after s (length parts.below)
height-of-parts (step.Load o) parts = omega arith
height-of-parts (step.With op o) parts = refl
height-of-parts (step.Two op) parts = length-drop 1 parts.below
height-of-parts step.Minus parts = refl
height-of-parts (step.Element item) parts = refl
height-of-parts step.Truth parts = refl
height-of-parts (step.CompareWith rel o) parts = refl
height-of-parts (step.Compare rel) parts = length-drop 1 parts.below
height-of-parts step.Not parts = refl
height-of-parts step.And parts = length-drop 1 parts.below
height-of-parts step.Or parts = length-drop 1 parts.below

-- there is room for each step of code that is low
room-from : (parts : PartStack) (steps : List Instruction) → LowFrom parts steps → RoomFrom (length parts.below) steps
room-from parts [] low = tt
room-from parts (s ∷ steps) low =
    let later : RoomFrom (length (parts_after s parts).below) steps = room-from (parts_after s parts) steps low.1 in (
      room s parts (low-first (parts_after s parts) steps low.1),
      subst (λ n. RoomFrom n steps) (height-of-parts s parts) later,
    )

pub first-room : (o : Operand) (steps rest : List Instruction) → steps ≡ step.Load o ∷ rest → IsLow steps
    → RoomFrom 1 rest
first-room o steps rest is low = (room-from nothing (step.Load o ∷ rest) (subst (λ xs. IsLow xs) is low)).1

pub all-room : (steps : List Instruction) → IsLow steps → RoomFrom 0 steps
all-room steps low = room-from nothing steps low
