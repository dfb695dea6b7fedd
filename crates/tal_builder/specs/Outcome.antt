-- What a call that reads tells of a definition that may find nothing.
use Rattle.std.specs.Prelude.{◌≡◌, Option, Some, None, Result, Ok, Err}
use Rattle.gd_words.specs.Memory.{no_memory}
use Rattle.tal_builder.specs.declared.stop.BuildFault.{BuildFault}
use Rattle.tal_builder.specs.declared.stop.BuildFault.TheVariants as stop

-- the answer, seen as what it stands for, is what is found
abbrev pub Gives : {X Y : Type 0} → (X → Y) → Option X → Option Y → Type 0
Gives view None found = found ≡ None
Gives view (Some x) found = found ≡ Some (view x)

-- the same where memory may run out, which tells nothing
abbrev pub Tells : {X Y : Type 0} → (X → Y) → Result X BuildFault → Option Y → Type 0
Tells view (Ok x) found = found ≡ Some (view x)
Tells view (Err e) found = (e ≡ stop.NoMemory no_memory → ⊥) → found ≡ None
