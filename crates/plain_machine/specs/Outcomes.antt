-- What the code tells of an act that it tried.
use Rattle.std.specs.Prelude.{◌≡◌, List, [], ◌∷◌, Option, Some, None}
use Rattle.std.specs.Option.{option_map}
use Rattle.tal_tree.specs.declared.act.Shown.{Shown}
use Rattle.plain_semantics.specs.Machine.{Plain, Made}
use Rattle.plain_machine.specs.declared.outcome.Outcome.{Outcome}
use Rattle.plain_machine.specs.declared.outcome.Outcome.TheVariants.{Impossible, Quiet, Shows}

-- what an act that was made shows; none where it wasn't made
abbrev pub shown_in : Outcome → Option (List Shown)
shown_in Impossible = None
shown_in Quiet = Some []
shown_in (Shows shown) = Some (shown ∷ [])

-- the machine after an act that was tried
abbrev pub plain_after : Plain → Option Made → Plain
plain_after old None = old
plain_after old (Some m) = m.plain

-- the act was made as it is defined, or it isn't possible and nothing changed
abbrev pub Settles : Option Made → Plain → Outcome → Plain → Type 0
Settles made old outcome new = (shown_in outcome ≡ option_map (λ m. m.shown) made) × (new ≡ plain_after old made)
