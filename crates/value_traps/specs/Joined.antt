-- What AND or OR makes of two truths, or of the traps of them.
use Rattle.std.specs.Prelude.{Bool}
use Rattle.tal_values.specs.declared.chain.Junction.{Junction}
use Rattle.tal_values.specs.declared.chain.Junction.TheVariants as junction
use Rattle.value_traps.specs.Traps.{Worked, and_or_trap, or_or_trap}

abbrev pub joined_worked : Junction → Worked Bool → Worked Bool → Worked Bool
joined_worked junction.And left right = and_or_trap left right
joined_worked junction.Or left right = or_or_trap left right
