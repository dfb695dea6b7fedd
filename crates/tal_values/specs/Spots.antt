-- The spots of simple variables.
use Rattle.tal_tree.specs.declared.expression.Spot.{Spot}
use Rattle.tal_tree.specs.declared.expression.Spot.TheVariants as spot
use Rattle.tal_tree.specs.declared.expression.Variable.{Variable}
use Rattle.tal_tree.specs.declared.expression.Variable.TheVariants as variable

-- a simple variable as a spot
abbrev pub spot_of : Variable → Spot
spot_of (variable.Local local) = spot.Local local
spot_of (variable.Simple item) = spot.Simple item
