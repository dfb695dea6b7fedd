-- The spots that codes stand for.
use Rattle.tal_tree.specs.declared.expression.Spot.{Spot}
use Rattle.tal_tree.specs.declared.expression.Spot.TheVariants as spot
use Rattle.tal_code.specs.declared.spot.Aim.{Aim}
use Rattle.tal_code.specs.declared.spot.Aim.TheVariants as aim

-- the spot of an aim, whose index is seen as the expression that its code computes
abbrev pub spot_in : Aim → Spot
spot_in (aim.Local k) = spot.Local k
spot_in (aim.Simple item) = spot.Simple item
spot_in (aim.Element item index) = spot.Element item index
