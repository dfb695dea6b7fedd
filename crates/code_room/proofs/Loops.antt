-- How many wait in the test of a FOR, and in what its variable becomes after a turn.
use Rattle.std.proofs.Common.{◌≡◌, arith}
use Rattle.std.specs.Prelude.{ℤ}
use Rattle.tal_tree.specs.declared.expression.Cond.{Compare}
use Rattle.tal_tree.specs.declared.expression.Expr.{Expr, Number, Read, Two}
use Rattle.tal_tree.specs.declared.expression.Op.{Op}
use Rattle.tal_tree.specs.declared.expression.Rel.{Rel}
use Rattle.tal_tree.specs.declared.expression.Variable.{Variable}
use Rattle.tal_tree.specs.declared.expression.Variable.TheVariants as variable
use Rattle.tal_values.specs.Spots.{spot_of}
use Rattle.tal_code.specs.Waiting.{waiting_of, waiting_for, waiting_of_test}
use Rattle.tal_code.proofs.Waits.{waiting-read, waiting-two}

none : (v : Variable) → waiting_of (Read (spot_of v)) ≡ 0
none (variable.Local place) = waiting-read (spot_of (variable.Local place))
none (variable.Simple item) = waiting-read (spot_of (variable.Simple item))

pub limit : (v : Variable) (rel : Rel) (to : Expr)
    → waiting_of_test (Compare rel (Read (spot_of v)) to) ≡ waiting_for to
limit v rel to = omega (arith, none v)

pub next : (v : Variable) (op : Op) (step : ℤ) → waiting_of (Two op (Read (spot_of v)) (Number step)) ≡ 0
next v op step = omega (arith, none v, waiting-two op (Read (spot_of v)) (Number step))
