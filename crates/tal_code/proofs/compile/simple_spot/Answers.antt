use Rattle.std.proofs.Common.{◌≡◌, ◌+◌, arith, sym, subst}
use Rattle.tal_tree.specs.declared.expression.Expr.{Read}
use Rattle.tal_tree.specs.declared.expression.Spot.{Spot, Element}
use Rattle.tal_code.specs.Waiting.{waiting_of, waiting_for}
use Rattle.tal_code.proofs.Waits.{for-read, waiting-read}
use Rattle.tal_code.proofs.compile.simple_spot.Goals as goal

pub returns-in-Element-clause-none : goal.returns-in-Element-clause-none
returns-in-Element-clause-none c =
    subst (λ (spot : Spot). waiting_for (Read spot) ≡ waiting_of (Read spot) + 1) (sym c.in-Element.is)
    (omega (
      arith,
      for-read (Element c.in-Element.item c.in-Element.index),
      waiting-read (Element c.in-Element.item c.in-Element.index),
    ))
