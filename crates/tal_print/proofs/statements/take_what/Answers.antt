use Rattle.std.proofs.Common.{rules, ◌≡◌, to_z, of_z}
use Rattle.std.proofs.lemmas.Int.{wraps}
use Rattle.std.specs.Int.{w16}
use Rattle.tal_print.proofs.statements.take_what.Goals as goal

pub returns-in_ok-take_for-in-For-clause-pieces : goal.returns-in_ok-take_for-in-For-clause-pieces
returns-in_ok-take_for-in-For-clause-pieces c =
    let kept : to_z w16 (of_z w16 c.in-For.step) ≡ c.in-For.step = first_of (search (rules, wraps), search rules) in
    rw c.in-For.is (rw kept at (c.in_ok-take_for-in-For.ensures.pieces c.in-For.last))

pub returns-in_ok-take_for-in-For-clause-less : goal.returns-in_ok-take_for-in-For-clause-less
returns-in_ok-take_for-in-For-clause-less c = rw (c.in-For.is) (c.in_ok-take_for-in-For.ensures.less c.in-For.last)
