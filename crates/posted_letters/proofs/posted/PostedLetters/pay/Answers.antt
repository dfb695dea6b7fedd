use Rattle.std.proofs.Common.{rules, refl, arith}
use Rattle.posted_letters.proofs.Numbers.{without_some, without_none}
use Rattle.posted_letters.proofs.Rising.{without}
use Rattle.posted_letters.proofs.posted.PostedLetters.pay.Goals as goal

pub returns-in-Some : goal.returns-in-Some
returns-in-Some c =
    let gone = without_some c.args.number c.self.inside.owed.items c.in-Some.place (search rules) in
    rw (c.remove.ensures.items, ← gone, ← c.self.view_is) refl

pub returns-in_default : goal.returns-in_default
returns-in_default c =
    let all = without_none c.args.number c.self.inside.owed.items (search rules) in grind (arith, all)

pub invariant_of-self : goal.invariant_of-self
invariant_of-self c =
    let gone = without_some c.args.number c.self.inside.owed.items c.in-Some.place (search rules) in
    rw (c.remove.ensures.items, ← gone) (without 0 c.self.inside.count c.args.number c.self.inside.owed.items
    c.self.invariant)
