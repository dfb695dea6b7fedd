use Rattle.std.proofs.Common.{◌≡◌, ◌-◌, ◌+◌, suc, true, false, length, Some, refl, sym, ◌∙◌, arith}
use Rattle.tal_syntax.specs.Grammar as g
use Rattle.tal_syntax.specs.Seen.{link_locals, seen_local}
use Rattle.tal_builder.specs.First.{is_local}
use Rattle.tal_builder.specs.Parse.{local_at}
use Rattle.tal_builder.proofs.Turns.{row_turns, row_ends}
use Rattle.tal_builder.proofs.heading.locals.Goals as goal

pub returns-then-not-is_local : goal.returns-then-not-is_local
returns-then-not-is_local c =
    let none : is_local c.loop-turn.rest.now ≡ false = sym c.is_local.ensures ∙ c.if-not-is_local.true in
    sym c.loop-turn.invariant
    ∙ row_ends link_locals g.no_locals g.more_locals is_local local_at c.loop-turn.all
    (length c.args.tokens.now - c.loop-turn._turn) c.loop-turn.rest.now none

pub loop-turn-preserved : goal.loop-turn-preserved
loop-turn-preserved c =
    let count : length c.args.tokens.now - c.loop-turn._turn
    ≡ suc (length c.args.tokens.now - (c.loop-turn._turn + 1)) = omega (arith, c.loop-turn-test.true) in
    let begun : is_local c.loop-turn.rest.now ≡ true = sym c.is_local.ensures ∙ c.if-not-is_local.false in
    let part : local_at c.loop-turn.rest.now ≡ Some (seen_local c.in_ok-local.local, c.in_ok-local.after.now) =
    c.in_ok-local.ensures in
    rw c.in_ok-push.ensures.ok
    (sym (row_turns link_locals g.no_locals g.more_locals is_local local_at c.loop-turn.all _ _ c.loop-turn.rest.now
    c.in_ok-local.after.now
    (seen_local c.in_ok-local.local) c.in_ok-local.local count begun part (λ r. refl)) ∙ c.loop-turn.invariant)
