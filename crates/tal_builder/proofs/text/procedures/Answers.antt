use Rattle.std.proofs.Common.{◌≡◌, ◌-◌, ◌+◌, suc, true, false, length, Some, refl, sym, ◌∙◌, arith}
use Rattle.tal_syntax.specs.Grammar as g
use Rattle.tal_syntax.specs.Seen.{link_procedures, seen_procedure}
use Rattle.tal_builder.specs.First.{is_heading}
use Rattle.tal_builder.specs.Parse.{procedure_at}
use Rattle.tal_builder.proofs.Turns.{row_turns, row_ends}
use Rattle.tal_builder.proofs.text.procedures.Goals as goal

pub returns-then-not-is_heading : goal.returns-then-not-is_heading
returns-then-not-is_heading c =
    let none : is_heading c.loop-turn.rest.now ≡ false = sym c.is_heading.ensures ∙ c.if-not-is_heading.true in
    sym c.loop-turn.invariant
    ∙ row_ends link_procedures g.no_procedures g.more_procedures is_heading procedure_at c.loop-turn.all
    (length c.args.tokens.now - c.loop-turn._turn) c.loop-turn.rest.now none

pub loop-turn-preserved : goal.loop-turn-preserved
loop-turn-preserved c =
    let count : length c.args.tokens.now - c.loop-turn._turn
    ≡ suc (length c.args.tokens.now - (c.loop-turn._turn + 1)) = omega (arith, c.loop-turn-test.true) in
    let begun : is_heading c.loop-turn.rest.now ≡ true = sym c.is_heading.ensures ∙ c.if-not-is_heading.false in
    let part : procedure_at c.loop-turn.rest.now
    ≡ Some (seen_procedure c.in_ok-procedure.procedure, c.in_ok-procedure.after.now) = c.in_ok-procedure.ensures in
    rw c.in_ok-push.ensures.ok
    (sym (row_turns link_procedures g.no_procedures g.more_procedures is_heading procedure_at c.loop-turn.all _ _
    c.loop-turn.rest.now c.in_ok-procedure.after.now
    (seen_procedure c.in_ok-procedure.procedure) c.in_ok-procedure.procedure count begun part (λ r. refl))
    ∙ c.loop-turn.invariant)
