use Rattle.std.proofs.Common.{◌≡◌, ◌-◌, ◌+◌, suc, true, false, length, Some, refl, sym, ◌∙◌, arith}
use Rattle.tal_syntax.specs.Grammar as g
use Rattle.tal_syntax.specs.Seen.{link_lines, seen_globals}
use Rattle.tal_builder.specs.First.{is_line}
use Rattle.tal_builder.specs.Parse.{line_at}
use Rattle.tal_builder.proofs.Turns.{row_turns, row_ends}
use Rattle.tal_builder.proofs.globals.globals.Goals as goal

pub returns-then-not-is_line : goal.returns-then-not-is_line
returns-then-not-is_line c =
    let none : is_line c.loop-turn.rest.now ≡ false = sym c.is_line.ensures ∙ c.if-not-is_line.true in
    sym c.loop-turn.invariant
    ∙ row_ends link_lines g.no_lines g.more_lines is_line line_at c.loop-turn.all
    (length c.args.tokens.now - c.loop-turn._turn) c.loop-turn.rest.now none

pub loop-turn-preserved : goal.loop-turn-preserved
loop-turn-preserved c =
    let count : length c.args.tokens.now - c.loop-turn._turn
    ≡ suc (length c.args.tokens.now - (c.loop-turn._turn + 1)) = omega (arith, c.loop-turn-test.true) in
    let begun : is_line c.loop-turn.rest.now ≡ true = sym c.is_line.ensures ∙ c.if-not-is_line.false in
    let part : line_at c.loop-turn.rest.now ≡ Some (seen_globals c.in_ok-line.line, c.in_ok-line.after.now) =
    c.in_ok-line.ensures in
    rw c.in_ok-push.ensures.ok
    (sym (row_turns link_lines g.no_lines g.more_lines is_line line_at c.loop-turn.all _ _ c.loop-turn.rest.now
    c.in_ok-line.after.now
    (seen_globals c.in_ok-line.line) c.in_ok-line.line count begun part (λ r. refl)) ∙ c.loop-turn.invariant)
