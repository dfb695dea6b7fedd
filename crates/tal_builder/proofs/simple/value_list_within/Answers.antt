use Rattle.std.proofs.Common.{◌≡◌, ◌-◌, suc, arith, subst}
use Rattle.tal_syntax.specs.Seen.{seen_expr, seen_values}
use Rattle.tal_builder.specs.Outcome.{Tells}
use Rattle.tal_builder.specs.Parse.{value_list_in}
use Rattle.tal_builder.proofs.simple.value_list_within.Goals as goal

pub returns : goal.returns
returns c =
    let next : suc (c.args.room - 1) ≡ c.args.room = omega (arith, c.if-room-eq0.false) in
    subst (λ n. Tells (λ r. ((seen_expr r.0.first, seen_values r.0.more, r.0.close), r.1.now)) c.value_list.result
    (value_list_in n c.args.tokens.now)) next c.value_list.ensures
