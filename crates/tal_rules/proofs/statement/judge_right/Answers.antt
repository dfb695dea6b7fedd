use Rattle.std.proofs.Common.{◌≡◌, Some, sym, ap, ◌∙◌}
use Rattle.tal_syntax.specs.Seen.{seen_expr}
use Rattle.tal_names.specs.Faults.{least}
use Rattle.tal_names.specs.Places.{name_of_expr}
use Rattle.tal_names.specs.Scopes.{kind_faults}
use Rattle.tal_names.specs.declared.meaning.Need.TheVariants.{Readable}
use Rattle.tal_rules.specs.Expressions.{value_faults}
use Rattle.tal_rules.specs.Statements.{right_by, right_named}
use Rattle.tal_rules.proofs.Lone.{lone-faults}
use Rattle.tal_rules.proofs.statement.judge_right.Goals as goal

pub returns-in-Some : goal.returns-in-Some
returns-in-Some c =
    let s = c.args.scope.now in
    let e = seen_expr c.args.value.now in
    let alone : name_of_expr e ≡ Some c.in-Some.named = sym c.name_of_expr.ensures ∙ c.in-Some.is in
    let faults : value_faults s e ≡ kind_faults Readable c.in-Some.named.at c.meaning_of.result =
    lone-faults s e c.in-Some.named alone ∙ ap (kind_faults Readable c.in-Some.named.at) (sym c.meaning_of.ensures) in
    c.judge_right_by.ensures e faults
    ∙ ap (λ found. least c.args.so_far (right_by s e c.in-Some.named.at found)) c.meaning_of.ensures
    ∙ ap (λ named. least c.args.so_far (right_named s e named)) (sym alone)
