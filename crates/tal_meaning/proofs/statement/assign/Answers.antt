use Rattle.std.proofs.Common.{◌≡◌, Option, Some, None, IfOk, sym, ap, subst, ◌∙◌}
use Rattle.tal_syntax.specs.Seen.{seen_spot, seen_expr}
use Rattle.tal_names.specs.declared.meaning.Meaning.{Meaning}
use Rattle.tal_names.specs.Places.{name_of_expr}
use Rattle.tal_meaning.specs.Calls.{meaning_by}
use Rattle.tal_meaning.specs.Expressions.{value_of_expr, read_by}
use Rattle.tal_meaning.specs.Statements.{assign_by}
use Rattle.tal_meaning.proofs.Lone.{lone-value}
use Rattle.tal_meaning.proofs.statement.assign.Goals as goal

pub returns-in-Some : goal.returns-in-Some
returns-in-Some c =
    let s = c.args.scope.now in
    let e = seen_expr c.args.value.now in
    let alone : name_of_expr e ≡ Some c.in-Some.named = sym c.name_of_expr.ensures ∙ c.in-Some.is in
    let value : value_of_expr s e ≡ read_by c.meaning_of.result None =
    lone-value s e c.in-Some.named alone ∙ ap (λ found. read_by found None) (sym c.meaning_of.ensures) in
    subst (λ (found : Option Meaning). IfOk c.assign_by.result
    (λ w. w ≡ assign_by s (seen_spot c.args.target.now) e found))
    (c.meaning_of.ensures ∙ ap (meaning_by s) (sym alone)) (c.assign_by.ensures e value)
