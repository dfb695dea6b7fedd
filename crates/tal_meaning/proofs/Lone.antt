-- The value of a name that is a whole expression.
use Rattle.std.proofs.Common.{◌≡◌, Some, None, ap}
use Rattle.tal_syntax.specs.Grammar as g
use Rattle.tal_names.specs.declared.scope.Named.{Named}
use Rattle.tal_names.specs.declared.scope.Scope.{Scope}
use Rattle.tal_names.specs.Places.{name_of_expr}
use Rattle.tal_names.specs.Scopes.{meaning_of}
use Rattle.tal_names.proofs.Lone.{lone-is}
use Rattle.tal_meaning.specs.Expressions.{value_of_expr, read_by}

pub lone-value : (s : Scope) (e : g.Expr) (x : Named) → name_of_expr e ≡ Some x
    → value_of_expr s e ≡ read_by (meaning_of s x.name) None
lone-value s e x h = ap (value_of_expr s) (lone-is e x h)
