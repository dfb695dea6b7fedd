-- The faults of a name that is a whole expression in the place of a value.
use Rattle.std.proofs.Common.{◌≡◌, List, [], ◌∷◌, ◌++◌, Some, refl, ap, ◌∙◌}
use Rattle.tal_syntax.specs.Grammar as g
use Rattle.tal_names.specs.declared.fault.RuleFault.{RuleFault}
use Rattle.tal_names.specs.declared.meaning.Need.TheVariants as need
use Rattle.tal_names.specs.declared.scope.Named.{Named}
use Rattle.tal_names.specs.declared.scope.Scope.{Scope}
use Rattle.tal_names.specs.Places.{name_of_expr}
use Rattle.tal_names.specs.Scopes.{meaning_of, kind_faults}
use Rattle.tal_names.proofs.Lone.{lone-is}
use Rattle.tal_rules.specs.Expressions.{value_faults}

-- the chains from the name up to the expression have no faults of their own
no_more : (fs : List RuleFault) → fs ++ [] ++ [] ++ [] ++ [] ++ [] ++ [] ≡ fs
no_more [] = refl
no_more (f ∷ fs) = ap (λ (hs : List RuleFault). f ∷ hs) (no_more fs)

pub lone-faults : (s : Scope) (e : g.Expr) (x : Named) → name_of_expr e ≡ Some x
    → value_faults s e ≡ kind_faults need.Readable x.at (meaning_of s x.name)
lone-faults s e x h =
    ap (value_faults s) (lone-is e x h) ∙ no_more (kind_faults need.Readable x.at (meaning_of s x.name))
