-- A right side that is a value without faults isn't a procedure's name alone.
use Rattle.std.proofs.Common.{◌≡◌, [], refl, ◌∙◌}
use Rattle.std.specs.Prelude.{Option, Some, None}
use Rattle.tal_tree.specs.declared.statement.What.TheVariants as what
use Rattle.tal_tokens.specs.declared.token.At.{At}
use Rattle.tal_syntax.specs.Grammar as g
use Rattle.tal_names.specs.declared.meaning.Meaning.{Meaning}
use Rattle.tal_names.specs.declared.meaning.Meaning.TheVariants as m
use Rattle.tal_names.specs.declared.meaning.Need.TheVariants as need
use Rattle.tal_names.specs.declared.meaning.Wanted.{Wanted}
use Rattle.tal_names.specs.declared.meaning.Wanted.TheVariants.{Value}
use Rattle.tal_names.specs.declared.scope.Named.{Named}
use Rattle.tal_names.specs.declared.scope.Scope.{Scope}
use Rattle.tal_rules.specs.Expressions.{expr_faults, both_faults, neg_faults, sum_faults, product_faults, factor_faults}
use Rattle.tal_rules.specs.Expressions.{value_faults}
use Rattle.tal_names.specs.Places.{first_of_expr, name_of_expr, name_of_factor, factor_of_expr, factor_of_both}
use Rattle.tal_names.specs.Places.{factor_of_neg, factor_of_sum, factor_of_product}
use Rattle.tal_names.specs.Scopes.{meaning_of, kind_faults}
use Rattle.tal_rules.specs.Statements.{right_faults, right_named, right_by}
use Rattle.tal_meaning.specs.Calls.{meaning_by}
use Rattle.tal_meaning.specs.Expressions.{target_of_spot, value_of_expr}
use Rattle.tal_meaning.specs.Statements.{assign_by}
use Rattle.std.specs.Option.{option_and_then}
use Rattle.tal_faultless.proofs.Common.Faultless.{no_fault, first_nil}

module _ (s : Scope) where
  -- the name, where there is one, may be read
  abbrev IsReadable : Option Named → Type 0
  IsReadable None = Unit {0}
  IsReadable (Some x) = kind_faults need.Readable x.at (meaning_of s x.name) ≡ []

  abbrev IsReadableFactor : Option g.Factor → Type 0
  IsReadableFactor f = IsReadable (option_and_then name_of_factor f)

  readable_factor : (w : Wanted) (f : g.Factor) → factor_faults s w f ≡ [] → IsReadableFactor (Some f)
  readable_factor w (g.minus at f) h = tt
  readable_factor w (g.number at n) h = tt
  readable_factor w (g.read (g.spot at name g.no_index)) h =
      first_nil (kind_faults need.Readable at (meaning_of s name)) [] h
  readable_factor w (g.read (g.spot at name (g.index start e close))) h = tt
  readable_factor w (g.parens start e close) h = tt

  readable_product : (w : Wanted) (x : g.Product) → product_faults s w x ≡ [] → IsReadableFactor (factor_of_product x)
  readable_product w (g.product f g.no_factors) h = readable_factor w f (first_nil (factor_faults s w f) [] h)
  readable_product w (g.product f (g.more_factors sign x fs)) h = tt

  readable_sum : (w : Wanted) (x : g.Sum) → sum_faults s w x ≡ [] → IsReadableFactor (factor_of_sum x)
  readable_sum w (g.sum q g.no_terms) h = readable_product w q (first_nil (product_faults s w q) [] h)
  readable_sum w (g.sum q (g.more_terms sign x ts)) h = tt

  readable_neg : (w : Wanted) (x : g.Neg) → neg_faults s w x ≡ [] → IsReadableFactor (factor_of_neg x)
  readable_neg w (g.negated at n) h = tt
  readable_neg w (g.relation a g.alone) h = readable_sum w a (first_nil (sum_faults s w a) [] h)
  readable_neg w (g.relation a (g.compared r b)) h = tt

  readable_both : (w : Wanted) (x : g.Both) → both_faults s w x ≡ [] → IsReadableFactor (factor_of_both x)
  readable_both w (g.both n g.no_ands) h = readable_neg w n (first_nil (neg_faults s w n) [] h)
  readable_both w (g.both n (g.more_ands at x ns)) h = tt

  readable_expr : (w : Wanted) (x : g.Expr) → expr_faults s w x ≡ [] → IsReadableFactor (factor_of_expr x)
  readable_expr w (g.expr b g.no_ors) h = readable_both w b (first_nil (both_faults s w b) [] h)
  readable_expr w (g.expr b (g.more_ors at x os)) h = tt

  right_readable : (e : g.Expr) (at : At) (found : Option Meaning) → kind_faults need.Readable at found ≡ []
      → right_by s e at found ≡ value_faults s e
  right_readable e at None h = refl
  right_readable e at (Some (m.Local place)) h = refl
  right_readable e at (Some (m.Simple item)) h = refl
  right_readable e at (Some (m.Literal value)) h = refl
  right_readable e at (Some (m.Array item)) h = refl
  right_readable e at (Some (m.Procedure number gives parameters)) h = no_fault h
  right_readable e at (Some (m.ReceiveFile item number)) h = refl
  right_readable e at (Some (m.ProcessFile item number)) h = refl
  right_readable e at (Some (m.StrayFile item number)) h = refl

  right_lone : (e : g.Expr) (x : Option Named) → IsReadable x → right_named s e x ≡ value_faults s e
  right_lone e None h = refl
  right_lone e (Some x) h = right_readable e x.at (meaning_of s x.name) h

  assign_readable : (target : g.Spot) (e : g.Expr) (at : At) (found : Option Meaning)
      → kind_faults need.Readable at found ≡ []
      → assign_by s target e found ≡ what.Assign (target_of_spot s target) (value_of_expr s e)
  assign_readable target e at None h = refl
  assign_readable target e at (Some (m.Local place)) h = refl
  assign_readable target e at (Some (m.Simple item)) h = refl
  assign_readable target e at (Some (m.Literal value)) h = refl
  assign_readable target e at (Some (m.Array item)) h = refl
  assign_readable target e at (Some (m.Procedure number gives parameters)) h = no_fault h
  assign_readable target e at (Some (m.ReceiveFile item number)) h = refl
  assign_readable target e at (Some (m.ProcessFile item number)) h = refl
  assign_readable target e at (Some (m.StrayFile item number)) h = refl

  assign_lone : (target : g.Spot) (e : g.Expr) (x : Option Named) → IsReadable x
      → assign_by s target e (meaning_by s x) ≡ what.Assign (target_of_spot s target) (value_of_expr s e)
  assign_lone target e None h = refl
  assign_lone target e (Some x) h = assign_readable target e x.at (meaning_of s x.name) h

  -- a value without faults on a right side has none there either
  pub no_call_faults : (e : g.Expr) → value_faults s e ≡ [] → right_faults s e ≡ []
  no_call_faults e h = right_lone e (name_of_expr e) (readable_expr (Value (first_of_expr e)) e h) ∙ h

  -- an assignment of a value without faults is one
  pub no_call_what : (target : g.Spot) (e : g.Expr) → value_faults s e ≡ []
      → assign_by s target e (meaning_by s (name_of_expr e)) ≡ what.Assign (target_of_spot s target) (value_of_expr s e)
  no_call_what target e h = assign_lone target e (name_of_expr e) (readable_expr (Value (first_of_expr e)) e h)
