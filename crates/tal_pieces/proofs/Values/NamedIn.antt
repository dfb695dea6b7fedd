-- What the expressions of a text stand for is named in the program, and in the printed text.
use Rattle.std.proofs.Common.{◌≡◌, ℕ, List, refl, sym, ap, subst}
use Rattle.std.specs.Prelude.{Option, Some, None}
use Rattle.tal_tree.specs.Rows.{read-is, minus-is, two-is, not-is, and-is, or-is}
use Rattle.tal_tree.specs.declared.expression.Op.{Op}
use Rattle.tal_tree.specs.declared.expression.Spot.{Spot, Local, Simple, Element}
use Rattle.tal_tree.specs.declared.expression.Expr.{Expr, Read, Minus, Two}
use Rattle.tal_tree.specs.declared.expression.Cond.{Cond, Not, And, Or}
use Rattle.tal_tree.specs.declared.program.Program.{Program}
use Rattle.tal_syntax.specs.Grammar as g
use Rattle.tal_names.specs.declared.meaning.Meaning.{Meaning}
use Rattle.tal_names.specs.declared.meaning.Meaning.TheVariants as m
use Rattle.tal_names.specs.declared.scope.Scope.{Scope}
use Rattle.tal_names.specs.Scopes.{meaning_of}
use Rattle.tal_meaning.specs.Expressions.{op_of_sign, op_of_scale, read_by, value_of_expr, value_of_both, value_of_neg}
use Rattle.tal_meaning.specs.Expressions.{value_of_sum, value_of_terms, value_of_product, value_of_factors}
use Rattle.tal_meaning.specs.Expressions.{value_of_factor, value_of_spot, value_of_index, cond_of_expr, cond_of_ors}
use Rattle.tal_meaning.specs.Expressions.{cond_of_both, cond_of_ands, cond_of_neg, cond_of_sum, cond_of_product}
use Rattle.tal_meaning.specs.Expressions.{cond_of_factor}
use Rattle.tal_pieces.proofs.Values.ReadsBack.{IsNamed, IsNamedSpot}
use Rattle.tal_pieces.proofs.Values.TestsReadBack.{IsNamedTest}
use Rattle.tal_pieces.proofs.Scopes.Agreement.{Agreement, printed_scope}

module _ (p : Program) (locals : List (List ℕ)) (s : Scope) (agreed : Agreement p locals s) where
  named_read : (spot : Spot) → IsNamedSpot p locals (printed_scope s) spot
      → IsNamed p locals (printed_scope s) (Read spot)
  named_read spot h = subst (λ X. X) (sym (ap (IsNamed p locals (printed_scope s)) (read-is spot))) h

  named_minus : (inner : Expr) → IsNamed p locals (printed_scope s) inner
      → IsNamed p locals (printed_scope s) (Minus inner)
  named_minus inner h = subst (λ X. X) (sym (ap (IsNamed p locals (printed_scope s)) (minus-is inner))) h

  named_two : (o : Op) (left right : Expr) → IsNamed p locals (printed_scope s) left
      → IsNamed p locals (printed_scope s) right → IsNamed p locals (printed_scope s) (Two o left right)
  named_two o left right hl hr =
      subst (λ X. X) (sym (ap (IsNamed p locals (printed_scope s)) (two-is o left right))) (hl, hr)

  abbrev IsNamedIndex : Option Expr → Type 0
  IsNamedIndex None = Unit {0}
  IsNamedIndex (Some e) = IsNamed p locals (printed_scope s) e

  by_meaning : (name : List ℕ) (found : Option Meaning) → meaning_of s name ≡ found → (index : Option Expr)
      → IsNamedIndex index → IsNamed p locals (printed_scope s) (read_by found index)
  by_meaning name None e index h = tt
  by_meaning name (Some (m.Local place)) e index h =
      named_read (Local place) (name, agreed.local place name e, agreed.lasting name (m.Local place) refl e)
  by_meaning name (Some (m.Simple item)) e index h =
      named_read (Simple item) (name, agreed.simple item name e, agreed.lasting name (m.Simple item) refl e)
  by_meaning name (Some (m.Literal value)) e index h = tt
  by_meaning name (Some (m.Array item)) e None h = tt
  by_meaning name (Some (m.Array item)) e (Some index) h =
      named_read (Element item index) ((name, agreed.array item name e, agreed.lasting name (m.Array item) refl e), h)
  by_meaning name (Some (m.Procedure number gives parameters)) e index h = tt
  by_meaning name (Some (m.ReceiveFile item number)) e index h = tt
  by_meaning name (Some (m.ProcessFile item number)) e index h = tt
  by_meaning name (Some (m.StrayFile item number)) e index h = tt

  mutual
    pub named_expr : (e : g.Expr) → IsNamed p locals (printed_scope s) (value_of_expr s e)
    named_expr (g.expr b os) = named_both b

    named_both : (b : g.Both) → IsNamed p locals (printed_scope s) (value_of_both s b)
    named_both (g.both n ns) = named_neg n

    named_neg : (n : g.Neg) → IsNamed p locals (printed_scope s) (value_of_neg s n)
    named_neg (g.negated at n) = tt
    named_neg (g.relation a c) = named_sum a

    pub named_sum : (x : g.Sum) → IsNamed p locals (printed_scope s) (value_of_sum s x)
    named_sum (g.sum q ts) = named_terms (value_of_product s q) (named_product q) ts

    named_terms : (left : Expr) → IsNamed p locals (printed_scope s) left → (ts : g.Terms)
        → IsNamed p locals (printed_scope s) (value_of_terms s left ts)
    named_terms left h g.no_terms = h
    named_terms left h (g.more_terms sign q ts) =
        named_terms (Two (op_of_sign sign) left (value_of_product s q))
        (named_two (op_of_sign sign) left (value_of_product s q) h (named_product q)) ts

    named_product : (q : g.Product) → IsNamed p locals (printed_scope s) (value_of_product s q)
    named_product (g.product f fs) = named_factors (value_of_factor s f) (named_factor f) fs

    named_factors : (left : Expr) → IsNamed p locals (printed_scope s) left → (fs : g.Factors)
        → IsNamed p locals (printed_scope s) (value_of_factors s left fs)
    named_factors left h g.no_factors = h
    named_factors left h (g.more_factors scale f fs) =
        named_factors (Two (op_of_scale scale) left (value_of_factor s f))
        (named_two (op_of_scale scale) left (value_of_factor s f) h (named_factor f)) fs

    named_factor : (f : g.Factor) → IsNamed p locals (printed_scope s) (value_of_factor s f)
    named_factor (g.minus at f) = named_minus (value_of_factor s f) (named_factor f)
    named_factor (g.number at n) = tt
    named_factor (g.read x) = named_spot x
    named_factor (g.parens start e close) = named_expr e

    named_spot : (x : g.Spot) → IsNamed p locals (printed_scope s) (value_of_spot s x)
    named_spot (g.spot at name i) = by_meaning name (meaning_of s name) refl (value_of_index s i) (named_index i)

    named_index : (i : g.Index) → IsNamedIndex (value_of_index s i)
    named_index g.no_index = tt
    named_index (g.index start e close) = named_expr e

  named_not : (inner : Cond) → IsNamedTest p locals (printed_scope s) inner
      → IsNamedTest p locals (printed_scope s) (Not inner)
  named_not inner h = subst (λ X. X) (sym (ap (IsNamedTest p locals (printed_scope s)) (not-is inner))) h

  named_and : (left right : Cond) → IsNamedTest p locals (printed_scope s) left
      → IsNamedTest p locals (printed_scope s) right → IsNamedTest p locals (printed_scope s) (And left right)
  named_and left right hl hr =
      subst (λ X. X) (sym (ap (IsNamedTest p locals (printed_scope s)) (and-is left right))) (hl, hr)

  named_or : (left right : Cond) → IsNamedTest p locals (printed_scope s) left
      → IsNamedTest p locals (printed_scope s) right → IsNamedTest p locals (printed_scope s) (Or left right)
  named_or left right hl hr =
      subst (λ X. X) (sym (ap (IsNamedTest p locals (printed_scope s)) (or-is left right))) (hl, hr)

  mutual
    pub test_expr : (e : g.Expr) → IsNamedTest p locals (printed_scope s) (cond_of_expr s e)
    test_expr (g.expr b os) = test_ors (cond_of_both s b) (test_both b) os

    test_ors : (left : Cond) → IsNamedTest p locals (printed_scope s) left → (os : g.Ors)
        → IsNamedTest p locals (printed_scope s) (cond_of_ors s left os)
    test_ors left h g.no_ors = h
    test_ors left h (g.more_ors at b os) =
        test_ors (Or left (cond_of_both s b)) (named_or left (cond_of_both s b) h (test_both b)) os

    test_both : (b : g.Both) → IsNamedTest p locals (printed_scope s) (cond_of_both s b)
    test_both (g.both n ns) = test_ands (cond_of_neg s n) (test_neg n) ns

    test_ands : (left : Cond) → IsNamedTest p locals (printed_scope s) left → (ns : g.Ands)
        → IsNamedTest p locals (printed_scope s) (cond_of_ands s left ns)
    test_ands left h g.no_ands = h
    test_ands left h (g.more_ands at n ns) =
        test_ands (And left (cond_of_neg s n)) (named_and left (cond_of_neg s n) h (test_neg n)) ns

    test_neg : (n : g.Neg) → IsNamedTest p locals (printed_scope s) (cond_of_neg s n)
    test_neg (g.negated at n) = named_not (cond_of_neg s n) (test_neg n)
    test_neg (g.relation a g.alone) = test_sum a
    test_neg (g.relation a (g.compared r b)) = (named_sum a, named_sum b)

    test_sum : (x : g.Sum) → IsNamedTest p locals (printed_scope s) (cond_of_sum s x)
    test_sum (g.sum q g.no_terms) = test_product q
    test_sum (g.sum q (g.more_terms sign x ts)) =
        named_terms (value_of_product s q) (named_product q) (g.more_terms sign x ts)

    test_product : (q : g.Product) → IsNamedTest p locals (printed_scope s) (cond_of_product s q)
    test_product (g.product f g.no_factors) = test_factor f
    test_product (g.product f (g.more_factors scale x fs)) =
        named_factors (value_of_factor s f) (named_factor f) (g.more_factors scale x fs)

    test_factor : (f : g.Factor) → IsNamedTest p locals (printed_scope s) (cond_of_factor s f)
    test_factor (g.minus at f) = named_minus (value_of_factor s f) (named_factor f)
    test_factor (g.number at n) = tt
    test_factor (g.read x) = named_spot x
    test_factor (g.parens start e close) = test_expr e
