-- One more AND or OR after a chain of the grammar.
use Rattle.std.proofs.Common.{◌≡◌, ℕ, List, [], ◌∷◌, refl, ap}
use Rattle.tal_tree.specs.declared.expression.Cond.{Cond}
use Rattle.tal_tree.specs.declared.expression.Cond.TheVariants as cond
use Rattle.tal_tokens.specs.declared.token.At.{At}
use Rattle.tal_tokens.specs.declared.token.Token.{Token}
use Rattle.tal_tokens.specs.declared.token.Token.TheVariants as tok
use Rattle.tal_syntax.specs.Grammar as g
use Rattle.tal_syntax.specs.Nesting.{nest_ors, nest_both, nest_ands, nest_neg}
use Rattle.tal_names.specs.declared.meaning.Wanted.TheVariants.{Condition}
use Rattle.tal_names.specs.declared.scope.Scope.{Scope}
use Rattle.tal_rules.specs.Expressions.{expr_faults, both_faults, neg_faults, ands_faults, ors_faults}
use Rattle.tal_meaning.specs.Expressions.{cond_of_both, cond_of_neg, cond_of_ands, cond_of_ors}
use Rattle.tal_faultless.proofs.Common.Faultless.{nils, first_nil, second_nil}

abbrev pub one_and : g.Ands → At → g.Neg → g.Ands
one_and g.no_ands at n = g.more_ands at n g.no_ands
one_and (g.more_ands a m ns) at n = g.more_ands a m (one_and ns at n)

pub of_one_and : (ns : g.Ands) (at : At) (n : g.Neg) (ks : List Token)
    → g.of_ands (one_and ns at n) ks ≡ g.of_ands ns (tok.And at ∷ g.of_neg n ks)
of_one_and g.no_ands at n ks = refl
of_one_and (g.more_ands a m ns) at n ks = ap (λ rest. tok.And a ∷ g.of_neg m rest) (of_one_and ns at n ks)

abbrev pub one_or : g.Ors → At → g.Both → g.Ors
one_or g.no_ors at b = g.more_ors at b g.no_ors
one_or (g.more_ors a c os) at b = g.more_ors a c (one_or os at b)

pub of_one_or : (os : g.Ors) (at : At) (b : g.Both) (ks : List Token)
    → g.of_ors (one_or os at b) ks ≡ g.of_ors os (tok.Or at ∷ g.of_both b ks)
of_one_or g.no_ors at b ks = refl
of_one_or (g.more_ors a c os) at b ks = ap (λ rest. tok.Or a ∷ g.of_both c rest) (of_one_or os at b ks)

pub nest_one_and : (ns : g.Ands) (at : At) (x : g.Neg) (n : ℕ) (ls : List ℕ)
    → nest_ands n (one_and ns at x) ls ≡ nest_ands n ns (n ∷ nest_neg n x ls)
nest_one_and g.no_ands at x n ls = refl
nest_one_and (g.more_ands a m ns) at x n ls = ap (λ rest. n ∷ nest_neg n m rest) (nest_one_and ns at x n ls)

pub nest_one_or : (os : g.Ors) (at : At) (b : g.Both) (n : ℕ) (ls : List ℕ)
    → nest_ors n (one_or os at b) ls ≡ nest_ors n os (n ∷ nest_both n b ls)
nest_one_or g.no_ors at b n ls = refl
nest_one_or (g.more_ors a c os) at b n ls = ap (λ rest. n ∷ nest_both n c rest) (nest_one_or os at b n ls)

module _ (s : Scope) where
  pub test_one_and : (left : Cond) (ns : g.Ands) (at : At) (n : g.Neg)
      → cond_of_ands s left (one_and ns at n) ≡ cond.And (cond_of_ands s left ns) (cond_of_neg s n)
  test_one_and left g.no_ands at n = refl
  test_one_and left (g.more_ands a m ns) at n = test_one_and (cond.And left (cond_of_neg s m)) ns at n

  pub faults_one_and : (ns : g.Ands) (at : At) (n : g.Neg) → ands_faults s ns ≡ [] → neg_faults s Condition n ≡ []
      → ands_faults s (one_and ns at n) ≡ []
  faults_one_and g.no_ands at n more last = nils last refl
  faults_one_and (g.more_ands a m ns) at n more last =
      nils (first_nil (neg_faults s Condition m) (ands_faults s ns) more)
      (faults_one_and ns at n (second_nil (neg_faults s Condition m) (ands_faults s ns) more) last)

  pub test_one_or : (left : Cond) (os : g.Ors) (at : At) (b : g.Both)
      → cond_of_ors s left (one_or os at b) ≡ cond.Or (cond_of_ors s left os) (cond_of_both s b)
  test_one_or left g.no_ors at b = refl
  test_one_or left (g.more_ors a c os) at b = test_one_or (cond.Or left (cond_of_both s c)) os at b

  pub faults_one_or : (os : g.Ors) (at : At) (b : g.Both) → ors_faults s os ≡ [] → both_faults s Condition b ≡ []
      → ors_faults s (one_or os at b) ≡ []
  faults_one_or g.no_ors at b more last = nils last refl
  faults_one_or (g.more_ors a c os) at b more last =
      nils (first_nil (both_faults s Condition c) (ors_faults s os) more)
      (faults_one_or os at b (second_nil (both_faults s Condition c) (ors_faults s os) more) last)

  -- in the place of a condition the parts of a chain make no fault of their own
  pub both_fine : (n : g.Neg) (ns : g.Ands) → neg_faults s Condition n ≡ [] → ands_faults s ns ≡ []
      → both_faults s Condition (g.both n ns) ≡ []
  both_fine n g.no_ands e d = nils e d
  both_fine n (g.more_ands at m ns) e d = nils e d

  pub expr_fine : (b : g.Both) (os : g.Ors) → both_faults s Condition b ≡ [] → ors_faults s os ≡ []
      → expr_faults s Condition (g.expr b os) ≡ []
  expr_fine b g.no_ors e d = nils e d
  expr_fine b (g.more_ors at c os) e d = nils e d
