-- What the expressions of a text stand for can be spelled.
use Rattle.std.proofs.Common.{ℕ, zero, List, ◌∷◌, arith}
use Rattle.std.specs.Prelude.{pos, Option, Some, None, FitsSigned}
use Rattle.std.specs.Int.{w16}
use Rattle.tal_tree.specs.declared.expression.Spot.{Local, Simple, Element}
use Rattle.tal_tree.specs.declared.expression.Expr.{Expr, Number, Two}
use Rattle.tal_tree.specs.declared.expression.Cond.{Cond, Truth, And, Or}
use Rattle.tal_tree.specs.declared.program.Program.{Program}
use Rattle.tal_tokens.specs.declared.token.Token.{Token}
use Rattle.tal_tokens.specs.declared.token.Token.TheVariants as tok
use Rattle.tal_syntax.specs.Grammar as g
use Rattle.tal_names.specs.declared.meaning.Meaning.{Meaning}
use Rattle.tal_names.specs.declared.meaning.Meaning.TheVariants as m
use Rattle.tal_names.specs.declared.scope.Scope.{Scope}
use Rattle.tal_names.specs.Scopes.{meaning_of}
use Rattle.tal_meaning.specs.Expressions.{op_of_sign, op_of_scale, rel_of, read_by, target_by, target_of_spot}
use Rattle.tal_meaning.specs.Expressions.{value_of_expr, value_of_both, value_of_neg, value_of_sum, value_of_terms}
use Rattle.tal_meaning.specs.Expressions.{value_of_product, value_of_factors, value_of_factor, value_of_spot}
use Rattle.tal_meaning.specs.Expressions.{value_of_index, cond_of_expr, cond_of_ors, cond_of_both, cond_of_ands}
use Rattle.tal_meaning.specs.Expressions.{cond_of_neg, cond_of_sum, cond_of_product, cond_of_factor}
use Rattle.tal_pieces.proofs.Spelling.SpelledTokens.{IsSpelled}
use Rattle.tal_pieces.proofs.Words.LiteralWords.{FoundFits, ScopeFits}
use Rattle.tal_pieces.proofs.Words.WordTrees.{NamesSpell, LocalsSpell, SpellsValue, SpellsSpot, SpellsTest}
use Rattle.tal_pieces.proofs.Words.WordTrees.{spells_number, spells_read, spells_minus, spells_two, spells_local}
use Rattle.tal_pieces.proofs.Words.WordTrees.{spells_simple, spells_element, spells_truth, spells_compare, spells_not}
use Rattle.tal_pieces.proofs.Words.WordTrees.{spells_and, spells_or}
use Rattle.tal_pieces.proofs.Common.Entries.{Each}

-- every token of a list can be spelled
abbrev pub AllSpelled : List Token → Type 0
AllSpelled ks = Each IsSpelled ks

pub zero_fits : FitsSigned w16 (pos zero)
zero_fits = omega arith

-- the value and the condition of a part, and the tokens after it
pub record Words (p : Program) (locals : List (List ℕ)) (e : Expr) (c : Cond) (ks : List Token) : Type 0 where
  pub value : SpellsValue p locals e
  pub test : SpellsTest p locals c
  pub later : AllSpelled ks

module _ (p : Program) (locals : List (List ℕ)) (names : NamesSpell p) (own : LocalsSpell locals) (s : Scope)
    (fits : ScopeFits s) where
  abbrev ValueWords : Expr → List Token → Type 0
  ValueWords e ks = SpellsValue p locals e × AllSpelled ks

  abbrev TestWords : Cond → List Token → Type 0
  TestWords c ks = SpellsTest p locals c × AllSpelled ks

  abbrev IndexSpells : Option Expr → Type 0
  IndexSpells None = Unit {0}
  IndexSpells (Some e) = SpellsValue p locals e

  zero_spells : SpellsValue p locals (Number (pos zero))
  zero_spells = spells_number p locals names own (pos zero) zero_fits

  -- what a name reads and what an assignment to it sets
  by_meaning : (found : Option Meaning) (index : Option Expr) → FoundFits found → IndexSpells index
      → SpellsValue p locals (read_by found index)
  by_meaning None index f h = zero_spells
  by_meaning (Some (m.Local place)) index f h =
      spells_read p locals names own (Local place) (spells_local p locals names own place)
  by_meaning (Some (m.Simple item)) index f h =
      spells_read p locals names own (Simple item) (spells_simple p locals names own item)
  by_meaning (Some (m.Literal value)) index f h = spells_number p locals names own value f
  by_meaning (Some (m.Array item)) None f h = zero_spells
  by_meaning (Some (m.Array item)) (Some index) f h =
      spells_read p locals names own (Element item index) (spells_element p locals names own item index h)
  by_meaning (Some (m.Procedure number gives parameters)) index f h = zero_spells
  by_meaning (Some (m.ReceiveFile item number)) index f h = zero_spells
  by_meaning (Some (m.ProcessFile item number)) index f h = zero_spells
  by_meaning (Some (m.StrayFile item number)) index f h = zero_spells

  by_target : (found : Option Meaning) (index : Option Expr) → IndexSpells index
      → SpellsSpot p locals (target_by found index)
  by_target None index h = spells_simple p locals names own 0
  by_target (Some (m.Local place)) index h = spells_local p locals names own place
  by_target (Some (m.Simple item)) index h = spells_simple p locals names own item
  by_target (Some (m.Literal value)) index h = spells_simple p locals names own 0
  by_target (Some (m.Array item)) None h = spells_simple p locals names own 0
  by_target (Some (m.Array item)) (Some index) h = spells_element p locals names own item index h
  by_target (Some (m.Procedure number gives parameters)) index h = spells_simple p locals names own 0
  by_target (Some (m.ReceiveFile item number)) index h = spells_simple p locals names own 0
  by_target (Some (m.ProcessFile item number)) index h = spells_simple p locals names own 0
  by_target (Some (m.StrayFile item number)) index h = spells_simple p locals names own 0

  as_truth : {e : Expr} {ks : List Token} → ValueWords e ks → Words p locals e (Truth e) ks
  as_truth {e} r = record { value = r.0; test = spells_truth p locals names own e r.0; later = r.1 }

  mutual
    pub words_expr : (e : g.Expr) (ks : List Token) → AllSpelled (g.of_expr e ks)
        → Words p locals (value_of_expr s e) (cond_of_expr s e) ks
    words_expr (g.expr b os) ks h =
        let r = words_both b (g.of_ors os ks) h in
        let o = words_ors os (cond_of_both s b) r.test ks r.later in
        record { value = r.value; test = o.0; later = o.1 }

    words_ors : (os : g.Ors) (left : Cond) → SpellsTest p locals left → (ks : List Token) → AllSpelled (g.of_ors os ks)
        → TestWords (cond_of_ors s left os) ks
    words_ors g.no_ors left l ks h = (l, h)
    words_ors (g.more_ors at b os) left l ks h =
        let r = words_both b (g.of_ors os ks) h.1 in
        words_ors os (Or left (cond_of_both s b)) (spells_or p locals names own left (cond_of_both s b) l r.test) ks
        r.later

    words_both : (b : g.Both) (ks : List Token) → AllSpelled (g.of_both b ks)
        → Words p locals (value_of_both s b) (cond_of_both s b) ks
    words_both (g.both n ns) ks h =
        let r = words_neg n (g.of_ands ns ks) h in
        let o = words_ands ns (cond_of_neg s n) r.test ks r.later in
        record { value = r.value; test = o.0; later = o.1 }

    words_ands : (ns : g.Ands) (left : Cond) → SpellsTest p locals left → (ks : List Token)
        → AllSpelled (g.of_ands ns ks) → TestWords (cond_of_ands s left ns) ks
    words_ands g.no_ands left l ks h = (l, h)
    words_ands (g.more_ands at n ns) left l ks h =
        let r = words_neg n (g.of_ands ns ks) h.1 in
        words_ands ns (And left (cond_of_neg s n)) (spells_and p locals names own left (cond_of_neg s n) l r.test) ks
        r.later

    words_neg : (n : g.Neg) (ks : List Token) → AllSpelled (g.of_neg n ks)
        → Words p locals (value_of_neg s n) (cond_of_neg s n) ks
    words_neg (g.negated at n) ks h =
        let r = words_neg n ks h.1 in
        record { value = zero_spells; test = spells_not p locals names own (cond_of_neg s n) r.test; later = r.later }
    words_neg (g.relation a g.alone) ks h = words_sum a ks h
    words_neg (g.relation a (g.compared r b)) ks h =
        let x = words_sum a (g.of_compared (g.compared r b) ks) h in
        let y = words_sum b ks x.later.1 in
        record {
          value = x.value;
          test = spells_compare p locals names own (rel_of r) (value_of_sum s a)
              (value_of_sum s b) x.value y.value;
          later = y.later;
        }

    words_sum : (x : g.Sum) (ks : List Token) → AllSpelled (g.of_sum x ks)
        → Words p locals (value_of_sum s x) (cond_of_sum s x) ks
    words_sum (g.sum q g.no_terms) ks h = words_product q ks h
    words_sum (g.sum q (g.more_terms sign x ts)) ks h =
        let r = words_product q (g.of_terms (g.more_terms sign x ts) ks) h in
        as_truth (words_terms (g.more_terms sign x ts) (value_of_product s q) r.value ks r.later)

    words_terms : (ts : g.Terms) (left : Expr) → SpellsValue p locals left → (ks : List Token)
        → AllSpelled (g.of_terms ts ks) → ValueWords (value_of_terms s left ts) ks
    words_terms g.no_terms left l ks h = (l, h)
    words_terms (g.more_terms sign q ts) left l ks h =
        let r = words_product q (g.of_terms ts ks) h.1 in
        words_terms ts (Two (op_of_sign sign) left (value_of_product s q))
        (spells_two p locals names own (op_of_sign sign) left (value_of_product s q) l r.value) ks r.later

    words_product : (q : g.Product) (ks : List Token) → AllSpelled (g.of_product q ks)
        → Words p locals (value_of_product s q) (cond_of_product s q) ks
    words_product (g.product f g.no_factors) ks h = words_factor f ks h
    words_product (g.product f (g.more_factors scale x fs)) ks h =
        let r = words_factor f (g.of_factors (g.more_factors scale x fs) ks) h in
        as_truth (words_factors (g.more_factors scale x fs) (value_of_factor s f) r.value ks r.later)

    words_factors : (fs : g.Factors) (left : Expr) → SpellsValue p locals left → (ks : List Token)
        → AllSpelled (g.of_factors fs ks)
        → ValueWords (value_of_factors s left fs) ks
    words_factors g.no_factors left l ks h = (l, h)
    words_factors (g.more_factors scale f fs) left l ks h =
        let r = words_factor f (g.of_factors fs ks) h.1 in
        words_factors fs (Two (op_of_scale scale) left (value_of_factor s f))
        (spells_two p locals names own (op_of_scale scale) left (value_of_factor s f) l r.value) ks r.later

    words_factor : (f : g.Factor) (ks : List Token) → AllSpelled (g.of_factor f ks)
        → Words p locals (value_of_factor s f) (cond_of_factor s f) ks
    words_factor (g.minus at f) ks h =
        let r = words_factor f ks h.1 in
        as_truth (spells_minus p locals names own (value_of_factor s f) r.value, r.later)
    words_factor (g.number at v) ks h = as_truth (spells_number p locals names own v h.0, h.1)
    words_factor (g.read x) ks h = as_truth (words_spot x ks h)
    words_factor (g.parens start e close) ks h =
        let r = words_expr e (tok.Close close ∷ ks) h.1 in
        record { value = r.value; test = r.test; later = r.later.1 }

    words_spot : (x : g.Spot) (ks : List Token) → AllSpelled (g.of_spot x ks) → ValueWords (value_of_spot s x) ks
    words_spot (g.spot at name i) ks h =
        let r = words_index i ks h.1 in
        (by_meaning (meaning_of s name) (value_of_index s i) (fits name) r.0, r.1)

    words_index : (i : g.Index) (ks : List Token) → AllSpelled (g.of_index i ks)
        → IndexSpells (value_of_index s i) × AllSpelled ks
    words_index g.no_index ks h = (tt, h)
    words_index (g.index start e close) ks h =
        let r = words_expr e (tok.CloseIndex close ∷ ks) h.1 in
        (r.value, r.later.1)

  pub words_target : (x : g.Spot) (ks : List Token) → AllSpelled (g.of_spot x ks)
      → SpellsSpot p locals (target_of_spot s x) × AllSpelled ks
  words_target (g.spot at name i) ks h =
      let r = words_index i ks h.1 in
      (by_target (meaning_of s name) (value_of_index s i) r.0, r.1)
