-- A printed value reads back as itself.
use Rattle.std.proofs.Common.{◌≡◌, ℕ, ◌+◌, ◌<◌, ◌≤◌, zero, suc, List, [], ◌∷◌, ◌++◌, refl, sym, ap, ◌∙◌, arith, subst}
use Rattle.std.specs.Prelude.{max, Some, None}
use Rattle.tal_tree.specs.Rows.{read-is, minus-is, two-is}
use Rattle.tal_tree.specs.declared.expression.Op.{Op}
use Rattle.tal_tree.specs.declared.expression.Op.TheVariants as op
use Rattle.tal_tree.specs.declared.expression.Spot.{Spot, Local, Simple, Element}
use Rattle.tal_tree.specs.declared.expression.Cond.{Truth}
use Rattle.tal_tree.specs.declared.expression.Expr.{Expr, Read, Minus, Two}
use Rattle.tal_tree.specs.declared.program.Program.{Program}
use Rattle.tal_tokens.specs.declared.token.At.{At}
use Rattle.tal_tokens.specs.declared.token.Token.{Token}
use Rattle.tal_tokens.specs.declared.token.Token.TheVariants as tok
use Rattle.tal_syntax.specs.Grammar as g
use Rattle.tal_syntax.specs.Expected.{AllAtMost}
use Rattle.tal_syntax.specs.Nesting.{nest_sum, nest_product, nest_factor}
use Rattle.tal_names.specs.declared.meaning.Need.TheVariants as need
use Rattle.tal_names.specs.declared.meaning.Wanted.{Wanted}
use Rattle.tal_names.specs.declared.meaning.Wanted.TheVariants.{Value}
use Rattle.tal_names.specs.declared.fault.RuleFault.{RuleFault}
use Rattle.tal_names.specs.declared.scope.Scope.{Scope}
use Rattle.tal_rules.specs.Expressions.{sum_faults, product_faults, terms_faults, factor_faults, factors_faults}
use Rattle.tal_rules.specs.Expressions.{wanted_by_terms, wanted_by_factors}
use Rattle.tal_names.specs.Places.{first_of_product, first_of_factor}
use Rattle.tal_names.specs.Scopes.{meaning_of, kind_faults}
use Rattle.tal_meaning.specs.Expressions.{op_of_sign, op_of_scale, value_of_terms, value_of_product, value_of_factor}
use Rattle.tal_meaning.specs.Expressions.{cond_of_sum, cond_of_product, cond_of_factor, read_by}
use Rattle.tal_pieces.specs.declared.piece.Symbol.TheVariants as sign
use Rattle.tal_pieces.specs.declared.piece.Piece.{Piece}
use Rattle.tal_pieces.specs.declared.piece.Piece.TheVariants as piece
use Rattle.tal_pieces.specs.declared.rank.ValueRank.{ValueRank}
use Rattle.tal_pieces.specs.declared.rank.ValueRank.TheVariants as value
use Rattle.tal_pieces.specs.Cuts.{token_of, AreTokens, followed}
use Rattle.tal_pieces.specs.Printed.Names.{named}
use Rattle.tal_pieces.specs.Printed.Expressions.{value_pieces, spot_pieces, op_symbol, left_rank, right_rank}
use Rattle.tal_pieces.proofs.Values.ReadsBack.{IsNamed, IsNamedSpot, ValuesReadBack}
use Rattle.tal_pieces.proofs.Values.Depths.{value_depth}
use Rattle.tal_pieces.specs.Weights.{value_weight, spot_weight}
use Rattle.tal_pieces.proofs.Values.Chains.{one_term, of_one_term, value_one_term, faults_one_term, truth_one_term}
use Rattle.tal_pieces.proofs.Values.Chains.{nest_one_term, one_factor, of_one_factor, value_one_factor}
use Rattle.tal_pieces.proofs.Values.Chains.{faults_one_factor, truth_one_factor, nest_one_factor}
use Rattle.tal_pieces.proofs.Values.Deepest.{depth_read, depth_minus, depth_two}
use Rattle.tal_pieces.proofs.Values.Layers.{pieces_read, pieces_minus, pieces_two, weight_read, weight_minus}
use Rattle.tal_pieces.proofs.Values.Layers.{weight_two}
use Rattle.tal_pieces.proofs.Values.Views.{View, is_number, is_read, is_minus, is_two, view}
use Rattle.tal_faultless.proofs.Common.Faultless.{nils}

enclosed_depth : (o : Op) (left right : Expr)
    → value_depth value.Sum (Two o left right) + 1 ≤ value_depth value.Factor (Two o left right)
enclosed_depth op.Add left right =
    omega (arith, depth_two value.Sum op.Add left right, depth_two value.Factor op.Add left right)
enclosed_depth op.Sub left right =
    omega (arith, depth_two value.Sum op.Sub left right, depth_two value.Factor op.Sub left right)
enclosed_depth op.Mul left right =
    omega (arith, depth_two value.Sum op.Mul left right, depth_two value.Factor op.Mul left right)
enclosed_depth op.Div left right =
    omega (arith, depth_two value.Sum op.Div left right, depth_two value.Factor op.Div left right)

-- the first token of pieces
pub record First (k : Piece) (ks : List Piece) (tokens : List Token) : Type 0 where
  pub at : At
  pub rest : List Token
  pub is : tokens ≡ token_of at k ∷ rest
  pub later : AreTokens ks rest

pub first : {k : Piece} {ks : List Piece} {tokens : List Token} → AreTokens (k ∷ ks) tokens → First k ks tokens
first (followed at k later) = record { at = at; rest = _; is = refl; later = later }

pub ends : {xs : List RuleFault} → xs ≡ [] → xs ++ [] ≡ []
ends e = nils e refl

module _ (s : Scope) where
  record FactorBack (e : Expr) (ks : List Piece) (tokens : List Token) : Type 0 where
    syntax : g.Factor
    rest : List Token
    front : tokens ≡ g.of_factor syntax rest
    later : AreTokens ks rest
    same : value_of_factor s syntax ≡ e
    truth : cond_of_factor s syntax ≡ Truth e
    fine : (w : Wanted) → factor_faults s w syntax ≡ []
    deep : (n most : ℕ) (ls : List ℕ) → n + value_depth value.Factor e ≤ most → AllAtMost most ls
        → AllAtMost most (nest_factor n syntax ls)

  record ProductBack (e : Expr) (ks : List Piece) (tokens : List Token) : Type 0 where
    head : g.Factor
    more : g.Factors
    rest : List Token
    front : tokens ≡ g.of_product (g.product head more) rest
    later : AreTokens ks rest
    same : value_of_product s (g.product head more) ≡ e
    truth : cond_of_product s (g.product head more) ≡ Truth e
    fine : (w : Wanted) → factor_faults s w head ≡ []
    more_fine : factors_faults s more ≡ []
    deep : (n most : ℕ) (ls : List ℕ) → n + value_depth value.Product e ≤ most → AllAtMost most ls
        → AllAtMost most (nest_product n (g.product head more) ls)

  pub record SumBack (e : Expr) (ks : List Piece) (tokens : List Token) : Type 0 where
    head : g.Product
    more : g.Terms
    rest : List Token
    front : tokens ≡ g.of_sum (g.sum head more) rest
    later : AreTokens ks rest
    same : value_of_terms s (value_of_product s head) more ≡ e
    truth : cond_of_sum s (g.sum head more) ≡ Truth e
    fine : (w : Wanted) → product_faults s w head ≡ []
    more_fine : terms_faults s more ≡ []
    deep : (n most : ℕ) (ls : List ℕ) → n + value_depth value.Sum e ≤ most → AllAtMost most ls
        → AllAtMost most (nest_sum n (g.sum head more) ls)

  abbrev Back : ValueRank → Expr → List Piece → List Token → Type 0
  Back value.Sum e ks tokens = SumBack e ks tokens
  Back value.Product e ks tokens = ProductBack e ks tokens
  Back value.Factor e ks tokens = FactorBack e ks tokens

  product_fine : {e : Expr} {ks : List Piece} {tokens : List Token} (b : ProductBack e ks tokens) (w : Wanted)
      → product_faults s w (g.product b.head b.more) ≡ []
  product_fine b w = nils (b.fine (wanted_by_factors w (first_of_factor b.head) b.more)) b.more_fine

  pub sum_fine : {e : Expr} {ks : List Piece} {tokens : List Token} (b : SumBack e ks tokens) (w : Wanted)
      → sum_faults s w (g.sum b.head b.more) ≡ []
  sum_fine b w = nils (b.fine (wanted_by_terms w (first_of_product b.head) b.more)) b.more_fine

  product_of_factor : {e : Expr} {ks : List Piece} {tokens : List Token}
      → value_depth value.Factor e ≤ value_depth value.Product e → FactorBack e ks tokens → ProductBack e ks tokens
  product_of_factor level b = record {
    head = b.syntax;
    more = g.no_factors;
    rest = b.rest;
    front = b.front;
    later = b.later;
    same = b.same;
    truth = b.truth;
    fine = b.fine;
    more_fine = refl;
    deep = λ n most ls low h. b.deep n most ls (omega (arith, low, level)) h;
  }

  sum_of_product : {e : Expr} {ks : List Piece} {tokens : List Token}
      → value_depth value.Product e ≤ value_depth value.Sum e → ProductBack e ks tokens → SumBack e ks tokens
  sum_of_product level b = record {
    head = g.product b.head b.more;
    more = g.no_terms;
    rest = b.rest;
    front = b.front;
    later = b.later;
    same = b.same;
    truth = b.truth;
    fine = product_fine b;
    more_fine = refl;
    deep = λ n most ls low h. b.deep n most ls (omega (arith, low, level)) h;
  }

  lift : (r : ValueRank) {e : Expr} {ks : List Piece} {tokens : List Token}
      → value_depth value.Factor e ≤ value_depth value.Product e
      → value_depth value.Product e ≤ value_depth value.Sum e → FactorBack e ks tokens → Back r e ks tokens
  lift value.Sum one two b = sum_of_product two (product_of_factor one b)
  lift value.Product one two b = product_of_factor one b
  lift value.Factor one two b = b

  -- a sum in parentheses
  parens_back : {e : Expr} {ks inner : List Piece} {tokens : List Token}
      (o : First (piece.Symbol sign.Open) inner tokens)
      → value_depth value.Sum e + 1 ≤ value_depth value.Factor e → SumBack e (piece.Symbol sign.Close ∷ ks) o.rest
      → FactorBack e ks tokens
  parens_back o level b =
      let c = first b.later in
      record {
        syntax = g.parens o.at (g.expr (g.both (g.relation (g.sum b.head b.more) g.alone) g.no_ands) g.no_ors) c.at;
        rest = c.rest;
        front = o.is ∙ ap (λ ts. tok.Open o.at ∷ ts) (b.front ∙ ap (g.of_sum (g.sum b.head b.more)) c.is);
        later = c.later;
        same = b.same;
        truth = b.truth;
        fine = λ w. ends (ends (ends (sum_fine b w)));
        deep = λ n most ls low h.
            let room : suc n ≤ most = omega (arith, low, level) in
            (room, b.deep (suc n) most (suc n ∷ ls) (omega (arith, low, level)) (room, h));
      }

  -- a sum and one more product after it
  term_back : (o : Op) (left right : Expr) {ks between : List Piece} {tokens : List Token} (next : g.Sign)
      (b : SumBack left between tokens) (rest : List Token)
      → g.of_sign next ∷ rest ≡ b.rest → op_of_sign next ≡ o
      → value_depth value.Sum (Two o left right) ≡ max (value_depth value.Sum left) (value_depth value.Product right)
      → ProductBack right ks rest → SumBack (Two o left right) ks tokens
  term_back o left right next b rest link is level c =
      record {
        head = b.head;
        more = one_term b.more next (g.product c.head c.more);
        rest = c.rest;
        front =
            b.front ∙ ap (g.of_sum (g.sum b.head b.more)) (sym link ∙ ap (λ ts. g.of_sign next ∷ ts) c.front)
            ∙ ap (g.of_product b.head) (sym (of_one_term b.more next (g.product c.head c.more) c.rest));
        later = c.later;
        same =
            value_one_term s (value_of_product s b.head) b.more next (g.product c.head c.more)
            ∙ (λ i. Two (is i) (b.same i) (c.same i));
        truth =
            truth_one_term s b.head b.more next (g.product c.head c.more)
            ∙ ap Truth (value_one_term s (value_of_product s b.head) b.more next (g.product c.head c.more)
            ∙ (λ i. Two (is i) (b.same i) (c.same i)));
        fine = b.fine;
        more_fine = faults_one_term s b.more next (g.product c.head c.more) b.more_fine
            (product_fine c (Value (first_of_product (g.product c.head c.more))));
        deep = λ n most ls low h.
            subst (λ xs. AllAtMost most (nest_product n b.head xs))
            (sym (nest_one_term b.more next (g.product c.head c.more) n ls))
            (b.deep n most (n ∷ nest_product n (g.product c.head c.more) ls) (omega (arith, low, level))
            (omega (arith, low), c.deep n most ls (omega (arith, low, level)) h));
      }

  -- a product and one more factor after it
  factor_back : (o : Op) (left right : Expr) {ks between : List Piece} {tokens : List Token} (next : g.Scale)
      (b : ProductBack left between tokens) (rest : List Token)
      → g.of_scale next ∷ rest ≡ b.rest → op_of_scale next ≡ o
      → value_depth value.Product (Two o left right)
      ≡ max (value_depth value.Product left) (value_depth value.Factor right)
      → FactorBack right ks rest → ProductBack (Two o left right) ks tokens
  factor_back o left right next b rest link is level c =
      record {
        head = b.head;
        more = one_factor b.more next c.syntax;
        rest = c.rest;
        front =
            b.front ∙ ap (g.of_product (g.product b.head b.more)) (sym link ∙ ap (λ ts. g.of_scale next ∷ ts) c.front)
            ∙ ap (g.of_factor b.head) (sym (of_one_factor b.more next c.syntax c.rest));
        later = c.later;
        same =
            value_one_factor s (value_of_factor s b.head) b.more next c.syntax
            ∙ (λ i. Two (is i) (b.same i) (c.same i));
        truth =
            truth_one_factor s b.head b.more next c.syntax
            ∙ ap Truth (value_one_factor s (value_of_factor s b.head) b.more next c.syntax
            ∙ (λ i. Two (is i) (b.same i) (c.same i)));
        fine = b.fine;
        more_fine = faults_one_factor s b.more next c.syntax b.more_fine (c.fine (Value (first_of_factor c.syntax)));
        deep = λ n most ls low h.
            subst (λ xs. AllAtMost most (nest_factor n b.head xs)) (sym (nest_one_factor b.more next c.syntax n ls))
            (b.deep n most (n ∷ nest_factor n c.syntax ls) (omega (arith, low, level))
            (omega (arith, low), c.deep n most ls (omega (arith, low, level)) h));
      }

  as_sum : (o : Op) (left right : Expr) {ks : List Piece} {tokens : List Token}
      → Back (left_rank o) (Two o left right) ks tokens → SumBack (Two o left right) ks tokens
  as_sum op.Add left right b = b
  as_sum op.Sub left right b = b
  as_sum op.Mul left right b =
      sum_of_product (omega (arith, depth_two value.Sum op.Mul left right, depth_two value.Product op.Mul left right)) b
  as_sum op.Div left right b =
      sum_of_product (omega (arith, depth_two value.Sum op.Div left right, depth_two value.Product op.Div left right)) b

module _ (p : Program) (locals : List (List ℕ)) (s : Scope) where
  abbrev Recur : ℕ → Type 0
  Recur n =
      (r : ValueRank) (e : Expr) → value_weight e < n → IsNamed p locals s e → (ks : List Piece) (tokens : List Token)
      → AreTokens (value_pieces p locals r e ks) tokens → Back s r e ks tokens

  -- a variable
  variable_back : (spot : Spot) (text : List ℕ) (ks : List Piece) (tokens : List Token)
      → AreTokens (piece.Name text ∷ ks) tokens
      → ((at : At) → kind_faults need.Readable at (meaning_of s text) ≡ [])
      → read_by (meaning_of s text) None ≡ Read spot → FactorBack s (Read spot) ks tokens
  variable_back spot text ks tokens a fine same =
      let f = first a in
      record {
        syntax = g.read (g.spot f.at text g.no_index);
        rest = f.rest;
        front = f.is;
        later = f.later;
        same = same;
        truth = ap Truth same;
        fine = λ w. ends (fine f.at);
        deep = λ n most ls low h. (omega (arith, low), h);
      }

  spot_back : (n : ℕ) → Recur n → (spot : Spot) → spot_weight spot < n + 1 → IsNamedSpot p locals s spot
      → (ks : List Piece) (tokens : List Token)
      → AreTokens (spot_pieces p locals spot ks) tokens → FactorBack s (Read spot) ks tokens
  spot_back n recur (Local place) small h ks tokens a =
      variable_back (Local place) h.0 ks tokens (subst (λ name. AreTokens (named name ks) tokens) h.1 a)
      (λ at. ap (kind_faults need.Readable at) h.2) (ap (λ x. read_by x None) h.2)
  spot_back n recur (Simple item) small h ks tokens a =
      variable_back (Simple item) h.0 ks tokens (subst (λ name. AreTokens (named name ks) tokens) h.1 a)
      (λ at. ap (kind_faults need.Readable at) h.2) (ap (λ x. read_by x None) h.2)
  spot_back n recur (Element item index) small h ks tokens a =
      let after : List Piece =
      piece.Symbol sign.OpenIndex ∷ value_pieces p locals value.Sum index (piece.Symbol sign.CloseIndex ∷ ks) in
      let f = first (subst (λ name. AreTokens (named name after) tokens) h.0.1 a) in
      let o = first f.later in
      let b = recur value.Sum index (omega (arith, small)) h.1 (piece.Symbol sign.CloseIndex ∷ ks) o.rest o.later in
      let c = first b.later in
      record {
        syntax = g.read (g.spot f.at h.0.0 (g.index o.at
            (g.expr (g.both (g.relation (g.sum b.head b.more) g.alone) g.no_ands) g.no_ors) c.at));
        rest = c.rest;
        front =
            f.is ∙ ap (λ ts. tok.Name f.at h.0.0 ∷ ts)
            (o.is ∙ ap (λ ts. tok.OpenIndex o.at ∷ ts) (b.front ∙ ap (g.of_sum (g.sum b.head b.more)) c.is));
        later = c.later;
        same = λ i. read_by (h.0.2 i) (Some (b.same i));
        truth = λ i. Truth (read_by (h.0.2 i) (Some (b.same i)));
        fine = λ w. nils (ap (kind_faults need.Array f.at) h.0.2)
            (ends (ends (ends (sum_fine s b (Value (first_of_product b.head))))));
        deep = λ n most ls low held.
            let room : suc n ≤ most = omega (arith, low, depth_read value.Factor (Element item index)) in (
              omega (arith, room),
              (
                room,
                b.deep (suc n) most (suc n ∷ ls)
                    (omega (arith, low, depth_read value.Factor (Element item index))) (room, held),
              ),
            );
      }

  -- an operator's two sides
  chain_back : (n : ℕ) → Recur n → (o : Op) (left right : Expr) → value_weight left < n → value_weight right < n
      → IsNamed p locals s left → IsNamed p locals s right
      → (ks : List Piece) (tokens : List Token)
      → AreTokens (value_pieces p locals (left_rank o) left
      (piece.Symbol (op_symbol o) ∷ value_pieces p locals (right_rank o) right ks)) tokens
      → Back s (left_rank o) (Two o left right) ks tokens
  chain_back n recur op.Add left right low high hl hr ks tokens a =
      let b = recur value.Sum left low hl (piece.Symbol sign.Plus ∷ value_pieces p locals value.Product right ks)
      tokens a in
      let f = first b.later in
      term_back s op.Add left right (g.plus f.at) b f.rest (sym f.is) refl (depth_two value.Sum op.Add left right)
      (recur value.Product right high hr ks f.rest f.later)
  chain_back n recur op.Sub left right low high hl hr ks tokens a =
      let b = recur value.Sum left low hl (piece.Symbol sign.Minus ∷ value_pieces p locals value.Product right ks)
      tokens a in
      let f = first b.later in
      term_back s op.Sub left right (g.dash f.at) b f.rest (sym f.is) refl (depth_two value.Sum op.Sub left right)
      (recur value.Product right high hr ks f.rest f.later)
  chain_back n recur op.Mul left right low high hl hr ks tokens a =
      let b = recur value.Product left low hl (piece.Symbol sign.Star ∷ value_pieces p locals value.Factor right ks)
      tokens a in
      let f = first b.later in
      factor_back s op.Mul left right (g.times f.at) b f.rest (sym f.is) refl
      (depth_two value.Product op.Mul left right) (recur value.Factor right high hr ks f.rest f.later)
  chain_back n recur op.Div left right low high hl hr ks tokens a =
      let b = recur value.Product left low hl (piece.Symbol sign.Slash ∷ value_pieces p locals value.Factor right ks)
      tokens a in
      let f = first b.later in
      factor_back s op.Div left right (g.over f.at) b f.rest (sym f.is) refl
      (depth_two value.Product op.Div left right) (recur value.Factor right high hr ks f.rest f.later)

  -- in parentheses
  enclosed_back : (n : ℕ) → Recur n → (o : Op) (left right : Expr) → value_weight left < n → value_weight right < n
      → IsNamed p locals s left → IsNamed p locals s right
      → (ks : List Piece) (tokens : List Token)
      → AreTokens (piece.Symbol sign.Open ∷ value_pieces p locals (left_rank o) left (piece.Symbol (op_symbol o)
      ∷ value_pieces p locals (right_rank o) right (piece.Symbol sign.Close ∷ ks))) tokens
      → FactorBack s (Two o left right) ks tokens
  enclosed_back n recur o left right low high hl hr ks tokens a =
      let f = first a in
      parens_back s f (enclosed_depth o left right)
      (as_sum s o left right (chain_back n recur o left right low high hl hr (piece.Symbol sign.Close ∷ ks) f.rest
      f.later))

  two_back : (n : ℕ) → Recur n → (r : ValueRank) (o : Op) (left right : Expr) → value_weight left < n
      → value_weight right < n
      → IsNamed p locals s left → IsNamed p locals s right → (ks : List Piece) (tokens : List Token)
      → AreTokens (value_pieces p locals r (Two o left right) ks) tokens → Back s r (Two o left right) ks tokens
  two_back n recur value.Sum o left right low high hl hr ks tokens a =
      as_sum s o left right (chain_back n recur o left right low high hl hr ks tokens
      (subst (λ pieces. AreTokens pieces tokens) (pieces_two p locals value.Sum o left right ks) a))
  two_back n recur value.Product op.Add left right low high hl hr ks tokens a =
      product_of_factor s (omega (
        arith,
        depth_two value.Product op.Add left right,
        depth_two value.Factor op.Add left right,
      )) (enclosed_back n recur op.Add left right low high hl hr ks tokens
      (subst (λ pieces. AreTokens pieces tokens) (pieces_two p locals value.Product op.Add left right ks) a))
  two_back n recur value.Product op.Sub left right low high hl hr ks tokens a =
      product_of_factor s (omega (
        arith,
        depth_two value.Product op.Sub left right,
        depth_two value.Factor op.Sub left right,
      )) (enclosed_back n recur op.Sub left right low high hl hr ks tokens
      (subst (λ pieces. AreTokens pieces tokens) (pieces_two p locals value.Product op.Sub left right ks) a))
  two_back n recur value.Product op.Mul left right low high hl hr ks tokens a =
      chain_back n recur op.Mul left right low high hl hr ks tokens
      (subst (λ pieces. AreTokens pieces tokens) (pieces_two p locals value.Product op.Mul left right ks) a)
  two_back n recur value.Product op.Div left right low high hl hr ks tokens a =
      chain_back n recur op.Div left right low high hl hr ks tokens
      (subst (λ pieces. AreTokens pieces tokens) (pieces_two p locals value.Product op.Div left right ks) a)
  two_back n recur value.Factor o left right low high hl hr ks tokens a =
      enclosed_back n recur o left right low high hl hr ks tokens
      (subst (λ pieces. AreTokens pieces tokens) (pieces_two p locals value.Factor o left right ks) a)

  by_view : (n : ℕ) → Recur n → (r : ValueRank) (e : Expr) → View e → value_weight e < n + 1 → IsNamed p locals s e
      → (ks : List Piece) (tokens : List Token)
      → AreTokens (value_pieces p locals r e ks) tokens → Back s r e ks tokens
  by_view n recur r _ (is_number v) small h ks tokens a =
      let f = first a in
      lift s r (omega arith) (omega arith) (record {
        syntax = g.number f.at v;
        rest = f.rest;
        front = f.is;
        later = f.later;
        same = refl;
        truth = refl;
        fine = λ w. refl;
        deep = λ n most ls low held. (omega (arith, low), held);
      })
  by_view n recur r _ (is_read spot) small h ks tokens a =
      lift s r (omega (arith, depth_read value.Product spot, depth_read value.Factor spot))
      (omega (arith, depth_read value.Sum spot, depth_read value.Product spot))
      (spot_back n recur spot (omega (arith, small, weight_read spot))
      (subst (λ X. X) (ap (IsNamed p locals s) (read-is spot)) h) ks tokens
      (subst (λ pieces. AreTokens pieces tokens) (pieces_read p locals r spot ks) a))
  by_view n recur r _ (is_minus inner) small h ks tokens a =
      let f = first (subst (λ pieces. AreTokens pieces tokens) (pieces_minus p locals r inner ks) a) in
      let b = recur value.Factor inner (omega (arith, small, weight_minus inner))
      (subst (λ X. X) (ap (IsNamed p locals s) (minus-is inner)) h) ks f.rest f.later in
      lift s r (omega (arith, depth_minus value.Product inner, depth_minus value.Factor inner))
      (omega (arith, depth_minus value.Sum inner, depth_minus value.Product inner)) (record {
        syntax = g.minus f.at b.syntax;
        rest = b.rest;
        front = f.is ∙ ap (λ ts. tok.Minus f.at ∷ ts) b.front;
        later = b.later;
        same = ap Minus b.same;
        truth = ap (λ x. Truth (Minus x)) b.same;
        fine = λ w. b.fine (Value (first_of_factor b.syntax));
        deep = λ n most ls low held.
            let room : suc n + value_depth value.Factor inner ≤ most =
            omega (arith, low, depth_minus value.Factor inner) in
            (omega (arith, room), b.deep (suc n) most ls room held);
      })
  by_view n recur r _ (is_two o left right) small h ks tokens a =
      let both = subst (λ X. X) (ap (IsNamed p locals s) (two-is o left right)) h in
      two_back n recur r o left right (omega (arith, small, weight_two o left right))
      (omega (arith, small, weight_two o left right)) both.0 both.1 ks tokens a

  back : (n : ℕ) → Recur n
  back zero r e small h ks tokens a = absurd (omega (arith, small))
  back (suc n) r e small h ks tokens a = by_view n (back n) r e (view e) (omega (arith, small)) h ks tokens a

  pub values_read_back : ValuesReadBack p locals s
  values_read_back e ks tokens h a =
      let b = back (value_weight e + 1) value.Sum e (omega arith) h ks tokens a in
      record {
        syntax = g.sum b.head b.more;
        rest = b.rest;
        front = b.front;
        later = b.later;
        same = b.same;
        truth = b.truth;
        faultless = sum_fine s b;
        shallow = b.deep;
      }
