-- The parts of a printed statement read back: its values, its target and its names.
use Rattle.std.proofs.Common.{◌≡◌, ◌≤◌, ℕ, suc, List, [], ◌∷◌, refl, ap, ◌∙◌, arith, subst}
use Rattle.std.specs.Prelude.{Option, Some, None}
use Rattle.tal_tree.specs.declared.expression.Expr.{Expr}
use Rattle.tal_tree.specs.declared.expression.Spot.{Spot, Local, Simple, Element}
use Rattle.tal_tree.specs.declared.expression.Variable.{Variable}
use Rattle.tal_tree.specs.declared.expression.Variable.TheVariants as variable
use Rattle.tal_tree.specs.declared.program.Program.{Program}
use Rattle.tal_tree.specs.declared.statement.What.TheVariants as what
use Rattle.tal_tokens.specs.declared.token.At.{At}
use Rattle.tal_tokens.specs.declared.token.Token.{Token}
use Rattle.tal_tokens.specs.declared.token.Token.TheVariants as tok
use Rattle.tal_syntax.specs.Grammar as g
use Rattle.tal_syntax.specs.Expected.{AllAtMost}
use Rattle.tal_syntax.specs.Nesting.{nest_expr, nest_spot}
use Rattle.tal_names.specs.declared.meaning.Meaning.{Meaning}
use Rattle.tal_names.specs.declared.meaning.Need.TheVariants as need
use Rattle.tal_names.specs.declared.meaning.Wanted.TheVariants.{Value}
use Rattle.tal_names.specs.declared.scope.Scope.{Scope}
use Rattle.tal_rules.specs.Expressions.{value_faults, spot_faults}
use Rattle.tal_names.specs.Places.{first_of_sum, name_of_expr}
use Rattle.tal_names.specs.Scopes.{meaning_of, kind_faults}
use Rattle.tal_rules.specs.Statements.{right_faults}
use Rattle.tal_meaning.specs.Calls.{meaning_by, variable_by}
use Rattle.tal_meaning.specs.Expressions.{value_of_expr, target_of_spot, target_by}
use Rattle.tal_meaning.specs.Statements.{assign_by}
use Rattle.tal_pieces.specs.declared.piece.Symbol.TheVariants as sign
use Rattle.tal_pieces.specs.declared.piece.Piece.{Piece}
use Rattle.tal_pieces.specs.declared.piece.Piece.TheVariants as piece
use Rattle.tal_pieces.specs.declared.rank.ValueRank.TheVariants as value
use Rattle.tal_pieces.specs.Cuts.{AreTokens}
use Rattle.tal_pieces.specs.Printed.Expressions.{value_pieces, spot_pieces}
use Rattle.tal_pieces.specs.Printed.Names.{named, variable_name}
use Rattle.tal_pieces.proofs.Values.ReadsBack.{StandsFor}
use Rattle.tal_pieces.proofs.Values.Back.{first, ends, values_read_back}
use Rattle.tal_pieces.proofs.Bodies.NoCall.{no_call_faults, no_call_what}
use Rattle.tal_pieces.proofs.Standing.Stands.{FitsValue, FitsSpot, IsNamedVariable}
use Rattle.tal_faultless.proofs.Common.Faultless.{nils}

-- a sum as an expression
abbrev pub only : g.Sum → g.Expr
only x = g.expr (g.both (g.relation x g.alone) g.no_ands) g.no_ors

-- a name as an expression
abbrev pub lone_name : At → List ℕ → g.Expr
lone_name at name = only (g.sum (g.product (g.read (g.spot at name g.no_index)) g.no_factors) g.no_terms)

-- the tokens begin with a name that stands for this
pub record NameBack (s : Scope) (x : Meaning) (ks : List Piece) (tokens : List Token) : Type 0 where
  pub at : At
  pub text : List ℕ
  pub rest : List Token
  pub front : tokens ≡ tok.Name at text ∷ rest
  pub later : AreTokens ks rest
  pub means : meaning_of s text ≡ Some x

pub name_back : (s : Scope) (name : Option (List ℕ)) (x : Meaning) (ks : List Piece) (tokens : List Token)
    → StandsFor s name x → AreTokens (named name ks) tokens
    → NameBack s x ks tokens
name_back s name x ks tokens h a =
    let f = first (subst (λ o. AreTokens (named o ks) tokens) h.1 a) in
    record { at = f.at; text = h.0; rest = f.rest; front = f.is; later = f.later; means = h.2 }

-- the tokens begin with the name of a variable
pub record VariableBack (s : Scope) (x : Variable) (ks : List Piece) (tokens : List Token) : Type 0 where
  pub at : At
  pub text : List ℕ
  pub rest : List Token
  pub front : tokens ≡ tok.Name at text ∷ rest
  pub later : AreTokens ks rest
  pub fine : kind_faults need.Variable at (meaning_of s text) ≡ []
  pub same : variable_by (meaning_of s text) ≡ x

pub variable_back : (p : Program) (locals : List (List ℕ)) (s : Scope) (x : Variable) (ks : List Piece)
    (tokens : List Token) → IsNamedVariable p locals s x
    → AreTokens (named (variable_name p locals x) ks) tokens → VariableBack s x ks tokens
variable_back p locals s (variable.Local place) ks tokens h a =
    let b = name_back s _ _ ks tokens h a in
    record {
      at = b.at;
      text = b.text;
      rest = b.rest;
      front = b.front;
      later = b.later;
      fine = ap (kind_faults need.Variable b.at) b.means;
      same = ap variable_by b.means;
    }
variable_back p locals s (variable.Simple item) ks tokens h a =
    let b = name_back s _ _ ks tokens h a in
    record {
      at = b.at;
      text = b.text;
      rest = b.rest;
      front = b.front;
      later = b.later;
      fine = ap (kind_faults need.Variable b.at) b.means;
      same = ap variable_by b.means;
    }

module _ (s : Scope) (n : ℕ) where
  -- the tokens begin with an expression that has no fault, stands for this value and isn't a call on a right side
  pub record ValueBack (e : Expr) (ks : List Piece) (tokens : List Token) : Type 0 where
    pub syntax : g.Expr
    pub rest : List Token
    pub front : tokens ≡ g.of_expr syntax rest
    pub later : AreTokens ks rest
    pub same : value_of_expr s syntax ≡ e
    pub faultless : value_faults s syntax ≡ []
    pub right : right_faults s syntax ≡ []
    pub kept : (target : g.Spot) → assign_by s target syntax (meaning_by s (name_of_expr syntax))
        ≡ what.Assign (target_of_spot s target) (value_of_expr s syntax)
    pub shallow : (ls : List ℕ) → AllAtMost 33 ls → AllAtMost 33 (nest_expr n syntax ls)

  -- the tokens begin with a target that has no fault and is this one
  pub record TargetBack (to : Spot) (ks : List Piece) (tokens : List Token) : Type 0 where
    pub syntax : g.Spot
    pub rest : List Token
    pub front : tokens ≡ g.of_spot syntax rest
    pub later : AreTokens ks rest
    pub same : target_of_spot s syntax ≡ to
    pub faultless : spot_faults s need.Variable syntax ≡ []
    pub shallow : (ls : List ℕ) → AllAtMost 33 ls → AllAtMost 33 (nest_spot n syntax ls)

module _ (p : Program) (locals : List (List ℕ)) (s : Scope) where
  pub value_back : (n : ℕ) (e : Expr) (ks : List Piece) (tokens : List Token) → FitsValue p locals s n e
      → AreTokens (value_pieces p locals value.Sum e ks) tokens
      → ValueBack s n e ks tokens
  value_back n e ks tokens h a =
      let b = values_read_back p locals s e ks tokens h.named a in
      record {
        syntax = only b.syntax;
        rest = b.rest;
        front = b.front;
        later = b.later;
        same = b.same;
        faultless = ends (ends (ends (b.faultless (Value (first_of_sum b.syntax)))));
        right = no_call_faults s (only b.syntax) (ends (ends (ends (b.faultless (Value (first_of_sum b.syntax))))));
        kept = λ target. no_call_what s target (only b.syntax)
            (ends (ends (ends (b.faultless (Value (first_of_sum b.syntax))))));
        shallow = λ ls held. b.shallow n 33 ls h.low held;
      }

  -- a target that is a name alone
  lone_back : (n : ℕ) (to : Spot) (x : Meaning) (ks : List Piece) (tokens : List Token) → n ≤ 33
      → NameBack s x ks tokens
      → ((at : At) → kind_faults need.Variable at (Some x) ≡ []) → target_by (Some x) None ≡ to
      → TargetBack s n to ks tokens
  lone_back n to x ks tokens room b fine same = record {
    syntax = g.spot b.at b.text g.no_index;
    rest = b.rest;
    front = b.front;
    later = b.later;
    same = ap (λ found. target_by found None) b.means ∙ same;
    faultless = ends (ap (kind_faults need.Variable b.at) b.means ∙ fine b.at);
    shallow = λ ls held. (room, held);
  }

  pub target_back : (n : ℕ) (to : Spot) (ks : List Piece) (tokens : List Token) → FitsSpot p locals s n to
      → AreTokens (spot_pieces p locals to ks) tokens
      → TargetBack s n to ks tokens
  target_back n (Local place) ks tokens h a =
      lone_back n (Local place) _ ks tokens (omega (arith, h.low)) (name_back s _ _ ks tokens h.named a) (λ at. refl)
      refl
  target_back n (Simple item) ks tokens h a =
      lone_back n (Simple item) _ ks tokens (omega (arith, h.low)) (name_back s _ _ ks tokens h.named a) (λ at. refl)
      refl
  target_back n (Element item index) ks tokens h a =
      let b = name_back s _ _ (piece.Symbol sign.OpenIndex
      ∷ value_pieces p locals value.Sum index (piece.Symbol sign.CloseIndex ∷ ks)) tokens h.named.0 a in
      let o = first b.later in
      let v = value_back (suc n) index (piece.Symbol sign.CloseIndex ∷ ks) o.rest
      (record { named = h.named.1; low = omega (arith, h.low) }) o.later in
      let c = first v.later in
      let room : suc n ≤ 33 = omega (arith, h.low) in
      record {
        syntax = g.spot b.at b.text (g.index o.at v.syntax c.at);
        rest = c.rest;
        front = b.front ∙ ap (λ ts. tok.Name b.at b.text ∷ ts)
            (o.is ∙ ap (λ ts. tok.OpenIndex o.at ∷ ts) (v.front ∙ ap (g.of_expr v.syntax) c.is));
        later = c.later;
        same = λ i. target_by (b.means i) (Some (v.same i));
        faultless = nils (ap (kind_faults need.Array b.at) b.means) v.faultless;
        shallow = λ ls held. (omega (arith, room), (room, v.shallow (suc n ∷ ls) (room, held)));
      }
