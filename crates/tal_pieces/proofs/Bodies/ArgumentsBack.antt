-- The printed values of a call read back as its arguments, and a procedure that may be called has no fault there.
use Rattle.std.proofs.Common.{◌≡◌, ◌≤◌, ℕ, suc, List, [], ◌∷◌, ◌++◌, refl, ap, ◌∙◌, arith, subst}
use Rattle.std.proofs.lemmas.Bool.{eq-eqb}
use Rattle.std.specs.Prelude.{Bool, false, not, ◌||◌, ◌&&◌, nat_le, length, Some}
use Rattle.tal_tree.specs.declared.expression.Expr.{Expr}
use Rattle.tal_tree.specs.declared.program.Program.{Program}
use Rattle.tal_tokens.specs.declared.token.At.{At}
use Rattle.tal_tokens.specs.declared.token.Token.{Token}
use Rattle.tal_tokens.specs.declared.token.Token.TheVariants as tok
use Rattle.tal_syntax.specs.Grammar as g
use Rattle.tal_syntax.specs.Expected.{AllAtMost}
use Rattle.tal_syntax.specs.Nesting.{nest_expr, nest_arguments, nest_further, nest_values}
use Rattle.tal_names.specs.declared.fault.Rule.TheVariants.{WrongKind, NotBefore}
use Rattle.tal_names.specs.declared.meaning.Meaning.TheVariants as m
use Rattle.tal_names.specs.declared.scope.Scope.{Scope}
use Rattle.tal_rules.specs.Calls.{arguments_faults, values_faults, values_count, called_faults}
use Rattle.tal_rules.specs.Expressions.{value_faults}
use Rattle.tal_names.specs.Faults.{fault_at, if_so}
use Rattle.tal_names.specs.Places.{arguments_of, further_arguments}
use Rattle.tal_names.specs.Scopes.{meaning_of}
use Rattle.tal_meaning.specs.Calls.{values_of, values_of_arguments}
use Rattle.tal_meaning.specs.Expressions.{value_of_expr}
use Rattle.tal_pieces.specs.declared.piece.Symbol.TheVariants as sign
use Rattle.tal_pieces.specs.declared.piece.Piece.{Piece}
use Rattle.tal_pieces.specs.declared.piece.Piece.TheVariants as piece
use Rattle.tal_pieces.specs.Cuts.{AreTokens}
use Rattle.tal_pieces.specs.Printed.Expressions.{arguments, more_values}
use Rattle.tal_pieces.proofs.Values.Back.{first}
use Rattle.tal_pieces.proofs.Bodies.Fronts.{behind, past}
use Rattle.tal_pieces.proofs.Values.ListBack.{lists_read_back}
use Rattle.tal_pieces.proofs.Bodies.PartsBack.{value_back}
use Rattle.tal_pieces.proofs.Standing.Stands.{FitsArguments}
use Rattle.tal_faultless.proofs.Common.Faultless.{nils}

-- the values of a list as arguments
abbrev further_of : g.Values → g.Further
further_of g.no_values = g.no_further
further_of (g.more_values comma e rest) = g.more_further comma (g.value e) (further_of rest)

of_further_of : (x : g.Values) (ks : List Token) → g.of_values x ks ≡ g.of_further (further_of x) ks
of_further_of g.no_values ks = refl
of_further_of (g.more_values comma e rest) ks = ap (λ ts. tok.Comma comma ∷ g.of_expr e ts) (of_further_of rest ks)

nest_further_of : (n : ℕ) (x : g.Values) (ls : List ℕ) → nest_values n x ls ≡ nest_further n (further_of x) ls
nest_further_of n g.no_values ls = refl
nest_further_of n (g.more_values comma e rest) ls = ap (λ xs. n ∷ nest_expr n e xs) (nest_further_of n rest ls)

count_further_of : (x : g.Values) → length (further_arguments (further_of x)) ≡ values_count x
count_further_of g.no_values = refl
count_further_of (g.more_values comma e rest) = omega (arith, count_further_of rest)

values_further_of : (s : Scope) (x : g.Values)
    → values_of_arguments s (further_arguments (further_of x)) ≡ values_of s x
values_further_of s g.no_values = refl
values_further_of s (g.more_values comma e rest) = ap (λ es. value_of_expr s e ∷ es) (values_further_of s rest)

faults_further_of : (s : Scope) (x : g.Values) → values_faults s x ≡ []
    → arguments_faults s (further_arguments (further_of x)) ≡ []
faults_further_of s x h = same x ∙ h
  where
    same : (y : g.Values) → arguments_faults s (further_arguments (further_of y)) ≡ values_faults s y
    same g.no_values = refl
    same (g.more_values comma e rest) = ap (λ fs. value_faults s e ++ fs) (same rest)

-- the tokens begin with a list of values in parentheses, which is these
pub record ListBack (s : Scope) (n : ℕ) (e : Expr) (es : List Expr) (ks : List Piece) (tokens : List Token) :
    Type 0 where
  pub start : At
  pub head : g.Expr
  pub more : g.Values
  pub close : At
  pub rest : List Token
  pub front : tokens ≡ tok.Open start ∷ g.of_expr head (g.of_values more (tok.Close close ∷ rest))
  pub later : AreTokens ks rest
  pub same : value_of_expr s head ≡ e
  pub same_more : values_of s more ≡ es
  pub count : values_count more ≡ length es
  pub faultless : value_faults s head ≡ []
  pub more_faultless : values_faults s more ≡ []
  pub room : suc n ≤ 33
  pub shallow : (ls : List ℕ) → AllAtMost 33 ls
      → AllAtMost 33 (nest_expr (suc n) head (nest_values (suc n) more (suc n ∷ ls)))

pub list_back : (p : Program) (locals : List (List ℕ)) (s : Scope) (n : ℕ) (e : Expr) (es : List Expr)
    (ks : List Piece) (tokens : List Token)
    → FitsArguments p locals s n (e ∷ es) → AreTokens (arguments p locals (e ∷ es) ks) tokens
    → ListBack s n e es ks tokens
list_back p locals s n e es ks tokens h a =
    let o = first a in
    let v = value_back p locals s (suc n) e (more_values p locals es (piece.Symbol sign.Close ∷ ks)) o.rest
    (record { named = h.0.0; low = omega (arith, h.1) }) o.later in
    let more = lists_read_back p locals s es (piece.Symbol sign.Close ∷ ks) v.rest h.0.1 v.later in
    let c = first more.later in
    let low : suc n ≤ 33 = omega (arith, h.1) in
    record {
      start = o.at;
      head = v.syntax;
      more = more.syntax;
      close = c.at;
      rest = c.rest;
      front = behind o.is (past v.syntax v.front (more.front ∙ ap (g.of_values more.syntax) c.is));
      later = c.later;
      same = v.same;
      same_more = more.same;
      count = more.count;
      faultless = v.faultless;
      more_faultless = more.faultless;
      room = low;
      shallow = λ ls held. v.shallow (nest_values (suc n) more.syntax (suc n ∷ ls))
          (more.shallow (suc n) 33 (suc n ∷ ls) low (omega (arith, h.1)) (low, held));
    }

-- the tokens begin with arguments that are these values
pub record ArgumentsBack (s : Scope) (n : ℕ) (es : List Expr) (ks : List Piece) (tokens : List Token) : Type 0 where
  pub syntax : g.Arguments
  pub rest : List Token
  pub front : tokens ≡ g.of_arguments syntax rest
  pub later : AreTokens ks rest
  pub same : values_of_arguments s (arguments_of syntax) ≡ es
  pub count : length (arguments_of syntax) ≡ length es
  pub faultless : arguments_faults s (arguments_of syntax) ≡ []
  pub shallow : (ls : List ℕ) → AllAtMost 33 ls → AllAtMost 33 (nest_arguments n syntax ls)

pub arguments_back : (p : Program) (locals : List (List ℕ)) (s : Scope) (n : ℕ) (es : List Expr) (ks : List Piece)
    (tokens : List Token)
    → FitsArguments p locals s n es → AreTokens (arguments p locals es ks) tokens → ArgumentsBack s n es ks tokens
arguments_back p locals s n [] ks tokens h a = record {
  syntax = g.unlisted;
  rest = tokens;
  front = refl;
  later = a;
  same = refl;
  count = refl;
  faultless = refl;
  shallow = λ ls held. held;
}
arguments_back p locals s n (e ∷ es) ks tokens h a =
    let b = list_back p locals s n e es ks tokens h a in
    record {
      syntax = g.listed b.start (g.value b.head) (further_of b.more) b.close;
      rest = b.rest;
      front = b.front ∙ ap (λ ts. tok.Open b.start ∷ g.of_expr b.head ts)
          (of_further_of b.more (tok.Close b.close ∷ b.rest));
      later = b.later;
      same = (λ i. b.same i ∷ (values_further_of s b.more ∙ b.same_more) i);
      count = ap suc (count_further_of b.more ∙ b.count);
      faultless = nils b.faultless (faults_further_of s b.more b.more_faultless);
      shallow = λ ls held. (
        b.room,
        subst (λ xs. AllAtMost 33 (nest_expr (suc n) b.head xs))
            (nest_further_of (suc n) b.more (suc n ∷ ls)) (b.shallow ls held),
      );
    }

-- a procedure that is called with as many values as it has parameters, after its declaration
pub called_fine : (s : Scope) (wants gives : Bool) (count number parameters : ℕ) (at : At) (name : List ℕ)
    → meaning_of s name ≡ Some (m.Procedure number gives parameters)
    → count ≡ parameters → (wants && not gives) ≡ false → nat_le s.number number ≡ false
    → called_faults s wants at count (meaning_of s name) ≡ []
called_fine s wants gives count number parameters at name means same given before =
    ap (called_faults s wants at count) means
    ∙ nils (ap (λ x. if_so (not x || (wants && not gives)) (fault_at at WrongKind)) (eq-eqb count parameters same)
    ∙ ap (λ x. if_so x (fault_at at WrongKind)) given)
    (ap (λ x. if_so x (fault_at at NotBefore)) before)
