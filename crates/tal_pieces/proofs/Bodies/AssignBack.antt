-- A printed assignment, call of a procedure and RETURN read back.
use Rattle.std.proofs.Common.{◌≡◌, ◌≤◌, ℕ, ◌+◌, suc, List, [], ◌∷◌, refl, sym, ap, ◌∙◌, arith, subst}
use Rattle.std.specs.Prelude.{Bool, true, false, not, length, Some, None}
use Rattle.tal_tree.specs.declared.expression.Expr.{Expr}
use Rattle.tal_tree.specs.declared.expression.Spot.{Spot}
use Rattle.tal_tree.specs.declared.program.Program.{Program}
use Rattle.tal_tree.specs.declared.statement.Statement.{Statement}
use Rattle.tal_tree.specs.declared.statement.What.TheVariants as what
use Rattle.tal_tokens.specs.declared.token.Token.{Token}
use Rattle.tal_syntax.specs.Grammar as g
use Rattle.tal_syntax.specs.Nesting.{nest_expr, nest_values}
use Rattle.tal_names.specs.declared.fault.Rule.TheVariants.{WrongKind}
use Rattle.tal_declarations.specs.declared.table.Files.{Files}
use Rattle.tal_names.specs.declared.scope.Scope.{Scope}
use Rattle.tal_rules.specs.declared.walk.Walk.{Walk}
use Rattle.tal_rules.specs.Calls.{call_faults, called_faults, values_count}
use Rattle.tal_names.specs.Faults.{fault_at, if_so}
use Rattle.tal_declarations.specs.Files.{call_files}
use Rattle.tal_names.specs.Places.{arguments_of, first_of_spot}
use Rattle.tal_rules.specs.Statements.{next_walk, after_call, right_by}
use Rattle.tal_meaning.specs.Calls.{call_what, procedure_by}
use Rattle.tal_meaning.specs.Statements.{assign_by}
use Rattle.tal_pieces.specs.declared.piece.Symbol.TheVariants as sign
use Rattle.tal_pieces.specs.declared.piece.Piece.{Piece}
use Rattle.tal_pieces.specs.declared.piece.Piece.TheVariants as piece
use Rattle.tal_pieces.specs.declared.rank.ValueRank.TheVariants as value
use Rattle.tal_pieces.specs.Cuts.{AreTokens}
use Rattle.tal_pieces.specs.Printed.Expressions.{value_pieces, arguments}
use Rattle.tal_pieces.specs.Printed.Names.{named, procedure_name}
use Rattle.tal_pieces.specs.Printed.Statements.{what_pieces}
use Rattle.tal_pieces.specs.Unlined.{unlined_what}
use Rattle.tal_pieces.proofs.Bodies.ArgumentsBack.{list_back, arguments_back, called_fine}
use Rattle.tal_pieces.proofs.Values.Back.{first}
use Rattle.tal_pieces.proofs.Bodies.Counted.{counted}
use Rattle.tal_pieces.proofs.Bodies.Fronts.{behind, past_spot}
use Rattle.tal_pieces.proofs.Bodies.PartsBack.{lone_name, value_back, target_back}
use Rattle.tal_pieces.proofs.Standing.Stands.{IsCounted, IsCallable, FitsValue, FitsSpot, FitsArguments, first_files}
use Rattle.tal_faultless.proofs.Scopes.SourceScopes.{without_files}
use Rattle.tal_pieces.proofs.Bodies.StatementsBack.{StatementBack}
use Rattle.tal_faultless.proofs.Common.Faultless.{nils}

module _ (p : Program) (locals : List (List ℕ)) (s : Scope) (f : Files) where
  -- one statement reads back
  abbrev Back : ℕ → Walk → Statement → List Piece → List Token → Type 0
  Back n w x ks tokens = StatementBack s f n w (x ∷ []) (next_walk w) ks tokens

  -- an assignment of a value
  pub assign_back : (n : ℕ) (w : Walk) (line : ℕ) (to : Spot) (e : Expr) (ks : List Piece) (tokens : List Token)
      → IsCounted w → FitsSpot p locals s (suc n) to → FitsValue p locals s (suc n) e
      → AreTokens (what_pieces p locals (what.Assign to e) ks) tokens
      → Back n w (record { number = w.number; line = line; what = what.Assign to e }) ks tokens
  assign_back n w line to e ks tokens count fits_to fits a =
      let t = target_back p locals s (suc n) to (piece.Symbol sign.Assign ∷ value_pieces p locals value.Sum e ks)
      tokens fits_to a in
      let b = first t.later in
      let v = value_back p locals s (suc n) e ks b.rest fits b.later in
      let room : suc n ≤ 33 = omega (arith, fits.low) in
      record {
        syntax = g.assign t.syntax b.at v.syntax;
        rest = v.rest;
        front = past_spot t.syntax t.front (behind b.is v.front);
        later = v.later;
        same = ap (λ x. record { number = w.number; line = 0; what = unlined_what x } ∷ [])
            (v.kept t.syntax ∙ (λ i. what.Assign (t.same i) (v.same i)));
        next = refl;
        faultless = nils (nils (counted w (first_of_spot t.syntax) count) t.faultless) v.right;
        nearest = tt;
        closed = refl;
        shallow = λ ls held. t.shallow (suc n ∷ nest_expr (suc n) v.syntax ls) (room, v.shallow ls held);
        opened = refl;
      }

  -- a right side that is a procedure's name alone
  pub assign_name_back : (n : ℕ) (w : Walk) (line : ℕ) (to : Spot) (number : ℕ) (ks : List Piece) (tokens : List Token)
      → IsCounted w → FitsSpot p locals s (suc n) to → IsCallable p locals s number true 0 → suc n ≤ 33
      → AreTokens (what_pieces p locals (what.AssignCall to number []) ks) tokens
      → Back n w (record { number = w.number; line = line; what = what.AssignCall to number [] }) ks tokens
  assign_name_back n w line to number ks tokens count fits_to callable room a =
      let t = target_back p locals s (suc n) to (piece.Symbol sign.Assign ∷ named (procedure_name p number) ks) tokens
      fits_to a in
      let b = first t.later in
      let x = first (subst (λ o. AreTokens (named o ks) b.rest) callable.named b.later) in
      record {
        syntax = g.assign t.syntax b.at (lone_name x.at callable.name);
        rest = x.rest;
        front = past_spot t.syntax t.front (behind b.is x.is);
        later = x.later;
        same = ap (λ y. record { number = w.number; line = 0; what = unlined_what y } ∷ [])
            (ap (assign_by s t.syntax (lone_name x.at callable.name)) callable.means
            ∙ ap (λ spot. what.AssignCall spot number []) t.same);
        next = refl;
        faultless = nils (nils (counted w (first_of_spot t.syntax) count) t.faultless)
            (ap (right_by s (lone_name x.at callable.name) x.at) callable.means
            ∙ sym (ap (called_faults s true x.at 0) callable.means)
            ∙ called_fine s true true 0 number 0 x.at callable.name callable.means refl refl callable.before);
        nearest = tt;
        closed = refl;
        shallow = λ ls held. t.shallow (suc n ∷ suc n ∷ ls) (room, (room, held));
        opened = refl;
      }

  -- a right side that is a call with values
  assign_list_back : (n : ℕ) (w : Walk) (line : ℕ) (to : Spot) (number : ℕ) (e : Expr) (es : List Expr)
      (ks : List Piece) (tokens : List Token)
      → IsCounted w → FitsSpot p locals s (suc n) to → IsCallable p locals s number true (length (e ∷ es))
      → FitsArguments p locals s (suc n) (e ∷ es)
      → AreTokens (what_pieces p locals (what.AssignCall to number (e ∷ es)) ks) tokens
      → Back n w (record { number = w.number; line = line; what = what.AssignCall to number (e ∷ es) }) ks tokens
  assign_list_back n w line to number e es ks tokens count fits_to callable fits a =
      let t = target_back p locals s (suc n) to
      (piece.Symbol sign.Assign ∷ named (procedure_name p number) (arguments p locals (e ∷ es) ks)) tokens fits_to
      a in
      let b = first t.later in
      let x = first (subst (λ o. AreTokens (named o (arguments p locals (e ∷ es) ks)) b.rest) callable.named b.later) in
      let l = list_back p locals s (suc n) e es ks x.rest fits x.later in
      let deep = l.room in
      let room : suc n ≤ 33 = omega (arith, deep) in
      record {
        syntax = g.assign_call t.syntax b.at x.at callable.name l.start l.head l.more l.close;
        rest = l.rest;
        front = past_spot t.syntax t.front (behind b.is (behind x.is l.front));
        later = l.later;
        same = ap (λ y. record { number = w.number; line = 0; what = unlined_what y } ∷ [])
            (λ i. what.AssignCall (t.same i) (procedure_by (callable.means i)) (l.same i ∷ l.same_more i));
        next = refl;
        faultless = nils (nils (nils (nils (counted w (first_of_spot t.syntax) count) t.faultless)
            (called_fine s true true (values_count l.more + 1) number (length (e ∷ es)) x.at callable.name
            callable.means (omega (arith, l.count)) refl callable.before))
            l.faultless) l.more_faultless;
        nearest = tt;
        closed = refl;
        shallow = λ ls held. t.shallow (suc n ∷ suc n ∷ suc (suc n)
            ∷ nest_expr (suc (suc n)) l.head (nest_values (suc (suc n)) l.more (suc (suc n) ∷ ls)))
            (room, (room, (deep, l.shallow ls held)));
        opened = refl;
      }

  pub assign_call_back : (n : ℕ) (w : Walk) (line : ℕ) (to : Spot) (number : ℕ) (es : List Expr) (ks : List Piece)
      (tokens : List Token)
      → IsCounted w → FitsSpot p locals s (suc n) to → IsCallable p locals s number true (length es)
      → FitsArguments p locals s (suc n) es
      → AreTokens (what_pieces p locals (what.AssignCall to number es) ks) tokens
      → Back n w (record { number = w.number; line = line; what = what.AssignCall to number es }) ks tokens
  assign_call_back n w line to number [] ks tokens count fits_to callable fits a =
      assign_name_back n w line to number ks tokens count fits_to callable fits a
  assign_call_back n w line to number (e ∷ es) ks tokens count fits_to callable fits a =
      assign_list_back n w line to number e es ks tokens count fits_to callable fits a

  fits_level : (n : ℕ) (es : List Expr) → FitsArguments p locals s n es → n ≤ 33
  fits_level n [] h = h
  fits_level n (e ∷ es) h = omega (arith, h.1)

  pub procedure_call_back : (n : ℕ) (w : Walk) (line number : ℕ) (gives : Bool) (es : List Expr) (ks : List Piece)
      (tokens : List Token)
      → IsCounted w → IsCallable p locals s number gives (length es) → FitsArguments p locals s (suc n) es
      → AreTokens (what_pieces p locals (what.Call number es) ks) tokens
      → Back n w (record { number = w.number; line = line; what = what.Call number es }) ks tokens
  procedure_call_back n w line number gives es ks tokens count callable fits a =
      let h = first a in
      let x = first (subst (λ o. AreTokens (named o (arguments p locals es ks)) h.rest) callable.named h.later) in
      let l = arguments_back p locals s (suc n) es ks x.rest fits x.later in
      let room = fits_level (suc n) es fits in
      record {
        syntax = g.call h.at x.at callable.name l.syntax;
        rest = l.rest;
        front = behind h.is (behind x.is l.front);
        later = l.later;
        same = ap (λ y. record { number = w.number; line = 0; what = unlined_what y } ∷ [])
            (ap (call_what s callable.name (arguments_of l.syntax)) callable.free
            ∙ (λ i. what.Call (procedure_by (callable.means i)) (l.same i)));
        next = ap (after_call w (arguments_of l.syntax)) callable.free;
        faultless = nils (counted w h.at count)
            (ap (call_faults s w x.at callable.name (arguments_of l.syntax)) callable.free
            ∙ nils (called_fine s false gives (length (arguments_of l.syntax)) number (length es) x.at callable.name
            callable.means l.count refl callable.before) l.faultless);
        nearest = tt;
        closed = refl;
        shallow = λ ls held. (room, (room, l.shallow ls held));
        opened = ap (call_files (without_files s) (first_files f w.files) (arguments_of l.syntax)) callable.free;
      }

  pub return_back : (n : ℕ) (w : Walk) (line : ℕ) (ks : List Piece) (tokens : List Token)
      → IsCounted w → s.gives ≡ false → suc n ≤ 33 → AreTokens (what_pieces p locals (what.Return None) ks) tokens
      → Back n w (record { number = w.number; line = line; what = what.Return None }) ks tokens
  return_back n w line ks tokens count given room a =
      let h = first a in
      record {
        syntax = g.return h.at g.no_answer;
        rest = h.rest;
        front = h.is;
        later = h.later;
        same = refl;
        next = refl;
        faultless = nils (counted w h.at count) (ap (λ x. if_so x (fault_at h.at WrongKind)) given);
        nearest = tt;
        closed = refl;
        shallow = λ ls held. (room, held);
        opened = refl;
      }

  pub answer_back : (n : ℕ) (w : Walk) (line : ℕ) (e : Expr) (ks : List Piece) (tokens : List Token)
      → IsCounted w → s.gives ≡ true → FitsValue p locals s (suc n) e
      → AreTokens (what_pieces p locals (what.Return (Some e)) ks) tokens
      → Back n w (record { number = w.number; line = line; what = what.Return (Some e) }) ks tokens
  answer_back n w line e ks tokens count given fits a =
      let h = first a in
      let v = value_back p locals s (suc n) e ks h.rest fits h.later in
      let room : suc n ≤ 33 = omega (arith, fits.low) in
      record {
        syntax = g.return h.at (g.answer v.syntax);
        rest = v.rest;
        front = behind h.is v.front;
        later = v.later;
        same = ap (λ x. record { number = w.number; line = 0; what = what.Return (Some x) } ∷ []) v.same;
        next = refl;
        faultless = nils (counted w h.at count)
            (nils (ap (λ x. if_so (not x) (fault_at h.at WrongKind)) given) v.faultless);
        nearest = tt;
        closed = refl;
        shallow = λ ls held. (room, v.shallow ls held);
        opened = refl;
      }
