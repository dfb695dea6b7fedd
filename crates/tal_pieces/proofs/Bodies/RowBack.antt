-- Printed statements that keep the rules read back as themselves.
use Rattle.std.proofs.Common.{◌≡◌, ◌≤◌, ℕ, suc, List, [], ◌∷◌, ◌++◌, refl, ap, ◌∙◌}
use Rattle.tal_tree.specs.declared.program.Program.{Program}
use Rattle.tal_tree.specs.declared.statement.Statement.{Statement}
use Rattle.tal_tokens.specs.declared.token.Token.{Token}
use Rattle.tal_tokens.specs.declared.token.Token.TheVariants as tok
use Rattle.tal_syntax.specs.Grammar as g
use Rattle.tal_syntax.specs.Nesting.{nest_row}
use Rattle.tal_declarations.specs.declared.table.Files.{Files}
use Rattle.tal_names.specs.declared.scope.Scope.{Scope}
use Rattle.tal_rules.specs.declared.walk.Walk.{Walk}
use Rattle.tal_declarations.specs.Files.{row_files}
use Rattle.tal_rules.specs.Statements.{after_row, row_faults}
use Rattle.tal_meaning.specs.Statements.{statements_of, row_statements}
use Rattle.tal_pieces.specs.declared.piece.Keyword.TheVariants as word
use Rattle.tal_pieces.specs.declared.piece.Symbol.TheVariants as sign
use Rattle.tal_pieces.specs.declared.piece.Piece.{Piece}
use Rattle.tal_pieces.specs.declared.piece.Piece.TheVariants as piece
use Rattle.tal_pieces.specs.Cuts.{AreTokens}
use Rattle.tal_pieces.specs.Printed.Statements.{what_pieces, inner_pieces, more_statements, body_pieces}
use Rattle.tal_pieces.specs.Unlined.{unlined_statements}
use Rattle.tal_pieces.proofs.Values.Back.{First, first}
use Rattle.tal_pieces.proofs.Bodies.LayersBack.{if_back, while_back, for_back, do_back}
use Rattle.tal_pieces.proofs.Bodies.LoneBack.{lone_back}
use Rattle.tal_pieces.proofs.Bodies.OpenBack.{monitor_back, open_back}
use Rattle.tal_pieces.proofs.Standing.Stands.{Stands, lone, monitors, opens, tests, loops, counts, repeats, StandsIn}
use Rattle.tal_pieces.proofs.Standing.Stands.{empty, one, several, Row, ended, goes_on}
use Rattle.tal_faultless.proofs.Scopes.SourceScopes.{without_files}
use Rattle.tal_pieces.proofs.Bodies.StatementsBack.{StatementBack, RowBack, BodyBack, InnerReadBack, RowsReadBack}
use Rattle.tal_pieces.proofs.Bodies.StatementsBack.{BodiesReadBack}
use Rattle.tal_pieces.proofs.Bodies.UnlinedLayers.{unlined_append}
use Rattle.tal_faultless.proofs.Common.Faultless.{nils}

module _ (s : Scope) (f : Files) where
  -- the lists of a statement and of those after it
  joined : (n : ℕ) (w v u : Walk) (x : Statement) (xs : List Statement) (ks between : List Piece) (tokens : List Token)
      (b : StatementBack s f n w (x ∷ []) v between tokens)
      (r : RowBack s f n v xs u ks b.rest) → unlined_statements
      (statements_of s w b.syntax ++ row_statements s v r.syntax) ≡ unlined_statements (x ∷ xs)
  joined n w v u x xs ks between tokens b r =
      unlined_append (statements_of s w b.syntax) (row_statements s v r.syntax) ∙ (λ i. b.same i ++ r.same i)

  -- a statement and those after it
  after_back : (n : ℕ) (w v u : Walk) (x : Statement) (xs : List Statement) (ks between : List Piece)
      (tokens : List Token) (b : StatementBack s f n w (x ∷ []) v between tokens)
      → RowBack s f n v xs u ks b.rest → BodyBack s f n w (x ∷ xs) u ks tokens
  after_back n w v u x xs ks between tokens b r = record {
    first = b.syntax;
    more = r.syntax;
    rest = r.rest;
    front = b.front ∙ ap (g.of_statement b.syntax) r.front;
    later = r.later;
    same = ap (λ walk. unlined_statements (statements_of s w b.syntax ++ row_statements s walk r.syntax)) b.next
        ∙ joined n w v u x xs ks between tokens b r;
    next = ap (λ walk. after_row s walk r.syntax) b.next ∙ r.next;
    faultless = nils b.faultless (ap (λ walk. row_faults s walk r.syntax) b.next ∙ r.faultless);
    nearest = (b.nearest, r.nearest);
    shallow = λ ls held. b.shallow (nest_row n r.syntax ls) (r.shallow ls held);
    opened = ap (λ files. row_files (without_files s) files r.syntax) b.opened ∙ r.opened;
  }

  -- statements in BEGIN .. END
  block_back : (n : ℕ) (w u : Walk) (xs : List Statement) (ks inner : List Piece) (tokens : List Token) → suc n ≤ 33
      → (h : First (piece.Keyword word.Begin) inner tokens)
      → BodyBack s f (suc n) w xs u (piece.Keyword word.End ∷ ks) h.rest → StatementBack s f n w xs u ks tokens
  block_back n w u xs ks inner tokens room h c =
      let e = first c.later in
      record {
        syntax = g.block h.at c.first c.more e.at;
        rest = e.rest;
        front = h.is ∙ ap (λ ts. tok.Begin h.at ∷ ts)
            (c.front ∙ ap (λ ts. g.of_statement c.first (g.of_row c.more ts)) e.is);
        later = e.later;
        same = c.same;
        next = c.next;
        faultless = c.faultless;
        nearest = c.nearest;
        closed = refl;
        shallow = λ ls held. (room, c.shallow (suc n ∷ ls) (room, held));
        opened = c.opened;
      }

  -- statements after a semicolon
  more_back : (n : ℕ) (w u : Walk) (xs : List Statement) (ks inner : List Piece) (tokens : List Token) → n ≤ 33
      → (h : First (piece.Symbol sign.Semicolon) inner tokens)
      → BodyBack s f n w xs u ks h.rest → RowBack s f n w xs u ks tokens
  more_back n w u xs ks inner tokens room h c = record {
    syntax = g.more_row h.at c.first c.more;
    rest = c.rest;
    front = h.is ∙ ap (λ ts. tok.Semicolon h.at ∷ ts) c.front;
    later = c.later;
    same = c.same;
    next = c.next;
    faultless = c.faultless;
    nearest = c.nearest;
    shallow = λ ls held. (room, c.shallow ls held);
    opened = c.opened;
  }

module _ (p : Program) (locals : List (List ℕ)) (s : Scope) (f : Files) where
  mutual
    stands_back : {n : ℕ} {w : Walk} {x : Statement} {v : Walk} → Stands p locals s f n w x v
        → (ks : List Piece) (tokens : List Token)
        → AreTokens (what_pieces p locals x.what ks) tokens → StatementBack s f n w (x ∷ []) v ks tokens
    stands_back (lone counted l) ks tokens a = lone_back p locals s f _ _ _ _ ks tokens counted l a
    stands_back (monitors counted room start) ks tokens a =
        monitor_back p locals s f _ _ _ ks tokens counted room start a
    stands_back (opens counted room o) ks tokens a = open_back p locals s f _ _ _ _ ks tokens counted room o a
    stands_back (tests counted c x y) ks tokens a =
        if_back p locals s f _ _ _ _ _ _ _ _ ks tokens counted c (λ later others held. inner_back x later others held)
        (λ later others held. inner_back y later others held) a
    stands_back (loops counted c x) ks tokens a =
        while_back p locals s f _ _ _ _ _ _ ks tokens counted c (λ later others held. inner_back x later others held) a
    stands_back (counts named from to fine x counted) ks tokens a =
        for_back p locals s f _ _ _ _ _ _ _ _ _ _ ks tokens named from to fine
        (λ later others held. inner_back x later others held) counted a
    stands_back (repeats c x counted) ks tokens a =
        do_back p locals s f _ _ _ _ _ _ ks tokens c (λ later others held. inner_back x later others held) counted a

    inner_back : {n : ℕ} {w : Walk} {xs : List Statement} {v : Walk} → StandsIn p locals s f n w xs v
        → (ks : List Piece) (tokens : List Token)
        → AreTokens (inner_pieces p locals xs ks) tokens → StatementBack s f n w xs v ks tokens
    inner_back empty ks tokens a = record {
      syntax = g.nothing;
      rest = tokens;
      front = refl;
      later = a;
      same = refl;
      next = refl;
      faultless = refl;
      nearest = tt;
      closed = refl;
      shallow = λ ls held. held;
      opened = refl;
    }
    inner_back (one x) ks tokens a = stands_back x ks tokens a
    inner_back (several room (goes_on x rest)) ks tokens a =
        let h = first a in
        let b = stands_back x _ h.rest h.later in
        let r = row_back room rest (piece.Keyword word.End ∷ ks) b.rest b.later in
        block_back s f _ _ _ _ ks _ tokens room h (after_back s f _ _ _ _ _ _ _ _ h.rest b r)

    row_back : {n : ℕ} {w : Walk} {xs : List Statement} {v : Walk} → n ≤ 33 → Row p locals s f n w xs v
        → (ks : List Piece) (tokens : List Token)
        → AreTokens (more_statements p locals xs ks) tokens → RowBack s f n w xs v ks tokens
    row_back room ended ks tokens a = record {
      syntax = g.no_row;
      rest = tokens;
      front = refl;
      later = a;
      same = refl;
      next = refl;
      faultless = refl;
      nearest = tt;
      shallow = λ ls held. held;
      opened = refl;
    }
    row_back room (goes_on x rest) ks tokens a =
        let h = first a in
        let b = stands_back x _ h.rest h.later in
        let r = row_back room rest ks b.rest b.later in
        more_back s f _ _ _ _ ks _ tokens room h (after_back s f _ _ _ _ _ _ _ _ h.rest b r)

  body_back : {n : ℕ} {w : Walk} {xs : List Statement} {v : Walk} → n ≤ 33 → Row p locals s f n w xs v
      → (ks : List Piece) (tokens : List Token)
      → AreTokens (body_pieces p locals xs ks) tokens → BodyBack s f n w xs v ks tokens
  body_back room ended ks tokens a = record {
    first = g.nothing;
    more = g.no_row;
    rest = tokens;
    front = refl;
    later = a;
    same = refl;
    next = refl;
    faultless = refl;
    nearest = (tt, tt);
    shallow = λ ls held. held;
    opened = refl;
  }
  body_back room (goes_on x rest) ks tokens a =
      let b = stands_back x _ tokens a in
      let r = row_back room rest ks b.rest b.later in
      after_back s f _ _ _ _ _ _ _ _ tokens b r

-- printed statements read back in the place of one, after one, and as those of a procedure
pub inner_read_back : (p : Program) (locals : List (List ℕ)) (s : Scope) (f : Files) → InnerReadBack p locals s f
inner_read_back p locals s f n w xs v ks tokens h a = inner_back p locals s f h ks tokens a

pub rows_read_back : (p : Program) (locals : List (List ℕ)) (s : Scope) (f : Files) → RowsReadBack p locals s f
rows_read_back p locals s f n w xs v ks tokens room h a = row_back p locals s f room h ks tokens a

pub bodies_read_back : (p : Program) (locals : List (List ℕ)) (s : Scope) (f : Files) → BodiesReadBack p locals s f
bodies_read_back p locals s f n w xs v ks tokens room h a = body_back p locals s f room h ks tokens a
