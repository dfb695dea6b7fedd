-- Printed READUPDATE, REPLY, WRITEREAD and STOP read back.
use Rattle.std.proofs.Common.{◌≤◌, ℕ, suc, List, [], ◌∷◌, refl, ap, arith}
use Rattle.tal_tree.specs.declared.expression.Expr.{Expr}
use Rattle.tal_tree.specs.declared.expression.Variable.{Variable}
use Rattle.tal_tree.specs.declared.program.Program.{Program}
use Rattle.tal_tree.specs.declared.statement.Statement.{Statement}
use Rattle.tal_tree.specs.declared.statement.What.TheVariants as what
use Rattle.tal_tokens.specs.declared.token.Token.{Token}
use Rattle.tal_syntax.specs.Grammar as g
use Rattle.tal_syntax.specs.Nesting.{nest_expr}
use Rattle.tal_names.specs.declared.meaning.Meaning.TheVariants as m
use Rattle.tal_names.specs.declared.meaning.Need.TheVariants as need
use Rattle.tal_declarations.specs.declared.table.Files.{Files}
use Rattle.tal_names.specs.declared.scope.Scope.{Scope}
use Rattle.tal_rules.specs.declared.walk.Walk.{Walk}
use Rattle.tal_names.specs.declared.system.System.TheVariants as system
use Rattle.tal_names.specs.Scopes.{kind_faults}
use Rattle.tal_rules.specs.Statements.{next_walk}
use Rattle.tal_meaning.specs.Calls.{item_by, file_by}
use Rattle.tal_pieces.specs.declared.piece.Piece.{Piece}
use Rattle.tal_pieces.specs.declared.rank.ValueRank.TheVariants as value
use Rattle.tal_pieces.specs.Cuts.{AreTokens}
use Rattle.tal_pieces.specs.Printed.Expressions.{value_pieces}
use Rattle.tal_pieces.specs.Printed.Names.{named, item_name, file_name, receive_name, variable_name}
use Rattle.tal_pieces.specs.Printed.Statements.{comma, close, what_pieces}
use Rattle.tal_pieces.proofs.Values.ReadsBack.{StandsFor}
use Rattle.tal_pieces.proofs.Values.Back.{first}
use Rattle.tal_pieces.proofs.Bodies.Fronts.{behind, past}
use Rattle.tal_pieces.proofs.Bodies.PartsBack.{name_back, lone_name, value_back, variable_back}
use Rattle.tal_pieces.proofs.Standing.Stands.{IsCounted, IsNamedArray, IsNamedVariable, FitsValue}
use Rattle.tal_pieces.proofs.Bodies.StatementsBack.{StatementBack}
use Rattle.tal_pieces.proofs.Bodies.SystemCallBack.{called_back, system_back}
use Rattle.tal_faultless.proofs.Common.Faultless.{nils}

module _ (p : Program) (locals : List (List ℕ)) (s : Scope) (f : Files) where
  -- one statement reads back
  abbrev Back : ℕ → Walk → Statement → List Piece → List Token → Type 0
  Back n w x ks tokens = StatementBack s f n w (x ∷ []) (next_walk w) ks tokens

  pub read_update_back : (n : ℕ) (w : Walk) (line : ℕ) (buffer : ℕ) (most : Expr) (got : Variable) (item number : ℕ)
      (ks : List Piece) (tokens : List Token)
      → IsCounted w → StandsFor s (receive_name p) (m.ReceiveFile item number) → IsNamedArray p locals s buffer
      → FitsValue p locals s (suc (suc n)) most
      → IsNamedVariable p locals s got → AreTokens (what_pieces p locals (what.ReadUpdate buffer most got) ks) tokens
      → Back n w (record { number = w.number; line = line; what = what.ReadUpdate buffer most got }) ks tokens
  read_update_back n w line buffer most got item number ks tokens count receive array fits variable a =
      let last = named (variable_name p locals got) (close ks) in
      let middle = value_pieces p locals value.Sum most (comma last) in
      let head = named (item_name p buffer) (comma middle) in
      let c = called_back system.ReadUpdate _ tokens a in
      let o = first c.later in
      let r = name_back s (receive_name p) (m.ReceiveFile item number) (comma head) o.rest receive o.later in
      let d = first r.later in
      let b = name_back s (item_name p buffer) (m.Array buffer) (comma middle) d.rest array d.later in
      let e = first b.later in
      let v = value_back p locals s (suc (suc n)) most (comma last) e.rest fits e.later in
      let h = first v.later in
      let x = variable_back p locals s got (close ks) h.rest variable h.later in
      let z = first x.later in
      let deep : suc (suc n) ≤ 33 = omega (arith, fits.low) in
      system_back s f n w (next_walk w) line system.ReadUpdate (what.ReadUpdate buffer most got) ks _ tokens count
      (omega (arith, deep)) c (record {
        syntax = g.listed o.at (g.value (lone_name r.at r.text)) (g.more_further d.at (g.value (lone_name b.at b.text))
            (g.more_further e.at (g.value v.syntax)
            (g.more_further h.at (g.value (lone_name x.at x.text)) g.no_further))) z.at;
        rest = z.rest;
        front = behind o.is (behind r.front (behind d.is
            (behind b.front (behind e.is (past v.syntax v.front (behind h.is (behind x.front z.is)))))));
        later = z.later;
        same = λ i. what.ReadUpdate (item_by (b.means i)) (v.same i) (x.same i);
        next = refl;
        faultless = λ at. nils (nils (nils (ap (kind_faults need.Receive r.at) r.means)
            (ap (kind_faults need.Array b.at) b.means)) v.faultless) x.fine;
        shallow = λ ls held. (
          deep,
          (
            deep,
            (
              deep,
              (deep, (deep, v.shallow (suc (suc n) ∷ suc (suc n) ∷ suc (suc n) ∷ ls) (deep, (deep, (deep, held))))),
            ),
          ),
        );
        opened = refl;
      })

  pub reply_back : (n : ℕ) (w : Walk) (line : ℕ) (buffer : ℕ) (sent : Expr) (ks : List Piece) (tokens : List Token)
      → IsCounted w → IsNamedArray p locals s buffer → FitsValue p locals s (suc (suc n)) sent
      → AreTokens (what_pieces p locals (what.Reply buffer sent) ks) tokens
      → Back n w (record { number = w.number; line = line; what = what.Reply buffer sent }) ks tokens
  reply_back n w line buffer sent ks tokens count array fits a =
      let middle = value_pieces p locals value.Sum sent (close ks) in
      let c = called_back system.Reply _ tokens a in
      let o = first c.later in
      let b = name_back s (item_name p buffer) (m.Array buffer) (comma middle) o.rest array o.later in
      let e = first b.later in
      let v = value_back p locals s (suc (suc n)) sent (close ks) e.rest fits e.later in
      let z = first v.later in
      let deep : suc (suc n) ≤ 33 = omega (arith, fits.low) in
      system_back s f n w (next_walk w) line system.Reply (what.Reply buffer sent) ks _ tokens count
      (omega (arith, deep)) c (record {
        syntax = g.listed o.at (g.value (lone_name b.at b.text)) (g.more_further e.at (g.value v.syntax) g.no_further)
            z.at;
        rest = z.rest;
        front = behind o.is (behind b.front (behind e.is (past v.syntax v.front z.is)));
        later = z.later;
        same = λ i. what.Reply (item_by (b.means i)) (v.same i);
        next = refl;
        faultless = λ at. nils (ap (kind_faults need.Array b.at) b.means) v.faultless;
        shallow = λ ls held. (deep, (deep, (deep, v.shallow (suc (suc n) ∷ ls) (deep, held))));
        opened = refl;
      })

  pub write_read_back : (n : ℕ) (w : Walk) (line : ℕ) (file buffer : ℕ) (send room : Expr) (got : Variable) (item : ℕ)
      (ks : List Piece) (tokens : List Token)
      → IsCounted w → StandsFor s (file_name p file) (m.ProcessFile item file) → IsNamedArray p locals s buffer
      → FitsValue p locals s (suc (suc n)) send
      → FitsValue p locals s (suc (suc n)) room → IsNamedVariable p locals s got
      → AreTokens (what_pieces p locals (what.WriteRead file buffer send room got) ks) tokens
      → Back n w (record { number = w.number; line = line; what = what.WriteRead file buffer send room got }) ks tokens
  write_read_back n w line file buffer send room got item ks tokens count process array fits fits_room variable a =
      let last = named (variable_name p locals got) (close ks) in
      let second = value_pieces p locals value.Sum room (comma last) in
      let middle = value_pieces p locals value.Sum send (comma second) in
      let head = named (item_name p buffer) (comma middle) in
      let c = called_back system.WriteRead _ tokens a in
      let o = first c.later in
      let r = name_back s (file_name p file) (m.ProcessFile item file) (comma head) o.rest process o.later in
      let d = first r.later in
      let b = name_back s (item_name p buffer) (m.Array buffer) (comma middle) d.rest array d.later in
      let e = first b.later in
      let v = value_back p locals s (suc (suc n)) send (comma second) e.rest fits e.later in
      let h = first v.later in
      let u = value_back p locals s (suc (suc n)) room (comma last) h.rest fits_room h.later in
      let k = first u.later in
      let x = variable_back p locals s got (close ks) k.rest variable k.later in
      let z = first x.later in
      let deep : suc (suc n) ≤ 33 = omega (arith, fits.low) in
      system_back s f n w (next_walk w) line system.WriteRead (what.WriteRead file buffer send room got) ks _ tokens
      count (omega (arith, deep)) c (record {
        syntax = g.listed o.at (g.value (lone_name r.at r.text)) (g.more_further d.at (g.value (lone_name b.at b.text))
            (g.more_further e.at (g.value v.syntax)
            (g.more_further h.at (g.value u.syntax)
            (g.more_further k.at (g.value (lone_name x.at x.text)) g.no_further)))) z.at;
        rest = z.rest;
        front = behind o.is (behind r.front (behind d.is
            (behind b.front (behind e.is (past v.syntax v.front (behind h.is (past u.syntax u.front
            (behind k.is (behind x.front z.is)))))))));
        later = z.later;
        same = λ i. what.WriteRead (file_by (r.means i)) (item_by (b.means i)) (v.same i) (u.same i) (x.same i);
        next = refl;
        faultless = λ at. nils (nils (nils (nils (ap (kind_faults need.Process r.at) r.means)
            (ap (kind_faults need.Array b.at) b.means)) v.faultless) u.faultless) x.fine;
        shallow = λ ls held. (
          deep,
          (
            deep,
            (
              deep,
              (
                deep,
                (
                  deep,
                  v.shallow (suc (suc n) ∷ nest_expr (suc (suc n)) u.syntax
                      (suc (suc n) ∷ suc (suc n) ∷ suc (suc n) ∷ ls))
                      (deep, u.shallow (suc (suc n) ∷ suc (suc n) ∷ suc (suc n) ∷ ls) (deep, (deep, (deep, held)))),
                ),
              ),
            ),
          ),
        );
        opened = refl;
      })

  pub stop_back : (n : ℕ) (w : Walk) (line : ℕ) (ks : List Piece) (tokens : List Token) → IsCounted w → suc n ≤ 33
      → AreTokens (what_pieces p locals what.Stop ks) tokens
      → Back n w (record { number = w.number; line = line; what = what.Stop }) ks tokens
  stop_back n w line ks tokens count room a =
      let c = called_back system.Stop ks tokens a in
      system_back s f n w (next_walk w) line system.Stop what.Stop ks ks tokens count room c (record {
        syntax = g.unlisted;
        rest = c.rest;
        front = refl;
        later = c.later;
        same = refl;
        next = refl;
        faultless = λ at. refl;
        shallow = λ ls held. held;
        opened = refl;
      })
