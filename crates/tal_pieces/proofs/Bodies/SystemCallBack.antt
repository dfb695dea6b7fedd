-- A printed call of the system reads back as itself, where its arguments do.
use Rattle.std.proofs.Common.{◌≡◌, ◌≤◌, ℕ, suc, List, [], ◌∷◌, refl, ap, ◌∙◌}
use Rattle.std.specs.Prelude.{Some}
use Rattle.tal_tree.specs.declared.statement.What.{What}
use Rattle.tal_tokens.specs.declared.token.At.{At}
use Rattle.tal_tokens.specs.declared.token.Token.{Token}
use Rattle.tal_tokens.specs.declared.token.Token.TheVariants as tok
use Rattle.tal_syntax.specs.Grammar as g
use Rattle.tal_syntax.specs.Expected.{AllAtMost}
use Rattle.tal_syntax.specs.Nesting.{nest_arguments}
use Rattle.tal_declarations.specs.declared.table.Files.{Files}
use Rattle.tal_names.specs.declared.scope.Scope.{Scope}
use Rattle.tal_rules.specs.declared.walk.Walk.{Walk}
use Rattle.tal_names.specs.declared.system.System.{System}
use Rattle.tal_names.specs.declared.system.System.TheVariants as system
use Rattle.tal_names.specs.Systems.{system_of}
use Rattle.tal_rules.specs.Calls.{system_faults, call_faults}
use Rattle.tal_declarations.specs.Files.{call_files}
use Rattle.tal_names.specs.Places.{arguments_of}
use Rattle.tal_rules.specs.Statements.{after_call}
use Rattle.tal_meaning.specs.Calls.{call_what, system_what}
use Rattle.tal_pieces.specs.declared.piece.Piece.{Piece}
use Rattle.tal_pieces.specs.Cuts.{AreTokens}
use Rattle.tal_pieces.specs.Printed.Statements.{called}
use Rattle.tal_pieces.specs.Spelling.{system_text}
use Rattle.tal_pieces.specs.Unlined.{unlined_what}
use Rattle.tal_pieces.proofs.Values.Back.{first}
use Rattle.tal_pieces.proofs.Bodies.Counted.{counted}
use Rattle.tal_pieces.proofs.Bodies.Fronts.{behind}
use Rattle.tal_pieces.proofs.Standing.Stands.{IsCounted, first_files}
use Rattle.tal_faultless.proofs.Scopes.SourceScopes.{without_files}
use Rattle.tal_pieces.proofs.Bodies.StatementsBack.{StatementBack}
use Rattle.tal_faultless.proofs.Common.Faultless.{nils}

-- the names of the system's calls
system_named : (x : System) → system_of (system_text x) ≡ Some x
system_named system.CheckMonitor = refl
system_named system.Checkpoint = refl
system_named system.Open = refl
system_named system.ReadUpdate = refl
system_named system.Reply = refl
system_named system.Stop = refl
system_named system.WriteRead = refl

-- the tokens begin with CALL and the name of a system call
pub record CallBack (x : System) (ks : List Piece) (tokens : List Token) : Type 0 where
  pub head : At
  pub at : At
  pub rest : List Token
  pub front : tokens ≡ tok.Call head ∷ tok.Name at (system_text x) ∷ rest
  pub later : AreTokens ks rest

pub called_back : (x : System) (ks : List Piece) (tokens : List Token) → AreTokens (called x ks) tokens
    → CallBack x ks tokens
called_back x ks tokens a =
    let h = first a in
    let n = first h.later in
    record { head = h.at; at = n.at; rest = n.rest; front = behind h.is n.is; later = n.later }

-- the arguments of a system call that have no faults and make it what it is to be
pub record SystemArguments (s : Scope) (f : Files) (n : ℕ) (w v : Walk) (x : System) (y : What) (ks : List Piece)
    (tokens : List Token) : Type 0 where
  pub syntax : g.Arguments
  pub rest : List Token
  pub front : tokens ≡ g.of_arguments syntax rest
  pub later : AreTokens ks rest
  pub same : system_what s (arguments_of syntax) x ≡ y
  pub next : after_call w (arguments_of syntax) (Some x) ≡ v
  pub faultless : (at : At) → system_faults s w at (arguments_of syntax) x ≡ []
  pub shallow : (ls : List ℕ) → AllAtMost 33 ls → AllAtMost 33 (nest_arguments (suc n) syntax ls)
  pub opened : call_files (without_files s) (first_files f w.files) (arguments_of syntax) (Some x)
      ≡ first_files f v.files

pub system_back : (s : Scope) (f : Files) (n : ℕ) (w v : Walk) (line : ℕ) (x : System) (y : What)
    (ks between : List Piece) (tokens : List Token)
    → IsCounted w → suc n ≤ 33 → (c : CallBack x between tokens) → SystemArguments s f n w v x y ks c.rest
    → StatementBack s f n w (record { number = w.number; line = line; what = y } ∷ []) v ks tokens
system_back s f n w v line x y ks between tokens count room c a = record {
  syntax = g.call c.head c.at (system_text x) a.syntax;
  rest = a.rest;
  front = c.front ∙ ap (λ ts. tok.Call c.head ∷ tok.Name c.at (system_text x) ∷ ts) a.front;
  later = a.later;
  same = ap (λ z. record { number = w.number; line = 0; what = unlined_what z } ∷ [])
      (ap (call_what s (system_text x) (arguments_of a.syntax)) (system_named x) ∙ a.same);
  next = ap (after_call w (arguments_of a.syntax)) (system_named x) ∙ a.next;
  faultless = nils (counted w c.head count)
      (ap (call_faults s w c.at (system_text x) (arguments_of a.syntax)) (system_named x) ∙ a.faultless c.at);
  nearest = tt;
  closed = refl;
  shallow = λ ls held. (room, (room, a.shallow ls held));
  opened = ap (call_files (without_files s) (first_files f w.files) (arguments_of a.syntax)) (system_named x)
      ∙ a.opened;
}
