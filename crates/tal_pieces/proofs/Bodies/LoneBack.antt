-- A printed statement with no statement inside, which isn't of the prologue, reads back as itself.
use Rattle.std.proofs.Common.{ℕ, List, [], ◌∷◌}
use Rattle.tal_tree.specs.declared.program.Program.{Program}
use Rattle.tal_tree.specs.declared.statement.What.{What}
use Rattle.tal_tokens.specs.declared.token.Token.{Token}
use Rattle.tal_declarations.specs.declared.table.Files.{Files}
use Rattle.tal_names.specs.declared.scope.Scope.{Scope}
use Rattle.tal_rules.specs.declared.walk.Walk.{Walk}
use Rattle.tal_rules.specs.Statements.{next_walk}
use Rattle.tal_pieces.specs.declared.piece.Piece.{Piece}
use Rattle.tal_pieces.specs.Cuts.{AreTokens}
use Rattle.tal_pieces.specs.Printed.Statements.{what_pieces}
use Rattle.tal_pieces.proofs.Bodies.AssignBack.{assign_back, assign_call_back, procedure_call_back, return_back}
use Rattle.tal_pieces.proofs.Bodies.AssignBack.{answer_back}
use Rattle.tal_pieces.proofs.Bodies.CheckpointBack.{checkpoint_none, checkpoint_back}
use Rattle.tal_pieces.proofs.Standing.Stands.{IsCounted, Lone, assigns, assigns_call, calls, returns, gives, reads}
use Rattle.tal_pieces.proofs.Standing.Stands.{replies, asks, keeps_nothing, keeps, stops}
use Rattle.tal_pieces.proofs.Bodies.StatementsBack.{StatementBack}
use Rattle.tal_pieces.proofs.Bodies.SystemsBack.{read_update_back, reply_back, write_read_back, stop_back}

module _ (p : Program) (locals : List (List ℕ)) (s : Scope) (f : Files) where
  pub lone_back : (n : ℕ) (w : Walk) (line : ℕ) (x : What) (ks : List Piece) (tokens : List Token) → IsCounted w
      → Lone p locals s n x
      → AreTokens (what_pieces p locals x ks) tokens
      → StatementBack s f n w (record { number = w.number; line = line; what = x } ∷ []) (next_walk w) ks tokens
  lone_back n w line _ ks tokens counted (assigns to e) a =
      assign_back p locals s f n w line _ _ ks tokens counted to e a
  lone_back n w line _ ks tokens counted (assigns_call to callable es) a =
      assign_call_back p locals s f n w line _ _ _ ks tokens counted to callable es a
  lone_back n w line _ ks tokens counted (calls given callable es) a =
      procedure_call_back p locals s f n w line _ given _ ks tokens counted callable es a
  lone_back n w line _ ks tokens counted (returns given room) a =
      return_back p locals s f n w line ks tokens counted given room a
  lone_back n w line _ ks tokens counted (gives given e) a =
      answer_back p locals s f n w line _ ks tokens counted given e a
  lone_back n w line _ ks tokens counted (reads item number receive array most got) a =
      read_update_back p locals s f n w line _ _ _ item number ks tokens counted receive array most got a
  lone_back n w line _ ks tokens counted (replies array sent) a =
      reply_back p locals s f n w line _ _ ks tokens counted array sent a
  lone_back n w line _ ks tokens counted (asks item process array send room got) a =
      write_read_back p locals s f n w line _ _ _ _ _ item ks tokens counted process array send room got a
  lone_back n w line _ ks tokens counted (keeps_nothing room) a =
      checkpoint_none p locals s f n w line ks tokens counted room a
  lone_back n w line _ ks tokens counted (keeps room mentions) a =
      checkpoint_back p locals s f n w line ks tokens counted room mentions a
  lone_back n w line _ ks tokens counted (stops room) a = stop_back p locals s f n w line ks tokens counted room a
