-- Statements that stand at a level stand at a lower one too, rows follow one another, and a row of a block stands in
-- the place of one.
use Rattle.std.proofs.Common.{◌≤◌, ℕ, suc, List, [], ◌∷◌, ◌++◌, arith}
use Rattle.tal_tree.specs.declared.expression.Cond.{Cond}
use Rattle.tal_tree.specs.declared.expression.Expr.{Expr}
use Rattle.tal_tree.specs.declared.expression.Spot.{Spot}
use Rattle.tal_tree.specs.declared.program.Program.{Program}
use Rattle.tal_tree.specs.declared.statement.Statement.{Statement}
use Rattle.tal_tree.specs.declared.statement.What.{What}
use Rattle.tal_declarations.specs.declared.table.Files.{Files}
use Rattle.tal_names.specs.declared.scope.Scope.{Scope}
use Rattle.tal_rules.specs.declared.walk.Walk.{Walk}
use Rattle.tal_pieces.proofs.Standing.Stands.{FitsValue, FitsTest, FitsSpot, FitsArguments, Lone, assigns, assigns_call}
use Rattle.tal_pieces.proofs.Standing.Stands.{calls, returns, gives, reads, replies, asks, keeps_nothing, keeps, stops}
use Rattle.tal_pieces.proofs.Standing.Stands.{Stands, lone, monitors, opens, tests, loops, counts, repeats}
use Rattle.tal_pieces.proofs.Standing.Stands.{StandsIn, empty, one, several, Row, ended, goes_on}

module _ (p : Program) (locals : List (List ℕ)) (s : Scope) where
  low_value : {n : ℕ} {e : Expr} (m : ℕ) → m ≤ n → FitsValue p locals s n e → FitsValue p locals s m e
  low_value m below h = record { named = h.named; low = omega (arith, below, h.low) }

  low_test : {n : ℕ} {c : Cond} (m : ℕ) → m ≤ n → FitsTest p locals s n c → FitsTest p locals s m c
  low_test m below h = record { named = h.named; low = omega (arith, below, h.low) }

  low_spot : {n : ℕ} {x : Spot} (m : ℕ) → m ≤ n → FitsSpot p locals s n x → FitsSpot p locals s m x
  low_spot m below h = record { named = h.named; low = omega (arith, below, h.low) }

  low_arguments : (n m : ℕ) (es : List Expr) → m ≤ n → FitsArguments p locals s n es → FitsArguments p locals s m es
  low_arguments n m [] below h = omega (arith, below, h)
  low_arguments n m (e ∷ es) below h = (h.0, omega (arith, below, h.1))

  low_lone : {n : ℕ} {x : What} → Lone p locals s n x → (m : ℕ) → m ≤ n → Lone p locals s m x
  low_lone {n} (assigns to e) m below =
      assigns (low_spot (suc m) (omega (arith, below)) to) (low_value (suc m) (omega (arith, below)) e)
  low_lone {n} (assigns_call {es = es} to callable values) m below =
      assigns_call (low_spot (suc m) (omega (arith, below)) to) callable
      (low_arguments (suc n) (suc m) es (omega (arith, below)) values)
  low_lone {n} (calls {es = es} given callable values) m below =
      calls given callable (low_arguments (suc n) (suc m) es (omega (arith, below)) values)
  low_lone {n} (returns nothing room) m below = returns nothing (omega (arith, below, room))
  low_lone {n} (gives something e) m below = gives something (low_value (suc m) (omega (arith, below)) e)
  low_lone {n} (reads item number file buffer most got) m below =
      reads item number file buffer (low_value (suc (suc m)) (omega (arith, below)) most) got
  low_lone {n} (replies buffer count) m below = replies buffer (low_value (suc (suc m)) (omega (arith, below)) count)
  low_lone {n} (asks item file buffer send room got) m below =
      asks item file buffer (low_value (suc (suc m)) (omega (arith, below)) send)
      (low_value (suc (suc m)) (omega (arith, below)) room) got
  low_lone {n} (keeps_nothing room) m below = keeps_nothing (omega (arith, below, room))
  low_lone {n} (keeps room names) m below = keeps (omega (arith, below, room)) names
  low_lone {n} (stops room) m below = stops (omega (arith, below, room))

  module _ (f : Files) where
    mutual
      pub low_stands : {n : ℕ} {w : Walk} {x : Statement} {v : Walk} → Stands p locals s f n w x v → (m : ℕ) → m ≤ n
          → Stands p locals s f m w x v
      low_stands (lone counted x) m below = lone counted (low_lone x m below)
      low_stands (monitors counted room start) m below = monitors counted (omega (arith, below, room)) start
      low_stands (opens counted room o) m below = opens counted (omega (arith, below, room)) o
      low_stands (tests counted c first second) m below =
          tests counted (low_test (suc m) (omega (arith, below)) c) (low_inner first (suc m) (omega (arith, below)))
          (low_inner second (suc m) (omega (arith, below)))
      low_stands (loops counted c body) m below =
          loops counted (low_test (suc m) (omega (arith, below)) c) (low_inner body (suc m) (omega (arith, below)))
      low_stands (counts x from to step body counted) m below =
          counts x (low_value (suc m) (omega (arith, below)) from) (low_value (suc m) (omega (arith, below)) to) step
          (low_inner body (suc m) (omega (arith, below))) counted
      low_stands (repeats c body counted) m below =
          repeats (low_test (suc m) (omega (arith, below)) c) (low_inner body (suc m) (omega (arith, below))) counted

      pub low_inner : {n : ℕ} {w : Walk} {xs : List Statement} {v : Walk} → StandsIn p locals s f n w xs v → (m : ℕ)
          → m ≤ n → StandsIn p locals s f m w xs v
      low_inner empty m below = empty
      low_inner (one x) m below = one (low_stands x m below)
      low_inner (several room rest) m below =
          several (omega (arith, below, room)) (low_row rest (suc m) (omega (arith, below)))

      pub low_row : {n : ℕ} {w : Walk} {xs : List Statement} {v : Walk} → Row p locals s f n w xs v → (m : ℕ) → m ≤ n
          → Row p locals s f m w xs v
      low_row ended m below = ended
      low_row (goes_on x rest) m below = goes_on (low_stands x m below) (low_row rest m below)

    pub row_append : {n : ℕ} {w : Walk} {xs : List Statement} {v : Walk} → Row p locals s f n w xs v
        → {ys : List Statement} {u : Walk} → Row p locals s f n v ys u
        → Row p locals s f n w (xs ++ ys) u
    row_append ended more = more
    row_append (goes_on x rest) more = goes_on x (row_append rest more)

    -- the statements of a block in the place of one
    pub of_block : {n : ℕ} {w : Walk} {xs : List Statement} {v : Walk} → suc n ≤ 33 → Row p locals s f (suc n) w xs v
        → StandsIn p locals s f n w xs v
    of_block room ended = empty
    of_block {n} room (goes_on x ended) = one (low_stands x n (omega arith))
    of_block room (goes_on x (goes_on y rest)) = several room (goes_on x (goes_on y rest))
