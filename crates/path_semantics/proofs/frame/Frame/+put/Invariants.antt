use Rattle.std.proofs.Common.{◌≡◌, ◌≤◌, ◌+◌, ◌*◌, [], ◌∷◌, ◌++◌, length}
use Rattle.tal_tree.specs.Statements.{numbers_of}
use Rattle.process_semantics.specs.State.{runs_of}
use Rattle.path_semantics.proofs.frame.Frame.+put.Given as goal

abbrev pub decreases-put_all : goal.decreases-put_all
decreases-put_all l = 2 * length (numbers_of l.statements.now) + 1

abbrev pub decreases-put_statement : goal.decreases-put_statement
decreases-put_statement l = 2 * length (numbers_of (l.statement.now ∷ []))

abbrev pub invariant-put_all-loop-last : goal.invariant-put_all-loop-last
invariant-put_all-loop-last l =
    (runs_of l.left ++ l.self ≡ runs_of l.statements ++ l.initial.self)
    × (length (numbers_of l.left) ≤ length (numbers_of l.statements))

abbrev pub decreases-put_all-loop-last : goal.decreases-put_all-loop-last
decreases-put_all-loop-last l = length l.left
