-- How deep a program's calls go, and how large it is with its calls written out.
use Rattle.std.specs.Prelude.{◌≡◌, ℕ, ◌+◌, ◌≤◌, ◌<◌, max, min, List, [], ◌∷◌, ◌++◌, map, length, sum, slice_get}
use Rattle.std.specs.Option.{unwrap_or}
use Rattle.tal_tree.specs.declared.program.Program.{Program}
use Rattle.tal_tree.specs.declared.program.Procedure.{Procedure}
use Rattle.tal_tree.specs.declared.statement.Statement.{Statement}
use Rattle.tal_tree.specs.Statements.{numbers_of, calls_of}
use Rattle.gd_words.specs.declared.limits.TheConstants.{MOST_CALLS, MOST_WRITTEN_OUT}

abbrev pub greatest : List ℕ → ℕ
greatest [] = 0
greatest (n ∷ ns) = max n (greatest ns)

-- what a body's calls come to, one for each call, where this is known of the procedures that stand before
abbrev pub of_called : List ℕ → List Statement → List ℕ
of_called before body = map (λ procedure. unwrap_or (slice_get before procedure) 0) (calls_of body)

-- the depth of a procedure: 1, or 1 more than the greatest depth of those that it calls
abbrev pub depth_from : List ℕ → List Statement → ℕ
depth_from before body = greatest (of_called before body) + 1

-- the size of a procedure: the count of its statements' numbers, and for each call the size of the procedure that is
-- called
abbrev pub size_from : List ℕ → List Statement → ℕ
size_from before body = length (numbers_of body) + sum (of_called before body)

-- a number for each procedure in their order, from those of the procedures before it: a procedure calls only procedures
-- before it
abbrev pub in_order : (List ℕ → List Statement → ℕ) → List ℕ → List Procedure → List ℕ
in_order number before [] = before
in_order number before (procedure ∷ rest) = in_order number (before ++ number before procedure.body ∷ []) rest

-- the depths of a program's procedures
abbrev pub depths : Program → List ℕ
depths program = in_order depth_from [] program.procedures

-- the sizes of a program's procedures
abbrev pub sizes : Program → List ℕ
sizes program = in_order size_from [] program.procedures

-- how deep a program's calls go: MAIN's depth
abbrev pub depth_of : Program → ℕ
depth_of program = unwrap_or (slice_get (depths program) program.main) 0

-- how large a program is with all calls written out: MAIN's size
abbrev pub size_of : Program → ℕ
size_of program = unwrap_or (slice_get (sizes program) program.main) 0

-- MAIN's calls go at most 16 procedures deep, MAIN counted, and with all calls written out it has at most 8,192 numbers
pub record IsWithinBounds (program : Program) : Type 0 where
  pub depth : depth_of program ≤ MOST_CALLS
  pub size : size_of program ≤ MOST_WRITTEN_OUT

-- MAIN's calls go deeper
abbrev pub HasTooDeepCalls : Program → Type 0
HasTooDeepCalls program = MOST_CALLS < depth_of program

-- a size as far as it is told
abbrev pub told : ℕ → ℕ
told size = min size 4294967295

-- MAIN's calls don't, but it has more numbers, which are told
abbrev pub IsTooLarge : Program → ℕ → Type 0
IsTooLarge program size =
    (depth_of program ≤ MOST_CALLS) × (MOST_WRITTEN_OUT < size_of program) × (size ≡ told (size_of program))
