-- Programs that are the same but for the lines of their statements.
use Rattle.std.specs.Prelude.{◌≡◌, List, [], ◌∷◌, map}
use Rattle.tal_tree.specs.declared.program.Procedure.{Procedure}
use Rattle.tal_tree.specs.declared.program.Program.{Program}
use Rattle.tal_tree.specs.declared.statement.Statement.{Statement}
use Rattle.tal_tree.specs.declared.statement.What.{What, If', While', For', DoUntil', Row_of-Statement}
use Rattle.tal_tree.specs.declared.statement.What.{end_of-Statement, more_of-Statement}
use Rattle.tal_tree.specs.declared.statement.What.TheVariants as what

-- a statement with all lines taken as 0, its own and those of the statements in it
abbrev mutual
  pub unlined_what : What → What
  unlined_what (If' test _ first _ second) = what.If test (unlined_row first) (unlined_row second)
  unlined_what (While' test _ body) = what.While test (unlined_row body)
  unlined_what (For' counter from to down step _ body last) =
      what.For counter from to down step (unlined_row body) last
  unlined_what (DoUntil' _ body test) = what.DoUntil (unlined_row body) test
  unlined_what other = other

  pub unlined_row : {n : _} → Row_of-Statement n → List Statement
  unlined_row end_of-Statement = []
  unlined_row (more_of-Statement number _ what rest) =
      record { number = number; line = 0; what = unlined_what what } ∷ unlined_row rest

-- the same of the statements of a list
abbrev pub unlined_statements : List Statement → List Statement
unlined_statements [] = []
unlined_statements (s ∷ rest) =
    record { number = s.number; line = 0; what = unlined_what s.what } ∷ unlined_statements rest

abbrev pub unlined_procedure : Procedure → Procedure
unlined_procedure q = record q { body = unlined_statements q.body }

abbrev pub unlined : Program → Program
unlined p = record p { procedures = map unlined_procedure p.procedures }

-- two programs are the same but for the lines of their statements
abbrev pub IsSameButForLines : Program → Program → Type 0
IsSameButForLines p q = unlined p ≡ unlined q
