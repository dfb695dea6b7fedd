-- How deep the tokens of procedures and of whole texts stand.
use Rattle.std.specs.Prelude.{ℕ, List, [], ◌∷◌}
use Rattle.tal_syntax.specs.Grammar as g
use Rattle.tal_syntax.specs.Nesting.Declarations.{nest_heading, nest_locals, nest_lines}
use Rattle.tal_syntax.specs.Nesting.Statements.{nest_statement, nest_row}

abbrev pub nest_procedure : ℕ → g.Procedure → List ℕ → List ℕ
nest_procedure n (g.procedure h outer begin inner first more end last) ls =
    nest_heading n h (nest_locals n outer (n
    ∷ nest_locals n inner (nest_statement n first (nest_row n more (n ∷ n ∷ ls)))))

abbrev pub nest_procedures : ℕ → g.Procedures → List ℕ → List ℕ
nest_procedures n g.no_procedures ls = ls
nest_procedures n (g.more_procedures p rest) ls = nest_procedure n p (nest_procedures n rest ls)

-- the levels of the tokens of a text; a procedure's own statements are one level deep
abbrev pub nest_text : g.Text → List ℕ
nest_text (g.text ls ps finish) = nest_lines 0 ls (nest_procedures 0 ps (0 ∷ []))
