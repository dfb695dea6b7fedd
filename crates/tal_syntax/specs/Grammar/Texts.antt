-- The rules of the grammar for procedures and whole texts.
use Rattle.std.specs.Prelude.{List, [], ◌∷◌}
use Rattle.tal_tokens.specs.declared.token.At.{At}
use Rattle.tal_tokens.specs.declared.token.Token.{Token}
use Rattle.tal_tokens.specs.declared.token.Token.TheVariants as tok
use Rattle.tal_syntax.specs.Grammar.Declarations.{Heading, of_heading, Locals, of_locals, Lines, of_lines}
use Rattle.tal_syntax.specs.Grammar.Statements.{Statement, of_statement, Row, of_row, IsNearest, IsNearestRow}

-- procedure = heading locals BEGIN locals statement row END ";"
pub data Procedure : Type 0 where
  procedure : Heading → Locals → At → Locals → Statement → Row → At → At → Procedure

abbrev pub of_procedure : Procedure → List Token → List Token
of_procedure (procedure h outer begin inner first more end last) ks =
    of_heading h (of_locals outer (tok.Begin begin
    ∷ of_locals inner (of_statement first (of_row more (tok.End end ∷ tok.Semicolon last ∷ ks)))))

-- procedures = { procedure }
pub data Procedures : Type 0 where
  no_procedures : Procedures
  more_procedures : Procedure → Procedures → Procedures

abbrev pub of_procedures : Procedures → List Token → List Token
of_procedures no_procedures ks = ks
of_procedures (more_procedures p rest) ks = of_procedure p (of_procedures rest ks)

-- text = lines procedures and the end
pub data Text : Type 0 where
  text : Lines → Procedures → At → Text

-- the tokens of a text
abbrev pub of_text : Text → List Token
of_text (text ls ps finish) = of_lines ls (of_procedures ps (tok.Finish finish ∷ []))

abbrev pub IsNearestProcedure : Procedure → Type 0
IsNearestProcedure (procedure h outer begin inner first more end last) = IsNearest first × IsNearestRow more

abbrev pub IsNearestIn : Procedures → Type 0
IsNearestIn no_procedures = Unit {0}
IsNearestIn (more_procedures p rest) = IsNearestProcedure p × IsNearestIn rest

-- in a text each ELSE belongs to the nearest IF
abbrev pub IsText : Text → Type 0
IsText (text ls ps finish) = IsNearestIn ps
