-- The rules of the grammar for statements, and which IF an ELSE belongs to.
use Rattle.std.specs.Prelude.{ℕ, Bool, true, false, List, ◌∷◌, ◌≡◌}
use Rattle.tal_tokens.specs.declared.token.At.{At}
use Rattle.tal_tokens.specs.declared.token.Token.{Token}
use Rattle.tal_tokens.specs.declared.token.Token.TheVariants as tok
use Rattle.tal_syntax.specs.Grammar.Declarations.{Constant, of_constant}
use Rattle.tal_syntax.specs.Grammar.Expressions.{Expr, of_expr, Spot, of_spot}

-- argument = expr | string
pub data Argument : Type 0 where
  value : Expr → Argument
  receive : At → Argument
  process : At → List ℕ → Argument
  quoted : At → Argument

abbrev pub of_argument : Argument → List Token → List Token
of_argument (value e) ks = of_expr e ks
of_argument (receive at) ks = tok.Receive at ∷ ks
of_argument (process at name) ks = tok.Process at name ∷ ks
of_argument (quoted at) ks = tok.Text at ∷ ks

-- further = { "," argument }
pub data Further : Type 0 where
  no_further : Further
  more_further : At → Argument → Further → Further

abbrev pub of_further : Further → List Token → List Token
of_further no_further ks = ks
of_further (more_further comma a rest) ks = tok.Comma comma ∷ of_argument a (of_further rest ks)

-- arguments = [ "(" argument further ")" ]
pub data Arguments : Type 0 where
  unlisted : Arguments
  listed : At → Argument → Further → At → Arguments

abbrev pub of_arguments : Arguments → List Token → List Token
of_arguments unlisted ks = ks
of_arguments (listed start first more close) ks =
    tok.Open start ∷ of_argument first (of_further more (tok.Close close ∷ ks))

-- values = { "," expr }
pub data Values : Type 0 where
  no_values : Values
  more_values : At → Expr → Values → Values

abbrev pub of_values : Values → List Token → List Token
of_values no_values ks = ks
of_values (more_values comma e rest) ks = tok.Comma comma ∷ of_expr e (of_values rest ks)

-- answer = [ expr ]
pub data Answer : Type 0 where
  no_answer : Answer
  answer : Expr → Answer

abbrev pub of_answer : Answer → List Token → List Token
of_answer no_answer ks = ks
of_answer (answer e) ks = of_expr e ks

-- direction = TO | DOWNTO
pub data Direction : Type 0 where
  up : At → Direction
  down : At → Direction

abbrev pub of_direction : Direction → Token
of_direction (up at) = tok.To at
of_direction (down at) = tok.DownTo at

-- step = [ BY constant ]
pub data Step : Type 0 where
  step_one : Step
  step_by : At → Constant → Step

abbrev pub of_step : Step → List Token → List Token
of_step step_one ks = ks
of_step (step_by at c) ks = tok.By at ∷ of_constant c ks

mutual
  -- statement = (nothing) | BEGIN statement row END | IF expr THEN statement otherwise | WHILE expr DO statement
  --   | FOR name ":=" expr direction expr step DO statement | DO statement UNTIL expr | CALL name arguments
  --   | RETURN answer | spot ":=" expr | spot ":=" name "(" expr values ")"
  pub data Statement : Type 0 where
    nothing : Statement
    block : At → Statement → Row → At → Statement
    if_then : At → Expr → At → Statement → Otherwise → Statement
    while_do : At → Expr → At → Statement → Statement
    for_do : At → At → List ℕ → At → Expr → Direction → Expr → Step → At → Statement → Statement
    do_until : At → Statement → At → Expr → Statement
    call : At → At → List ℕ → Arguments → Statement
    return : At → Answer → Statement
    assign : Spot → At → Expr → Statement
    assign_call : Spot → At → At → List ℕ → At → Expr → Values → At → Statement

  -- otherwise = [ ELSE statement ]
  pub data Otherwise : Type 0 where
    no_else : Otherwise
    otherwise : At → Statement → Otherwise

  -- row = { ";" statement }
  pub data Row : Type 0 where
    no_row : Row
    more_row : At → Statement → Row → Row

abbrev mutual
  pub of_statement : Statement → List Token → List Token
  of_statement nothing ks = ks
  of_statement (block begin first more end) ks = tok.Begin begin ∷ of_statement first (of_row more (tok.End end ∷ ks))
  of_statement (if_then head test then_at s o) ks =
      tok.If head ∷ of_expr test (tok.Then then_at ∷ of_statement s (of_otherwise o ks))
  of_statement (while_do head test do_at s) ks = tok.While head ∷ of_expr test (tok.Do do_at ∷ of_statement s ks)
  of_statement (for_do head at name set_at from direction to step do_at s) ks =
      tok.For head ∷ tok.Name at name ∷ tok.Assign set_at
      ∷ of_expr from (of_direction direction ∷ of_expr to (of_step step (tok.Do do_at ∷ of_statement s ks)))
  of_statement (do_until head s at test) ks = tok.Do head ∷ of_statement s (tok.Until at ∷ of_expr test ks)
  of_statement (call head at name a) ks = tok.Call head ∷ tok.Name at name ∷ of_arguments a ks
  of_statement (return head a) ks = tok.Return head ∷ of_answer a ks
  of_statement (assign target at e) ks = of_spot target (tok.Assign at ∷ of_expr e ks)
  of_statement (assign_call target at name_at name start first more close) ks =
      of_spot target (tok.Assign at ∷ tok.Name name_at name ∷ tok.Open start
      ∷ of_expr first (of_values more (tok.Close close ∷ ks)))

  pub of_otherwise : Otherwise → List Token → List Token
  of_otherwise no_else ks = ks
  of_otherwise (otherwise at s) ks = tok.Else at ∷ of_statement s ks

  pub of_row : Row → List Token → List Token
  of_row no_row ks = ks
  of_row (more_row semicolon s rest) ks = tok.Semicolon semicolon ∷ of_statement s (of_row rest ks)

-- whether a statement ends with an IF that has no ELSE
abbrev mutual
  pub is_open : Statement → Bool
  is_open nothing = false
  is_open (block begin first more end) = false
  is_open (if_then head test then_at s o) = is_open_else o
  is_open (while_do head test do_at s) = is_open s
  is_open (for_do head at name set_at from direction to step do_at s) = is_open s
  is_open (do_until head s at test) = false
  is_open (call head at name a) = false
  is_open (return head a) = false
  is_open (assign target at e) = false
  is_open (assign_call target at name_at name start first more close) = false

  pub is_open_else : Otherwise → Bool
  is_open_else no_else = true
  is_open_else (otherwise at s) = is_open s

-- an ELSE belongs to the nearest IF: what stands between an IF and its ELSE doesn't end with an IF that has none
abbrev mutual
  pub IsNearest : Statement → Type 0
  IsNearest nothing = Unit {0}
  IsNearest (block begin first more end) = IsNearest first × IsNearestRow more
  IsNearest (if_then head test then_at s o) = IsNearest s × IsNearestElse s o
  IsNearest (while_do head test do_at s) = IsNearest s
  IsNearest (for_do head at name set_at from direction to step do_at s) = IsNearest s
  IsNearest (do_until head s at test) = IsNearest s
  IsNearest (call head at name a) = Unit {0}
  IsNearest (return head a) = Unit {0}
  IsNearest (assign target at e) = Unit {0}
  IsNearest (assign_call target at name_at name start first more close) = Unit {0}

  pub IsNearestElse : Statement → Otherwise → Type 0
  IsNearestElse s no_else = Unit {0}
  IsNearestElse s (otherwise at t) = (is_open s ≡ false) × IsNearest t

  pub IsNearestRow : Row → Type 0
  IsNearestRow no_row = Unit {0}
  IsNearestRow (more_row semicolon s rest) = IsNearest s × IsNearestRow rest
