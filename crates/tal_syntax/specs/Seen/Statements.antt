-- What the built statements stand for in the grammar.
use Rattle.std.specs.Prelude.{List}
use Rattle.tal_syntax.specs.Grammar as g
use Rattle.tal_syntax.specs.Seen.Chained.{chained}
use Rattle.tal_syntax.specs.Seen.Declarations.{seen_constant}
use Rattle.tal_syntax.specs.Seen.Expressions.{seen_expr, seen_spot}
use Rattle.tal_syntax.specs.declared.statement.Argument.{Argument}
use Rattle.tal_syntax.specs.declared.statement.Argument.TheVariants as argument
use Rattle.tal_syntax.specs.declared.statement.NextArgument.{NextArgument}
use Rattle.tal_syntax.specs.declared.statement.Arguments.{Arguments}
use Rattle.tal_syntax.specs.declared.statement.Arguments.TheVariants as arguments
use Rattle.tal_syntax.specs.declared.statement.NextValue.{NextValue}
use Rattle.tal_syntax.specs.declared.statement.Answer.{Answer}
use Rattle.tal_syntax.specs.declared.statement.Answer.TheVariants as answer
use Rattle.tal_syntax.specs.declared.statement.Statement.{Statement, Row_of-Statement, end_of-Statement}
use Rattle.tal_syntax.specs.declared.statement.Statement.{more_of-Statement, Row_of-Next, end_of-Next, more_of-Next}
use Rattle.tal_syntax.specs.declared.statement.Statement.TheVariants as statement
use Rattle.tal_syntax.specs.declared.statement.Direction.{Direction}
use Rattle.tal_syntax.specs.declared.statement.Direction.TheVariants as direction
use Rattle.tal_syntax.specs.declared.statement.Step.{Step}
use Rattle.tal_syntax.specs.declared.statement.Step.TheVariants as step
use Rattle.tal_syntax.specs.declared.statement.Otherwise.{Otherwise}
use Rattle.tal_syntax.specs.declared.statement.Otherwise.TheVariants as otherwise
use Rattle.tal_syntax.specs.declared.statement.Next.{Next}

abbrev pub seen_argument : Argument → g.Argument
seen_argument (argument.Value e) = g.value (seen_expr e)
seen_argument (argument.Receive at) = g.receive at
seen_argument (argument.Process at name) = g.process at name
seen_argument (argument.Quoted at) = g.quoted at

abbrev pub link_further : NextArgument → g.Further → g.Further
link_further n rest = g.more_further n.comma (seen_argument n.argument) rest

abbrev pub seen_further : List NextArgument → g.Further
seen_further ns = chained link_further ns g.no_further

abbrev pub seen_arguments : Arguments → g.Arguments
seen_arguments arguments.Absent = g.unlisted
seen_arguments (arguments.Listed l) = g.listed l.start (seen_argument l.first) (seen_further l.more) l.close

abbrev pub link_values : NextValue → g.Values → g.Values
link_values n rest = g.more_values n.comma (seen_expr n.value) rest

abbrev pub seen_values : List NextValue → g.Values
seen_values ns = chained link_values ns g.no_values

abbrev pub seen_answer : Answer → g.Answer
seen_answer answer.Absent = g.no_answer
seen_answer (answer.Value e) = g.answer (seen_expr e)

abbrev pub seen_direction : Direction → g.Direction
seen_direction (direction.Up at) = g.up at
seen_direction (direction.Down at) = g.down at

abbrev pub seen_step : Step → g.Step
seen_step step.One = g.step_one
seen_step (step.By at c) = g.step_by at (seen_constant c)

abbrev mutual
  pub seen_statement : Statement → g.Statement
  seen_statement statement.Nothing = g.nothing
  seen_statement (statement.Block' begin s first t more end) =
      g.block begin (seen_boxed_statement first) (seen_nexts more) end
  seen_statement (statement.If' t s body o) =
      g.if_then t.head (seen_expr t.test) t.end (seen_boxed_statement body) (seen_otherwise o)
  seen_statement (statement.While' t s body) = g.while_do t.head (seen_expr t.test) t.end (seen_boxed_statement body)
  seen_statement (statement.For' f s body) =
      g.for_do f.head f.at f.name f.set_at (seen_expr f.from) (seen_direction f.direction) (seen_expr f.to)
      (seen_step f.step) f.do_at (seen_boxed_statement body)
  seen_statement (statement.DoUntil' s body u) = g.do_until u.head (seen_boxed_statement body) u.at (seen_expr u.test)
  seen_statement (statement.Call c) = g.call c.head c.at c.name (seen_arguments c.arguments)
  seen_statement (statement.Return r) = g.return r.head (seen_answer r.answer)
  seen_statement (statement.Assign a) = g.assign (seen_spot a.target) a.at (seen_expr a.value)
  seen_statement (statement.AssignCall a) =
      g.assign_call (seen_spot a.target) a.at a.name_at a.name a.start (seen_expr a.first) (seen_values a.more) a.close

  pub seen_otherwise : Otherwise → g.Otherwise
  seen_otherwise otherwise.Absent = g.no_else
  seen_otherwise (otherwise.Else' at s body) = g.otherwise at (seen_boxed_statement body)

  pub seen_boxed_statement : {n : _} → Row_of-Statement n → g.Statement
  seen_boxed_statement end_of-Statement = g.nothing
  seen_boxed_statement (more_of-Statement s rest) = seen_statement s

  pub seen_nexts : {n : _} → Row_of-Next n → g.Row
  seen_nexts end_of-Next = g.no_row
  seen_nexts (more_of-Next semicolon s rest) = g.more_row semicolon (seen_statement s) (seen_nexts rest)

abbrev pub link_row : Next → g.Row → g.Row
link_row n rest = g.more_row n.semicolon (seen_statement n.statement) rest

abbrev pub seen_row : List Next → g.Row
seen_row ns = chained link_row ns g.no_row
