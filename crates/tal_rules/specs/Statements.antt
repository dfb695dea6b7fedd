-- The numbers of statements, the prologue of the main procedure, and the faults of statements.
use Rattle.std.specs.Prelude.{ℕ, ◌+◌, ◌||◌, not, nat_lt, ℤ, pos, int_lt, Bool, true, false, List, [], ◌++◌, slice_get}
use Rattle.std.specs.Prelude.{Option, Some, None, if◌then◌else◌}
use Rattle.tal_syntax.specs.tal_tokens.specs.declared.token.At.{At}
use Rattle.tal_syntax.specs.Grammar as g
use Rattle.tal_names.specs.declared.fault.Rule.TheVariants.{WrongKind, Limit}
use Rattle.tal_names.specs.declared.fault.RuleFault.{RuleFault}
use Rattle.tal_names.specs.declared.meaning.Meaning.{Meaning}
use Rattle.tal_names.specs.declared.meaning.Meaning.TheVariants as m
use Rattle.tal_names.specs.declared.meaning.Need.TheVariants as need
use Rattle.tal_names.specs.declared.meaning.Wanted.TheVariants.{Condition}
use Rattle.tal_names.specs.declared.scope.Named.{Named}
use Rattle.tal_names.specs.declared.scope.Scope.{Scope}
use Rattle.tal_rules.specs.declared.walk.Stage.{Stage}
use Rattle.tal_rules.specs.declared.walk.Stage.TheVariants as stage
use Rattle.tal_rules.specs.declared.walk.Walk.{Walk}
use Rattle.tal_names.specs.declared.system.System.{System}
use Rattle.tal_names.specs.declared.system.System.TheVariants as system
use Rattle.tal_declarations.specs.Files.{named_in}
use Rattle.tal_declarations.specs.Globals.{atom_of, constant_value, constant_faults, first_of_constant}
use Rattle.tal_rules.specs.Calls.{called_faults, call_faults, values_faults, values_count, opens_receive}
use Rattle.tal_rules.specs.Expressions.{expr_faults, value_faults, spot_faults}
use Rattle.tal_names.specs.Faults.{fault_at, if_so}
use Rattle.tal_names.specs.Systems.{system_of}
use Rattle.tal_names.specs.Places.{first_of_spot, name_of_expr, arguments_of}
use Rattle.tal_names.specs.Scopes.{meaning_of, name_faults}
use Rattle.tal_syntax.specs.gd_words.specs.declared.limits.TheConstants.{MOST_FILES, MOST_STATEMENTS}
use Rattle.tal_tree.specs.declared.limit.ProgramLimit.TheVariants as program_limit

-- the number after another. Those past the limit all count as 2,001
abbrev pub next_number : ℕ → ℕ
next_number n = if nat_lt MOST_STATEMENTS n then n else n + 1

-- after a statement that is neither CHECKMONITOR nor an OPEN the prologue is over, or missed
abbrev pub stage_after : Stage → Stage
stage_after stage.Start = stage.Missed
stage_after stage.Opens = stage.Over
stage_after stage.Over = stage.Over
stage_after stage.Missed = stage.Missed

abbrev pub stage_after_monitor : Stage → Stage
stage_after_monitor stage.Start = stage.Opens
stage_after_monitor other = stage_after other

abbrev pub stage_after_open : Stage → Stage
stage_after_open stage.Opens = stage.Opens
stage_after_open other = stage_after other

-- how many OPENs there are; those past the limit all count as the ninth
abbrev pub next_file : ℕ → ℕ
next_file n = if nat_lt MOST_FILES n then n else n + 1

-- what stands before the statement that follows one with a number
abbrev pub next_walk : Walk → Walk
next_walk w = record w { number = next_number w.number; stage = stage_after w.stage }

-- what stands before the statement inside a DO, which has no number there
abbrev pub inside_do : Walk → Walk
inside_do w = record w { stage = stage_after w.stage }

abbrev pub after_call : Walk → List g.Argument → Option System → Walk
after_call w arguments (Some system.CheckMonitor) =
    record w { number = next_number w.number; stage = stage_after_monitor w.stage }
after_call w arguments (Some system.Open) = record {
  number = next_number w.number;
  stage = stage_after_open w.stage;
  files = next_file w.files;
  receive = w.receive || opens_receive (slice_get arguments 0);
}
after_call w arguments (Some system.Checkpoint) = next_walk w
after_call w arguments (Some system.ReadUpdate) = next_walk w
after_call w arguments (Some system.Reply) = next_walk w
after_call w arguments (Some system.Stop) = next_walk w
after_call w arguments (Some system.WriteRead) = next_walk w
after_call w arguments None = next_walk w

-- at most 2,000 numbered statements
abbrev pub number_faults : ℕ → At → List RuleFault
number_faults n at = if_so (nat_lt MOST_STATEMENTS n) (fault_at at (Limit program_limit.Statements))

-- RETURN has an expression exactly in a procedure that gives a value
abbrev pub return_faults : Scope → At → g.Answer → List RuleFault
return_faults s head g.no_answer = if_so s.gives (fault_at head WrongKind)
return_faults s head (g.answer e) = if_so (not s.gives) (fault_at head WrongKind) ++ value_faults s e

-- a right side that is a procedure's name alone is a call of it
abbrev pub right_by : Scope → g.Expr → At → Option Meaning → List RuleFault
right_by s e at (Some (m.Procedure number gives parameters)) =
    called_faults s true at 0 (Some (m.Procedure number gives parameters))
right_by s e at found = value_faults s e

abbrev pub right_named : Scope → g.Expr → Option Named → List RuleFault
right_named s e None = value_faults s e
right_named s e (Some x) = right_by s e x.at (meaning_of s x.name)

abbrev pub right_faults : Scope → g.Expr → List RuleFault
right_faults s e = right_named s e (name_of_expr e)

-- the faults of statements with no statement inside
abbrev pub call_statement_faults : Scope → Walk → At → At → List ℕ → List g.Argument → List RuleFault
call_statement_faults s w head at name arguments =
    number_faults w.number head ++ call_faults s w at name arguments (system_of name)

abbrev pub return_statement_faults : Scope → Walk → At → g.Answer → List RuleFault
return_statement_faults s w head a = number_faults w.number head ++ return_faults s head a

abbrev pub assign_faults : Scope → Walk → g.Spot → g.Expr → List RuleFault
assign_faults s w target e =
    number_faults w.number (first_of_spot target) ++ spot_faults s need.Variable target ++ right_faults s e

abbrev pub assign_call_faults : Scope → Walk → g.Spot → At → List ℕ → g.Expr → g.Values → List RuleFault
assign_call_faults s w target at name first more =
    number_faults w.number (first_of_spot target) ++ spot_faults s need.Variable target
    ++ called_faults s true at (values_count more + 1) (meaning_of s name) ++ value_faults s first
    ++ values_faults s more

-- the faults of a test, and of the head of a FOR but for its numbers
abbrev pub test_faults : Scope → Walk → At → g.Expr → List RuleFault
test_faults s w head test = number_faults w.number head ++ expr_faults s Condition test

-- what a FOR adds or takes away is at least 1
abbrev pub is_below_one : Option ℤ → Bool
is_below_one None = false
is_below_one (Some value) = int_lt value (pos 1)

abbrev pub step_faults : Scope → g.Step → List RuleFault
step_faults s g.step_one = []
step_faults s (g.step_by at c) =
    constant_faults c (named_in s (atom_of c))
    ++ if_so (is_below_one (constant_value c (named_in s (atom_of c)))) (fault_at (first_of_constant c) WrongKind)

abbrev pub for_head_faults : Scope → At → List ℕ → g.Expr → g.Expr → g.Step → List RuleFault
for_head_faults s at name from to step =
    name_faults s need.Variable at name ++ value_faults s from ++ value_faults s to ++ step_faults s step

module _ (s : Scope) where
  -- what stands before the statement that follows. FOR has a number, its test has the next, and its last assignment has
  -- one after its body. DO has a number after its body
  abbrev mutual
    pub after : Walk → g.Statement → Walk
    after w g.nothing = w
    after w (g.block begin first more end) = after_row (after w first) more
    after w (g.if_then head test then_at t o) = after_else (after (next_walk w) t) o
    after w (g.while_do head test do_at t) = after (next_walk w) t
    after w (g.for_do head at name set_at from direction to step do_at t) =
        next_walk (after (next_walk (next_walk w)) t)
    after w (g.do_until head t at test) = next_walk (after (inside_do w) t)
    after w (g.call head at name a) = after_call w (arguments_of a) (system_of name)
    after w (g.return head a) = next_walk w
    after w (g.assign target at e) = next_walk w
    after w (g.assign_call target at name_at name start first more close) = next_walk w

    pub after_else : Walk → g.Otherwise → Walk
    after_else w g.no_else = w
    after_else w (g.otherwise at t) = after w t

    pub after_row : Walk → g.Row → Walk
    after_row w g.no_row = w
    after_row w (g.more_row semicolon t rest) = after_row (after w t) rest

  -- the faults of a statement. Each number of a FOR is past the limit where its last one is, and a DO's number stands
  -- for it from its first token on
  abbrev mutual
    pub statement_faults : Walk → g.Statement → List RuleFault
    statement_faults w g.nothing = []
    statement_faults w (g.block begin first more end) = statement_faults w first ++ row_faults (after w first) more
    statement_faults w (g.if_then head test then_at t o) =
        test_faults s w head test ++ statement_faults (next_walk w) t ++ else_faults (after (next_walk w) t) o
    statement_faults w (g.while_do head test do_at t) = test_faults s w head test ++ statement_faults (next_walk w) t
    statement_faults w (g.for_do head at name set_at from direction to step do_at t) =
        for_head_faults s at name from to step ++ statement_faults (next_walk (next_walk w)) t
        ++ number_faults (after (next_walk (next_walk w)) t).number head
    statement_faults w (g.do_until head t at test) =
        statement_faults (inside_do w) t ++ test_faults s (after (inside_do w) t) head test
    statement_faults w (g.call head at name a) = call_statement_faults s w head at name (arguments_of a)
    statement_faults w (g.return head a) = return_statement_faults s w head a
    statement_faults w (g.assign target at e) = assign_faults s w target e
    statement_faults w (g.assign_call target at name_at name start first more close) =
        assign_call_faults s w target name_at name first more

    pub else_faults : Walk → g.Otherwise → List RuleFault
    else_faults w g.no_else = []
    else_faults w (g.otherwise at t) = statement_faults w t

    pub row_faults : Walk → g.Row → List RuleFault
    row_faults w g.no_row = []
    row_faults w (g.more_row semicolon t rest) = statement_faults w t ++ row_faults (after w t) rest
