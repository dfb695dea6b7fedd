-- The faults of a whole text.
use Rattle.std.specs.Prelude.{ℕ, ◌+◌, ◌||◌, ◌&&◌, not, min, Bool, true, false, List, [], ◌++◌, None, is_none, Option}
use Rattle.tal_syntax.specs.tal_tokens.specs.declared.token.At.{At}
use Rattle.tal_syntax.specs.Grammar as g
use Rattle.tal_names.specs.declared.fault.Rule.TheVariants.{Prologue, NoMain}
use Rattle.tal_names.specs.declared.fault.RuleFault.{RuleFault}
use Rattle.tal_declarations.specs.declared.table.Declared.{Declared}
use Rattle.tal_declarations.specs.declared.table.Files.{Files}
use Rattle.tal_declarations.specs.declared.table.Headed.{Headed}
use Rattle.tal_rules.specs.declared.walk.Progress.{Progress}
use Rattle.tal_names.specs.declared.scope.Scope.{Scope}
use Rattle.tal_rules.specs.declared.walk.Stage.{Stage}
use Rattle.tal_rules.specs.declared.walk.Stage.TheVariants as stage
use Rattle.tal_rules.specs.declared.walk.Walk.{Walk}
use Rattle.tal_names.specs.Faults.{fault_at, if_so}
use Rattle.tal_declarations.specs.Files.{statement_files, row_files}
use Rattle.tal_declarations.specs.Globals.{lines_faults, with_lines, nothing_declared}
use Rattle.tal_declarations.specs.Headings.{parameters_of, locals_of, with_locals, locals_faults, does_give}
use Rattle.tal_declarations.specs.Headings.{headings_faults, with_headings}
use Rattle.tal_names.specs.Names.{Declarations}
use Rattle.tal_rules.specs.Statements.{after, after_row, statement_faults, row_faults}
use Rattle.tal_syntax.specs.gd_words.specs.declared.limits.TheConstants.{MOST_PROCEDURES}

-- what the names of a procedure stand for, among the globals and the files of the text
abbrev pub locals_by : g.Heading → g.Locals → Declarations
locals_by (g.heading gives proc at name listed main end) inner =
    with_locals (with_locals [] (parameters_of listed)) (locals_of inner)

abbrev pub gives_by : g.Heading → Bool
gives_by (g.heading gives proc at name listed main end) = does_give gives

abbrev pub scope_of : Declarations → Declarations → ℕ → g.Heading → g.Locals → Scope
scope_of globals files number h inner =
    record { globals = globals; files = files; locals = locals_by h inner; number = number; gives = gives_by h }

-- how many procedures there are; those past the limit all count as 64
abbrev pub next_procedure : ℕ → ℕ
next_procedure n = min MOST_PROCEDURES (n + 1)

-- the variables of the files that the procedures open
abbrev pub procedure_files : Declarations → ℕ → Files → g.Procedure → Files
procedure_files globals number f (g.procedure h outer begin inner first more end last) =
    row_files (scope_of globals [] number h inner) (statement_files (scope_of globals [] number h inner) f first) more

abbrev pub files_from : Declarations → ℕ → Files → g.Procedures → Files
files_from globals number f g.no_procedures = f
files_from globals number f (g.more_procedures p rest) =
    files_from globals (next_procedure number) (procedure_files globals number f p) rest

-- whether a heading makes its procedure the main one: it is the first with MAIN
abbrev pub is_main_by : g.Main → Bool
is_main_by g.not_main = false
is_main_by (g.is_main word) = true

abbrev pub has_word_main : g.Heading → Bool
has_word_main (g.heading gives proc at name listed main end) = is_main_by main

abbrev pub name_place : g.Heading → At
name_place (g.heading gives proc at name listed main end) = at

abbrev pub is_main : Progress → g.Heading → Bool
is_main p h = has_word_main h && not p.has_main

abbrev pub stage_at : Bool → Stage
stage_at true = stage.Start
stage_at false = stage.Over

-- what stands before the first statement of a procedure
abbrev pub walk_at_entry : Progress → g.Heading → Walk
walk_at_entry p h = record (p.walk) { stage = stage_at (is_main p h) }

-- whether the main procedure doesn't begin with CHECKMONITOR
abbrev pub lacks_monitor : Stage → Bool
lacks_monitor stage.Start = true
lacks_monitor stage.Opens = false
lacks_monitor stage.Over = false
lacks_monitor stage.Missed = true

abbrev pub heading_locals_faults : g.Heading → g.Locals → g.Locals → List RuleFault
heading_locals_faults (g.heading gives proc at name listed main end) outer inner =
    locals_faults (parameters_of listed) (locals_of outer) (locals_of inner)

abbrev pub body_after : Scope → Walk → g.Statement → g.Row → Walk
body_after s w first more = after_row s (after s w first) more

abbrev pub body_faults : Scope → Walk → g.Statement → g.Row → List RuleFault
body_faults s w first more = statement_faults s w first ++ row_faults s (after s w first) more

-- the faults of a procedure but for its heading
abbrev pub procedure_faults : Declarations → Declarations → Progress → g.Procedure → List RuleFault
procedure_faults globals files p (g.procedure h outer begin inner first more end last) =
    heading_locals_faults h outer inner
    ++ body_faults (scope_of globals files p.count h inner) (walk_at_entry p h) first more
    ++ if_so (lacks_monitor (body_after (scope_of globals files p.count h inner) (walk_at_entry p h) first more).stage)
    (fault_at (name_place h) Prologue)

-- what stands before the procedure that follows one of a heading, where its statements leave a walk
abbrev pub progress_after_procedure : Progress → g.Heading → Walk → Progress
progress_after_procedure p h w =
    record { count = next_procedure p.count; has_main = p.has_main || has_word_main h; walk = w }

abbrev pub after_procedure : Declarations → Declarations → Progress → g.Procedure → Progress
after_procedure globals files p (g.procedure h outer begin inner first more end last) =
    progress_after_procedure p h (body_after (scope_of globals files p.count h inner) (walk_at_entry p h) first more)

abbrev pub procedures_faults : Declarations → Declarations → Progress → g.Procedures → List RuleFault
procedures_faults globals files p g.no_procedures = []
procedures_faults globals files p (g.more_procedures q rest) =
    procedure_faults globals files p q ++ procedures_faults globals files (after_procedure globals files p q) rest

-- what stands before the first procedure
abbrev pub first_progress : Progress
first_progress =
    record { count = 0; has_main = false; walk = record { number = 1; stage = stage.Over; files = 0; receive = false } }

-- what the headings declare after the globals, and which files there are
abbrev pub headed_after : Declared → Headed
headed_after d = record { names = d.names; count = 0; main = None }

abbrev pub no_files : Files
no_files = record { names = []; uses = [] }

-- some procedure is MAIN
abbrev pub main_missing : Option ℕ → At → List RuleFault
main_missing main finish = if_so (is_none main) (fault_at finish NoMain)

-- the variables of files among the names that the globals and headings declare
abbrev pub files_by : Headed → g.Procedures → Files
files_by h ps = files_from h.names 0 no_files ps

abbrev pub bodies_faults : Headed → g.Procedures → List RuleFault
bodies_faults h ps = procedures_faults h.names (files_by h ps).names first_progress ps

-- what the globals and the headings of a text declare
abbrev pub headed_text : g.Lines → g.Procedures → Headed
headed_text lines procedures = with_headings (headed_after (with_lines nothing_declared lines)) procedures

-- every fault of a text
abbrev pub faults : g.Text → List RuleFault
faults (g.text lines procedures finish) =
    lines_faults nothing_declared lines
    ++ headings_faults (headed_after (with_lines nothing_declared lines)) procedures
    ++ bodies_faults (headed_text lines procedures) procedures
    ++ main_missing (headed_text lines procedures).main finish
