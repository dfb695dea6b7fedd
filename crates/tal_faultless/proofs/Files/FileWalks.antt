-- The files of a text without faults.
use Rattle.std.proofs.Common.{◌≡◌, ℕ, Bool, List, [], ◌++◌, Option, Some, refl, subst, arith}
use Rattle.tal_tokens.specs.declared.token.At.{At}
use Rattle.tal_syntax.specs.Grammar as g
use Rattle.tal_names.specs.declared.fault.Rule.TheVariants.{Prologue}
use Rattle.tal_declarations.specs.declared.table.Files.{Files}
use Rattle.tal_meaning.specs.tal_rules.specs.declared.walk.Progress.{Progress}
use Rattle.tal_names.specs.declared.scope.Scope.{Scope}
use Rattle.tal_meaning.specs.tal_rules.specs.declared.walk.Walk.{Walk}
use Rattle.tal_names.specs.declared.system.System.{System}
use Rattle.tal_names.specs.declared.system.System.TheVariants as system
use Rattle.tal_meaning.specs.tal_rules.specs.Calls.{call_faults}
use Rattle.tal_names.specs.Faults.{fault_at, if_so}
use Rattle.tal_declarations.specs.Files.{call_files, statement_files, else_files, row_files}
use Rattle.tal_names.specs.Systems.{system_of}
use Rattle.tal_names.specs.Names.{Declarations}
use Rattle.tal_names.specs.Places.{arguments_of}
use Rattle.tal_meaning.specs.tal_rules.specs.Statements.{next_walk, inside_do, after, after_else, after_row, after_call}
use Rattle.tal_meaning.specs.tal_rules.specs.Statements.{number_faults}
use Rattle.tal_meaning.specs.tal_rules.specs.Statements.{test_faults, for_head_faults, statement_faults, else_faults}
use Rattle.tal_meaning.specs.tal_rules.specs.Statements.{row_faults}
use Rattle.tal_meaning.specs.tal_rules.specs.Texts.{scope_of, next_procedure, procedure_files, files_from, files_by}
use Rattle.tal_meaning.specs.tal_rules.specs.Texts.{headed_text}
use Rattle.tal_meaning.specs.tal_rules.specs.Texts.{no_files, walk_at_entry, body_after, body_faults}
use Rattle.tal_meaning.specs.tal_rules.specs.Texts.{heading_locals_faults}
use Rattle.tal_meaning.specs.tal_rules.specs.Texts.{lacks_monitor}
use Rattle.tal_meaning.specs.tal_rules.specs.Texts.{name_place, procedure_faults, after_procedure, procedures_faults}
use Rattle.tal_meaning.specs.tal_rules.specs.Texts.{first_progress}
use Rattle.tal_meaning.specs.tal_rules.specs.Texts.{bodies_faults}
use Rattle.tal_faultless.proofs.Files.FileNames.{AreOpened, open_opened}
use Rattle.tal_faultless.proofs.Scopes.SourceScopes.{without_files}
use Rattle.tal_faultless.proofs.Common.Faultless.{first_nil, second_nil}

module _ (s : Scope) where
  abbrev filing : Scope
  filing = without_files s

  -- the files so far, where a statement stands
  abbrev AreOpenedAt : Files → Walk → Type 0
  AreOpenedAt f w = AreOpened s.globals f w.files w.receive

  call_opened : (f : Files) (w : Walk) (at : At) (name : List ℕ) (arguments : List g.Argument) (o : Option System)
      → call_faults s w at name arguments o ≡ []
      → AreOpenedAt f w → AreOpenedAt (call_files filing f arguments o) (after_call w arguments o)
  call_opened f w at name arguments (Some system.Open) e a = open_opened s f w at arguments e a
  call_opened f w at name arguments (Some system.CheckMonitor) e a = a
  call_opened f w at name arguments _ e a = a

  mutual
    statement_opened : (f : Files) (w : Walk) (t : g.Statement) → statement_faults s w t ≡ [] → AreOpenedAt f w
        → AreOpenedAt (statement_files filing f t) (after s w t)
    statement_opened f w g.nothing e a = a
    statement_opened f w (g.block begin first more end) e a =
        row_opened (statement_files filing f first) (after s w first) more
        (second_nil (statement_faults s w first) (row_faults s (after s w first) more) e)
        (statement_opened f w first (first_nil (statement_faults s w first) (row_faults s (after s w first) more) e) a)
    statement_opened f w (g.if_then head test then_at t o) e a =
        else_opened (statement_files filing f t) (after s (next_walk w) t) o
        (second_nil (test_faults s w head test ++ statement_faults s (next_walk w) t)
        (else_faults s (after s (next_walk w) t) o) e)
        (statement_opened f (next_walk w) t
        (second_nil (test_faults s w head test) (statement_faults s (next_walk w) t)
        (first_nil (test_faults s w head test ++ statement_faults s (next_walk w) t)
        (else_faults s (after s (next_walk w) t) o) e))
        a)
    statement_opened f w (g.while_do head test do_at t) e a =
        statement_opened f (next_walk w) t (second_nil (test_faults s w head test)
        (statement_faults s (next_walk w) t) e) a
    statement_opened f w (g.for_do head at name set_at from direction to step do_at t) e a =
        statement_opened f (next_walk (next_walk w)) t
        (second_nil (for_head_faults s at name from to step) (statement_faults s (next_walk (next_walk w)) t)
        (first_nil (for_head_faults s at name from to step ++ statement_faults s (next_walk (next_walk w)) t)
        (number_faults (after s (next_walk (next_walk w)) t).number head) e))
        a
    statement_opened f w (g.do_until head t at test) e a =
        statement_opened f (inside_do w) t
        (first_nil (statement_faults s (inside_do w) t) (test_faults s (after s (inside_do w) t) head test) e) a
    statement_opened f w (g.call head at name list) e a =
        call_opened f w at name (arguments_of list) (system_of name)
        (second_nil (number_faults w.number head) (call_faults s w at name (arguments_of list) (system_of name)) e) a
    statement_opened f w (g.return head given) e a = a
    statement_opened f w (g.assign target at value) e a = a
    statement_opened f w (g.assign_call target at name_at name start first more close) e a = a

    else_opened : (f : Files) (w : Walk) (o : g.Otherwise) → else_faults s w o ≡ [] → AreOpenedAt f w
        → AreOpenedAt (else_files filing f o) (after_else s w o)
    else_opened f w g.no_else e a = a
    else_opened f w (g.otherwise at t) e a = statement_opened f w t e a

    row_opened : (f : Files) (w : Walk) (more : g.Row) → row_faults s w more ≡ [] → AreOpenedAt f w
        → AreOpenedAt (row_files filing f more) (after_row s w more)
    row_opened f w g.no_row e a = a
    row_opened f w (g.more_row semicolon t rest) e a =
        row_opened (statement_files filing f t) (after s w t) rest
        (second_nil (statement_faults s w t) (row_faults s (after s w t) rest) e)
        (statement_opened f w t (first_nil (statement_faults s w t) (row_faults s (after s w t) rest) e) a)

  body_opened : (f : Files) (w : Walk) (first : g.Statement) (more : g.Row) → body_faults s w first more ≡ []
      → AreOpenedAt f w
      → AreOpenedAt (row_files filing (statement_files filing f first) more) (body_after s w first more)
  body_opened f w first more e a =
      row_opened (statement_files filing f first) (after s w first) more
      (second_nil (statement_faults s w first) (row_faults s (after s w first) more) e)
      (statement_opened f w first (first_nil (statement_faults s w first) (row_faults s (after s w first) more) e) a)

module _ (globals files : Declarations) where
  procedure_opened : (p : Progress) (f : Files) (q : g.Procedure) → procedure_faults globals files p q ≡ []
      → AreOpened globals f p.walk.files p.walk.receive
      → AreOpened globals (procedure_files globals p.count f q) (after_procedure globals files p q).walk.files
      (after_procedure globals files p q).walk.receive
  procedure_opened p f (g.procedure h outer begin inner first more end last) e a =
      body_opened scope f (walk_at_entry p h) first more
      (second_nil (heading_locals_faults h outer inner) (body_faults scope (walk_at_entry p h) first more)
      (first_nil (heading_locals_faults h outer inner ++ body_faults scope (walk_at_entry p h) first more)
      (if_so (lacks_monitor (body_after scope (walk_at_entry p h) first more).stage)
      (fault_at (name_place h) Prologue)) e))
      a
    where
      scope : Scope
      scope = scope_of globals files p.count h inner

  -- the files of the procedures that follow, at the end
  pub record AtEnd (f : Files) : Type 0 where
    pub count : ℕ
    pub receive : Bool
    pub opened : AreOpened globals f count receive

  count_after : (p : Progress) (q : g.Procedure) → (after_procedure globals files p q).count ≡ next_procedure p.count
  count_after p (g.procedure h outer begin inner first more end last) = refl

  procedures_opened : (p : Progress) (f : Files) (ps : g.Procedures) → procedures_faults globals files p ps ≡ []
      → AreOpened globals f p.walk.files p.walk.receive
      → AtEnd (files_from globals p.count f ps)
  procedures_opened p f g.no_procedures e a = record { count = p.walk.files; receive = p.walk.receive; opened = a }
  procedures_opened p f (g.more_procedures q rest) e a =
      subst (λ n. AtEnd (files_from globals n (procedure_files globals p.count f q) rest)) (count_after p q)
      (procedures_opened (after_procedure globals files p q) (procedure_files globals p.count f q) rest
      (second_nil (procedure_faults globals files p q)
      (procedures_faults globals files (after_procedure globals files p q) rest) e)
      (procedure_opened p f q (first_nil (procedure_faults globals files p q)
      (procedures_faults globals files (after_procedure globals files p q) rest) e) a))

-- the files of a text
pub files_opened : (lines : g.Lines) (ps : g.Procedures) → bodies_faults (headed_text lines ps) ps ≡ []
    → AtEnd (headed_text lines ps).names (files_by (headed_text lines ps) ps).names (files_by (headed_text lines ps) ps)
files_opened lines ps e = procedures_opened (headed_text lines ps).names (files_by (headed_text lines ps) ps).names
    first_progress no_files ps e (record {
      each = λ i d there. absurd (cc there);
      paired = refl;
      counted = omega arith;
      few = omega arith;
      none = λ none i u there. absurd (cc there);
      one = λ i j u v there also opens too. absurd (cc there);
    })
