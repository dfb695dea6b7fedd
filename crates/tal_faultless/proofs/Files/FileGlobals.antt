-- The variables of files are simple globals.
use Rattle.std.proofs.Common.{◌≡◌, ℕ, min, Bool, true, false, List, [], ◌∷◌, length, slice_get, Option, Some, None}
use Rattle.std.proofs.Common.{if◌then◌else◌, ◌⊎◌, inl, inr, refl, subst}
use Rattle.tal_syntax.specs.Grammar as g
use Rattle.tal_names.specs.declared.meaning.Meaning.{Meaning}
use Rattle.tal_names.specs.declared.meaning.Meaning.TheVariants as m
use Rattle.tal_declarations.specs.declared.table.Files.{Files}
use Rattle.tal_names.specs.declared.scope.Named.{Named}
use Rattle.tal_names.specs.declared.scope.Scope.{Scope}
use Rattle.tal_names.specs.declared.system.System.{System}
use Rattle.tal_names.specs.declared.system.System.TheVariants as system
use Rattle.tal_declarations.specs.Files.{file_by, with_file, simple_by, simple_global, depth_of, depth_value, opened_as}
use Rattle.tal_declarations.specs.Files.{opened_named, opened, call_files, statement_files, else_files, row_files}
use Rattle.tal_names.specs.Systems.{system_of}
use Rattle.tal_names.specs.Names.{Declarations, meaning_in, is_declared}
use Rattle.tal_names.specs.Places.{name_of_argument, arguments_of}
use Rattle.tal_meaning.specs.tal_rules.specs.Texts.{scope_of, next_procedure, procedure_files, files_from, files_by}
use Rattle.tal_meaning.specs.tal_rules.specs.Texts.{headed_text}
use Rattle.tal_meaning.specs.tal_rules.specs.Texts.{no_files}
use Rattle.tal_faultless.proofs.Common.Entries.{get_either}

-- the item of a simple global
pub simple_is : (o : Option Meaning) (item : ℕ) → simple_by o ≡ Some item → o ≡ Some (m.Simple item)
simple_is None item e = absurd (cc e)
simple_is (Some (m.Simple other)) item e = cc e
simple_is (Some (m.Local place)) item e = absurd (cc e)
simple_is (Some (m.Array other)) item e = absurd (cc e)
simple_is (Some (m.ReceiveFile other number)) item e = absurd (cc e)
simple_is (Some (m.ProcessFile other number)) item e = absurd (cc e)
simple_is (Some (m.StrayFile other number)) item e = absurd (cc e)
simple_is (Some (m.Literal value)) item e = absurd (cc e)
simple_is (Some (m.Procedure number gives count)) item e = absurd (cc e)

pub global_is : (s : Scope) (name : List ℕ) (item : ℕ) → simple_global s name ≡ Some item
    → meaning_in name s.globals ≡ Some (m.Simple item)
global_is s name item e = by (is_declared name s.locals) e
  where
    by : (b : Bool) → (if b then None else simple_by (meaning_in name s.globals)) ≡ Some item
        → meaning_in name s.globals ≡ Some (m.Simple item)
    by true d = absurd (cc d)
    by false d = simple_is (meaning_in name s.globals) item d

-- each of these files is named by a simple global
abbrev pub AreSimple : Declarations → Files → Type 0
AreSimple globals f = (i : ℕ) (d : List ℕ × Meaning) → slice_get f.names i ≡ Some d
    → (item : ℕ) × (meaning_in d.0 globals ≡ Some (m.Simple item))

module _ (s : Scope) where
  file_simple : (f : Files) (name : List ℕ) (item depth : ℕ) (string : g.Argument)
      → meaning_in name s.globals ≡ Some (m.Simple item) → AreSimple s.globals f
      → AreSimple s.globals (with_file f name item string depth)
  file_simple f name item depth string global a = by (is_declared name f.names) refl
    where
      last : (d : List ℕ × Meaning) (x : Meaning) → (name, x) ≡ d
          → (found : ℕ) × (meaning_in d.0 s.globals ≡ Some (m.Simple found))
      last d x e = subst (λ (c : List ℕ × Meaning). (found : ℕ) × (meaning_in c.0 s.globals ≡ Some (m.Simple found))) e
          (item, global)

      each : (x : Meaning) (i : ℕ) (d : List ℕ × Meaning)
          → (slice_get f.names i ≡ Some d) ⊎ ((i ≡ length f.names) × ((name, x) ≡ d))
          → (found : ℕ) × (meaning_in d.0 s.globals ≡ Some (m.Simple found))
      each x i d (inl e) = a i d e
      each x i d (inr e) = last d x e.1

      by : (b : Bool) → is_declared name f.names ≡ b → AreSimple s.globals (with_file f name item string depth)
      by true e = rw e a
      by false e = rw e (λ i d there. each (file_by string item (min 8 (length f.uses))) i d
          (get_either f.names (name, file_by string item (min 8 (length f.uses))) d i there))

  as_simple : (f : Files) (string depth : g.Argument) (name : List ℕ) (o : Option ℕ) → simple_global s name ≡ o
      → AreSimple s.globals f
      → AreSimple s.globals (opened_as s f string depth name o)
  as_simple f string depth name None e a = a
  as_simple f string depth name (Some item) e a =
      file_simple f name item (depth_of (depth_value s depth)) string (global_is s name item e) a

  named_simple : (f : Files) (string depth : g.Argument) (o : Option Named) → AreSimple s.globals f
      → AreSimple s.globals (opened_named s f string depth o)
  named_simple f string depth None a = a
  named_simple f string depth (Some n) a = as_simple f string depth n.name (simple_global s n.name) refl a

  opened_simple : (f : Files) (arguments : List g.Argument) → AreSimple s.globals f
      → AreSimple s.globals (opened s f arguments)
  opened_simple f (string ∷ variable ∷ depth ∷ []) a = named_simple f string depth (name_of_argument variable) a
  opened_simple f _ a = a

  call_simple : (f : Files) (arguments : List g.Argument) (o : Option System) → AreSimple s.globals f
      → AreSimple s.globals (call_files s f arguments o)
  call_simple f arguments (Some system.Open) a = opened_simple f arguments a
  call_simple f arguments _ a = a

  mutual
    statement_simple : (f : Files) (t : g.Statement) → AreSimple s.globals f
        → AreSimple s.globals (statement_files s f t)
    statement_simple f g.nothing a = a
    statement_simple f (g.block begin first more end) a =
        row_simple (statement_files s f first) more (statement_simple f first a)
    statement_simple f (g.if_then head test then_at t o) a =
        else_simple (statement_files s f t) o (statement_simple f t a)
    statement_simple f (g.while_do head test do_at t) a = statement_simple f t a
    statement_simple f (g.for_do head at name set_at from direction to step do_at t) a = statement_simple f t a
    statement_simple f (g.do_until head t at test) a = statement_simple f t a
    statement_simple f (g.call head at name list) a = call_simple f (arguments_of list) (system_of name) a
    statement_simple f (g.return head e) a = a
    statement_simple f (g.assign target at e) a = a
    statement_simple f (g.assign_call target at name_at name start first more close) a = a

    else_simple : (f : Files) (o : g.Otherwise) → AreSimple s.globals f → AreSimple s.globals (else_files s f o)
    else_simple f g.no_else a = a
    else_simple f (g.otherwise at t) a = statement_simple f t a

    row_simple : (f : Files) (more : g.Row) → AreSimple s.globals f → AreSimple s.globals (row_files s f more)
    row_simple f g.no_row a = a
    row_simple f (g.more_row semicolon t rest) a = row_simple (statement_files s f t) rest (statement_simple f t a)

procedure_simple : (globals : Declarations) (number : ℕ) (f : Files) (p : g.Procedure) → AreSimple globals f
    → AreSimple globals (procedure_files globals number f p)
procedure_simple globals number f (g.procedure h outer begin inner first more end last) a =
    row_simple (scope_of globals [] number h inner) (statement_files (scope_of globals [] number h inner) f first) more
    (statement_simple (scope_of globals [] number h inner) f first a)

files_simple : (globals : Declarations) (number : ℕ) (f : Files) (ps : g.Procedures) → AreSimple globals f
    → AreSimple globals (files_from globals number f ps)
files_simple globals number f g.no_procedures a = a
files_simple globals number f (g.more_procedures p rest) a =
    files_simple globals (next_procedure number) (procedure_files globals number f p) rest
    (procedure_simple globals number f p a)

-- the variables of a text's files are simple globals
pub files_are_globals : (lines : g.Lines) (ps : g.Procedures)
    → AreSimple (headed_text lines ps).names (files_by (headed_text lines ps) ps)
files_are_globals lines ps = files_simple (headed_text lines ps).names 0 no_files ps (λ i d e. absurd (cc e))
