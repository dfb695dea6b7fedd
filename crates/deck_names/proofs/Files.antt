-- Each variable of a file is that of one file alone.
use Rattle.std.proofs.Common.{◌≡◌, ℕ, zero, suc, min, Bool, true, false, List, [], ◌∷◌, length, slice_get, is_some}
use Rattle.std.proofs.Common.{Option, Some, None, if◌then◌else◌, refl, sym, ap, ◌∙◌}
use Rattle.std.proofs.lemmas.Bool.{true≢false}
use Rattle.tal_syntax.specs.Grammar as g
use Rattle.tal_names.specs.declared.meaning.Meaning.{Meaning}
use Rattle.tal_declarations.specs.declared.table.Files.{Files}
use Rattle.tal_names.specs.declared.scope.Named.{Named}
use Rattle.tal_names.specs.declared.scope.Scope.{Scope}
use Rattle.tal_names.specs.declared.system.System.{System}
use Rattle.tal_names.specs.declared.system.System.TheVariants as system
use Rattle.tal_declarations.specs.Files.{call_files, depth_of, depth_value, else_files, file_by, opened, opened_as}
use Rattle.tal_declarations.specs.Files.{opened_named, row_files, simple_global, statement_files, with_file}
use Rattle.tal_names.specs.Systems.{system_of}
use Rattle.tal_names.specs.Names.{Declarations, is_declared, meaning_in, same}
use Rattle.tal_names.specs.Places.{arguments_of, name_of_argument}
use Rattle.tal_rules.specs.Texts.{files_by, files_from, headed_text, next_procedure, no_files, procedure_files}
use Rattle.tal_rules.specs.Texts.{scope_of}
use Rattle.tal_faultless.proofs.Common.Names.{same_self}
use Rattle.deck_names.proofs.Places.{AreOnce, once-more, once-none}

abbrev pub name_in : List ℕ × Meaning → List ℕ
name_in declaration = declaration.0

abbrev pub AreSingle : Files → Type 0
AreSingle f = AreOnce name_in f.names

-- a name that isn't declared stands nowhere
not-there : (name : List ℕ) (all : Declarations) (k : ℕ) (d : List ℕ × Meaning) → is_declared name all ≡ false
    → slice_get all k ≡ Some d → name_in d ≡ name → ⊥
not-there name [] k d none there is = absurd (cc there)
not-there name (x ∷ all) zero d none there is =
    let one : x ≡ d = cc there in
    let equal : same name (name_in x) ≡ true = ap (same name) (ap name_in one ∙ is) ∙ same_self name in
    true≢false (sym (ap (λ (b : Bool). is_some (if b then Some x.1 else meaning_in name all)) equal) ∙ none)
not-there name (x ∷ all) (suc k) d none there is =
    by (λ e. not-there name all k d e there is) (same name (name_in x)) none
  where
    by : (is_declared name all ≡ false → ⊥) → (b : Bool)
        → is_some (if b then Some x.1 else meaning_in name all) ≡ false → ⊥
    by rest true e = true≢false e
    by rest false e = rest e

module _ (s : Scope) where
  file-single : (f : Files) (name : List ℕ) (item depth : ℕ) (string : g.Argument) → AreSingle f
      → AreSingle (with_file f name item string depth)
  file-single f name item depth string single = by (is_declared name f.names) refl
    where
      by : (b : Bool) → is_declared name f.names ≡ b → AreSingle (with_file f name item string depth)
      by true e = rw e single
      by false e = rw e (once-more name_in f.names (name, file_by string item (min 8 (length f.uses)))
          (λ k d there is. not-there name f.names k d e there is) single)

  as-single : (f : Files) (string depth : g.Argument) (name : List ℕ) (o : Option ℕ) → AreSingle f
      → AreSingle (opened_as s f string depth name o)
  as-single f string depth name None single = single
  as-single f string depth name (Some item) single =
      file-single f name item (depth_of (depth_value s depth)) string single

  named-single : (f : Files) (string depth : g.Argument) (o : Option Named) → AreSingle f
      → AreSingle (opened_named s f string depth o)
  named-single f string depth None single = single
  named-single f string depth (Some n) single = as-single f string depth n.name (simple_global s n.name) single

  opened-single : (f : Files) (arguments : List g.Argument) → AreSingle f → AreSingle (opened s f arguments)
  opened-single f (string ∷ variable ∷ depth ∷ []) single =
      named-single f string depth (name_of_argument variable) single
  opened-single f _ single = single

  call-single : (f : Files) (arguments : List g.Argument) (o : Option System) → AreSingle f
      → AreSingle (call_files s f arguments o)
  call-single f arguments (Some system.Open) single = opened-single f arguments single
  call-single f arguments _ single = single

  mutual
    statement-single : (f : Files) (t : g.Statement) → AreSingle f → AreSingle (statement_files s f t)
    statement-single f g.nothing single = single
    statement-single f (g.block begin first more end) single =
        row-single (statement_files s f first) more (statement-single f first single)
    statement-single f (g.if_then head test then_at t o) single =
        else-single (statement_files s f t) o (statement-single f t single)
    statement-single f (g.while_do head test do_at t) single = statement-single f t single
    statement-single f (g.for_do head at name set_at from direction to step do_at t) single =
        statement-single f t single
    statement-single f (g.do_until head t at test) single = statement-single f t single
    statement-single f (g.call head at name list) single = call-single f (arguments_of list) (system_of name) single
    statement-single f (g.return head e) single = single
    statement-single f (g.assign target at e) single = single
    statement-single f (g.assign_call target at name_at name start first more close) single = single

    else-single : (f : Files) (o : g.Otherwise) → AreSingle f → AreSingle (else_files s f o)
    else-single f g.no_else single = single
    else-single f (g.otherwise at t) single = statement-single f t single

    row-single : (f : Files) (more : g.Row) → AreSingle f → AreSingle (row_files s f more)
    row-single f g.no_row single = single
    row-single f (g.more_row semicolon t rest) single =
        row-single (statement_files s f t) rest (statement-single f t single)

procedure-single : (globals : Declarations) (number : ℕ) (f : Files) (p : g.Procedure) → AreSingle f
    → AreSingle (procedure_files globals number f p)
procedure-single globals number f (g.procedure h outer begin inner first more end last) single =
    row-single (scope_of globals [] number h inner) (statement_files (scope_of globals [] number h inner) f first) more
    (statement-single (scope_of globals [] number h inner) f first single)

files-single : (globals : Declarations) (number : ℕ) (f : Files) (ps : g.Procedures) → AreSingle f
    → AreSingle (files_from globals number f ps)
files-single globals number f g.no_procedures single = single
files-single globals number f (g.more_procedures p rest) single =
    files-single globals (next_procedure number) (procedure_files globals number f p) rest
    (procedure-single globals number f p single)

pub text-single : (lines : g.Lines) (ps : g.Procedures) → AreSingle (files_by (headed_text lines ps) ps)
text-single lines ps = files-single (headed_text lines ps).names 0 no_files ps (once-none name_in)
