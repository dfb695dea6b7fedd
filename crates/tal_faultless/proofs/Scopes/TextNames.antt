-- The names of the scopes of a text without faults.
use Rattle.std.proofs.Common.{◌≡◌, ℕ, Bool, true, false, List, [], ◌++◌, Option, Some, None, slice_get, refl, ap, ◌∙◌}
use Rattle.std.specs.Prelude.{is_some}
use Rattle.tal_tokens.specs.declared.token.At.{At}
use Rattle.tal_syntax.specs.Grammar as g
use Rattle.tal_tree.specs.declared.program.Target.{Target}
use Rattle.tal_tree.specs.declared.program.Target.TheVariants as target
use Rattle.tal_tree.specs.declared.program.Item.{Item}
use Rattle.tal_names.specs.declared.meaning.Meaning.{Meaning}
use Rattle.tal_names.specs.declared.meaning.Meaning.TheVariants as m
use Rattle.tal_declarations.specs.declared.table.Files.{Files}
use Rattle.tal_names.specs.declared.scope.Scope.{Scope}
use Rattle.tal_declarations.specs.Files.{simple_global, simple_by}
use Rattle.tal_declarations.specs.Headings.{locals_of}
use Rattle.tal_names.specs.Names.{Declarations, meaning_in}
use Rattle.tal_names.specs.Scopes.{or_else, is_file}
use Rattle.tal_names.specs.Systems.{system_of}
use Rattle.tal_meaning.specs.tal_rules.specs.Texts.{faults, headed_text, files_by, heading_locals_faults}
use Rattle.tal_meaning.specs.Programs.{texts_of, parameters_by}
use Rattle.tal_faultless.proofs.Scopes.Declared.{meaning_there}
use Rattle.tal_faultless.proofs.Files.FileGlobals.{files_are_globals}
use Rattle.tal_faultless.proofs.Files.FileNames.{IsOpened}
use Rattle.tal_faultless.proofs.Scopes.FreeNames.{names_free}
use Rattle.tal_faultless.proofs.Scopes.GlobalNames.{Means}
use Rattle.tal_faultless.proofs.Scopes.LocalNames.{IsLocal, local_names}
use Rattle.tal_faultless.proofs.Scopes.TextGlobals.{are_globals, at_end}
use Rattle.tal_faultless.proofs.Scopes.SourceNames.{SourceNames}
use Rattle.tal_faultless.proofs.Scopes.SourceScopes.{scope_in}
use Rattle.tal_faultless.proofs.Files.FileMeanings.{file_meaning}
use Rattle.tal_faultless.proofs.Common.TextParts.{faultless}

-- what a target's file is declared as is a file
opened_is_file : (to : Target) (item number : ℕ) → is_file (file_meaning to item number) ≡ true
opened_is_file target.Receive item number = refl
opened_is_file (target.Process name) item number = refl

-- a global isn't a file
no_file : (items : List Item) (procedures : List (List ℕ)) (name : List ℕ) (x : Meaning)
    → Means items procedures name x → is_file x ≡ false
no_file items procedures name (m.Literal value) e = refl
no_file items procedures name (m.Simple item) e = refl
no_file items procedures name (m.Array item) e = refl
no_file items procedures name (m.Procedure number gives count) e = refl
no_file items procedures name (m.Local place) e = absurd e
no_file items procedures name (m.ReceiveFile item number) e = absurd e
no_file items procedures name (m.ProcessFile item number) e = absurd e
no_file items procedures name (m.StrayFile item number) e = absurd e

module _ (lines : g.Lines) (ps : g.Procedures) (finish : At) (fine : faults (g.text lines ps finish) ≡ []) (number : ℕ)
    (h : g.Heading) (outer inner : g.Locals)
    (local_fine : heading_locals_faults h outer inner ≡ []) where
  abbrev scope : Scope
  scope = scope_in lines ps number h inner

  abbrev globals : Declarations
  globals = (headed_text lines ps).names

  abbrev files : Files
  files = files_by (headed_text lines ps) ps

  local_is : (name : List ℕ) (x : Meaning) → meaning_in name scope.locals ≡ Some x
      → IsLocal (texts_of (parameters_by h ++ locals_of inner)) name x
  local_is name x e = (local_names h outer inner local_fine).local name x e

  file_is : (name : List ℕ) (x : Meaning) → meaning_in name files.names ≡ Some x → is_file x ≡ true
  file_is name x e =
      let at : (i : ℕ) × (slice_get files.names i ≡ Some (name, x)) = meaning_there name files.names x e in
      let o : IsOpened globals files.uses at.0 (name, x) =
      (at_end lines ps finish fine).opened.each at.0 (name, x) at.1 in
      ap is_file o.is ∙ opened_is_file o.use_of.target o.use_of.item at.0

  free : (name : List ℕ) (x : Meaning) → meaning_in name globals ≡ Some x → system_of name ≡ None
  free = names_free lines ps (faultless lines ps finish fine).lines_fine (faultless lines ps finish fine).headings

  pub source_names : SourceNames scope
  source_names = record {
    file = λ name x e f. by_file name x (meaning_in name scope.locals) (meaning_in name files.names) refl refl e f;
    listed = λ name x e. file_is name x e;
    procedure = λ k gives count name e. by_procedure k gives count name (meaning_in name scope.locals)
        (meaning_in name files.names) refl refl e;
  }
    where
      by_file : (name : List ℕ) (x : Meaning) (l f : Option Meaning) → meaning_in name scope.locals ≡ l
          → meaning_in name files.names ≡ f
          → or_else l (or_else f (meaning_in name globals)) ≡ Some x → is_file x ≡ true
          → (item : ℕ) × (simple_global scope name ≡ Some item)
      by_file name x (Some y) f local opened e is = absurd (cc (is, ap is_file (local_is name x (local ∙ e)).is))
      by_file name x None (Some y) local opened e is =
          let at : (i : ℕ) × (slice_get files.names i ≡ Some (name, y)) = meaning_there name files.names y opened in
          let simple : (item : ℕ) × (meaning_in name globals ≡ Some (m.Simple item)) =
          files_are_globals lines ps at.0 (name, y) at.1 in
          (simple.0, rw (ap is_some local) (ap simple_by simple.1))
      by_file name x None None local opened e is =
          absurd (cc (is, no_file _ _ name x ((are_globals lines ps finish fine).means name x e)))

      by_procedure : (k : ℕ) (gives : Bool) (count : ℕ) (name : List ℕ) (l f : Option Meaning)
          → meaning_in name scope.locals ≡ l → meaning_in name files.names ≡ f
          → or_else l (or_else f (meaning_in name globals)) ≡ Some (m.Procedure k gives count) → system_of name ≡ None
      by_procedure k gives count name (Some y) f local opened e =
          absurd (cc (local_is name (m.Procedure k gives count) (local ∙ e)).is)
      by_procedure k gives count name None (Some y) local opened e =
          absurd (cc (file_is name (m.Procedure k gives count) (opened ∙ e)))
      by_procedure k gives count name None None local opened e = free name (m.Procedure k gives count) e
