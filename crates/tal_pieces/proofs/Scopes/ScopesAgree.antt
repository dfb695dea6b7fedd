-- The names of a faultless text's scopes are the program's.
use Rattle.std.proofs.Common.{◌≡◌, ℕ, ◌<◌, zero, suc, cond, nat_lt, Bool, true, false, List, [], ◌∷◌, ◌++◌, length}
use Rattle.std.proofs.Common.{slice_get, position, Option, Some, None, option_map, option_and_then, ◌⊎◌, inl, inr, refl}
use Rattle.std.proofs.Common.{sym, ap, ◌∙◌, subst, arith}
use Rattle.std.proofs.lemmas.Option.{slice_get_within}
use Rattle.std.proofs.lemmas.Bool.Decides.{nat_tests}
use Rattle.std.specs.List.{position_or_len}
use Rattle.tal_tokens.specs.declared.token.At.{At}
use Rattle.tal_tree.specs.declared.program.FileUse.{FileUse}
use Rattle.tal_tree.specs.declared.program.Item.{Item}
use Rattle.tal_tree.specs.declared.program.Program.{Program}
use Rattle.tal_tree.specs.declared.program.Shape.{Shape}
use Rattle.tal_tree.specs.declared.program.Shape.TheVariants as shape
use Rattle.tal_tree.specs.declared.program.Target.{Target}
use Rattle.tal_tree.specs.declared.program.Target.TheVariants as target
use Rattle.tal_syntax.specs.Grammar as g
use Rattle.tal_names.specs.declared.meaning.Meaning.{Meaning}
use Rattle.tal_names.specs.declared.meaning.Meaning.TheVariants as m
use Rattle.tal_declarations.specs.declared.table.Files.{Files}
use Rattle.tal_rules.specs.declared.walk.Progress.{Progress}
use Rattle.tal_names.specs.declared.scope.Scope.{Scope}
use Rattle.tal_rules.specs.Calls.{file_number}
use Rattle.tal_declarations.specs.Globals.{with_lines, nothing_declared}
use Rattle.tal_declarations.specs.Headings.{locals_of, heading_of}
use Rattle.tal_names.specs.Names.{Declarations, meaning_in}
use Rattle.tal_names.specs.Scopes.{or_else, meaning_of}
use Rattle.tal_rules.specs.Texts.{faults, headed_text, files_by, locals_by, after_procedure, first_progress}
use Rattle.tal_rules.specs.Texts.{heading_locals_faults}
use Rattle.tal_meaning.specs.Programs.{items_with, texts_of, name_by, parameters_by, trees_of, tree_of_procedure}
use Rattle.tal_meaning.specs.Programs.{tree_of}
use Rattle.tal_pieces.specs.Printed.Names.{item_name, procedure_name, file_name, receive_name}
use Rattle.tal_tree.specs.Targets.{is_receive, receives}
use Rattle.tal_pieces.proofs.Scopes.Agreement.{Agreement, is_literal, without_literals}
use Rattle.tal_pieces.proofs.Scopes.DeclaredNames.{lasting_in}
use Rattle.tal_faultless.proofs.Scopes.Declared.{meaning_there}
use Rattle.tal_faultless.proofs.Files.FileGlobals.{files_are_globals}
use Rattle.tal_faultless.proofs.Files.FileNames.{IsOpened}
use Rattle.tal_faultless.proofs.Scopes.GlobalNames.{Means, heading_names}
use Rattle.tal_faultless.proofs.Scopes.LocalNames.{IsLocal, local_names}
use Rattle.tal_faultless.proofs.Scopes.SourceScopes.{scope_in}
use Rattle.tal_pieces.proofs.Scopes.SourceScopes.{ScopesAgree, FileItemsAreSimple}
use Rattle.tal_faultless.proofs.Files.FileMeanings.{file_meaning}
use Rattle.tal_faultless.proofs.Scopes.TextGlobals.{are_globals, at_end}

-- what a name stands for is the program's
abbrev IsRight : Program → List (List ℕ) → List ℕ → Meaning → Type 0
IsRight p locals name (m.Local place) = slice_get locals place ≡ Some name
IsRight p locals name (m.Simple item) = item_name p item ≡ Some name
IsRight p locals name (m.Array item) = item_name p item ≡ Some name
IsRight p locals name (m.Procedure number gives count) = procedure_name p number ≡ Some name
IsRight p locals name (m.ReceiveFile item number) = receive_name p ≡ Some name
IsRight p locals name (m.ProcessFile item number) = file_name p number ≡ Some name
IsRight p locals name (m.StrayFile item number) = ⊥
IsRight p locals name (m.Literal value) = Unit {0}

-- the only element that passes is the first one
only_prefix : {A : Type 0} (test : A → Bool) (xs : List A) (i : ℕ) (x : A) → slice_get xs i ≡ Some x → test x ≡ true
    → ((j : ℕ) (y : A) → slice_get xs j ≡ Some y → test y ≡ true → j ≡ i) → position_or_len test xs ≡ i
only_prefix test [] i x e passes only = absurd (cc e)
only_prefix test (y ∷ xs) zero x e passes only = first_passes (subst (λ z. test z ≡ true) (sym is) passes)
  where
    is : y ≡ x
    is = cc e

    first_passes : test y ≡ true → position_or_len test (y ∷ xs) ≡ 0
    first_passes d = rw d refl
only_prefix test (y ∷ xs) (suc i) x e passes only =
    by (only_prefix test xs i x e passes (λ j z there so. omega (arith, only (suc j) z there so))) (test y) refl
  where
    by : position_or_len test xs ≡ i → (b : Bool) → test y ≡ b → position_or_len test (y ∷ xs) ≡ suc i
    by rest true d = absurd (omega (arith, only 0 y refl d))
    by rest false d = rw d (omega (arith, rest))

lt_true : (i n : ℕ) → i < n → nat_lt i n ≡ true
lt_true i n e = grind (arith, nat_tests)

only_position : {A : Type 0} (test : A → Bool) (xs : List A) (i : ℕ) (x : A) → slice_get xs i ≡ Some x → test x ≡ true
    → ((j : ℕ) (y : A) → slice_get xs j ≡ Some y → test y ≡ true → j ≡ i) → position test xs ≡ Some i
only_position test xs i x e passes only = rw (only_prefix test xs i x e passes only) (by (nat_lt i (length xs)) within)
  where
    within : nat_lt i (length xs) ≡ true
    within = lt_true i (length xs) (slice_get_within xs i x e)

    by : (b : Bool) → b ≡ true → cond b (Some i) None ≡ Some i
    by true d = refl
    by false d = absurd (cc d)

-- the items keep their names, and the procedures stand in order
item_kept : (files : Declarations) (items : List Item) (k : ℕ)
    → option_map (λ i. i.name) (slice_get (items_with files items) k) ≡ option_map (λ i. i.name) (slice_get items k)
item_kept files [] k = refl
item_kept files (i ∷ items) zero = refl
item_kept files (i ∷ items) (suc k) = item_kept files items k

tree_name : (globals files : Declarations) (p : Progress) (q : g.Procedure)
    → (tree_of_procedure globals files p q).name ≡ name_by (heading_of q)
tree_name globals files p (g.procedure h outer begin inner first more end last) = refl

procedure_kept : (globals files : Declarations) (p : Progress) (ps : g.Procedures) (k : ℕ)
    → option_map (λ q. q.name) (slice_get (trees_of globals files p ps) k) ≡ slice_get (heading_names ps) k
procedure_kept globals files p g.no_procedures k = refl
procedure_kept globals files p (g.more_procedures q rest) zero = ap Some (tree_name globals files p q)
procedure_kept globals files p (g.more_procedures q rest) (suc k) =
    procedure_kept globals files (after_procedure globals files p q) rest k

module _ (lines : g.Lines) (ps : g.Procedures) (finish : At) (faultless : faults (g.text lines ps finish) ≡ []) where
  abbrev globals : Declarations
  globals = (headed_text lines ps).names

  abbrev files : Files
  files = files_by (headed_text lines ps) ps

  abbrev program : Program
  program = tree_of (g.text lines ps finish)

  -- items
  named_by : (item : ℕ) (name : List ℕ) (form : Shape)
      → slice_get (with_lines nothing_declared lines).items item ≡ Some (record { name = name; shape = form })
      → item_name program item ≡ Some name
  named_by item name form e =
      item_kept files.names (with_lines nothing_declared lines).items item ∙ ap (option_map (λ (i : Item). i.name)) e

  global_right : (locals : List (List ℕ)) (name : List ℕ) (x : Meaning)
      → Means (with_lines nothing_declared lines).items (heading_names ps) name x → IsRight program locals name x
  global_right locals name (m.Literal value) e = tt
  global_right locals name (m.Simple item) e = named_by item name shape.Simple e
  global_right locals name (m.Array item) e = named_by item name (shape.Array e.0 e.1) e.2
  global_right locals name (m.Procedure number gives count) e =
      procedure_kept globals files.names first_progress ps number ∙ e
  global_right locals name (m.Local place) e = absurd e
  global_right locals name (m.ReceiveFile item number) e = absurd e
  global_right locals name (m.ProcessFile item number) e = absurd e
  global_right locals name (m.StrayFile item number) e = absurd e

  -- files
  opened_name : (name : List ℕ) (x : Meaning) (i : ℕ) (o : IsOpened globals files.uses i (name, x))
      → file_name program i ≡ Some name
  opened_name name x i o =
      ap (option_and_then (λ (u : FileUse). item_name program u.item)) o.there
      ∙ named_by o.use_of.item name shape.Simple
      ((are_globals lines ps finish faultless).means name (m.Simple o.use_of.item) o.global)

  target_right : (locals : List (List ℕ)) (name : List ℕ) (to : Target) (item i : ℕ) (u : FileUse)
      → slice_get files.uses i ≡ Some u → u.target ≡ to → file_name program i ≡ Some name
      → IsRight program locals name (file_meaning to item i)
  target_right locals name (target.Process process) item i u there is e = e
  target_right locals name target.Receive item i u there is e =
      ap (option_and_then (file_name program))
      (only_position receives files.uses i u there opens
      (λ j v also so. (at_end lines ps finish faultless).opened.one j i v u also there so opens)) ∙ e
    where
      opens : receives u ≡ true
      opens = ap is_receive is

  file_right : (locals : List (List ℕ)) (name : List ℕ) (x : Meaning) → meaning_in name files.names ≡ Some x
      → IsRight program locals name x
  file_right locals name x e =
      let at : (i : ℕ) × (slice_get files.names i ≡ Some (name, x)) = meaning_there name files.names x e in
      let o : IsOpened globals files.uses at.0 (name, x) =
      (at_end lines ps finish faultless).opened.each at.0 (name, x) at.1 in
      subst (λ y. IsRight program locals name y) (sym o.is)
      (target_right locals name o.use_of.target o.use_of.item at.0 o.use_of o.there refl (opened_name name x at.0 o))

  module _ (number : ℕ) (h : g.Heading) (outer inner : g.Locals) (fine : heading_locals_faults h outer inner ≡ []) where
    abbrev locals : List (List ℕ)
    locals = texts_of (parameters_by h ++ locals_of inner)

    abbrev scope : Scope
    scope = scope_in lines ps number h inner

    local_right : (name : List ℕ) (x : Meaning) → meaning_in name (locals_by h inner) ≡ Some x
        → IsRight program locals name x
    local_right name x e =
        let l : IsLocal locals name x = (local_names h outer inner fine).local name x e in
        subst (λ y. IsRight program locals name y) (sym l.is) l.there

    right : (name : List ℕ) (x : Meaning) → meaning_of scope name ≡ Some x → IsRight program locals name x
    right name x e = by (meaning_in name (locals_by h inner)) (meaning_in name files.names) refl refl e
      where
        by : (l f : Option Meaning) → meaning_in name (locals_by h inner) ≡ l → meaning_in name files.names ≡ f
            → or_else l (or_else f (meaning_in name globals)) ≡ Some x
            → IsRight program locals name x
        by (Some y) f is_local is_file d = local_right name x (is_local ∙ d)
        by None (Some y) is_local is_file d = file_right locals name x (is_file ∙ d)
        by None None is_local is_file d =
            global_right locals name x ((are_globals lines ps finish faultless).means name x d)

    agreement : Agreement program locals scope
    agreement = record {
      lasting = λ name x plain e. lasts name x plain (meaning_in name (locals_by h inner))
          (meaning_in name files.names) e;
      local = λ place name e. right name (m.Local place) e;
      simple = λ item name e. right name (m.Simple item) e;
      array = λ item name e. right name (m.Array item) e;
      procedure = λ number gives count name e. right name (m.Procedure number gives count) e;
      receive = λ item number name e. right name (m.ReceiveFile item number) e;
      process = λ item number name e. right name (m.ProcessFile item number) e;
      stray = λ item number name e. right name (m.StrayFile item number) e;
      global = λ item name e. global_right locals name (m.Simple item)
          ((are_globals lines ps finish faultless).means name (m.Simple item) e);
      global_lasts = λ item name e. lasting_in name globals (m.Simple item) refl e;
    }
      where
        lasts : (name : List ℕ) (x : Meaning) → is_literal x ≡ false → (l f : Option Meaning)
            → or_else l (or_else f (meaning_in name globals)) ≡ Some x
            → or_else l (or_else f (meaning_in name (without_literals globals))) ≡ Some x
        lasts name x plain (Some y) f e = e
        lasts name x plain None (Some y) e = e
        lasts name x plain None None e = lasting_in name globals x plain e

pub scopes_agree : ScopesAgree
scopes_agree lines ps finish faultless number h outer inner fine =
    agreement lines ps finish faultless number h outer inner fine

pub file_items_are_simple : FileItemsAreSimple
file_items_are_simple lines ps finish faultless k number i e d =
    by (meaning_in i.name files_names) refl d ((are_globals lines ps finish faultless).listed k i e)
  where
    files_names : Declarations
    files_names = (files_by (headed_text lines ps) ps).names

    globals_names : Declarations
    globals_names = (headed_text lines ps).names

    not_both : (y : Meaning) (item : ℕ) → meaning_in i.name files_names ≡ Some y
        → meaning_in i.name globals_names ≡ Some (m.Array item) → ⊥
    not_both y item is_file is_array =
        let at : (n : ℕ) × (slice_get files_names n ≡ Some (i.name, y)) = meaning_there i.name files_names y is_file in
        let simple : (other : ℕ) × (meaning_in i.name globals_names ≡ Some (m.Simple other)) =
        files_are_globals lines ps at.0 (i.name, y) at.1 in
        cc (simple.1, is_array)

    by : (o : Option Meaning) → meaning_in i.name files_names ≡ o → file_number o ≡ Some number
        → (i.shape ≡ shape.Simple) ⊎ ((item : ℕ) × (meaning_in i.name globals_names ≡ Some (m.Array item)))
        → i.shape ≡ shape.Simple
    by None is_file f a = absurd (cc f)
    by (Some y) is_file f (inl simple) = simple
    by (Some y) is_file f (inr a) = absurd (not_both y a.0 is_file a.1)
