-- What the names of a text without faults stand for are parts of its program, of their kinds.
use Rattle.std.proofs.Common.{◌≡◌, ℕ, ℤ, zero, suc, ◌<◌, ◌≤◌, arith, Bool, true, false, List, [], ◌∷◌, ◌++◌, length}
use Rattle.std.proofs.Common.{slice_get, Option, Some, None, refl, ap, sym, ◌∙◌, subst}
use Rattle.std.proofs.lemmas.Option.{slice_get_within}
use Rattle.tal_tokens.specs.declared.token.At.{At}
use Rattle.tal_syntax.specs.Grammar as g
use Rattle.tal_tree.specs.declared.program.Item.{Item}
use Rattle.tal_tree.specs.declared.program.Program.{Program}
use Rattle.tal_tree.specs.declared.program.Shape.{Shape}
use Rattle.tal_tree.specs.declared.program.Shape.TheVariants as shape
use Rattle.tal_tree.specs.declared.program.Target.{Target}
use Rattle.tal_tree.specs.declared.program.Target.TheVariants as target
use Rattle.tal_names.specs.declared.meaning.Meaning.{Meaning}
use Rattle.tal_names.specs.declared.meaning.Meaning.TheVariants as m
use Rattle.tal_declarations.specs.declared.table.Files.{Files}
use Rattle.tal_names.specs.declared.scope.Scope.{Scope}
use Rattle.tal_faultless.specs.tal_rules.specs.Calls.{file_number}
use Rattle.tal_declarations.specs.Globals.{with_lines, nothing_declared}
use Rattle.tal_declarations.specs.Headings.{locals_of}
use Rattle.tal_names.specs.Names.{Declarations, meaning_in}
use Rattle.tal_names.specs.Scopes.{or_else, meaning_of, is_file}
use Rattle.tal_faultless.specs.tal_rules.specs.Texts.{faults, headed_text, files_by, heading_locals_faults}
use Rattle.tal_faultless.specs.tal_rules.specs.Texts.{first_progress}
use Rattle.tal_faultless.specs.tal_meaning.specs.Programs.{shape_by, items_with, texts_of, parameters_by, trees_of}
use Rattle.tal_faultless.specs.tal_meaning.specs.Programs.{tree_of}
use Rattle.tal_faultless.proofs.Scopes.Declared.{meaning_there}
use Rattle.tal_faultless.proofs.Files.FileNames.{IsOpened}
use Rattle.tal_faultless.proofs.Scopes.GlobalNames.{Means}
use Rattle.tal_faultless.proofs.Scopes.LocalNames.{IsLocal, local_names}
use Rattle.tal_faultless.proofs.Scopes.TextGlobals.{are_globals, at_end}
use Rattle.tal_faultless.proofs.Scopes.SourceScopes.{scope_in}
use Rattle.tal_faultless.proofs.Scopes.TextNames.{source_names}
use Rattle.tal_faultless.proofs.Files.FileMeanings.{file_meaning}
use Rattle.tal_laws.proofs.Known.{HasRoom, procedures_known}
use Rattle.tal_faultless.proofs.Common.TextParts.{AreFaultless, faultless}
use Rattle.tal_laws.proofs.WithinLimits.{procedures_within}
use Rattle.tal_tree.specs.Named.{IsProcess}
use Rattle.gd_words.proofs.Among.{among-at}
use Rattle.tal_tree.specs.declared.program.Procedure.{Procedure}

-- what the names of a scope stand for is there, and is of its kind
pub record AreThere (program : Program) (locals : ℕ) (s : Scope) : Type 0 where
  pub local : (name : List ℕ) (place : ℕ) → meaning_of s name ≡ Some (m.Local place) → place < locals
  pub simple : (name : List ℕ) (item : ℕ) → meaning_of s name ≡ Some (m.Simple item)
      → slice_get program.items item ≡ Some (record { name = name; shape = shape.Simple })
  pub array : (name : List ℕ) (item : ℕ) → meaning_of s name ≡ Some (m.Array item)
      → (low high : ℤ) × (slice_get program.items item ≡ Some (record { name = name; shape = shape.Array low high }))
  pub file : (name : List ℕ) (x : Meaning) (number : ℕ) → meaning_of s name ≡ Some x
      → file_number (Some x) ≡ Some number → number < length program.files
  pub process : (name : List ℕ) (item number : ℕ) → meaning_of s name ≡ Some (m.ProcessFile item number)
      → IsProcess program number
  pub single : (name other : List ℕ) (item again number : ℕ) → meaning_of s name ≡ Some (m.ProcessFile item number)
      → meaning_of s other ≡ Some (m.ProcessFile again number)
      → name ≡ other
  pub procedure : (name : List ℕ) (k : ℕ) (gives : Bool) (count : ℕ)
      → meaning_of s name ≡ Some (m.Procedure k gives count) → HasRoom program.procedures k count gives

-- an item that no OPEN names stays as it is
item_at : (files : Declarations) (items : List Item) (k : ℕ) (name : List ℕ) (form : Shape)
    → slice_get items k ≡ Some (record { name = name; shape = form })
    → meaning_in name files ≡ None → slice_get (items_with files items) k ≡ Some (record { name = name; shape = form })
item_at files [] k name form there none = absurd (cc there)
item_at files (i ∷ rest) zero name form there none =
    let is : i ≡ record { name = name; shape = form } = cc there in
    ap (λ (x : Item). Some (filed x)) is ∙ ap (λ (o : Option Meaning). Some (named o)) none
  where
    filed : Item → Item
    filed x = record { name = x.name; shape = shape_by x.shape (file_number (meaning_in x.name files)) }

    named : Option Meaning → Item
    named o = record { name = name; shape = shape_by form (file_number o) }
item_at files (i ∷ rest) (suc k) name form there none = item_at files rest k name form there none

-- the number of a file's variable
numbered : (to : Target) (item number : ℕ) → file_number (Some (file_meaning to item number)) ≡ Some number
numbered target.Receive item number = refl
numbered (target.Process name) item number = refl

-- one that is a process's is opened to one
abbrev process_of : Target → ℕ → ℕ → ℕ → ℕ → Type 0
process_of to item number place variable = (process : List ℕ) × (to ≡ target.Process process) × (number ≡ place)

opened_process : (to : Target) (item number place variable : ℕ)
    → m.ProcessFile variable number ≡ file_meaning to item place → process_of to item number place variable
opened_process target.Receive item number place variable is = absurd (cc is)
opened_process (target.Process name) item number place variable is = (name, refl, cc is)

-- a global has no file's number
no_number : (items : List Item) (procedures : List (List ℕ)) (name : List ℕ) (x : Meaning)
    → Means items procedures name x → file_number (Some x) ≡ None
no_number items procedures name (m.Literal value) e = refl
no_number items procedures name (m.Simple item) e = refl
no_number items procedures name (m.Array item) e = refl
no_number items procedures name (m.Procedure number gives count) e = refl
no_number items procedures name (m.Local place) e = absurd e
no_number items procedures name (m.ReceiveFile item number) e = absurd e
no_number items procedures name (m.ProcessFile item number) e = absurd e
no_number items procedures name (m.StrayFile item number) e = absurd e

-- the name of a declaration that is there
abbrev listed_name : Option (List ℕ × Meaning) → List ℕ
listed_name None = []
listed_name (Some d) = d.0

module _ (lines : g.Lines) (ps : g.Procedures) (finish : At) (fine : faults (g.text lines ps finish) ≡ []) (number : ℕ)
    (h : g.Heading) (outer inner : g.Locals)
    (local_fine : heading_locals_faults h outer inner ≡ []) where
  abbrev scope : Scope
  scope = scope_in lines ps number h inner

  abbrev globals : Declarations
  globals = (headed_text lines ps).names

  abbrev files : Files
  files = files_by (headed_text lines ps) ps

  abbrev items : List Item
  items = (with_lines nothing_declared lines).items

  abbrev texts : List (List ℕ)
  texts = texts_of (parameters_by h ++ locals_of inner)

  local_is : (name : List ℕ) (x : Meaning) → meaning_in name scope.locals ≡ Some x → IsLocal texts name x
  local_is name x e = (local_names h outer inner local_fine).local name x e

  file_is : (name : List ℕ) (x : Meaning) → meaning_in name files.names ≡ Some x → is_file x ≡ true
  file_is name x e = (source_names lines ps finish fine number h outer inner local_fine).listed name x e

  -- a name that is no local and no file is a global
  global_by : (name : List ℕ) (x : Meaning) → ((place : ℕ) → x ≡ m.Local place → ⊥) → is_file x ≡ false
      → meaning_of scope name ≡ Some x
      → (meaning_in name files.names ≡ None) × (meaning_in name globals ≡ Some x)
  global_by name x no_local no_file e = by (meaning_in name scope.locals) (meaning_in name files.names) refl refl e
    where
      by : (l f : Option Meaning) → meaning_in name scope.locals ≡ l → meaning_in name files.names ≡ f
          → or_else l (or_else f (meaning_in name globals)) ≡ Some x
          → (meaning_in name files.names ≡ None) × (meaning_in name globals ≡ Some x)
      by (Some y) f local opened d = let own = local_is name x (local ∙ d) in absurd (no_local own.place own.is)
      by None (Some y) local opened d =
          let is : is_file x ≡ true = file_is name x (opened ∙ d) in absurd (cc (is, no_file))
      by None None local opened d = (opened, d)

  local_there : (name : List ℕ) (place : ℕ) → meaning_of scope name ≡ Some (m.Local place) → place < length texts
  local_there name place e = by (meaning_in name scope.locals) (meaning_in name files.names) refl refl e
    where
      by : (l f : Option Meaning) → meaning_in name scope.locals ≡ l → meaning_in name files.names ≡ f
          → or_else l (or_else f (meaning_in name globals)) ≡ Some (m.Local place) → place < length texts
      by (Some y) f local opened d =
          let own : IsLocal texts name (m.Local place) = local_is name (m.Local place) (local ∙ d) in
          let same : place ≡ own.place = cc own.is in
          omega (arith, same, slice_get_within texts own.place name own.there)
      by None (Some y) local opened d =
          let is : is_file (m.Local place) ≡ true = file_is name (m.Local place) (opened ∙ d) in absurd (cc is)
      by None None local opened d = absurd ((are_globals lines ps finish fine).means name (m.Local place) d)

  file_there : (name : List ℕ) (x : Meaning) (k : ℕ) → meaning_of scope name ≡ Some x → file_number (Some x) ≡ Some k
      → k < length files.uses
  file_there name x k e counted = by (meaning_in name scope.locals) (meaning_in name files.names) refl refl e
    where
      by : (l f : Option Meaning) → meaning_in name scope.locals ≡ l → meaning_in name files.names ≡ f
          → or_else l (or_else f (meaning_in name globals)) ≡ Some x → k < length files.uses
      by (Some y) f local opened d =
          let own : IsLocal texts name x = local_is name x (local ∙ d) in
          let none : file_number (Some x) ≡ None = ap (λ (z : Meaning). file_number (Some z)) own.is in
          absurd (cc (none, counted))
      by None (Some y) local opened d =
          let at : (i : ℕ) × (slice_get files.names i ≡ Some (name, x)) =
          meaning_there name files.names x (opened ∙ d) in
          let o : IsOpened globals files.uses at.0 (name, x) =
          (at_end lines ps finish fine).opened.each at.0 (name, x) at.1 in
          let own : file_number (Some x) ≡ Some at.0 =
          ap (λ (z : Meaning). file_number (Some z)) o.is ∙ numbered o.use_of.target o.use_of.item at.0 in
          let same : k ≡ at.0 = cc (own, counted) in
          omega (arith, same, slice_get_within files.uses at.0 o.use_of o.there)
      by None None local opened d =
          let none : file_number (Some x) ≡ None =
          no_number _ _ name x ((are_globals lines ps finish fine).means name x d) in
          absurd (cc (none, counted))

  -- a file that is opened to a process, and the place of its name among those of the files
  process_listed : (name : List ℕ) (item k : ℕ) → meaning_of scope name ≡ Some (m.ProcessFile item k)
      → IsProcess (tree_of (g.text lines ps finish)) k × (slice_get files.names k ≡ Some (name, m.ProcessFile item k))
  process_listed name item k e = by (meaning_in name scope.locals) (meaning_in name files.names) refl refl e
    where
      x : Meaning
      x = m.ProcessFile item k

      by : (l f : Option Meaning) → meaning_in name scope.locals ≡ l → meaning_in name files.names ≡ f
          → or_else l (or_else f (meaning_in name globals)) ≡ Some x
          → IsProcess (tree_of (g.text lines ps finish)) k × (slice_get files.names k ≡ Some (name, x))
      by (Some y) f local opened d = absurd (cc (local_is name x (local ∙ d)).is)
      by None (Some y) local opened d =
          let at : (i : ℕ) × (slice_get files.names i ≡ Some (name, x)) =
          meaning_there name files.names x (opened ∙ d) in
          let o : IsOpened globals files.uses at.0 (name, x) =
          (at_end lines ps finish fine).opened.each at.0 (name, x) at.1 in
          let is : process_of o.use_of.target o.use_of.item k at.0 item =
          opened_process o.use_of.target o.use_of.item k at.0 item o.is in (
            record {
              opened = o.use_of;
              process = is.0;
              there = subst (λ (n : ℕ). slice_get files.uses n ≡ Some o.use_of) (sym is.2) o.there;
              is = is.1;
            },
            subst (λ (n : ℕ). slice_get files.names n ≡ Some (name, x)) (sym is.2) at.1,
          )
      by None None local opened d = absurd ((are_globals lines ps finish fine).means name x d)

  single_name : (name other : List ℕ) (item again number : ℕ) → meaning_of scope name ≡ Some (m.ProcessFile item number)
      → meaning_of scope other ≡ Some (m.ProcessFile again number) → name ≡ other
  single_name name other item again number e f =
      let one : slice_get files.names number ≡ Some (name, m.ProcessFile item number) =
      (process_listed name item number e).1 in
      let two : slice_get files.names number ≡ Some (other, m.ProcessFile again number) =
      (process_listed other again number f).1 in
      ap listed_name (sym one ∙ two)

  short : (k : ℕ) (procedure : Procedure)
      → slice_get (trees_of globals files.names first_progress ps) k ≡ Some procedure → length procedure.locals ≤ 12
  short k procedure there = (procedures_within globals files.names first_progress ps
      (faultless lines ps finish fine).bodies procedure (among-at _ k procedure there)).locals

  pub are_there : AreThere (tree_of (g.text lines ps finish)) (length texts) scope
  are_there = record {
    local = local_there;
    simple = λ name item e.
        let is = global_by name (m.Simple item) (λ place same. absurd (cc same)) refl e in
        item_at files.names items item name shape.Simple
        ((are_globals lines ps finish fine).means name (m.Simple item) is.1) is.0;
    array = λ name item e.
        let is = global_by name (m.Array item) (λ place same. absurd (cc same)) refl e in
        let own = (are_globals lines ps finish fine).means name (m.Array item) is.1 in
        (own.0, own.1, item_at files.names items item name (shape.Array own.0 own.1) own.2 is.0);
    file = file_there;
    process = λ name item number e. (process_listed name item number e).0;
    single = single_name;
    procedure = λ name k gives count e.
        let is = global_by name (m.Procedure k gives count) (λ place same. absurd (cc same)) refl e in
        let parts : AreFaultless lines ps finish = faultless lines ps finish fine in
        procedures_known globals files.names lines ps parts.lines_fine parts.headings short name k gives count is.1;
  }
