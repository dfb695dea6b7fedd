-- CHECKMONITOR and OPEN of a text without faults.
use Rattle.std.proofs.Common.{◌≡◌, ◌≤◌, ℕ, suc, Bool, true, false, ◌&&◌, ◌||◌, nat_lt, nat_le, List, [], ◌∷◌, ◌++◌}
use Rattle.std.proofs.Common.{length, take, slice_get, refl, sym, ap, ◌∙◌, subst, arith, if◌then◌else◌, length-append}
use Rattle.std.proofs.Common.{◌⊎◌, inl, inr}
use Rattle.std.specs.Prelude.{pos, min, Option, Some, None}
use Rattle.std.specs.Option.{is_some}
use Rattle.std.proofs.lemmas.Bool.{leb-false}
use Rattle.std.proofs.lemmas.Option.{slice_get_within}
use Rattle.tal_tree.specs.declared.program.FileUse.{FileUse}
use Rattle.tal_tree.specs.declared.program.Program.{Program}
use Rattle.tal_tree.specs.declared.program.Target.{Target}
use Rattle.tal_tree.specs.declared.program.Target.TheVariants as target
use Rattle.tal_tree.specs.declared.statement.Statement.{Statement}
use Rattle.tal_tree.specs.declared.statement.What.TheVariants as what
use Rattle.tal_syntax.specs.Grammar as g
use Rattle.tal_names.specs.declared.meaning.Meaning.{Meaning}
use Rattle.tal_names.specs.declared.meaning.Meaning.TheVariants as m
use Rattle.tal_declarations.specs.declared.table.Files.{Files}
use Rattle.tal_names.specs.declared.scope.Scope.{Scope}
use Rattle.tal_rules.specs.declared.walk.Stage.TheVariants as stage
use Rattle.tal_rules.specs.declared.walk.Walk.{Walk}
use Rattle.tal_rules.specs.Calls.{file_number, number_below, is_depth}
use Rattle.tal_declarations.specs.Files as files
use Rattle.tal_declarations.specs.Files.{file_by, target_of, depth_of, depth_value, opened_as, simple_by, simple_global}
use Rattle.tal_names.specs.Names.{meaning_in, is_declared}
use Rattle.tal_names.specs.Scopes.{or_else, meaning_of}
use Rattle.tal_rules.specs.Statements.{next_number, next_file, stage_after_open}
use Rattle.tal_meaning.specs.Calls as trees
use Rattle.tal_tree.specs.Targets.{is_receive}
use Rattle.tal_pieces.proofs.Scopes.Agreement.{Agreement, Extends, OpenedSoFar, is_literal, printed_scope}
use Rattle.tal_faultless.proofs.Files.FileMeanings.{new_file, file_meaning, OpensFile}
use Rattle.tal_faultless.proofs.Scopes.SourceNames.{SourceNames}
use Rattle.tal_pieces.proofs.Standing.Stands.{IsCounted, Opens, Stands, opens}
use Rattle.tal_faultless.proofs.Scopes.SourceScopes.{without_files}
use Rattle.tal_faultless.proofs.Common.Limits.{next_is}
use Rattle.tal_faultless.proofs.Common.Entries.{none_of, get_either}
use Rattle.tal_pieces.proofs.Common.Entries.{get_added, take_before}
use Rattle.tal_faultless.proofs.Scopes.Declared.{meaning_front, meaning_there, meaning_added}

file_numbered : (string : g.Argument) (item number : ℕ) → file_number (Some (file_by string item number)) ≡ Some number
file_numbered (g.receive at) item number = refl
file_numbered (g.process at name) item number = refl
file_numbered (g.quoted at) item number = refl
file_numbered (g.value e) item number = refl

no_literal : (to : Target) (item number : ℕ) → is_literal (file_meaning to item number) ≡ false
no_literal target.Receive item number = refl
no_literal (target.Process name) item number = refl

meant_number : (to : Target) (item number : ℕ) → trees.file_by (Some (file_meaning to item number)) ≡ number
meant_number target.Receive item number = refl
meant_number (target.Process name) item number = refl

-- one more file
abbrev added : Files → List ℕ → ℕ → g.Argument → ℕ → ℕ → Files
added f name item string depth number = record {
  names = f.names ++ (name, file_by string item number) ∷ [];
  uses = f.uses ++ record { item = item; target = target_of string; depth = depth } ∷ [];
}

added_opened : (f : Files) (n : ℕ) (name : List ℕ) (item : ℕ) (string : g.Argument) (depth : ℕ) → nat_le 8 n ≡ false
    → OpenedSoFar n f
    → OpenedSoFar (next_file n) (added f name item string depth n)
added_opened f n name item string depth few so_far = record {
  names_count =
      omega (arith, next_is n few, length-append f.names ((name, file_by string item n) ∷ []), so_far.names_count);
  uses_count = omega (
    arith,
    next_is n few,
    length-append f.uses (record { item = item; target = target_of string; depth = depth } ∷ []),
    so_far.uses_count,
  );
  numbers = λ i d e. by i d (get_either f.names (name, file_by string item n) d i e);
}
  where
    by : (i : ℕ) (d : List ℕ × Meaning) → (slice_get f.names i ≡ Some d)
        ⊎ ((i ≡ length f.names) × ((name, file_by string item n) ≡ d)) → file_number (Some d.1) ≡ Some i
    by i d (inl there) = so_far.numbers i d there
    by i d (inr e) = sym (ap (λ (x : List ℕ × Meaning). file_number (Some x.1)) e.1) ∙ file_numbered string item n
        ∙ ap Some (sym so_far.names_count ∙ sym e.0)

module _ (p : Program) (locals : List (List ℕ)) (s : Scope) (all : Files) (agreed : Agreement p locals s)
    (names : SourceNames s)
    (files_are : p.files ≡ all.uses) (names_are : s.files ≡ all.names) where
  -- the simple global that an OPEN names
  record Global (name : List ℕ) (item : ℕ) : Type 0 where
    unhidden : is_declared name s.locals ≡ false
    global : meaning_in name s.globals ≡ Some (m.Simple item)

  global_by : (name : List ℕ) (item : ℕ) → simple_global s name ≡ Some item → Global name item
  global_by name item e =
      let r = by (is_declared name s.locals) (meaning_in name s.globals) e in record { unhidden = r.0; global = r.1 }
    where
      by : (b : Bool) (o : Option Meaning) → (if b then None else simple_by o) ≡ Some item
          → (b ≡ false) × (o ≡ Some (m.Simple item))
      by true o h = absurd (cc)
      by false None h = absurd (cc)
      by false (Some (m.Simple k)) h = (refl, cc)
      by false (Some other) h = absurd (cc)

  listed_meaning : (name : List ℕ) (x : Meaning) → is_declared name s.locals ≡ false
      → meaning_in name all.names ≡ Some x → meaning_of s name ≡ Some x
  listed_meaning name x unhidden e =
      ap (λ o. or_else o (or_else (meaning_in name s.files) (meaning_in name s.globals)))
      (none_of (meaning_in name s.locals) unhidden)
      ∙ ap (λ o. or_else o (meaning_in name s.globals)) (ap (meaning_in name) names_are ∙ e)

  -- a name that isn't opened is none of the files before
  not_before : (f : Files) (n : ℕ) (name : List ℕ) → OpenedSoFar n f → Extends all f → is_declared name s.locals ≡ false
      → number_below (file_number (meaning_of s name)) n ≡ false → is_declared name f.names ≡ false
  not_before f n name so_far more unhidden fresh = by (meaning_in name f.names) refl
    where
      by : (found : Option Meaning) → meaning_in name f.names ≡ found → is_declared name f.names ≡ false
      by None e = ap is_some e
      by (Some x) e =
          let at = meaning_there name f.names x e in
          let means = listed_meaning name x unhidden
          (ap (meaning_in name) more.names_are ∙ meaning_front name f.names more.names x e) in
          let number : file_number (meaning_of s name) ≡ Some at.0 =
          ap file_number means ∙ so_far.numbers at.0 (name, x) at.1 in
          let below : nat_lt at.0 n ≡ false = sym (ap (λ o. number_below o n) number) ∙ fresh in
          absurd (omega (
            arith,
            leb-false (suc at.0) n below,
            slice_get_within f.names at.0 (name, x) at.1,
            so_far.names_count,
          ))

  -- a call and the files after it
  pub record CallStands (n : ℕ) (w : Walk) (x : Statement) (v : Walk) (f : Files) : Type 0 where
    pub stands : Stands p locals (printed_scope s) all n w x v
    pub opened : OpenedSoFar v.files f

  pub open_stands : (n : ℕ) (w : Walk) (f : Files) (line : ℕ) (string depth : g.Argument) (name : List ℕ) (item : ℕ)
      → IsCounted w → suc (suc n) ≤ 33
      → OpenedSoFar w.files f → Extends all f
      → Extends all (opened_as (without_files s) f string depth name (simple_global s name))
      → OpensFile string → (w.receive && files.is_receive string) ≡ false → w.stage ≡ stage.Opens
      → number_below (file_number (meaning_of s name)) w.files ≡ false → nat_le 8 w.files ≡ false
      → is_depth (files.is_receive string) (pos (depth_of (depth_value (without_files s) depth))) ≡ true
      → simple_global s name ≡ Some item
      → CallStands n w (record { number = w.number; line = line; what = what.Open (trees.file_by (meaning_of s name)) })
      (record {
        number = next_number w.number;
        stage = stage_after_open w.stage;
        files = next_file w.files;
        receive = w.receive || files.is_receive string;
      })
      (opened_as (without_files s) f string depth name (simple_global s name))
  open_stands n w f line string depth name item counted room so_far front more string_is alone ready fresh few deep
      is_global =
      let kept = depth_of (depth_value (without_files s) depth) in
      let opened : FileUse = record { item = item; target = target_of string; depth = kept } in
      let is = global_by name item is_global in
      let new = not_before f w.files name so_far front is.unhidden fresh in
      let number : min 8 (length f.uses) ≡ w.files = omega (arith, so_far.uses_count, leb-false 8 w.files few) in
      let files_after : opened_as (without_files s) f string depth name (simple_global s name)
      ≡ added f name item string kept w.files =
      ap (opened_as (without_files s) f string depth name) is_global ∙ new_file f name item string kept new
      ∙ ap (added f name item string kept) number in
      let whole = subst (Extends all) files_after more in
      let meant = string_is.meant item w.files in
      let means : meaning_of s name ≡ Some (file_meaning (target_of string) item w.files) =
      listed_meaning name (file_by string item w.files) is.unhidden
      (ap (meaning_in name) whole.names_are ∙ meaning_added name f.names whole.names (file_by string item w.files) new)
      ∙ ap Some meant in
      let used : slice_get all.uses w.files ≡ Some opened =
      ap (λ xs. slice_get xs w.files) whole.uses_are ∙ get_added f.uses opened whole.uses w.files so_far.uses_count in
      let opens_one : Opens p locals (printed_scope s) all w w.files = record {
        opened = opened;
        name = name;
        next = refl;
        few = few;
        ready = ready;
        there = ap (λ xs. slice_get xs w.files) files_are ∙ used;
        used = used;
        listed = ap (λ xs. slice_get xs w.files) whole.names_are
            ∙ get_added f.names (name, file_by string item w.files) whole.names w.files so_far.names_count
            ∙ ap (λ x. Some (name, x)) meant;
        first = ap (λ xs. is_declared name (take w.files xs)) whole.names_are
            ∙ ap (is_declared name) (take_before f.names (name, file_by string item w.files) whole.names w.files
            so_far.names_count) ∙ new;
        named = agreed.global item name is.global;
        means = agreed.lasting name (file_meaning (target_of string) item w.files)
            (no_literal (target_of string) item w.files) means;
        global = agreed.global_lasts item name is.global;
        unhidden = is.unhidden;
        depth = ap (λ b. is_depth b (pos kept)) (sym string_is.receives) ∙ deep;
        alone = ap (λ b. w.receive && b) (sym string_is.receives) ∙ alone;
      } in
      let walk_is : record {
        number = next_number w.number;
        stage = stage.Opens;
        files = next_file w.files;
        receive = w.receive || is_receive (target_of string);
      }
      ≡ record {
        number = next_number w.number;
        stage = stage_after_open w.stage;
        files = next_file w.files;
        receive = w.receive || files.is_receive string;
      } =
      λ i. record {
        number = next_number w.number;
        stage = sym (ap stage_after_open ready) i;
        files = next_file w.files;
        receive = w.receive || sym string_is.receives i;
      } in
      let number_is : w.files ≡ trees.file_by (meaning_of s name) =
      sym (ap trees.file_by means ∙ meant_number (target_of string) item w.files) in
      record {
        stands = subst (Stands p locals (printed_scope s) all n w
            (record { number = w.number; line = line; what = what.Open (trees.file_by (meaning_of s name)) })) walk_is
            (subst (λ k. Stands p locals (printed_scope s) all n w
            (record { number = w.number; line = line; what = what.Open k })
            (record {
              number = next_number w.number;
              stage = stage.Opens;
              files = next_file w.files;
              receive = w.receive || is_receive (target_of string);
            }))
            number_is (opens counted room opens_one));
        opened = subst (OpenedSoFar (next_file w.files)) (sym files_after)
            (added_opened f w.files name item string kept few so_far);
      }
