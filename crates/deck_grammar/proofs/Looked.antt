-- Names are looked up in an outline as in the site of its deck.
use Rattle.std.proofs.Common.{◌≡◌, ℕ, zero, suc, ◌+◌, Bool, true, false, cond, not, nat_lt, List, [], ◌∷◌, position}
use Rattle.std.proofs.Common.{Option, Some, None, option_and_then, slice_get, is_some, refl, sym, ap, ap₂, ◌∙◌}
use Rattle.std.proofs.Common.{true≢false, get_or}
use Rattle.std.specs.List.{All, position_or_len, list_all}
use Rattle.std.specs.Cmp.Lexicographic.{bytes_decides}
use Rattle.std.proofs.lemmas.List.Sums.{AllPass-from_list_all, list_all-from_AllPass}
use Rattle.name_table.specs.Entries.{Named, place_of}
use Rattle.tal_tree.specs.declared.program.FileUse.{FileUse}
use Rattle.tal_tree.specs.declared.program.Target.{Target}
use Rattle.tal_tree.specs.declared.program.Target.TheVariants as target
use Rattle.tal_tree.specs.declared.site.Kind.{Kind}
use Rattle.tal_tree.specs.declared.site.Kind.TheVariants as kind
use Rattle.tal_tree.specs.declared.site.ProcessSpec.{ProcessSpec}
use Rattle.tal_tree.specs.declared.site.Site.{Site}
use Rattle.deck_reader.specs.Decks.{AreProcessesOf, EachWith, IsKindOf}
use Rattle.deck_reader.specs.EventLineOf as written
use Rattle.deck_reader.specs.EventLineOf.{lines_at, mirror_of}
use Rattle.deck_reader.specs.Names.{files_misnamed, is_known, is_other}
use Rattle.deck_reader.specs.declared.names.NameFault.{NameFault}
use Rattle.deck_reader.specs.declared.outline.Body.{Body}
use Rattle.deck_reader.specs.declared.outline.Body.TheVariants as body
use Rattle.deck_reader.specs.declared.outline.ProcessLines.{ProcessLines}
use Rattle.deck_reader.proofs.DeckLimits.{same_length}
use Rattle.deck_grammar.specs.Spells.{MayOpen, is_mirror, is_mirror_there, mirror_at, process_at}
use Rattle.deck_grammar.proofs.NewNames.{differ}

-- what passes stands at the same place in lists that belong together
module _ {X Y : Type 0} (p : X → Bool) (q : Y → Bool) (R : X → Y → Type 0)
    (same : (x : X) (y : Y) → R x y → p x ≡ q y) where
  as_far : (xs : List X) (ys : List Y) → EachWith R xs ys → position_or_len p xs ≡ position_or_len q ys
  as_far [] [] each = refl
  as_far (x ∷ xs) (y ∷ ys) each = λ i. cond (not (same x y each.0 i)) (1 + as_far xs ys each.1 i) 0
  as_far [] (y ∷ ys) each = absurd each
  as_far (x ∷ xs) [] each = absurd each

  pub same_place : (xs : List X) (ys : List Y) → EachWith R xs ys → position p xs ≡ position q ys
  same_place xs ys each = ap₂ (λ (place many : ℕ). cond (nat_lt place many) (Some place) None) (as_far xs ys each)
      (sym (same_length R xs ys each))

pub each_so : {X Y : Type 0} (R S : X → Y → Type 0) → ((x : X) (y : Y) → R x y → S x y) → (xs : List X) (ys : List Y)
    → EachWith R xs ys → EachWith S xs ys
each_so R S so [] [] each = tt
each_so R S so (x ∷ xs) (y ∷ ys) each = (so x y each.0, each_so R S so xs ys each.1)
each_so R S so [] (y ∷ ys) each = absurd each
each_so R S so (x ∷ xs) [] each = absurd each

-- the processes of an outline are those of the site by their names
abbrev pub AreThere : List (Named ProcessLines) → Site → Type 0
AreThere all site = (name : List ℕ) → place_of all name ≡ process_at site name

-- lines of processes with the processes that are read of them have mirrored discs at the same places
same_kind : (lines : List (Named ProcessLines)) (processes : List ProcessSpec) → AreProcessesOf lines processes
    → (place : ℕ) → written.is_mirror_there (lines_at lines place) ≡ is_mirror_there (slice_get processes place)
same_kind [] [] of place = refl
same_kind [] (process ∷ processes) of place = absurd of
same_kind (one ∷ lines) [] of place = absurd of
same_kind (one ∷ lines) (process ∷ processes) of zero = by one.1.body process.what of.0.what
  where
    by : (lines : Body) (what : Kind) → IsKindOf lines what → written.is_mirror lines ≡ is_mirror what
    by (body.Disc told both) (kind.Disc sectors mirrored) is = sym is.1
    by (body.Disc told both) (kind.Pair program) is = absurd is
    by (body.Pair lines) (kind.Disc sectors mirrored) is = absurd is
    by (body.Pair lines) (kind.Pair program) is = refl
same_kind (one ∷ lines) (process ∷ processes) of (suc place) = same_kind lines processes of.1 place

-- and so a name tells the same mirrored disc
pub same_mirror : (lines : List (Named ProcessLines)) (site : Site) → AreThere lines site
    → AreProcessesOf lines site.processes → (name : List ℕ) → mirror_of lines name ≡ mirror_at site name
same_mirror lines site there of name =
    ap (option_and_then (λ place. cond (written.is_mirror_there (lines_at lines place)) (Some place) None)) (there name)
    ∙ by (process_at site name)
  where
    by : (o : Option ℕ)
        → option_and_then (λ place. cond (written.is_mirror_there (lines_at lines place)) (Some place) None) o
        ≡ option_and_then (λ place. cond (is_mirror_there (slice_get site.processes place)) (Some place) None) o
    by None = refl
    by (Some place) = ap (λ (b : Bool). cond b (Some place) None) (same_kind lines site.processes of place)

module _ (all : List (Named ProcessLines)) (site : Site) (there : AreThere all site) (own : List ℕ) where
  may_open : (one : Target) → is_known all one ≡ true → is_other own one ≡ true → MayOpen site own one
  may_open target.Receive known other = tt
  may_open (target.Process name) known other = (
    sym (ap is_some (there name)) ∙ known,
    λ same. true≢false (sym other ∙ ap not ((bytes_decides name own).1 same)),
  )

  is_there : (one : Target) → MayOpen site own one → is_known all one ≡ true
  is_there target.Receive may = refl
  is_there (target.Process name) may = ap is_some (there name) ∙ may.0

  is_not_own : (one : Target) → MayOpen site own one → is_other own one ≡ true
  is_not_own target.Receive may = refl
  is_not_own (target.Process name) may = ap not (differ name own may.1)

  -- no file is amiss exactly where each may be opened
  pub files_open : (line : ℕ) (files : List FileUse) → files_misnamed all line own files ≡ None
      → All (λ (file : FileUse). MayOpen site own file.target) files
  files_open line files e = by (list_all known files) (list_all other files) refl refl e
    where
      known : FileUse → Bool
      known file = is_known all file.target

      other : FileUse → Bool
      other file = is_other own file.target

      amiss : Bool → NameFault
      amiss itself = record { line = line; own = itself }

      by : (a b : Bool) → list_all known files ≡ a → list_all other files ≡ b
          → cond (not a) (Some (amiss false)) (cond (not b) (Some (amiss true)) None) ≡ None
          → All (λ (file : FileUse). MayOpen site own file.target) files
      by true true p q e = λ k d there. may_open (get_or files k d).target
          (AllPass-from_list_all known files p k d there) (AllPass-from_list_all other files q k d there)
      by false b p q e = absurd (cc)
      by true false p q e = absurd (cc)

  pub open_files : (line : ℕ) (files : List FileUse) → All (λ (file : FileUse). MayOpen site own file.target) files
      → files_misnamed all line own files ≡ None
  open_files line files may =
      let a = list_all-from_AllPass (λ (file : FileUse). is_known all file.target) files
      (λ k d there. is_there (get_or files k d).target (may k d there)) in
      let b = list_all-from_AllPass (λ (file : FileUse). is_other own file.target) files
      (λ k d there. is_not_own (get_or files k d).target (may k d there)) in
      λ i. cond (not (a i)) (Some (record { line = line; own = false }))
      (cond (not (b i)) (Some (record { line = line; own = true })) None)
