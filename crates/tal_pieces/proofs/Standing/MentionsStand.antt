-- The names of a CHECKPOINT in a text without faults: a text may mix items and files, and the tree lists the items
-- first.
use Rattle.std.proofs.Common.{◌≡◌, ◌≤◌, ℕ, Bool, true, false, ◌&&◌, ◌||◌, nat_eq, suc, List, [], ◌∷◌, ◌++◌, refl, sym}
use Rattle.std.proofs.Common.{ap, ◌∙◌, subst, arith, if◌then◌else◌}
use Rattle.std.specs.Prelude.{pos, Option, Some, None}
use Rattle.std.specs.Option.{is_some}
use Rattle.std.proofs.lemmas.Bool.Decides.{nat_tests}
use Rattle.tal_tree.specs.declared.program.Program.{Program}
use Rattle.tal_tokens.specs.declared.token.At.{At}
use Rattle.tal_syntax.specs.Grammar as g
use Rattle.tal_names.specs.declared.fault.Rule.TheVariants.{Twice}
use Rattle.tal_names.specs.declared.meaning.Meaning.{Meaning}
use Rattle.tal_names.specs.declared.meaning.Meaning.TheVariants as m
use Rattle.tal_names.specs.declared.meaning.Need.TheVariants as need
use Rattle.tal_names.specs.declared.scope.Named.{Named}
use Rattle.tal_names.specs.declared.scope.Scope.{Scope}
use Rattle.tal_names.specs.declared.system.System.TheVariants as system
use Rattle.tal_rules.specs.Calls.{checkpoint_faults, named_faults, repeated_faults, with_mention}
use Rattle.tal_names.specs.Names.{Declarations, same, meaning_in, is_declared, with_name}
use Rattle.tal_names.specs.Places.{name_of_argument}
use Rattle.tal_names.specs.Scopes.{meaning_of, kind_faults}
use Rattle.tal_meaning.specs.Calls.{items_named, files_named, with_item, with_process, meaning_by, system_what}
use Rattle.tal_pieces.specs.Printed.Names.{file_name}
use Rattle.tal_pieces.proofs.Scopes.Agreement.{Agreement, printed_scope}
use Rattle.tal_pieces.proofs.Scopes.DeclaredNames.{appended}
use Rattle.tal_pieces.proofs.Standing.ArgumentsFit.{AreLow}
use Rattle.tal_pieces.proofs.Standing.Stands.{Mentions, none, file, item, simple, array, Lone, keeps_nothing, keeps}
use Rattle.tal_pieces.proofs.Standing.Stands.{IsItem}
use Rattle.tal_faultless.proofs.Common.Faultless.{no_fault, split, refuted}
use Rattle.std.proofs.lemmas.Bool.{or_parts}

-- two names are the same whichever stands first
eq_turned : (a b : ℕ) → nat_eq a b ≡ nat_eq b a
eq_turned a b = grind (arith, nat_tests)

pub same_turned : (x y : List ℕ) → same x y ≡ same y x
same_turned [] [] = refl
same_turned [] (b ∷ ys) = refl
same_turned (a ∷ xs) [] = refl
same_turned (a ∷ xs) (b ∷ ys) = λ i. eq_turned a b i && same_turned xs ys i

-- what is declared after one more name
found_first : (b : Bool) (x : Meaning) (more rest : Option Meaning) (last : Bool)
    → is_some more ≡ (is_some rest || last)
    → is_some (if b then Some x else more) ≡ (is_some (if b then Some x else rest) || last)
found_first true x more rest last h = refl
found_first false x more rest last h = h

declared_last : (name : List ℕ) (before : Declarations) (other : List ℕ) (x : Meaning)
    → is_declared name (before ++ (other, x) ∷ []) ≡ (is_declared name before || same name other)
declared_last name [] other x = by (same name other)
  where
    by : (b : Bool) → is_some (if b then Some x else None) ≡ b
    by true = refl
    by false = refl
declared_last name (d ∷ before) other x =
    found_first (same name d.0) d.1 (meaning_in name (before ++ (other, x) ∷ [])) (meaning_in name before)
    (same name other) (declared_last name before other x)

abbrev mention : Meaning
mention = m.Literal (pos 0)

parted : (name : List ℕ) (before : Declarations) (other : List ℕ) → is_declared other before ≡ false
    → is_declared name (with_name before other mention) ≡ false
    → (is_declared name before ≡ false) × (same name other ≡ false)
parted name before other new e =
    or_parts (is_declared name before) (same name other)
    (sym (declared_last name before other mention) ∙ sym (ap (is_declared name) (appended before other mention new))
    ∙ e)

joined : (name : List ℕ) (before : Declarations) (other : List ℕ) → is_declared other before ≡ false
    → is_declared name before ≡ false → same name other ≡ false
    → is_declared name (with_name before other mention) ≡ false
joined name before other new e d =
    ap (is_declared name) (appended before other mention new) ∙ declared_last name before other mention
    ∙ (λ i. e i || d i)

module _ (p : Program) (locals : List (List ℕ)) (t : Scope) where
  -- fewer names before
  fewer : {before : Declarations} {items files : List ℕ} → Mentions p locals t before items files
      → (other : Declarations)
      → ((name : List ℕ) → is_declared name before ≡ false → is_declared name other ≡ false)
      → Mentions p locals t other items files
  fewer none other h = none
  fewer {before} (file variable name named means new rest) other h =
      file variable name named means (h name new) (fewer rest (with_name other name mention) (λ x e.
      let parts = parted x before name new e in
      joined x other name (h name new) (h x parts.0) parts.1))
  fewer {before} (item name named means new rest) other h =
      item name named means (h name new) (fewer rest (with_name other name mention) (λ x e.
      let parts = parted x before name new e in
      joined x other name (h name new) (h x parts.0) parts.1))

  module _ (number variable : ℕ) (name : List ℕ) (named : file_name p number ≡ Some name)
      (means : meaning_of t name ≡ Some (m.ProcessFile variable number)) where
    -- a file put before the other files, after the items
    first_file : {before : Declarations} {files : List ℕ} → Mentions p locals t before [] files → (other : Declarations)
        → ((x : List ℕ) → is_declared x before ≡ false → (is_declared x other ≡ false) × (same x name ≡ false))
        → is_declared name other ≡ false
        → Mentions p locals t other [] (number ∷ files)
    first_file rest other h new =
        file variable name named means new (fewer rest (with_name other name mention)
        (λ x e. joined x other name new (h x e).0 (h x e).1))

    insert : {before : Declarations} {items files : List ℕ} → Mentions p locals t before items files
        → (other : Declarations)
        → ((x : List ℕ) → is_declared x before ≡ false → (is_declared x other ≡ false) × (same x name ≡ false))
        → is_declared name other ≡ false
        → Mentions p locals t other items (number ∷ files)
    insert none other h new = first_file none other h new
    insert (file v x n e d rest) other h new = first_file (file v x n e d rest) other h new
    insert {before} (item x n e d rest) other h new =
        item x n e (h x d).0 (insert rest (with_name other x mention)
        (λ y undeclared.
        let parts = parted y before x d undeclared in
        (joined y other x (h x d).0 (h y parts.0).0 parts.1, (h y parts.0).1))
        (joined name other x (h x d).0 new (same_turned name x ∙ (h x d).1)))

module _ (p : Program) (locals : List (List ℕ)) (s : Scope) (agreed : Agreement p locals s) where
  -- one more name before the others
  one_more : (at : At) (name : List ℕ) (found : Option Meaning) (before : Declarations) (items files : List ℕ)
      → meaning_of s name ≡ found
      → kind_faults need.Kept at found ≡ [] → is_declared name before ≡ false
      → Mentions p locals (printed_scope s) (with_name before name mention) items files
      → Mentions p locals (printed_scope s) before (with_item found items) (with_process found files)
  one_more at name None before items files e faultless new rest = no_fault faultless
  one_more at name (Some (m.Simple k)) before items files e faultless new rest =
      item name (agreed.simple k name e) (subst (IsItem k) (sym (agreed.lasting name (m.Simple k) refl e)) simple) new
      rest
  one_more at name (Some (m.Array k)) before items files e faultless new rest =
      item name (agreed.array k name e) (subst (IsItem k) (sym (agreed.lasting name (m.Array k) refl e)) array) new rest
  one_more at name (Some (m.ProcessFile k number)) before items files e faultless new rest =
      insert p locals (printed_scope s) number k name (agreed.process k number name e)
      (agreed.lasting name (m.ProcessFile k number) refl e)
      rest before (λ x d. parted x before name new d) new
  one_more at name (Some (m.StrayFile k number)) before items files e faultless new rest =
      absurd (agreed.stray k number name e)
  one_more at name (Some other) before items files e faultless new rest = no_fault faultless

  one_named : (a : g.Argument) (found : Option Named) (before : Declarations) (items files : List ℕ)
      → named_faults s need.Kept a found ≡ []
      → repeated_faults before found ≡ [] → Mentions p locals (printed_scope s) (with_mention before found) items files
      → Mentions p locals (printed_scope s) before (with_item (meaning_by s found) items)
      (with_process (meaning_by s found) files)
  one_named a None before items files faultless once rest = no_fault (split faultless).1
  one_named a (Some x) before items files faultless once rest =
      one_more x.at x.name (meaning_of s x.name) before items files refl faultless
      (refuted (is_declared x.name before) x.at Twice once) rest

  mentions : (arguments : List g.Argument) (before : Declarations) → checkpoint_faults s before arguments ≡ []
      → Mentions p locals (printed_scope s) before (items_named s arguments) (files_named s arguments)
  mentions [] before faultless = none
  mentions (a ∷ rest) before faultless =
      let parts = split faultless in
      let here = split parts.0 in
      one_named a (name_of_argument a) before (items_named s rest) (files_named s rest) here.0 here.1
      (mentions rest (with_mention before (name_of_argument a)) parts.1)

  pub checkpoint_stands : (n : ℕ) (arguments : List g.Argument) → checkpoint_faults s [] arguments ≡ [] → suc n ≤ 33
      → AreLow s (suc (suc n)) arguments → Lone p locals (printed_scope s) n (system_what s arguments system.Checkpoint)
  checkpoint_stands n [] faultless room low = keeps_nothing room
  checkpoint_stands n (a ∷ rest) faultless room low = keeps (omega (arith, low.0)) (mentions (a ∷ rest) [] faultless)
