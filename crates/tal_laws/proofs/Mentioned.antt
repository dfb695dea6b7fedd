-- What a CHECKPOINT without faults names: items that may be listed and files that are opened to a process, each once.
use Rattle.std.proofs.Common.{◌≡◌, inl, inr, ℕ, true, false, List, [], ◌∷◌, slice_get, Option, Some, None, refl, ap}
use Rattle.std.proofs.Common.{sym, subst}
use Rattle.std.specs.Prelude.{pos}
use Rattle.std.specs.Option.{is_some}
use Rattle.tal_tokens.specs.declared.token.At.{At}
use Rattle.tal_syntax.specs.Grammar as g
use Rattle.tal_tree.specs.declared.program.Item.{Item}
use Rattle.tal_tree.specs.declared.program.Program.{Program}
use Rattle.tal_tree.specs.declared.program.Shape.TheVariants as shape
use Rattle.tal_names.specs.declared.fault.Rule.TheVariants.{Twice}
use Rattle.tal_names.specs.declared.meaning.Meaning.{Meaning}
use Rattle.tal_names.specs.declared.meaning.Meaning.TheVariants as m
use Rattle.tal_names.specs.declared.meaning.Need.TheVariants as need
use Rattle.tal_names.specs.declared.scope.Named.{Named}
use Rattle.tal_names.specs.declared.scope.Scope.{Scope}
use Rattle.tal_faultless.specs.tal_rules.specs.Calls.{named_faults, repeated_faults, with_mention, checkpoint_faults}
use Rattle.tal_names.specs.Names.{Declarations, meaning_in, is_declared, with_name}
use Rattle.tal_names.specs.Places.{name_of_argument}
use Rattle.tal_names.specs.Scopes.{meaning_of, kind_faults}
use Rattle.tal_faultless.specs.tal_meaning.specs.Calls.{meaning_by, with_item, with_process, items_named, files_named}
use Rattle.tal_faultless.proofs.Common.Faultless.{no_fault, split, refuted}
use Rattle.tal_faultless.proofs.Scopes.Declared.{meaning_kept, meaning_new}
use Rattle.gd_words.specs.Members.{AreDistinct, IsAmong}
use Rattle.tal_tree.specs.Shapes.{has_words}
use Rattle.tal_tree.specs.Regular.{AreListed}
use Rattle.tal_laws.proofs.Meant.{AreThere}

abbrev mention : Meaning
mention = m.Literal (pos 0)

-- a name that isn't declared with one more wasn't declared before
undeclared : (name : List ℕ) (before : Declarations) (other : List ℕ)
    → is_declared name (with_name before other mention) ≡ false → is_declared name before ≡ false
undeclared name before other new = by (meaning_in name before) refl
  where
    by : (o : Option Meaning) → meaning_in name before ≡ o → is_some o ≡ false
    by None e = refl
    by (Some x) e = let kept : is_declared name (with_name before other mention) ≡ true =
        ap is_some (meaning_kept name before other x mention e) in absurd (cc (kept, new))

module _ (program : Program) (locals : ℕ) (s : Scope) (meant : AreThere program locals s) where
  -- an item that may be listed, of a name that wasn't mentioned before
  record IsNew (before : Declarations) (k : ℕ) : Type 0 where
    item : Item
    there : slice_get program.items k ≡ Some item
    words : has_words item.shape ≡ true
    new : is_declared item.name before ≡ false

  -- a file that is opened to a process, of a name that wasn't mentioned before
  record IsNewFile (before : Declarations) (k : ℕ) : Type 0 where
    name : List ℕ
    item : ℕ
    stands : meaning_of s name ≡ Some (m.ProcessFile item k)
    new : is_declared name before ≡ false

  record AreNew (before : Declarations) (items files : List ℕ) : Type 0 where
    distinct : AreDistinct items
    each : (k : ℕ) → IsAmong k items → IsNew before k
    distinct_files : AreDistinct files
    each_file : (k : ℕ) → IsAmong k files → IsNewFile before k

  earlier : (before : Declarations) (name : List ℕ) (items files : List ℕ)
      → AreNew (with_name before name mention) items files → AreNew before items files
  earlier before name items files rest = record {
    distinct = rest.distinct;
    each = λ k among.
        let one = rest.each k among in
        record {
          item = one.item;
          there = one.there;
          words = one.words;
          new = undeclared one.item.name before name one.new;
        };
    distinct_files = rest.distinct_files;
    each_file = λ k among.
        let one = rest.each_file k among in
        record { name = one.name; item = one.item; stands = one.stands; new = undeclared one.name before name one.new };
  }

  one_item : (before : Declarations) (k : ℕ) (item : Item) → slice_get program.items k ≡ Some item
      → has_words item.shape ≡ true → is_declared item.name before ≡ false
      → (items files : List ℕ) → AreNew (with_name before item.name mention) items files
      → AreNew before (k ∷ items) files
  one_item before k item there words new items files rest = record {
    distinct = (apart, rest.distinct);
    each = each;
    distinct_files = rest.distinct_files;
    each_file = (earlier before item.name items files rest).each_file;
  }
    where
      apart : IsAmong k items → ⊥
      apart among =
          let one : IsNew (with_name before item.name mention) k = rest.each k among in
          let same : one.item ≡ item = cc (one.there, there) in
          let known : is_declared item.name (with_name before item.name mention) ≡ true =
          ap is_some (meaning_new item.name before mention new) in
          let fresh : is_declared item.name (with_name before item.name mention) ≡ false =
          subst (λ (x : Item). is_declared x.name (with_name before item.name mention) ≡ false) same one.new in
          absurd (cc (known, fresh))

      each : (j : ℕ) → IsAmong j (k ∷ items) → IsNew before j
      each j (inl same) =
          subst (IsNew before) (sym same) (record { item = item; there = there; words = words; new = new })
      each j (inr among) = (earlier before item.name items files rest).each j among

  one_file : (before : Declarations) (name : List ℕ) (item number : ℕ)
      → meaning_of s name ≡ Some (m.ProcessFile item number) → is_declared name before ≡ false
      → (items files : List ℕ) → AreNew (with_name before name mention) items files
      → AreNew before items (number ∷ files)
  one_file before name item number stands new items files rest = record {
    distinct = rest.distinct;
    each = (earlier before name items files rest).each;
    distinct_files = (apart, rest.distinct_files);
    each_file = each_file;
  }
    where
      apart : IsAmong number files → ⊥
      apart among =
          let one : IsNewFile (with_name before name mention) number = rest.each_file number among in
          let same : one.name ≡ name = meant.single one.name name one.item item number one.stands stands in
          let known : is_declared name (with_name before name mention) ≡ true =
          ap is_some (meaning_new name before mention new) in
          let fresh : is_declared name (with_name before name mention) ≡ false =
          subst (λ (n : List ℕ). is_declared n (with_name before name mention) ≡ false) same one.new in
          absurd (cc (known, fresh))

      each_file : (j : ℕ) → IsAmong j (number ∷ files) → IsNewFile before j
      each_file j (inl same) =
          subst (IsNewFile before) (sym same) (record { name = name; item = item; stands = stands; new = new })
      each_file j (inr among) = (earlier before name items files rest).each_file j among

  by_meaning : (at : At) (name : List ℕ) (found : Option Meaning) → meaning_of s name ≡ found
      → kind_faults need.Kept at found ≡ []
      → (before : Declarations) → is_declared name before ≡ false → (items files : List ℕ)
      → AreNew (with_name before name mention) items files
      → AreNew before (with_item found items) (with_process found files)
  by_meaning at name None is fine before new items files rest = no_fault fine
  by_meaning at name (Some (m.Simple k)) is fine before new items files rest =
      one_item before k (record { name = name; shape = shape.Simple }) (meant.simple name k is) refl new items files
      rest
  by_meaning at name (Some (m.Array k)) is fine before new items files rest =
      let own = meant.array name k is in
      one_item before k (record { name = name; shape = shape.Array own.0 own.1 }) own.2 refl new items files rest
  by_meaning at name (Some (m.ProcessFile item number)) is fine before new items files rest =
      one_file before name item number is new items files rest
  by_meaning at name (Some (m.StrayFile item number)) is fine before new items files rest =
      earlier before name items files rest
  by_meaning at name (Some other) is fine before new items files rest = no_fault fine

  one_named : (a : g.Argument) (found : Option Named) → named_faults s need.Kept a found ≡ [] → (before : Declarations)
      → repeated_faults before found ≡ []
      → (items files : List ℕ) → AreNew (with_mention before found) items files
      → AreNew before (with_item (meaning_by s found) items) (with_process (meaning_by s found) files)
  one_named a None fine before once items files rest = no_fault (split fine).1
  one_named a (Some x) fine before once items files rest =
      by_meaning x.at x.name (meaning_of s x.name) refl fine before
      (refuted (is_declared x.name before) x.at Twice once) items files rest

  all_named : (before : Declarations) (arguments : List g.Argument) → checkpoint_faults s before arguments ≡ []
      → AreNew before (items_named s arguments) (files_named s arguments)
  all_named before [] fine =
      record { distinct = tt; each = λ k among. absurd among; distinct_files = tt; each_file = λ k among. absurd among }
  all_named before (a ∷ rest) fine =
      let parts = split fine in
      let own = split parts.0 in
      one_named a (name_of_argument a) own.0 before own.1 (items_named s rest) (files_named s rest)
      (all_named (with_mention before (name_of_argument a)) rest parts.1)

  pub mentioned : (arguments : List g.Argument) → checkpoint_faults s [] arguments ≡ []
      → AreListed program (items_named s arguments) (files_named s arguments)
  mentioned arguments fine =
      let all : AreNew [] (items_named s arguments) (files_named s arguments) = all_named [] arguments fine in
      record {
        distinct_items = all.distinct;
        items_there =
            λ k among. let one = all.each k among in record { item = one.item; there = one.there; words = one.words };
        distinct_files = all.distinct_files;
        files_there = λ k among. let one = all.each_file k among in meant.process one.name one.item k one.stands;
      }
