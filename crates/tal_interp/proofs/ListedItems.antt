-- Items that are read from words, and put over those of globals.
use Rattle.std.proofs.Common.{◌≡◌, ◌<◌, ℕ, zero, suc, ◌==◌, ℤ, Bool, true, false, not, ◌&&◌, ◌||◌, if◌then◌else◌, List}
use Rattle.std.proofs.Common.{[], ◌∷◌, ◌++◌, length, map, Option, Some, None, is_some, replicate, slice_get}
use Rattle.std.proofs.Common.{slice_index_or, slice_set, refl, ap, sym, subst, ◌∙◌, arith, append-nil, option_and_then}
use Rattle.std.proofs.Common.{drop}
use Rattle.std.specs.Option.{option_map}
use Rattle.std.proofs.lemmas.Bool.{eqb-true, eqb-false}
use Rattle.std.proofs.lemmas.List.{length-map}
use Rattle.std.proofs.lemmas.Option.{same_Some}
use Rattle.gd_words.specs.Members.{is_among}
use Rattle.tal_tree.specs.Shapes.{has_words, width}
use Rattle.tal_tree.specs.declared.program.Item.{Item}
use Rattle.tal_tree.specs.declared.program.Program.{Program}
use Rattle.process_semantics.specs.Image.{item_in, items_in}
use Rattle.process_semantics.specs.State.{words_of}
use Rattle.process_semantics.specs.Words.{Front, count_in, whole, words_in}
use Rattle.tal_table.specs.whole_states.specs.Whole.{sizes_of, widths_of}
use Rattle.tal_table.specs.whole_states.proofs.Globals.{set-sizes}
use Rattle.tal_table.specs.process_images.proofs.Fronts.{words-stood}
use Rattle.tal_table.specs.process_images.proofs.Globals.{size-of}
use Rattle.tal_interp.specs.Images.{listed_item, Overwrites}

-- Items

-- an item's number beside its words
abbrev numbered : ℕ → List ℤ × List ℤ → (ℕ × List ℤ) × List ℤ
numbered number (found, rest) = ((number, found), rest)

abbrev listed_at : Program → ℕ × List ℤ → Front (ℕ × List ℤ)
listed_at program (number, left) =
    option_map (numbered number) (item_in [] number (slice_get program.items number) left)

item-new : (named : List ℕ) (number : ℕ) (item : Option Item) (words : List ℤ) → is_among number named ≡ false
    → item_in named number item words ≡ item_in [] number item words
item-new named number None words new = refl
item-new named number (Some item) words new =
    ap (λ (b : Bool). if has_words item.shape && not b then words_in (width item.shape) words else None) new

item-old : (named : List ℕ) (number : ℕ) (item : Option Item) (words : List ℤ) → is_among number named ≡ true
    → item_in named number item words ≡ None
item-old named number None words old = refl
item-old named number (Some item) words old = by-shape (has_words item.shape)
    ∙ ap (λ (b : Bool). None) old
  where
    by-shape : (b : Bool) → (if b && not (is_among number named) then words_in (width item.shape) words else None)
        ≡ None
    by-shape false = refl
    by-shape true = ap (λ (c : Bool). if not c then words_in (width item.shape) words else None) old

item-none : (named : List ℕ) (number : ℕ) (item : Option Item) (words : List ℤ) → item_in [] number item words ≡ None
    → item_in named number item words ≡ None
item-none named number item words none = which (is_among number named) refl
  where
    which : (b : Bool) → is_among number named ≡ b → item_in named number item words ≡ None
    which true old = item-old named number item words old
    which false new = item-new named number item words new ∙ none

module _ (program : Program) (named : List ℕ) (globals : List (List ℤ)) where
  -- the items after this one
  abbrev then_items : ℕ → ℕ → Front (List ℤ) → Front (List (List ℤ))
  then_items n number f =
      option_and_then (λ (found, rest). items_in program n (number ∷ named) (slice_set globals number found) rest) f

  -- what a listed item tells of where it stands
  record IsListed (words : List ℤ) (number : ℕ) (found rest : List ℤ) : Type 0 where
    left : List ℤ
    count : count_in words ≡ Some (number, left)
    item : item_in [] number (slice_get program.items number) left ≡ Some (found, rest)

  listed-is : (words : List ℤ) (number : ℕ) (found rest : List ℤ)
      → listed_item program.items words ≡ Some ((number, found), rest)
      → IsListed words number found rest
  listed-is words number found rest is = by-count (count_in words) refl is
    where
      by-item : (k : ℕ) (left : List ℤ) (f : Front (List ℤ)) → count_in words ≡ Some (k, left)
          → item_in [] k (slice_get program.items k) left ≡ f
          → option_map (numbered k) f ≡ Some ((number, found), rest) → IsListed words number found rest
      by-item k left None count item is = absurd (cc)
      by-item k left (Some (words_found, more)) count item is =
          subst (λ (t : (ℕ × List ℤ) × List ℤ). IsListed words t.0.0 t.0.1 t.1) (same_Some _ _ is)
          (record { left = left; count = count; item = item })

      by-count : (f : Front ℕ) → count_in words ≡ f
          → option_and_then (listed_at program) f ≡ Some ((number, found), rest)
          → IsListed words number found rest
      by-count None count is = absurd (cc)
      by-count (Some (k, left)) count is = by-item k left (item_in [] k (slice_get program.items k) left) count refl is

  pub item-turn : (m n : ℕ) (words : List ℤ) (number : ℕ) (found rest : List ℤ) → m ≡ suc n
      → listed_item program.items words ≡ Some ((number, found), rest) → is_among number named ≡ false
      → items_in program m named globals words
      ≡ items_in program n (number ∷ named) (slice_set globals number found) rest
  item-turn m n words number found rest size is new =
      let listed = listed-is words number found rest is in
      ap (λ (k : ℕ). items_in program k named globals words) size
      ∙ ap (option_and_then (λ (item, left). then_items n item
      (item_in named item (slice_get program.items item) left))) listed.count
      ∙ ap (then_items n number) (item-new named number (slice_get program.items number) listed.left new ∙ listed.item)

  pub item-again : (m n : ℕ) (words : List ℤ) (number : ℕ) (found rest : List ℤ) → m ≡ suc n
      → listed_item program.items words ≡ Some ((number, found), rest) → is_among number named ≡ true
      → items_in program m named globals words ≡ None
  item-again m n words number found rest size is old =
      let listed = listed-is words number found rest is in
      ap (λ (k : ℕ). items_in program k named globals words) size
      ∙ ap (option_and_then (λ (item, left). then_items n item
      (item_in named item (slice_get program.items item) left))) listed.count
      ∙ ap (then_items n number) (item-old named number (slice_get program.items number) listed.left old)

  pub item-stop : (m n : ℕ) (words : List ℤ) → m ≡ suc n → listed_item program.items words ≡ None
      → items_in program m named globals words ≡ None
  item-stop m n words size none =
      ap (λ (k : ℕ). items_in program k named globals words) size ∙ by-count (count_in words) none
    where
      none-mapped : (k : ℕ) (f : Front (List ℤ)) → option_map (numbered k) f ≡ None → f ≡ None
      none-mapped k None is = refl
      none-mapped k (Some x) is = absurd (cc)

      by-count : (f : Front ℕ)
          → option_and_then (listed_at program) f ≡ None
          → option_and_then (λ (item, left). then_items n item
          (item_in named item (slice_get program.items item) left)) f ≡ None
      by-count None is = refl
      by-count (Some (k, left)) is =
          ap (then_items n k) (item-none named k (slice_get program.items k) left
          (none-mapped k (item_in [] k (slice_get program.items k) left) is))

-- whether items are read, and to the end, doesn't depend on the globals
module _ (program : Program) (n : ℕ) (named : List ℕ) (globals others : List (List ℤ))
    (alike : (k : ℕ) (found words : List ℤ)
    → is_some (whole (items_in program n (k ∷ named) (slice_set globals k found) words))
    ≡ is_some (whole (items_in program n (k ∷ named) (slice_set others k found) words))) where
  alike-item : (k : ℕ) (f : Front (List ℤ))
      → is_some (whole (then_items program named globals n k f))
      ≡ is_some (whole (then_items program named others n k f))
  alike-item k None = refl
  alike-item k (Some (found, rest)) = alike k found rest

  alike-count : (f : Front ℕ)
      → is_some (whole (option_and_then (λ (item, left). then_items program named globals n item
      (item_in named item (slice_get program.items item) left)) f))
      ≡ is_some (whole (option_and_then (λ (item, left). then_items program named others n item
      (item_in named item (slice_get program.items item) left)) f))
  alike-count None = refl
  alike-count (Some (k, left)) = alike-item k (item_in named k (slice_get program.items k) left)

alike-end : (globals others : List (List ℤ)) (words : List ℤ)
    → is_some (whole (Some (globals, words))) ≡ is_some (whole (Some (others, words)))
alike-end globals others [] = refl
alike-end globals others (word ∷ words) = refl

pub items-alike : (program : Program) (n : ℕ) (named : List ℕ) (globals others : List (List ℤ)) (words : List ℤ)
    → is_some (whole (items_in program n named globals words)) ≡ is_some (whole (items_in program n named others words))
items-alike program zero named globals others words = alike-end globals others words
items-alike program (suc n) named globals others words =
    alike-count program n named globals others
    (λ k found rest. items-alike program n (k ∷ named) (slice_set globals k found) (slice_set others k found) rest)
    (count_in words)

-- Names

-- a flag for each of 64 numbers, which says whether it was named
pub record Flags (flags : List Bool) (names : List ℕ) : Type 0 where
  pub count : length flags ≡ 64
  pub each : (k : ℕ) → k < 64 → slice_index_or flags k false ≡ is_among k names

pub flags-none : Flags (replicate 64 false) []
flags-none = record { count = refl; each = none }
  where
    off : (n k : ℕ) → slice_index_or (replicate n false) k false ≡ false
    off zero k = refl
    off (suc n) zero = refl
    off (suc n) (suc k) = off n k

    none : (k : ℕ) → k < 64 → slice_index_or (replicate 64 false) k false ≡ false
    none k few = off 64 k

flag-set : (flags : List Bool) (n : ℕ) → n < length flags → slice_index_or (slice_set flags n true) n false ≡ true
flag-set [] n few = absurd (omega arith)
flag-set (flag ∷ flags) zero few = refl
flag-set (flag ∷ flags) (suc n) few = flag-set flags n (omega arith)

flag-kept : (flags : List Bool) (n k : ℕ) → (n ≡ k → ⊥)
    → slice_index_or (slice_set flags n true) k false ≡ slice_index_or flags k false
flag-kept [] n k apart = refl
flag-kept (flag ∷ flags) zero zero apart = absurd (apart refl)
flag-kept (flag ∷ flags) zero (suc k) apart = refl
flag-kept (flag ∷ flags) (suc n) zero apart = refl
flag-kept (flag ∷ flags) (suc n) (suc k) apart = flag-kept flags n k (λ same. apart (ap suc same))

flags-count : (flags : List Bool) (n : ℕ) → length (slice_set flags n true) ≡ length flags
flags-count [] n = refl
flags-count (flag ∷ flags) zero = refl
flags-count (flag ∷ flags) (suc n) = ap suc (flags-count flags n)

pub flags-more : (flags : List Bool) (names : List ℕ) (n : ℕ) → n < 64 → Flags flags names
    → Flags (slice_set flags n true) (n ∷ names)
flags-more flags names n few were =
    record { count = flags-count flags n ∙ were.count; each = λ k below. which k below (n == k) refl }
  where
    which : (k : ℕ) → k < 64 → (b : Bool) → (n == k) ≡ b
        → slice_index_or (slice_set flags n true) k false ≡ (n == k) || is_among k names
    which k below true is =
        subst (λ (j : ℕ). slice_index_or (slice_set flags n true) j false ≡ true) (eqb-true n k is)
        (flag-set flags n (let count = were.count in omega (arith, count, few)))
        ∙ sym (ap (λ (b : Bool). b || is_among k names) is)
    which k below false is =
        flag-kept flags n k (eqb-false n k is) ∙ were.each k below ∙ sym (ap (λ (b : Bool). b || is_among k names) is)

-- Putting items

pub overwrites-end : (program : Program) (globals others : List (List ℤ)) (words : List ℤ)
    → Overwrites program globals words others
    → listed_item program.items words ≡ None → globals ≡ others
overwrites-end program globals others words holds none = by-size holds.count holds.are
  where
    by-size : (n : ℕ) → items_in program n holds.named globals words ≡ Some (others, []) → globals ≡ others
    by-size zero are = ap (λ (p : List (List ℤ) × List ℤ). p.0) (same_Some _ _ are)
    by-size (suc n) are = let stop = item-stop program holds.named globals (suc n) n words refl none in absurd (cc)

pub overwrites-more : (program : Program) (globals others : List (List ℤ)) (words : List ℤ) (number : ℕ)
    (found rest : List ℤ) → Overwrites program globals words others
    → listed_item program.items words ≡ Some ((number, found), rest)
    → Overwrites program (slice_set globals number found) rest others
overwrites-more program globals others words number found rest holds is = by-size holds.count holds.are
  where
    nothing : words ≡ [] → listed_item program.items words ≡ None
    nothing empty = ap (listed_item program.items) empty

    by-size : (n : ℕ) → items_in program n holds.named globals words ≡ Some (others, [])
        → Overwrites program (slice_set globals number found) rest others
    by-size zero are =
        let none = nothing (ap (λ (p : List (List ℤ) × List ℤ). p.1) (same_Some _ _ are)) in absurd (cc)
    by-size (suc n) are = which (is_among number holds.named) refl
      where
        which : (b : Bool) → is_among number holds.named ≡ b
            → Overwrites program (slice_set globals number found) rest others
        which true old = let again = item-again program holds.named globals (suc n) n words number found rest refl is
            old in absurd (cc)
        which false new = record {
          count = n;
          named = number ∷ holds.named;
          are = sym (item-turn program holds.named globals (suc n) n words number found rest refl is new) ∙ are;
        }

-- Words that go over those of a global

past-end : (words : List ℤ) → drop (length words) words ≡ []
past-end [] = refl
past-end (word ∷ words) = past-end words

over-whole : (found old : List ℤ) → length found ≡ length old → found ++ drop (length found) old ≡ found
over-whole found old same =
    ap (λ (n : ℕ). found ++ drop n old) same ∙ ap (λ (ws : List ℤ). found ++ ws) (past-end old) ∙ append-nil found

words-at : (globals : List (List ℤ)) (k : ℕ) (other : List ℤ) → k < length globals
    → words_of globals k ≡ slice_index_or globals k other
words-at [] k other there = absurd (omega arith)
words-at (words ∷ globals) zero other there = refl
words-at (words ∷ globals) (suc k) other there = words-at globals k other (omega arith)

item-width : (items : List Item) (globals : List (List ℤ)) (number : ℕ) (item : Option Item) (words found rest : List ℤ)
    → sizes_of globals ≡ map (λ (item : Item). width item.shape) items → slice_get items number ≡ item
    → item_in [] number item words ≡ Some (found, rest) → length found ≡ length (words_of globals number)
item-width items globals number None words found rest sizes there is = absurd (cc)
item-width items globals number (Some item) words found rest sizes there is = by-words (has_words item.shape) is
  where
    by-words : (b : Bool) → (if b && true then words_in (width item.shape) words else None) ≡ Some (found, rest)
        → length found ≡ length (words_of globals number)
    by-words true is =
        (words-stood (width item.shape) words found rest is).1 ∙ sym (size-of globals items number item sizes there)
    by-words false is = absurd (cc)

pub as-many : (program : Program) (globals : List (List ℤ)) → sizes_of globals ≡ widths_of program
    → length globals ≡ length program.items
as-many program globals sizes =
    sym (length-map globals (λ (words : List ℤ). length words)) ∙ ap length sizes
    ∙ length-map program.items (λ (item : Item). width item.shape)

pub found-width : (program : Program) (globals : List (List ℤ)) (words : List ℤ) (number : ℕ)
    (found rest other : List ℤ)
    → sizes_of globals ≡ widths_of program → listed_item program.items words ≡ Some ((number, found), rest)
    → number < length globals
    → length found ≡ length (slice_index_or globals number other)
found-width program globals words number found rest other sizes is there =
    let listed = listed-is program [] globals words number found rest is in
    item-width program.items globals number (slice_get program.items number) listed.left found rest sizes refl
    listed.item
    ∙ ap length (words-at globals number other there)

pub put-one : (program : Program) (globals : List (List ℤ)) (words : List ℤ) (number place : ℕ)
    (found rest other new : List ℤ)
    → sizes_of globals ≡ widths_of program → listed_item program.items words ≡ Some ((number, found), rest)
    → place ≡ number → number < length globals
    → new ≡ found ++ drop (length found) (slice_index_or globals place other)
    → (sizes_of (slice_set globals place new) ≡ widths_of program)
    × ((others : List (List ℤ)) → Overwrites program globals words others
    → Overwrites program (slice_set globals place new) rest others)
put-one program globals words number place found rest other new sizes is same there put =
    let long = found-width program globals words number found rest other sizes is there in
    let whole_new : new ≡ found =
    subst (λ (k : ℕ). new ≡ found ++ drop (length found) (slice_index_or globals k other)) same put
    ∙ over-whole found (slice_index_or globals number other) long in
    let sized : length found ≡ length (words_of globals number) =
    long ∙ sym (ap length (words-at globals number other there)) in
    subst (λ (k : ℕ). (sizes_of (slice_set globals k new) ≡ widths_of program)
    × ((others : List (List ℤ)) → Overwrites program globals words others
    → Overwrites program (slice_set globals k new) rest others)) (sym same)
    (subst (λ (ws : List ℤ). (sizes_of (slice_set globals number ws) ≡ widths_of program)
    × ((others : List (List ℤ)) → Overwrites program globals words others
    → Overwrites program (slice_set globals number ws) rest others)) (sym whole_new) (
      set-sizes globals number found sized ∙ sizes,
      λ others holds. overwrites-more program globals others words number found rest holds is,
    ))
