-- What the names that the lines of globals and the headings declare stand for, where these have no fault.
use Rattle.std.proofs.Common.{◌≡◌, ℕ, ◌+◌, ℤ, pos, min, nat_le, nat_lt, not, ◌&&◌, ◌==◌, Bool, false, List, [], ◌∷◌}
use Rattle.std.proofs.Common.{◌++◌, length, slice_get, is_some, Option, Some, None, unwrap_or, ◌⊎◌, inl, inr, refl, sym}
use Rattle.std.proofs.Common.{ap, ◌∙◌, subst, arith, append_assoc, append-nil, length-append}
use Rattle.tal_tokens.specs.declared.token.At.{At}
use Rattle.tal_syntax.specs.Grammar as g
use Rattle.tal_tree.specs.declared.program.Item.{Item}
use Rattle.tal_tree.specs.declared.program.Shape.{Shape}
use Rattle.tal_tree.specs.declared.program.Shape.TheVariants as shape
use Rattle.tal_names.specs.declared.fault.Rule.TheVariants.{Twice, Limit}
use Rattle.tal_names.specs.declared.fault.RuleFault.{RuleFault}
use Rattle.tal_names.specs.declared.meaning.Meaning.{Meaning}
use Rattle.tal_names.specs.declared.meaning.Meaning.TheVariants as m
use Rattle.tal_declarations.specs.declared.table.Declared.{Declared}
use Rattle.tal_declarations.specs.declared.table.Headed.{Headed}
use Rattle.tal_names.specs.Faults.{fault_at, if_so}
use Rattle.tal_declarations.specs.Globals.{is_taken, taken_faults, bounds_faults, item_limits, constant_value}
use Rattle.tal_declarations.specs.Globals.{constant_meaning, bounds_by, array_by, extent_of, item_meaning, with_item}
use Rattle.tal_declarations.specs.Globals.{item_faults, with_literal, items_faults, with_items, with_literals}
use Rattle.tal_declarations.specs.Globals.{line_faults, with_line, lines_faults, with_lines, nothing_declared}
use Rattle.tal_declarations.specs.Headings.{heading_of, heading_faults, with_heading, headings_faults, with_headings}
use Rattle.tal_declarations.specs.Headings.{main_faults, parameters_of, does_give}
use Rattle.tal_names.specs.Names.{Declarations, meaning_in, is_declared, with_name}
use Rattle.tal_names.specs.Systems.{system_of}
use Rattle.tal_meaning.specs.tal_rules.specs.Texts.{headed_after, headed_text}
use Rattle.tal_meaning.specs.Programs.{name_by}
use Rattle.tal_faultless.proofs.Scopes.Declared.{meaning_kept, meaning_new, meaning_with, with_free_procedure}
use Rattle.tal_faultless.proofs.Common.Limits.{limit_is, min_is}
use Rattle.std.proofs.lemmas.Bool.{leb-false, or_parts}
use Rattle.tal_faultless.proofs.Common.Faultless.{first_nil, second_nil, refuted}
use Rattle.tal_faultless.proofs.Common.Entries.{none_of, get_front, get_last, get_either}
use Rattle.tal_tree.specs.declared.limit.ProgramLimit.TheVariants as program_limit

-- what a name is declared as among the globals is an item or a procedure of this name
abbrev pub Means : List Item → List (List ℕ) → List ℕ → Meaning → Type 0
Means items procedures name (m.Literal value) = Unit {0}
Means items procedures name (m.Simple item) = slice_get items item ≡ Some (record { name = name; shape = shape.Simple })
Means items procedures name (m.Array item) =
    (low high : ℤ) × (slice_get items item ≡ Some (record { name = name; shape = shape.Array low high }))
Means items procedures name (m.Procedure number gives count) = slice_get procedures number ≡ Some name
Means items procedures name _ = ⊥

-- these names are the ones of these items and procedures, and each item that isn't simple is declared as an array
pub record AreGlobals (names : Declarations) (items : List Item) (procedures : List (List ℕ)) : Type 0 where
  pub means : (name : List ℕ) (x : Meaning) → meaning_in name names ≡ Some x → Means items procedures name x
  pub listed : (k : ℕ) (i : Item) → slice_get items k ≡ Some i
      → (i.shape ≡ shape.Simple) ⊎ ((item : ℕ) × (meaning_in i.name names ≡ Some (m.Array item)))

-- with more items and procedures
means_front : (items more_items : List Item) (procedures more : List (List ℕ)) (name : List ℕ) (x : Meaning)
    → Means items procedures name x
    → Means (items ++ more_items) (procedures ++ more) name x
means_front items more_items procedures more name (m.Literal value) e = tt
means_front items more_items procedures more name (m.Simple item) e = get_front items more_items item _ e
means_front items more_items procedures more name (m.Array item) e = (e.0, e.1, get_front items more_items item _ e.2)
means_front items more_items procedures more name (m.Procedure number gives count) e =
    get_front procedures more number name e
means_front items more_items procedures more name (m.Local place) e = e
means_front items more_items procedures more name (m.ReceiveFile item number) e = e
means_front items more_items procedures more name (m.ProcessFile item number) e = e
means_front items more_items procedures more name (m.StrayFile item number) e = e

-- with one more name
listed_kept : (names : Declarations) (i : Item) (name : List ℕ) (x : Meaning)
    → (i.shape ≡ shape.Simple) ⊎ ((item : ℕ) × (meaning_in i.name names ≡ Some (m.Array item)))
    → (i.shape ≡ shape.Simple) ⊎ ((item : ℕ) × (meaning_in i.name (with_name names name x) ≡ Some (m.Array item)))
listed_kept names i name x (inl e) = inl e
listed_kept names i name x (inr e) = inr (e.0, meaning_kept i.name names name (m.Array e.0) x e.1)

-- the shapes that lines of globals declare
abbrev IsPlain : Shape → Type 0
IsPlain shape.Simple = Unit {0}
IsPlain (shape.Array low high) = Unit {0}
IsPlain (shape.File number) = ⊥

array_plain : (bounds : Option (ℤ × ℤ)) → IsPlain (array_by bounds).shape
array_plain None = tt
array_plain (Some (low, high)) = tt

extent_plain : (names : Declarations) (bounds : g.Bounds) → IsPlain (extent_of names bounds).shape
extent_plain names g.unbounded = tt
extent_plain names (g.bounded start low colon high close) =
    array_plain (bounds_by (constant_value low (constant_meaning names low))
    (constant_value high (constant_meaning names high)))

abbrev item_of : List ℕ → Shape → Item
item_of name form = record { name = name; shape = form }

-- the item that is declared last
last_means : (items : List Item) (name : List ℕ) (form : Shape) → IsPlain form → nat_le 64 (length items) ≡ false
    → Means (items ++ item_of name form ∷ []) [] name (item_meaning form (length items))
last_means items name shape.Simple plain few =
    rw (limit_is 64 (length items) few) (get_last items (item_of name shape.Simple))
last_means items name (shape.Array low high) plain few =
    (low, high, rw (limit_is 64 (length items) few) (get_last items (item_of name (shape.Array low high))))
last_means items name (shape.File number) plain few = absurd plain

last_listed : (names : Declarations) (items : List Item) (name : List ℕ) (form : Shape) → IsPlain form
    → is_declared name names ≡ false
    → (form ≡ shape.Simple) ⊎ ((item : ℕ) × (meaning_in name (with_name names name (item_meaning form (length items)))
    ≡ Some (m.Array item)))
last_listed names items name shape.Simple plain new = inl refl
last_listed names items name (shape.Array low high) plain new =
    inr (min 64 (length items), meaning_new name names (m.Array (min 64 (length items))) new)
last_listed names items name (shape.File number) plain new = absurd plain

with_one_item : (names : Declarations) (items : List Item) (name : List ℕ) (form : Shape) → IsPlain form
    → is_declared name names ≡ false → nat_le 64 (length items) ≡ false
    → AreGlobals names items [] → AreGlobals (with_name names name (item_meaning form (length items)))
    (items ++ item_of name form ∷ []) []
with_one_item names items name form plain new few a = record {
  means = λ other x e. means_by other x (meaning_with other names name (item_meaning form (length items)) x e);
  listed = λ k i e. listed_by k i (get_either items (item_of name form) i k e);
}
  where
    means_by : (other : List ℕ) (x : Meaning)
        → (meaning_in other names ≡ Some x) ⊎ ((other ≡ name) × (item_meaning form (length items) ≡ x))
        → Means (items ++ item_of name form ∷ []) [] other x
    means_by other x (inl e) = means_front items (item_of name form ∷ []) [] [] other x (a.means other x e)
    means_by other x (inr e) = subst (λ n. Means (items ++ item_of name form ∷ []) [] n x) (sym e.0)
        (subst (λ y. Means (items ++ item_of name form ∷ []) [] name y) e.1 (last_means items name form plain few))

    listed_by : (k : ℕ) (i : Item) → (slice_get items k ≡ Some i) ⊎ ((k ≡ length items) × (item_of name form ≡ i))
        → (i.shape ≡ shape.Simple) ⊎ ((item : ℕ)
        × (meaning_in i.name (with_name names name (item_meaning form (length items))) ≡ Some (m.Array item)))
    listed_by k i (inl e) = listed_kept names i name (item_meaning form (length items)) (a.listed k i e)
    listed_by k i (inr e) =
        subst (λ (j : Item). (j.shape ≡ shape.Simple)
        ⊎ ((item : ℕ) × (meaning_in j.name (with_name names name (item_meaning form (length items)))
        ≡ Some (m.Array item)))) e.1
        (last_listed names items name form plain new)

with_one_literal : (names : Declarations) (items : List Item) (name : List ℕ) (value : ℤ) → AreGlobals names items []
    → AreGlobals (with_name names name (m.Literal value)) items []
with_one_literal names items name value a = record {
  means = λ other x e. means_by other x (meaning_with other names name (m.Literal value) x e);
  listed = λ k i e. listed_kept names i name (m.Literal value) (a.listed k i e);
}
  where
    means_by : (other : List ℕ) (x : Meaning)
        → (meaning_in other names ≡ Some x) ⊎ ((other ≡ name) × (m.Literal value ≡ x)) → Means items [] other x
    means_by other x (inl e) = a.means other x e
    means_by other x (inr e) = subst (λ y. Means items [] other y) e.1 tt

-- the lines of globals
abbrev AreItems : Declared → Type 0
AreItems d = AreGlobals d.names d.items []

-- a name that may be declared
pub free_name : (names : Declarations) (at : At) (name : List ℕ) → taken_faults names at name ≡ []
    → is_taken names name ≡ false
free_name names at name e = refuted (is_taken names name) at Twice e

pub not_taken : (names : Declarations) (at : At) (name : List ℕ) → taken_faults names at name ≡ []
    → (system_of name ≡ None) × (is_declared name names ≡ false)
not_taken names at name e =
    let parts = or_parts (is_some (system_of name)) (is_declared name names) (free_name names at name e) in
    (none_of (system_of name) parts.0, parts.1)

item_globals : (d : Declared) (i : g.Item) → item_faults d i ≡ [] → AreItems d → AreItems (with_item d i)
item_globals d (g.item at name bounds) e a =
    with_one_item d.names d.items name (extent_of d.names bounds).shape (extent_plain d.names bounds)
    (not_taken d.names at name (first_nil taken misfits (first_nil (taken ++ misfits) limits e))).1
    (refuted (nat_le 64 (length d.items)) at (Limit program_limit.Globals)
    (first_nil many large (first_nil (many ++ large) long (second_nil (taken ++ misfits) limits e))))
    a
  where
    words : ℕ
    words = (extent_of d.names bounds).words

    taken : List RuleFault
    taken = taken_faults d.names at name

    misfits : List RuleFault
    misfits = bounds_faults d.names bounds

    limits : List RuleFault
    limits = item_limits d at words

    many : List RuleFault
    many = if_so (nat_le 64 (length d.items)) (fault_at at (Limit program_limit.Globals))

    large : List RuleFault
    large = if_so (nat_lt 1024 (d.words + words)) (fault_at at (Limit program_limit.GlobalWords))

    long : List RuleFault
    long = if_so (nat_lt 256 words) (fault_at at (Limit program_limit.ArrayWords))

literal_globals : (d : Declared) (l : g.Literal) → AreItems d → AreItems (with_literal d l)
literal_globals d (g.literal at name equal c) a =
    with_one_literal d.names d.items name (unwrap_or (constant_value c (constant_meaning d.names c)) (pos 0)) a

items_globals : (d : Declared) (more : g.Items) → items_faults d more ≡ [] → AreItems d → AreItems (with_items d more)
items_globals d g.no_items e a = a
items_globals d (g.more_items comma i rest) e a =
    items_globals (with_item d i) rest (second_nil (item_faults d i) _ e)
    (item_globals d i (first_nil (item_faults d i) _ e) a)

literals_globals : (d : Declared) (more : g.Literals) → AreItems d → AreItems (with_literals d more)
literals_globals d g.no_literals a = a
literals_globals d (g.more_literals comma l rest) a = literals_globals (with_literal d l) rest (literal_globals d l a)

line_globals : (d : Declared) (l : g.Globals) → line_faults d l ≡ [] → AreItems d → AreItems (with_line d l)
line_globals d (g.int_line int first more end) e a =
    items_globals (with_item d first) more (second_nil (item_faults d first) _ e)
    (item_globals d first (first_nil (item_faults d first) _ e) a)
line_globals d (g.literal_line word first more end) e a =
    literals_globals (with_literal d first) more (literal_globals d first a)

lines_globals : (d : Declared) (lines : g.Lines) → lines_faults d lines ≡ [] → AreItems d
    → AreItems (with_lines d lines)
lines_globals d g.no_lines e a = a
lines_globals d (g.more_lines l rest) e a =
    lines_globals (with_line d l) rest (second_nil (line_faults d l) _ e)
    (line_globals d l (first_nil (line_faults d l) _ e) a)

-- the procedures' names in order
abbrev pub heading_names : g.Procedures → List (List ℕ)
heading_names g.no_procedures = []
heading_names (g.more_procedures p rest) = name_by (heading_of p) ∷ heading_names rest

-- the names with those of the headings so far, which are as many as are counted
record AreHeaded (h : Headed) (items : List Item) (procedures : List (List ℕ)) : Type 0 where
  globals : AreGlobals h.names items procedures
  count : h.count ≡ length procedures

with_one_procedure : (names : Declarations) (items : List Item) (procedures : List (List ℕ)) (name : List ℕ)
    (gives : Bool) (count : ℕ)
    → AreGlobals names items procedures → AreGlobals
    (with_name names name (m.Procedure (length procedures) gives count)) items (procedures ++ name ∷ [])
with_one_procedure names items procedures name gives count a = record {
  means = λ other x e. means_by other x (meaning_with other names name (m.Procedure (length procedures) gives count) x
      e);
  listed = λ k i e. listed_kept names i name (m.Procedure (length procedures) gives count) (a.listed k i e);
}
  where
    means_by : (other : List ℕ) (x : Meaning)
        → (meaning_in other names ≡ Some x) ⊎ ((other ≡ name) × (m.Procedure (length procedures) gives count ≡ x))
        → Means items (procedures ++ name ∷ []) other x
    means_by other x (inl e) = subst (λ l. Means l (procedures ++ name ∷ []) other x) (append-nil items)
        (means_front items [] procedures (name ∷ []) other x (a.means other x e))
    means_by other x (inr e) = subst (λ n. Means items (procedures ++ name ∷ []) n x) (sym e.0)
        (subst (λ y. Means items (procedures ++ name ∷ []) name y) e.1 (get_last procedures name))

heading_globals : (h : Headed) (items : List Item) (procedures : List (List ℕ)) (x : g.Heading)
    → heading_faults h x ≡ [] → AreHeaded h items procedures
    → AreHeaded (with_heading h x) items (procedures ++ name_by x ∷ [])
heading_globals h items procedures (g.heading gives proc at name listed main end) e a =
    let taken : List RuleFault = taken_faults h.names at name in
    let few : List RuleFault = if_so (nat_le 64 h.count) (fault_at at (Limit program_limit.Procedures)) in
    let mains : List RuleFault =
    main_faults (is_some h.main) at (not (does_give gives) && (length (parameters_of listed) == 0)) main in
    let free = free_name h.names at name (first_nil taken few (first_nil (taken ++ few) mains e)) in
    record {
      globals = subst (λ names. AreGlobals names items (procedures ++ name ∷ []))
          (sym (with_free_procedure h.names name (m.Procedure h.count (does_give gives)
          (length (parameters_of listed))) free))
          (subst (λ n. AreGlobals (with_name h.names name
          (m.Procedure n (does_give gives) (length (parameters_of listed)))) items (procedures ++ name ∷ []))
          (sym a.count)
          (with_one_procedure h.names items procedures name (does_give gives) (length (parameters_of listed))
          a.globals));
      count =
          min_is 64 (h.count + 1) (omega (
            arith,
            leb-false 64 h.count
                (refuted (nat_le 64 h.count) at (Limit program_limit.Procedures)
                (second_nil taken few (first_nil (taken ++ few) mains e))),
          ))
          ∙ ap (λ n. n + 1) a.count ∙ sym (length-append procedures (name ∷ []));
    }

headings_globals : (h : Headed) (items : List Item) (procedures : List (List ℕ)) (ps : g.Procedures)
    → headings_faults h ps ≡ [] → AreHeaded h items procedures
    → AreGlobals (with_headings h ps).names items (procedures ++ heading_names ps)
headings_globals h items procedures g.no_procedures e a =
    subst (λ l. AreGlobals h.names items l) (sym (append-nil procedures)) a.globals
headings_globals h items procedures (g.more_procedures p rest) e a =
    subst (λ l. AreGlobals (with_headings (with_heading h (heading_of p)) rest).names items l)
    (append_assoc procedures (name_by (heading_of p) ∷ []) (heading_names rest))
    (headings_globals (with_heading h (heading_of p)) items (procedures ++ name_by (heading_of p) ∷ []) rest
    (second_nil (heading_faults h (heading_of p)) _ e)
    (heading_globals h items procedures (heading_of p) (first_nil (heading_faults h (heading_of p)) _ e) a))

-- the names of a text's globals and procedures
pub global_names : (lines : g.Lines) (ps : g.Procedures) → lines_faults nothing_declared lines ≡ []
    → headings_faults (headed_after (with_lines nothing_declared lines)) ps ≡ []
    → AreGlobals (headed_text lines ps).names (with_lines nothing_declared lines).items (heading_names ps)
global_names lines ps e d =
    headings_globals (headed_after (with_lines nothing_declared lines)) (with_lines nothing_declared lines).items [] ps
    d
    (record {
      globals = lines_globals nothing_declared lines e
          (record { means = λ name x there. absurd (cc there); listed = λ k i there. absurd (cc there) });
      count = refl;
    })
