-- An item without faults can be declared after those before it, and has the words of its shape.
use Rattle.std.proofs.Common.{◌≡◌, ℕ, ◌+◌, Bool, true, false, nat_le, nat_lt, List, [], length, refl, sym, ap, ◌∙◌}
use Rattle.std.proofs.Common.{subst, if◌then◌else◌}
use Rattle.std.specs.Prelude.{ℤ, int_lt, Option, Some, None, option_map}
use Rattle.std.proofs.lemmas.Bool.{true≢false}
use Rattle.tal_tokens.specs.declared.token.At.{At}
use Rattle.tal_tree.specs.declared.program.Item.{Item}
use Rattle.tal_tree.specs.Shapes.{width}
use Rattle.tal_tree.specs.declared.program.Shape.{Shape}
use Rattle.tal_tree.specs.declared.program.Shape.TheVariants as shape
use Rattle.tal_syntax.specs.Grammar as g
use Rattle.tal_names.specs.declared.fault.Rule.TheVariants.{Unknown, Twice, WrongKind, Limit}
use Rattle.tal_names.specs.declared.meaning.Meaning.{Meaning}
use Rattle.tal_names.specs.declared.meaning.Meaning.TheVariants as m
use Rattle.tal_declarations.specs.declared.table.Declared.{Declared}
use Rattle.tal_declarations.specs.declared.table.Extent.{Extent}
use Rattle.tal_names.specs.Faults.{fault_at, if_so}
use Rattle.tal_declarations.specs.Globals.{is_taken, taken_faults, bounds_faults, extent_of, array_by, bounds_by}
use Rattle.tal_declarations.specs.Globals.{is_reversed, negated, constant_value, constant_meaning, constant_faults}
use Rattle.tal_declarations.specs.Globals.{first_of_constant, atom_faults, atom_value, literal_faults, literal_value}
use Rattle.tal_declarations.specs.Globals.{item_limits, item_faults}
use Rattle.tal_names.specs.Names.{Declarations}
use Rattle.tal_faultless.proofs.Common.Faultless.{refuted, three}
use Rattle.tal_tree.specs.declared.limit.ProgramLimit.TheVariants as program_limit

-- what a shape is declared with: how many words it takes
abbrev pub extent_by : Shape → Extent
extent_by shape.Simple = record { shape = shape.Simple; words = 1 }
extent_by (shape.Array low high) = record { shape = shape.Array low high; words = width (shape.Array low high) }
extent_by (shape.File number) = record { shape = shape.Simple; words = 1 }

-- an array has ordered bounds, and no item is declared as the variable of a file
abbrev pub IsOrdered : Shape → Type 0
IsOrdered shape.Simple = Unit {0}
IsOrdered (shape.Array low high) = int_lt high low ≡ false
IsOrdered (shape.File number) = ⊥

-- an item that can be declared after others
pub record IsDeclarable (d : Declared) (i : Item) : Type 0 where
  pub free : is_taken d.names i.name ≡ false
  pub is_ordered : IsOrdered i.shape
  pub few : nat_le 64 (length d.items) ≡ false
  pub room : nat_lt 1024 (d.words + (extent_by i.shape).words) ≡ false
  pub small : nat_lt 256 (extent_by i.shape).words ≡ false

-- a shape that bounds have where they have no fault
record Shaped (x : Extent) : Type 0 where
  is : x ≡ extent_by x.shape
  fine : IsOrdered x.shape

-- constants without a fault have values
abbrev HasValue : Option ℤ → Type 0
HasValue o = (value : ℤ) × (o ≡ Some value)

literal_has : (at : At) (o : Option Meaning) → literal_faults at o ≡ [] → HasValue (literal_value o)
literal_has at (Some (m.Literal value)) fine = (value, refl)
literal_has at None fine = absurd (true≢false (refuted true at Unknown fine))
literal_has at (Some _) fine = absurd (true≢false (refuted true at WrongKind fine))

atom_has : (a : g.Atom) (o : Option Meaning) → atom_faults a o ≡ [] → HasValue (atom_value a o)
atom_has (g.digits at value) o fine = (value, refl)
atom_has (g.known at name) o fine = literal_has at o fine

constant_has : (c : g.Constant) (o : Option Meaning) → constant_faults c o ≡ [] → HasValue (constant_value c o)
constant_has (g.positive a) o fine = atom_has a o fine
constant_has (g.negative sign a) o fine =
    let v = atom_has a o fine in
    (negated v.0, ap (option_map negated) v.1)

-- bounds without a fault make a shape with ordered bounds
array_shaped : (a b : Option ℤ) → HasValue a → HasValue b → is_reversed a b ≡ false → Shaped (array_by (bounds_by a b))
array_shaped a b low high fine =
    let not_reversed : int_lt high.0 low.0 ≡ false = sym (λ i. is_reversed (low.1 i) (high.1 i)) ∙ fine in
    let is : array_by (bounds_by a b) ≡ extent_by (shape.Array low.0 high.0) =
    (λ i. array_by (bounds_by (low.1 i) (high.1 i)))
    ∙ ap (λ t. array_by (if t then None else Some (low.0, high.0))) not_reversed in
    subst Shaped (sym is) (record { is = refl; fine = not_reversed })

shaped : (names : Declarations) (b : g.Bounds) → bounds_faults names b ≡ [] → Shaped (extent_of names b)
shaped names g.unbounded fine = record { is = refl; fine = tt }
shaped names (g.bounded start low colon high close) fine =
    let reversed : Bool = is_reversed (constant_value low (constant_meaning names low))
    (constant_value high (constant_meaning names high)) in
    let parts =
    three (constant_faults low (constant_meaning names low)) (constant_faults high (constant_meaning names high))
    (if_so reversed (fault_at (first_of_constant high) WrongKind)) fine in
    array_shaped (constant_value low (constant_meaning names low)) (constant_value high (constant_meaning names high))
    (constant_has low (constant_meaning names low) parts.0) (constant_has high (constant_meaning names high) parts.1)
    (refuted reversed (first_of_constant high) WrongKind parts.2)

-- an item of this name and extent
pub record DeclaresItem (d : Declared) (name : List ℕ) (x : Extent) : Type 0 where
  pub is : x ≡ extent_by x.shape
  pub declarable : IsDeclarable d (record { name = name; shape = x.shape })

pub item_declarable : (d : Declared) (at : At) (name : List ℕ) (b : g.Bounds) → item_faults d (g.item at name b) ≡ []
    → DeclaresItem d name (extent_of d.names b)
item_declarable d at name b fine =
    let x : Extent = extent_of d.names b in
    let parts = three (taken_faults d.names at name) (bounds_faults d.names b) (item_limits d at x.words) fine in
    let s = shaped d.names b parts.1 in
    let sizes =
    three (if_so (nat_le 64 (length d.items)) (fault_at at (Limit program_limit.Globals)))
    (if_so (nat_lt 1024 (d.words + x.words)) (fault_at at (Limit program_limit.GlobalWords)))
    (if_so (nat_lt 256 x.words) (fault_at at (Limit program_limit.ArrayWords))) parts.2 in
    record {
      is = s.is;
      declarable = record {
        free = refuted (is_taken d.names name) at Twice parts.0;
        is_ordered = s.fine;
        few = refuted (nat_le 64 (length d.items)) at (Limit program_limit.Globals) sizes.0;
        room = sym (ap (λ e. nat_lt 1024 (d.words + e.words)) s.is)
            ∙ refuted (nat_lt 1024 (d.words + x.words)) at (Limit program_limit.GlobalWords) sizes.1;
        small = sym (ap (λ e. nat_lt 256 e.words) s.is) ∙ refuted (nat_lt 256 x.words) at
            (Limit program_limit.ArrayWords) sizes.2;
      };
    }
