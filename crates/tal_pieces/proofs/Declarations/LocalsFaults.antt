-- The faults of parameters and locals by their names alone: where a text's have none, the printed text's have none.
use Rattle.std.proofs.Common.{◌≡◌, ℕ, ◌+◌, ◌≤◌, Bool, true, false, not, ◌||◌, nat_le, min, List, [], ◌∷◌, length, refl}
use Rattle.std.proofs.Common.{sym, ap, ◌∙◌, arith, subst}
use Rattle.std.proofs.lemmas.Bool.{true≢false, or_parts, or_from, not-false, leb-false}
use Rattle.tal_names.specs.declared.fault.Rule.TheVariants.{Unknown, Twice, Limit}
use Rattle.tal_names.specs.declared.meaning.Meaning.TheVariants as m
use Rattle.tal_names.specs.declared.scope.Named.{Named}
use Rattle.tal_names.specs.Faults.{fault_at, if_so}
use Rattle.tal_declarations.specs.Globals.{is_taken, taken_faults}
use Rattle.tal_declarations.specs.Headings.{with_local, with_locals, count_faults, parameter_faults, parameters_faults}
use Rattle.tal_declarations.specs.Headings.{outer_faults, one_inner_faults, inner_faults, locals_faults}
use Rattle.tal_names.specs.Names.{Declarations, is_declared}
use Rattle.tal_meaning.specs.Programs.{texts_of}
use Rattle.tal_pieces.proofs.Scopes.DeclaredNames.{stays, is_there, fresh_of_free, one_more}
use Rattle.tal_faultless.proofs.Common.Faultless.{nils, first_nil, second_nil, refuted, silent, three}
use Rattle.tal_tree.specs.declared.limit.ProgramLimit.TheVariants as program_limit

-- with these names declared as locals
abbrev pub with_texts : Declarations → List (List ℕ) → Declarations
with_texts ds [] = ds
with_texts ds (name ∷ rest) = with_texts (with_local ds name) rest

pub by_texts : (ds : Declarations) (ns : List Named) → with_locals ds ns ≡ with_texts ds (texts_of ns)
by_texts ds [] = refl
by_texts ds (n ∷ ns) = by_texts (with_local ds n.name) ns

-- names that can be parameters after others, where those before BEGIN are these
abbrev pub AreParameters : Declarations → Declarations → List (List ℕ) → Type 0
AreParameters outer before [] = Unit {0}
AreParameters outer before (name ∷ rest) =
    (is_taken before name ≡ false) × (is_declared name outer ≡ true) × (nat_le 12 (length before) ≡ false)
    × AreParameters outer (with_local before name) rest

-- names that can stand before BEGIN after others, where the parameters are these
abbrev pub AreOuter : Declarations → Declarations → List (List ℕ) → Type 0
AreOuter parameters before [] = Unit {0}
AreOuter parameters before (name ∷ rest) =
    (is_taken before name ≡ false) × (is_declared name parameters ≡ true)
    × AreOuter parameters (with_local before name) rest

-- names that can stand after BEGIN after others
abbrev pub AreInner : Declarations → Declarations → List (List ℕ) → Type 0
AreInner outer before [] = Unit {0}
AreInner outer before (name ∷ rest) =
    (is_taken before name ≡ false) × (is_declared name outer ≡ false) × (nat_le 12 (length before) ≡ false)
    × AreInner outer (with_local before name) rest

-- from faults to names
are_parameters : (outer before : Declarations) (ns : List Named) → parameters_faults outer before ns ≡ []
    → AreParameters outer before (texts_of ns)
are_parameters outer before [] fine = tt
are_parameters outer before (n ∷ ns) fine =
    let one = first_nil (parameter_faults outer before n) (parameters_faults outer (with_local before n.name) ns)
    fine in
    let parts = three (taken_faults before n.at n.name)
    (if_so (not (is_declared n.name outer)) (fault_at n.at Unknown)) (count_faults before n.at) one in (
      refuted (is_taken before n.name) n.at Twice parts.0,
      not-false (is_declared n.name outer) (refuted (not (is_declared n.name outer)) n.at Unknown parts.1),
      refuted (nat_le 12 (length before)) n.at (Limit program_limit.Locals) parts.2,
      are_parameters outer (with_local before n.name) ns
          (second_nil (parameter_faults outer before n) (parameters_faults outer (with_local before n.name) ns) fine),
    )

are_inner : (outer before : Declarations) (ns : List Named) → inner_faults outer before ns ≡ []
    → AreInner outer before (texts_of ns)
are_inner outer before [] fine = tt
are_inner outer before (n ∷ ns) fine =
    let taken : Bool = is_taken before n.name || is_declared n.name outer in
    let one = first_nil (one_inner_faults outer before n) (inner_faults outer (with_local before n.name) ns) fine in
    let new = or_parts (is_taken before n.name) (is_declared n.name outer)
    (refuted taken n.at Twice (first_nil (if_so taken (fault_at n.at Twice)) (count_faults before n.at) one)) in (
      new.0,
      new.1,
      refuted (nat_le 12 (length before)) n.at (Limit program_limit.Locals)
          (second_nil (if_so taken (fault_at n.at Twice)) (count_faults before n.at) one),
      are_inner outer (with_local before n.name) ns
          (second_nil (one_inner_faults outer before n) (inner_faults outer (with_local before n.name) ns) fine),
    )

-- and back
parameters_fine : (outer before : Declarations) (ns : List Named) → AreParameters outer before (texts_of ns)
    → parameters_faults outer before ns ≡ []
parameters_fine outer before [] h = refl
parameters_fine outer before (n ∷ ns) h =
    nils (nils (nils (silent (is_taken before n.name) n.at Twice h.0)
    (silent (not (is_declared n.name outer)) n.at Unknown (ap not h.1)))
    (silent (nat_le 12 (length before)) n.at (Limit program_limit.Locals) h.2))
    (parameters_fine outer (with_local before n.name) ns h.3)

outer_fine : (parameters before : Declarations) (ns : List Named) → AreOuter parameters before (texts_of ns)
    → outer_faults parameters before ns ≡ []
outer_fine parameters before [] h = refl
outer_fine parameters before (n ∷ ns) h =
    nils (nils (silent (is_taken before n.name) n.at Twice h.0)
    (silent (not (is_declared n.name parameters)) n.at Unknown (ap not h.1)))
    (outer_fine parameters (with_local before n.name) ns h.2)

inner_fine : (outer before : Declarations) (ns : List Named) → AreInner outer before (texts_of ns)
    → inner_faults outer before ns ≡ []
inner_fine outer before [] h = refl
inner_fine outer before (n ∷ ns) h =
    nils (nils (silent (is_taken before n.name || is_declared n.name outer) n.at Twice
    (or_from (is_taken before n.name) (is_declared n.name outer) h.0 h.1))
    (silent (nat_le 12 (length before)) n.at (Limit program_limit.Locals) h.2))
    (inner_fine outer (with_local before n.name) ns h.3)

-- a name that is declared stays declared after more
pub stay : (name : List ℕ) (ds : Declarations) (names : List (List ℕ)) → is_declared name ds ≡ true
    → is_declared name (with_texts ds names) ≡ true
stay name ds [] there = there
stay name ds (other ∷ rest) there =
    stay name (with_local ds other) rest (stays name ds other (m.Local (min 12 (length ds))) there)

-- parameters can be parameters where they themselves stand before BEGIN
parameters_again : (outer before : Declarations) (names : List (List ℕ)) → AreParameters outer before names
    → AreParameters (with_texts before names) before names
parameters_again outer before [] h = tt
parameters_again outer before (name ∷ rest) h = (
  h.0,
  stay name (with_local before name) rest (is_there before name (m.Local (min 12 (length before)))),
  h.2,
  parameters_again outer (with_local before name) rest h.3,
)

-- and can stand before BEGIN
outer_again : (outer before : Declarations) (names : List (List ℕ)) → AreParameters outer before names
    → AreOuter (with_texts before names) before names
outer_again outer before [] h = tt
outer_again outer before (name ∷ rest) h = (
  h.0,
  stay name (with_local before name) rest (is_there before name (m.Local (min 12 (length before)))),
  outer_again outer (with_local before name) rest h.3,
)

-- every name that the first declare is among the second
abbrev Among : Declarations → Declarations → Type 0
Among parameters before = (name : List ℕ) → is_declared name parameters ≡ true → is_declared name before ≡ true

absent : (name : List ℕ) (parameters before : Declarations) → Among parameters before → is_declared name before ≡ false
    → is_declared name parameters ≡ false
absent name parameters before all new = by (is_declared name parameters) refl
  where
    by : (b : Bool) → is_declared name parameters ≡ b → b ≡ false
    by true e = absurd (true≢false (sym (all name e) ∙ new))
    by false e = refl

-- locals after BEGIN can stand there after the parameters alone
inner_again : (outer parameters before : Declarations) (names : List (List ℕ)) → Among parameters before
    → AreInner outer before names → AreInner parameters before names
inner_again outer parameters before [] all h = tt
inner_again outer parameters before (name ∷ rest) all h = (
  h.0,
  absent name parameters before all (fresh_of_free before name h.0),
  h.2,
  inner_again outer parameters (with_local before name) rest
      (λ other there. stays other before name (m.Local (min 12 (length before))) (all other there)) h.3,
)

-- there are at most 12 parameters
few_after : (outer before : Declarations) (names : List (List ℕ)) → AreParameters outer before names
    → length before ≤ 12 → length before + length names ≤ 12
few_after outer before [] h room = omega (arith, room)
few_after outer before (name ∷ rest) h room =
    let more : length (with_local before name) ≡ length before + 1 =
    one_more before name (m.Local (min 12 (length before))) (fresh_of_free before name h.0) in
    let below : length before + 1 ≤ 12 = omega (arith, leb-false 12 (length before) h.2) in
    let later = few_after outer (with_local before name) rest h.3 (omega (arith, more, below)) in
    omega (arith, later, more)

-- the names of a procedure's parameters and locals that have no faults
pub record NamesFine (parameters inner : List (List ℕ)) : Type 0 where
  pub once : AreParameters (with_texts [] parameters) [] parameters
  pub before : AreOuter (with_texts [] parameters) [] parameters
  pub after : AreInner (with_texts [] parameters) (with_texts [] parameters) inner
  pub few : length parameters ≤ 12

-- of locals without faults the parameters can stand before BEGIN in their own order
pub names_fine : (parameters outer inner : List Named) → locals_faults parameters outer inner ≡ []
    → NamesFine (texts_of parameters) (texts_of inner)
names_fine parameters outer inner fine =
    let parts =
    three (parameters_faults (with_locals [] outer) [] parameters) (outer_faults (with_locals [] parameters) [] outer)
    (inner_faults (with_locals [] outer) (with_locals [] parameters) inner) fine in
    let ps = are_parameters (with_locals [] outer) [] parameters parts.0 in
    let is = subst (λ before. AreInner (with_locals [] outer) before (texts_of inner)) (by_texts [] parameters)
    (are_inner (with_locals [] outer) (with_locals [] parameters) inner parts.2) in
    record {
      once = parameters_again (with_locals [] outer) [] (texts_of parameters) ps;
      before = outer_again (with_locals [] outer) [] (texts_of parameters) ps;
      after = inner_again (with_locals [] outer) (with_texts [] (texts_of parameters))
          (with_texts [] (texts_of parameters)) (texts_of inner) (λ name there. there) is;
      few = omega (arith, few_after (with_locals [] outer) [] (texts_of parameters) ps (omega arith));
    }

-- and the other way round
pub locals_fine : (parameters outer inner : List Named) (names more : List (List ℕ)) → texts_of parameters ≡ names
    → texts_of outer ≡ names → texts_of inner ≡ more
    → NamesFine names more → locals_faults parameters outer inner ≡ []
locals_fine parameters outer inner names more ps os is fine =
    let p : with_locals [] parameters ≡ with_texts [] names = by_texts [] parameters ∙ ap (with_texts []) ps in
    let o : with_locals [] outer ≡ with_texts [] names = by_texts [] outer ∙ ap (with_texts []) os in
    nils (nils
    (parameters_fine (with_locals [] outer) [] parameters
    (subst (λ X. X) (λ i. AreParameters (sym o i) [] (sym ps i)) fine.once))
    (outer_fine (with_locals [] parameters) [] outer
    (subst (λ X. X) (λ i. AreOuter (sym p i) [] (sym os i)) fine.before)))
    (inner_fine (with_locals [] outer) (with_locals [] parameters) inner
    (subst (λ X. X) (λ i. AreInner (sym o i) (sym p i) (sym is i)) fine.after))
