-- What the locals of a procedure without faults stand for.
use Rattle.std.proofs.Common.{◌≡◌, ℕ, ◌+◌, min, nat_le, not, ◌||◌, false, List, [], ◌∷◌, ◌++◌, length, slice_get}
use Rattle.std.proofs.Common.{is_some, Some, ◌⊎◌, inl, inr, refl, sym, ap, ◌∙◌, subst, append_assoc, append-nil}
use Rattle.std.proofs.Common.{length-append}
use Rattle.tal_tokens.specs.declared.token.At.{At}
use Rattle.tal_syntax.specs.Grammar as g
use Rattle.tal_names.specs.declared.fault.Rule.TheVariants.{Unknown, Twice, Limit}
use Rattle.tal_names.specs.declared.fault.RuleFault.{RuleFault}
use Rattle.tal_names.specs.declared.meaning.Meaning.{Meaning}
use Rattle.tal_names.specs.declared.meaning.Meaning.TheVariants as m
use Rattle.tal_names.specs.declared.scope.Named.{Named}
use Rattle.tal_names.specs.Faults.{fault_at, if_so}
use Rattle.tal_declarations.specs.Globals.{is_taken, taken_faults}
use Rattle.tal_declarations.specs.Headings.{parameters_of, locals_of, with_local, with_locals, count_faults}
use Rattle.tal_declarations.specs.Headings.{parameter_faults, parameters_faults, outer_faults, one_inner_faults}
use Rattle.tal_declarations.specs.Headings.{inner_faults}
use Rattle.tal_names.specs.Names.{Declarations, meaning_in, is_declared}
use Rattle.tal_names.specs.Systems.{system_of}
use Rattle.tal_meaning.specs.tal_rules.specs.Texts.{locals_by, heading_locals_faults}
use Rattle.tal_meaning.specs.Programs.{parameters_by, texts_of}
use Rattle.tal_faultless.proofs.Scopes.Declared.{meaning_with}
use Rattle.tal_faultless.proofs.Scopes.GlobalNames.{not_taken}
use Rattle.tal_faultless.proofs.Common.Limits.{limit_is}
use Rattle.tal_faultless.proofs.Common.Names.{texts_append}
use Rattle.tal_faultless.proofs.Common.Faultless.{first_nil, second_nil, refuted}
use Rattle.tal_faultless.proofs.Common.Entries.{get_front, get_last}
use Rattle.std.proofs.lemmas.Bool.{or_parts}
use Rattle.tal_tree.specs.declared.limit.ProgramLimit.TheVariants as program_limit

-- a name stands for a local in its place
pub record IsLocal (texts : List (List ℕ)) (name : List ℕ) (x : Meaning) : Type 0 where
  pub place : ℕ
  pub is : x ≡ m.Local place
  pub there : slice_get texts place ≡ Some name

-- these names are the locals of these texts, in order
pub record AreLocals (ds : Declarations) (texts : List (List ℕ)) : Type 0 where
  pub count : length ds ≡ length texts
  pub local : (name : List ℕ) (x : Meaning) → meaning_in name ds ≡ Some x → IsLocal texts name x

-- with one more local
one_local : (ds : Declarations) (texts : List (List ℕ)) (name : List ℕ) → is_declared name ds ≡ false
    → nat_le 12 (length ds) ≡ false
    → AreLocals ds texts → AreLocals (with_local ds name) (texts ++ name ∷ [])
one_local ds texts name new few a = record {
  count = rw new (length-append ds ((name, m.Local (min 12 (length ds))) ∷ []) ∙ ap (λ n. n + 1) a.count
      ∙ sym (length-append texts (name ∷ [])));
  local = λ other x e. by other x (meaning_with other ds name (m.Local (min 12 (length ds))) x e);
}
  where
    is_last : IsLocal (texts ++ name ∷ []) name (m.Local (min 12 (length ds)))
    is_last = record {
      place = length texts;
      is = ap m.Local (limit_is 12 (length ds) few ∙ a.count);
      there = get_last texts name;
    }

    by : (other : List ℕ) (x : Meaning) → (meaning_in other ds ≡ Some x)
        ⊎ ((other ≡ name) × (m.Local (min 12 (length ds)) ≡ x)) → IsLocal (texts ++ name ∷ []) other x
    by other x (inl e) =
        let old : IsLocal texts other x = a.local other x e in
        record { place = old.place; is = old.is; there = get_front texts (name ∷ []) old.place other old.there }
    by other x (inr e) = subst (λ n. IsLocal (texts ++ name ∷ []) n x) (sym e.0)
        (subst (λ y. IsLocal (texts ++ name ∷ []) name y) e.1 is_last)

few_of : (before : Declarations) (at : At) → count_faults before at ≡ [] → nat_le 12 (length before) ≡ false
few_of before at e = refuted (nat_le 12 (length before)) at (Limit program_limit.Locals) e

-- the parameters, and the locals after them
parameter_locals : (outer before : Declarations) (texts : List (List ℕ)) (ns : List Named)
    → parameters_faults outer before ns ≡ [] → AreLocals before texts
    → AreLocals (with_locals before ns) (texts ++ texts_of ns)
parameter_locals outer before texts [] e a = subst (λ l. AreLocals before l) (sym (append-nil texts)) a
parameter_locals outer before texts (n ∷ ns) e a =
    subst (λ l. AreLocals (with_locals (with_local before n.name) ns) l)
    (append_assoc texts (n.name ∷ []) (texts_of ns))
    (parameter_locals outer (with_local before n.name) (texts ++ n.name ∷ []) ns (second_nil one more e)
    (one_local before texts n.name (not_taken before n.at n.name front).1
    (few_of before n.at (second_nil (taken ++ unknown) (count_faults before n.at) now)) a))
  where
    one : List RuleFault
    one = parameter_faults outer before n

    more : List RuleFault
    more = parameters_faults outer (with_local before n.name) ns

    taken : List RuleFault
    taken = taken_faults before n.at n.name

    unknown : List RuleFault
    unknown = if_so (not (is_declared n.name outer)) (fault_at n.at Unknown)

    now : one ≡ []
    now = first_nil one more e

    front : taken ≡ []
    front = first_nil taken unknown (first_nil (taken ++ unknown) (count_faults before n.at) now)

inner_locals : (outer before : Declarations) (texts : List (List ℕ)) (ns : List Named)
    → inner_faults outer before ns ≡ [] → AreLocals before texts
    → AreLocals (with_locals before ns) (texts ++ texts_of ns)
inner_locals outer before texts [] e a = subst (λ l. AreLocals before l) (sym (append-nil texts)) a
inner_locals outer before texts (n ∷ ns) e a =
    subst (λ l. AreLocals (with_locals (with_local before n.name) ns) l)
    (append_assoc texts (n.name ∷ []) (texts_of ns))
    (inner_locals outer (with_local before n.name) (texts ++ n.name ∷ []) ns (second_nil one more e)
    (one_local before texts n.name (or_parts (is_some (system_of n.name)) (is_declared n.name before) free).1
    (few_of before n.at (second_nil twice (count_faults before n.at) now)) a))
  where
    one : List RuleFault
    one = one_inner_faults outer before n

    more : List RuleFault
    more = inner_faults outer (with_local before n.name) ns

    twice : List RuleFault
    twice = if_so (is_taken before n.name || is_declared n.name outer) (fault_at n.at Twice)

    now : one ≡ []
    now = first_nil one more e

    free : is_taken before n.name ≡ false
    free = (or_parts (is_taken before n.name) (is_declared n.name outer)
        (refuted (is_taken before n.name || is_declared n.name outer) n.at Twice
        (first_nil twice (count_faults before n.at) now))).0

-- the locals of a procedure
pub local_names : (h : g.Heading) (outer inner : g.Locals) → heading_locals_faults h outer inner ≡ []
    → AreLocals (locals_by h inner) (texts_of (parameters_by h ++ locals_of inner))
local_names (g.heading gives proc at name listed main end) outer inner e =
    subst (λ l. AreLocals (with_locals (with_locals [] (parameters_of listed)) (locals_of inner)) l)
    (sym (texts_append (parameters_of listed) (locals_of inner)))
    (inner_locals (with_locals [] (locals_of outer)) (with_locals [] (parameters_of listed))
    (texts_of (parameters_of listed)) (locals_of inner)
    (second_nil (first ++ before_begin) after_begin e)
    (parameter_locals (with_locals [] (locals_of outer)) [] [] (parameters_of listed)
    (first_nil first before_begin (first_nil (first ++ before_begin) after_begin e))
    (record { count = refl; local = λ other x there. absurd (cc there) })))
  where
    first : List RuleFault
    first = parameters_faults (with_locals [] (locals_of outer)) [] (parameters_of listed)

    before_begin : List RuleFault
    before_begin = outer_faults (with_locals [] (parameters_of listed)) [] (locals_of outer)

    after_begin : List RuleFault
    after_begin =
        inner_faults (with_locals [] (locals_of outer)) (with_locals [] (parameters_of listed)) (locals_of inner)
