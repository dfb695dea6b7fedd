-- What a name is declared as after a further declaration.
use Rattle.std.proofs.Common.{◌≡◌, ℕ, suc, Bool, true, false, List, [], ◌∷◌, ◌++◌, slice_get, Some, None, if◌then◌else◌}
use Rattle.std.proofs.Common.{◌⊎◌, inl, inr, refl, sym, ap}
use Rattle.tal_names.specs.declared.meaning.Meaning.{Meaning}
use Rattle.tal_declarations.specs.Globals.{is_taken}
use Rattle.tal_declarations.specs.Headings.{with_procedure}
use Rattle.tal_names.specs.Systems.{system_of}
use Rattle.std.specs.Prelude.{is_some}
use Rattle.std.proofs.lemmas.Bool.{or_parts}
use Rattle.tal_names.specs.Names.{Declarations, same, meaning_in, is_declared, with_name}
use Rattle.tal_faultless.proofs.Common.Entries.{none_of}
use Rattle.tal_faultless.proofs.Common.Names.{same_is, same_self}

module _ (name : List ℕ) where
  -- what a name stands for with more declarations after these
  pub meaning_front : (ds more : Declarations) (x : Meaning) → meaning_in name ds ≡ Some x
      → meaning_in name (ds ++ more) ≡ Some x
  meaning_front [] more x e = absurd (cc e)
  meaning_front (d ∷ ds) more x e = by (same name d.0) (meaning_front ds more x) e
    where
      by : (b : Bool) → (meaning_in name ds ≡ Some x → meaning_in name (ds ++ more) ≡ Some x)
          → (if b then Some d.1 else meaning_in name ds) ≡ Some x
          → (if b then Some d.1 else meaning_in name (ds ++ more)) ≡ Some x
      by true rest e = e
      by false rest e = rest e

  pub meaning_kept : (ds : Declarations) (other : List ℕ) (x y : Meaning) → meaning_in name ds ≡ Some x
      → meaning_in name (with_name ds other y) ≡ Some x
  meaning_kept ds other x y e = by (is_declared other ds)
    where
      by : (b : Bool) → meaning_in name (if b then ds else ds ++ (other, y) ∷ []) ≡ Some x
      by true = e
      by false = meaning_front ds ((other, y) ∷ []) x e

  -- a name that wasn't declared
  pub meaning_last : (ds : Declarations) (x : Meaning) → meaning_in name ds ≡ None
      → meaning_in name (ds ++ (name, x) ∷ []) ≡ Some x
  meaning_last [] x e = rw (same_self name) refl
  meaning_last (d ∷ ds) x e = by (same name d.0) (meaning_last ds x) e
    where
      by : (b : Bool) → (meaning_in name ds ≡ None → meaning_in name (ds ++ (name, x) ∷ []) ≡ Some x)
          → (if b then Some d.1 else meaning_in name ds) ≡ None
          → (if b then Some d.1 else meaning_in name (ds ++ (name, x) ∷ [])) ≡ Some x
      by true rest e = absurd (cc e)
      by false rest e = rest e

  pub meaning_added : (ds more : Declarations) (x : Meaning) → is_declared name ds ≡ false
      → meaning_in name ((ds ++ (name, x) ∷ []) ++ more) ≡ Some x
  meaning_added ds more x e =
      meaning_front (ds ++ (name, x) ∷ []) more x (meaning_last ds x (none_of (meaning_in name ds) e))

  pub meaning_new : (ds : Declarations) (x : Meaning) → is_declared name ds ≡ false
      → meaning_in name (with_name ds name x) ≡ Some x
  meaning_new ds x e = rw e (meaning_last ds x (none_of (meaning_in name ds) e))

  -- what a name stands for, it stood for before, or it is the one that is declared
  pub meaning_either : (ds : Declarations) (other : List ℕ) (x y : Meaning)
      → meaning_in name (ds ++ (other, x) ∷ []) ≡ Some y
      → (meaning_in name ds ≡ Some y) ⊎ ((name ≡ other) × (x ≡ y))
  meaning_either [] other x y e = by (same name other) refl e
    where
      by : (b : Bool) → same name other ≡ b → (if b then Some x else None) ≡ Some y
          → (None ≡ Some y) ⊎ ((name ≡ other) × (x ≡ y))
      by true s e = inr (same_is name other s, cc e)
      by false s e = inl e
  meaning_either (d ∷ ds) other x y e = by (same name d.0) (meaning_either ds other x y) e
    where
      by : (b : Bool) → (meaning_in name (ds ++ (other, x) ∷ []) ≡ Some y
          → (meaning_in name ds ≡ Some y) ⊎ ((name ≡ other) × (x ≡ y)))
          → (if b then Some d.1 else meaning_in name (ds ++ (other, x) ∷ [])) ≡ Some y
          → ((if b then Some d.1 else meaning_in name ds) ≡ Some y) ⊎ ((name ≡ other) × (x ≡ y))
      by true rest e = inl e
      by false rest e = rest e

  pub meaning_with : (ds : Declarations) (other : List ℕ) (x y : Meaning)
      → meaning_in name (with_name ds other x) ≡ Some y
      → (meaning_in name ds ≡ Some y) ⊎ ((name ≡ other) × (x ≡ y))
  meaning_with ds other x y e = by (is_declared other ds) e
    where
      by : (b : Bool) → meaning_in name (if b then ds else ds ++ (other, x) ∷ []) ≡ Some y
          → (meaning_in name ds ≡ Some y) ⊎ ((name ≡ other) × (x ≡ y))
      by true e = inl e
      by false e = meaning_either ds other x y e

  -- a name that is declared stands there
  pub meaning_there : (ds : Declarations) (x : Meaning) → meaning_in name ds ≡ Some x
      → (i : ℕ) × (slice_get ds i ≡ Some (name, x))
  meaning_there [] x e = absurd (cc e)
  meaning_there (d ∷ ds) x e = by (meaning_there ds x) (same name d.0) refl e
    where
      by : (meaning_in name ds ≡ Some x → (i : ℕ) × (slice_get ds i ≡ Some (name, x))) → (b : Bool) → same name d.0 ≡ b
          → (if b then Some d.1 else meaning_in name ds) ≡ Some x
          → (i : ℕ) × (slice_get (d ∷ ds) i ≡ Some (name, x))
      by rest true s e =
          let value : d.1 ≡ x = cc e in
          (0, λ j. Some (sym (same_is name d.0 s) j, value j))
      by rest false s e = (suc (rest e).0, (rest e).1)

-- the name of a procedure that can be declared is
pub with_free_procedure : (ds : Declarations) (name : List ℕ) (m : Meaning) → is_taken ds name ≡ false
    → with_procedure ds name m ≡ with_name ds name m
with_free_procedure ds name m free =
    ap (λ b. if b then ds else with_name ds name m) (or_parts (is_some (system_of name)) (is_declared name ds) free).0
