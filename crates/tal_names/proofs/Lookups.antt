-- Where a name stands among the declarations tells what it is declared as.
use Rattle.std.proofs.Common.{◌≡◌, length, ℕ, Bool, true, false, List, [], ◌∷◌, ◌++◌, Option, Some, None, is_some, refl}
use Rattle.std.proofs.Common.{sym, ap, ◌∙◌, subst, suc, slice_get, option_map, if◌then◌else◌}
use Rattle.std.specs.Option.{option_and_then}
use Rattle.std.specs.Cmp.Lexicographic.{bytes_decides, nat_list_eq_equiv}
use Rattle.std.proofs.lemmas.Bool.{true≢false}
use Rattle.std.specs.Prelude.{cond, IsSome}
use Rattle.std.specs.BTreeMap.{BTreeMap, get, is_at}
use Rattle.tal_syntax.specs.gd_words.specs.IdentOrder.{ident_cmp, ident_ties}
use Rattle.tal_names.specs.declared.meaning.Meaning.{Meaning}
use Rattle.tal_names.specs.Found.{place_in}
use Rattle.tal_names.specs.Names.{Declarations, same, meaning_in, is_declared, with_name}

abbrev declared_as : List ℕ × Meaning → Meaning
declared_as d = d.1

-- the declaration in the place of a name is its own
pub meaning-at : (name : List ℕ) (ds : Declarations)
    → option_map declared_as (option_and_then (slice_get ds) (place_in name ds)) ≡ meaning_in name ds
meaning-at name [] = refl
meaning-at name (d ∷ ds) = by (same name d.0) (place_in name ds) (meaning-at name ds)
  where
    by : (b : Bool) (o : Option ℕ) → option_map declared_as (option_and_then (slice_get ds) o) ≡ meaning_in name ds
        → option_map declared_as (option_and_then (slice_get (d ∷ ds)) (if b then Some 0 else option_map suc o))
        ≡ (if b then Some d.1 else meaning_in name ds)
    by true o e = refl
    by false None e = e
    by false (Some k) e = e

-- a name has a place where it is declared
pub placed : (name : List ℕ) (ds : Declarations) → is_some (place_in name ds) ≡ is_declared name ds
placed name [] = refl
placed name (d ∷ ds) = by (same name d.0) (place_in name ds) (placed name ds)
  where
    by : (b : Bool) (o : Option ℕ) → is_some o ≡ is_declared name ds
        → is_some (if b then Some 0 else option_map suc o) ≡ is_some (if b then Some d.1 else meaning_in name ds)
    by true o e = refl
    by false None e = e
    by false (Some k) e = e

same-both : (name other : List ℕ) → same name other ≡ same other name
same-both name other = (nat_list_eq_equiv.symm name other)

-- a name that isn't declared isn't the first, nor declared later
fresh_more : (name : List ℕ) (d : List ℕ × Meaning) (ds : Declarations) → is_declared name (d ∷ ds) ≡ false
    → (same name d.0 ≡ false) × (is_declared name ds ≡ false)
fresh_more name d ds fresh = by (same name d.0) refl
  where
    by : (b : Bool) → same name d.0 ≡ b → (same name d.0 ≡ false) × (is_declared name ds ≡ false)
    by true e = absurd (true≢false (rw e at fresh))
    by false e = (e, rw e at fresh)

-- a name that isn't declared goes last
pub place-new : (q name : List ℕ) (m : Meaning) (ds : Declarations) → is_declared name ds ≡ false
    → place_in q (ds ++ (name, m) ∷ []) ≡ (if same name q then Some (length ds) else place_in q ds)
place-new q name m [] fresh = ap (λ b. if b then Some 0 else None) (same-both q name)
place-new q name m (d ∷ ds) fresh =
    by (same name q) (same q d.0) refl refl (place-new q name m ds (fresh_more name d ds fresh).1)
  where
    by : (last first : Bool) → same name q ≡ last → same q d.0 ≡ first
        → place_in q (ds ++ (name, m) ∷ []) ≡ (if same name q then Some (length ds) else place_in q ds)
        → (if first then Some 0 else option_map suc (place_in q (ds ++ (name, m) ∷ [])))
        ≡ (if last then Some (suc (length ds)) else if first then Some 0 else option_map suc (place_in q ds))
    by true true last first later =
        absurd (true≢false (sym (subst (λ x. same x d.0 ≡ true) (sym ((bytes_decides name q).0 last)) first)
        ∙ (fresh_more name d ds fresh).0))
    by false true last first later = refl
    by true false last first later =
        ap (option_map suc) (later ∙ ap (λ b. if b then Some (length ds) else place_in q ds) last)
    by false false last first later =
        ap (option_map suc) (later ∙ ap (λ b. if b then Some (length ds) else place_in q ds) last)

-- what is found by the place of a name
pub found : (name : List ℕ) (ds : Declarations) (place : Option ℕ) (d : Option (List ℕ × Meaning))
    → place ≡ place_in name ds → d ≡ option_and_then (slice_get ds) place
    → option_map declared_as d ≡ meaning_in name ds
found name ds place d is there =
    ap (option_map declared_as) (there ∙ ap (option_and_then (slice_get ds)) is) ∙ meaning-at name ds

-- a name is at the end of its own query exactly where it is the same
at-same : (name q : List ℕ) → is_at (ident_cmp name) q ≡ same name q
at-same name q = sym (ident_ties name q)

-- what a map of places gives once a name that isn't declared has the last place
pub last-place : (places : BTreeMap (List ℕ) ℕ) (ds : Declarations) (name q : List ℕ) (m : Meaning)
    → is_declared name ds ≡ false
    → get ident_cmp places q ≡ place_in q ds
    → cond (is_at (ident_cmp name) q) (Some (length ds)) (get ident_cmp places q) ≡ place_in q (ds ++ (name, m) ∷ [])
last-place places ds name q m fresh there =
    (λ i. cond (at-same name q i) (Some (length ds)) (there i)) ∙ sym (place-new q name m ds fresh)

-- a name that has no place isn't declared, and one that has a place is
pub declared-by : (places : BTreeMap (List ℕ) ℕ) (ds : Declarations) (name : List ℕ) (o : Option ℕ)
    → get ident_cmp places name ≡ o
    → get ident_cmp places name ≡ place_in name ds → is_declared name ds ≡ is_some o
declared-by places ds name o found there = sym (placed name ds) ∙ ap is_some (sym there ∙ found)

pub declared-there : (places : BTreeMap (List ℕ) ℕ) (ds : Declarations) (name : List ℕ)
    → IsSome (get ident_cmp places name)
    → get ident_cmp places name ≡ place_in name ds → is_declared name ds ≡ true
declared-there places ds name has there = sym (placed name ds) ∙ ap is_some (sym there) ∙ has

-- with a name that is declared before, and with one that isn't
pub declared-old : (name : List ℕ) (m : Meaning) (ds : Declarations) → is_declared name ds ≡ true
    → with_name ds name m ≡ ds
declared-old name m ds old = ap (λ b. if b then ds else ds ++ (name, m) ∷ []) old

pub declared-new : (name : List ℕ) (m : Meaning) (ds : Declarations) → is_declared name ds ≡ false
    → with_name ds name m ≡ ds ++ (name, m) ∷ []
declared-new name m ds new = ap (λ b. if b then ds else ds ++ (name, m) ∷ []) new
