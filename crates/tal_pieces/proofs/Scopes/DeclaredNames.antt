-- What a declared name does to the names that are declared, and to those without the LITERALs'.
use Rattle.std.proofs.Common.{◌≡◌, ℕ, ◌+◌, Bool, true, false, List, [], ◌∷◌, ◌++◌, length, length-append, append-nil}
use Rattle.std.proofs.Common.{refl, sym, ap, ◌∙◌, if◌then◌else◌}
use Rattle.std.proofs.lemmas.Bool.{true≢false, or_parts, or_from}
use Rattle.std.specs.Prelude.{is_some, Some}
use Rattle.tal_names.specs.declared.meaning.Meaning.{Meaning}
use Rattle.tal_declarations.specs.Globals.{is_taken}
use Rattle.tal_names.specs.Names.{Declarations, same, is_declared, with_name, meaning_in}
use Rattle.tal_names.specs.Systems.{system_of}
use Rattle.tal_pieces.proofs.Scopes.Agreement.{is_literal, kept_by, without_literals}
use Rattle.tal_faultless.proofs.Common.Names.{same_self}

-- a name that isn't declared goes last
pub appended : (ds : Declarations) (name : List ℕ) (m : Meaning) → is_declared name ds ≡ false
    → with_name ds name m ≡ ds ++ (name, m) ∷ []
appended ds name m fresh = ap (λ b. if b then ds else ds ++ (name, m) ∷ []) fresh

pub one_more : (ds : Declarations) (name : List ℕ) (m : Meaning) → is_declared name ds ≡ false
    → length (with_name ds name m) ≡ length ds + 1
one_more ds name m fresh = rw (appended ds name m fresh) (length-append ds ((name, m) ∷ []))

-- a name that isn't declared isn't the first one, and the other way round
pub fresh_first : (name : List ℕ) (d : List ℕ × Meaning) (ds : Declarations) → is_declared name (d ∷ ds) ≡ false
    → (same name d.0 ≡ false) × (is_declared name ds ≡ false)
fresh_first name d ds fresh = by (same name d.0) refl
  where
    by : (b : Bool) → same name d.0 ≡ b → (same name d.0 ≡ false) × (is_declared name ds ≡ false)
    by true e = absurd (true≢false (rw e at fresh))
    by false e = (e, rw e at fresh)

pub fresh_more : (name : List ℕ) (d : List ℕ × Meaning) (ds : Declarations) → same name d.0 ≡ false
    → is_declared name ds ≡ false → is_declared name (d ∷ ds) ≡ false
fresh_more name d ds other fresh = rw other fresh

-- a name that isn't declared isn't declared where the LITERALs are gone
pub still_fresh : (name : List ℕ) (ds : Declarations) → is_declared name ds ≡ false
    → is_declared name (without_literals ds) ≡ false
still_fresh name [] fresh = refl
still_fresh name (d ∷ ds) fresh =
    by (is_literal d.1) (fresh_first name d ds fresh).0 (still_fresh name ds (fresh_first name d ds fresh).1)
  where
    by : (l : Bool) → same name d.0 ≡ false → is_declared name (without_literals ds) ≡ false
        → is_declared name (kept_by l d (without_literals ds)) ≡ false
    by true other more = more
    by false other more = fresh_more name d (without_literals ds) other more

-- the last name, where the LITERALs are gone
without_last : (ds : Declarations) (d : List ℕ × Meaning)
    → without_literals (ds ++ d ∷ []) ≡ without_literals ds ++ kept_by (is_literal d.1) d []
without_last [] d = refl
without_last (x ∷ ds) d = ap (kept_by (is_literal x.1) x) (without_last ds d) ∙ by (is_literal x.1)
  where
    by : (l : Bool) → kept_by l x (without_literals ds ++ kept_by (is_literal d.1) d [])
        ≡ kept_by l x (without_literals ds) ++ kept_by (is_literal d.1) d []
    by true = refl
    by false = refl

-- a new LITERAL leaves the other names as they are
pub with_literal_name : (ds : Declarations) (name : List ℕ) (m : Meaning) → is_literal m ≡ true
    → is_declared name ds ≡ false
    → without_literals (with_name ds name m) ≡ without_literals ds
with_literal_name ds name m literal fresh =
    ap without_literals (appended ds name m fresh) ∙ without_last ds (name, m)
    ∙ ap (λ l. without_literals ds ++ kept_by l (name, m) []) literal ∙ append-nil (without_literals ds)

-- every other new name is one of them
pub with_other_name : (ds : Declarations) (name : List ℕ) (m : Meaning) → is_literal m ≡ false
    → is_declared name ds ≡ false
    → without_literals (with_name ds name m) ≡ with_name (without_literals ds) name m
with_other_name ds name m other fresh =
    ap without_literals (appended ds name m fresh) ∙ without_last ds (name, m)
    ∙ ap (λ l. without_literals ds ++ kept_by l (name, m) []) other
    ∙ sym (appended (without_literals ds) name m (still_fresh name ds fresh))

-- a declared name stays declared
stays_before : (name : List ℕ) (ds more : Declarations) → is_declared name ds ≡ true
    → is_declared name (ds ++ more) ≡ true
stays_before name [] more there = absurd (true≢false (sym there))
stays_before name (d ∷ ds) more there = by (same name d.0) refl (stays_before name ds more)
  where
    by : (b : Bool) → same name d.0 ≡ b → (is_declared name ds ≡ true → is_declared name (ds ++ more) ≡ true)
        → is_declared name ((d ∷ ds) ++ more) ≡ true
    by true e rest = rw e refl
    by false e rest = rw e (rest (rw e at there))

pub stays : (name : List ℕ) (ds : Declarations) (other : List ℕ) (m : Meaning) → is_declared name ds ≡ true
    → is_declared name (with_name ds other m) ≡ true
stays name ds other m there = by (is_declared other ds) refl
  where
    by : (b : Bool) → is_declared other ds ≡ b → is_declared name (with_name ds other m) ≡ true
    by true e = rw e there
    by false e = rw e (stays_before name ds ((other, m) ∷ []) there)

-- a name is declared after its declaration
last_there : (ds : Declarations) (name : List ℕ) (m : Meaning) → is_declared name (ds ++ (name, m) ∷ []) ≡ true
last_there [] name m = rw (same_self name) refl
last_there (d ∷ ds) name m = by (same name d.0) refl (last_there ds name m)
  where
    by : (b : Bool) → same name d.0 ≡ b → is_declared name (ds ++ (name, m) ∷ []) ≡ true
        → is_declared name ((d ∷ ds) ++ (name, m) ∷ []) ≡ true
    by true e rest = rw e refl
    by false e rest = rw e rest

pub is_there : (ds : Declarations) (name : List ℕ) (m : Meaning) → is_declared name (with_name ds name m) ≡ true
is_there ds name m = by (is_declared name ds) refl
  where
    by : (b : Bool) → is_declared name ds ≡ b → is_declared name (with_name ds name m) ≡ true
    by true e = rw e e
    by false e = rw e (last_there ds name m)

-- a name that can be declared can be declared where the LITERALs are gone
pub still_free : (ds : Declarations) (name : List ℕ) → is_taken ds name ≡ false
    → is_taken (without_literals ds) name ≡ false
still_free ds name free =
    let parts = or_parts (is_some (system_of name)) (is_declared name ds) free in
    or_from (is_some (system_of name)) (is_declared name (without_literals ds)) parts.0 (still_fresh name ds parts.1)

pub fresh_of_free : (ds : Declarations) (name : List ℕ) → is_taken ds name ≡ false → is_declared name ds ≡ false
fresh_of_free ds name free = (or_parts (is_some (system_of name)) (is_declared name ds) free).1

module _ (name : List ℕ) where
  -- what isn't a LITERAL stays without the LITERALs
  pub lasting_in : (ds : Declarations) (x : Meaning) → is_literal x ≡ false → meaning_in name ds ≡ Some x
      → meaning_in name (without_literals ds) ≡ Some x
  lasting_in [] x plain e = absurd (cc e)
  lasting_in (d ∷ ds) x plain e = by (lasting_in ds x plain) (same name d.0) refl (is_literal d.1) refl e
    where
      by : (meaning_in name ds ≡ Some x → meaning_in name (without_literals ds) ≡ Some x) → (b : Bool)
          → same name d.0 ≡ b → (literal : Bool) → is_literal d.1 ≡ literal
          → (if b then Some d.1 else meaning_in name ds) ≡ Some x
          → meaning_in name (kept_by literal d (without_literals ds)) ≡ Some x
      by rest true s true l e = absurd (cc e)
      by rest true s false l e = rw s e
      by rest false s true l e = rest e
      by rest false s false l e = rw s (rest e)
