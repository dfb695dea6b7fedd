-- What a cut says of the parts of a text, and how a text begins.
use Rattle.std.proofs.Common.{Bor, ◌≡◌, ◌≢◌, ℕ, ◌+◌, Bool, true, false, cond, nat_eq, List, [], ◌∷◌, ◌++◌, length}
use Rattle.std.proofs.Common.{Option, Some, None, refl, sym, ap, ◌∙◌, arith}
use Rattle.std.specs.Prelude.{MatchOption}
use Rattle.std.specs.Option.{option_map}
use Rattle.std.proofs.lemmas.Bool.{eqb-true, eq-eqb}
use Rattle.deck_lines.specs.Cuts.{front_of, back_of}
use Rattle.report_reader.specs.Parts.{Parts, around_sign, cut_at, one_part, parts_of, parts_onto, parts_with}
use Rattle.report_reader.specs.Parts.{rest_after}

-- the parts of a text, by its cut
abbrev pub parts_by : ℕ → List ℕ → Option (List ℕ × List ℕ) → Parts
parts_by sign text None = one_part text
parts_by sign text (Some cut) = parts_with cut.0 (parts_of sign cut.1)

abbrev pub is_sign : ℕ → ℕ → Bool
is_sign sign c = nat_eq c sign

pub parts-cut : (sign : ℕ) (text : List ℕ) → parts_of sign text ≡ parts_by sign text (cut_at sign text)
parts-cut sign [] = refl
parts-cut sign (c ∷ cs) = by (parts-cut sign cs) (nat_eq c sign)
  where
    more : (front back : List ℕ) → parts_of sign cs ≡ parts_by sign cs (around_sign front back)
        → parts_onto c (parts_of sign cs) ≡ parts_by sign (c ∷ cs) (around_sign (c ∷ front) back)
    more front [] later = ap (parts_onto c) later
    more front (d ∷ ds) later = ap (parts_onto c) later

    by : parts_of sign cs ≡ parts_by sign cs (cut_at sign cs) → (b : Bool)
        → cond b (parts_with [] (parts_of sign cs)) (parts_onto c (parts_of sign cs))
        ≡ parts_by sign (c ∷ cs) (around_sign (cond b [] (c ∷ front_of (is_sign sign) cs))
        (cond b (c ∷ cs) (back_of (is_sign sign) cs)))
    by later true = refl
    by later false = more (front_of (is_sign sign) cs) (back_of (is_sign sign) cs) later

pub no-cut : (sign : ℕ) (text : List ℕ) → length (back_of (is_sign sign) text) ≡ 0 → cut_at sign text ≡ None
no-cut sign text e = by (back_of (is_sign sign) text) e
  where
    by : (back : List ℕ) → length back ≡ 0 → around_sign (front_of (is_sign sign) text) back ≡ None
    by [] e = refl
    by (c ∷ cs) e = absurd (omega arith)

pub cut-found : (sign : ℕ) (text : List ℕ) (c : ℕ) (rest : List ℕ) → back_of (is_sign sign) text ≡ c ∷ rest
    → cut_at sign text ≡ Some (front_of (is_sign sign) text, rest)
cut-found sign text c rest e = ap (around_sign (front_of (is_sign sign) text)) e

pub lengths-cut : (passes : ℕ → Bool) (text : List ℕ)
    → length (front_of passes text) + length (back_of passes text) ≡ length text
lengths-cut passes [] = refl
lengths-cut passes (c ∷ cs) = by (lengths-cut passes cs) (passes c)
  where
    by : length (front_of passes cs) + length (back_of passes cs) ≡ length cs → (b : Bool)
        → length (cond b [] (c ∷ front_of passes cs)) + length (cond b (c ∷ cs) (back_of passes cs)) ≡ length (c ∷ cs)
    by later true = omega arith
    by later false = omega (arith, later)

-- what follows the beginning of a text
pub rest-found : (beginning rest : List ℕ) → rest_after beginning (beginning ++ rest) ≡ Some rest
rest-found [] rest = refl
rest-found (p ∷ beginning) rest = ap (λ (b : Bool). cond b (rest_after beginning (beginning ++ rest)) None)
    (eq-eqb p p refl) ∙ rest-found beginning rest

-- and where it begins otherwise
pub rest-begins : (beginning text rest : List ℕ) → rest_after beginning text ≡ Some rest → text ≡ beginning ++ rest
rest-begins [] text rest e = by e
  where
    by : ◌≡◌ {A = Option (List ℕ)} (Some text) (Some rest) → text ≡ rest
    by same = cc
rest-begins (p ∷ beginning) [] rest e = absurd (cc)
rest-begins (p ∷ beginning) (c ∷ text) rest e = by (λ found. rest-begins beginning text rest found) (nat_eq p c) refl e
  where
    by : (rest_after beginning text ≡ Some rest → text ≡ beginning ++ rest) → (b : Bool) → nat_eq p c ≡ b
        → cond b (rest_after beginning text) None ≡ Some rest
        → c ∷ text ≡ (p ∷ beginning) ++ rest
    by later true same found =
        ap (λ (x : ℕ). x ∷ text) (sym (eqb-true p c same)) ∙ ap (λ (xs : List ℕ). p ∷ xs) (later found)
    by later false other found = absurd (cc)

pub rest-none : (beginning text : List ℕ) → ((rest : List ℕ) → text ≢ beginning ++ rest)
    → rest_after beginning text ≡ None
rest-none beginning text otherwise = by (rest_after beginning text) refl
  where
    by : (found : Option (List ℕ)) → rest_after beginning text ≡ found → found ≡ None
    by None e = refl
    by (Some rest) e = absurd (otherwise rest (rest-begins beginning text rest e))

-- what stripping a beginning says of what follows it
pub strip-is : (beginning text : List ℕ) (found : Option (Bor (List ℕ)))
    → MatchOption found ((rest : List ℕ) → text ≢ beginning ++ rest) (λ rest. text ≡ beginning ++ rest.now)
    → option_map (λ rest. rest.now) found ≡ rest_after beginning text
strip-is beginning text None otherwise = sym (rest-none beginning text otherwise)
strip-is beginning text (Some rest) is = sym (ap (rest_after beginning) is ∙ rest-found beginning rest.now)
