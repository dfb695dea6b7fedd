-- Names in upper case are kept as they are.
use Rattle.std.proofs.Common.{◌≡◌, ℕ, ◌-◌, ◌≤◌, ◌==◌, Bool, true, false, not, ◌&&◌, ◌||◌, nat_le, nat_lt, List, [], ◌∷◌}
use Rattle.std.proofs.Common.{length, refl, ap, ◌∙◌, arith, cond, if◌then◌else◌}
use Rattle.std.specs.Prelude.{Some, None}
use Rattle.std.specs.List.{list_all}
use Rattle.std.specs.Int.{is_in_range}
use Rattle.std.specs.Char.{is_ascii_alphabetic, is_ascii_alphanumeric, is_ascii_digit, to_ascii_uppercase}
use Rattle.std.proofs.lemmas.List.{length-map}
use Rattle.std.proofs.lemmas.Bool.{and_parts, and_from, and_right, le-leb, lt-leb, leb-true, ltb-true, ltb-false}
use Rattle.std.proofs.lemmas.Bool.{eqb-true}
use Rattle.std.proofs.lemmas.Str.Ascii.{uppercase-uppercase}
use Rattle.gd_words.specs.Spelling.{is_ident, is_ident_sign, ident_of, is_name, is_name_tail, name_of, upper}

-- a sign in upper case is the sign, or a capital letter
data Raised (c : ℕ) : ℕ → Type 0 where
  same : Raised c c
  letter : is_in_range 65 90 (c - 32) ≡ true → Raised c (c - 32)

capital : (c : ℕ) → 97 ≤ c → c ≤ 122 → is_in_range 65 90 (c - 32) ≡ true
capital c low high = and_from (nat_le 65 (c - 32)) (nat_le (c - 32) 90) (le-leb 65 (c - 32) (omega (arith, low)))
    (le-leb (c - 32) 90 (omega (arith, high)))

raised_by : (c : ℕ) (low high : Bool) → nat_lt c 97 ≡ low → nat_lt c 123 ≡ high
    → Raised c (cond low c (cond high (c - 32) c))
raised_by c true high l h = same
raised_by c false true l h = letter (capital c (ltb-false c 97 l) (omega (arith, ltb-true c 123 h)))
raised_by c false false l h = same

raised : (c : ℕ) → Raised c (to_ascii_uppercase c)
raised c = raised_by c (nat_lt c 97) (nat_lt c 123) refl refl

-- a test that each capital letter passes
module _ (test : ℕ → Bool) (capitals : (x : ℕ) → is_in_range 65 90 x ≡ true → test x ≡ true) where
  by_raised : (c d : ℕ) → Raised c d → test c ≡ true → test d ≡ true
  by_raised c _ same h = h
  by_raised c _ (letter e) h = capitals (c - 32) e

  passes : (c : ℕ) → test c ≡ true → test (to_ascii_uppercase c) ≡ true
  passes c h = by_raised c (to_ascii_uppercase c) (raised c) h

  all_pass : (text : List ℕ) → list_all test text ≡ true → list_all test (upper text) ≡ true
  all_pass [] h = refl
  all_pass (c ∷ text) h =
      let parts : (test c ≡ true) × (list_all test text ≡ true) = and_parts (test c) (list_all test text) h in
      and_from (test (to_ascii_uppercase c)) (list_all test (upper text)) (passes c parts.0) (all_pass text parts.1)

-- tests that each capital letter passes
between : (a b c : Bool) → b ≡ true → ((a || b) || c) ≡ true
between true b c h = refl
between false b c h = ap (λ x. x || c) h

alphanumeric : (x : ℕ) → is_in_range 65 90 x ≡ true → is_ascii_alphanumeric x ≡ true
alphanumeric x h = between (is_in_range 48 57 x) (is_in_range 65 90 x) (is_in_range 97 122 x) h

alphabetic : (x : ℕ) → is_in_range 65 90 x ≡ true → is_ascii_alphabetic x ≡ true
alphabetic x h = ap (λ b. b || is_in_range 97 122 x) h

ident_sign : (x : ℕ) → is_in_range 65 90 x ≡ true → is_ident_sign x ≡ true
ident_sign x h = ap (λ b. b || (x == 95) || (x == 94)) (alphanumeric x h)

no_digit : (x : ℕ) → is_in_range 65 90 x ≡ true → not (is_ascii_digit x) ≡ true
no_digit x h =
    let low : 65 ≤ x = leb-true 65 x (and_parts (nat_le 65 x) (nat_le x 90) h).0 in
    ap not (and_right (nat_le 48 x) (nat_le x 57) (lt-leb x 57 (omega (arith, low))))

-- identifiers
few : (n : ℕ) (text : List ℕ) → nat_le (length text) n ≡ true → nat_le (length (upper text)) n ≡ true
few n text h = ap (λ k. nat_le k n) (length-map text to_ascii_uppercase) ∙ h

twice : (text : List ℕ) → upper (upper text) ≡ upper text
twice [] = refl
twice (c ∷ text) = λ i. uppercase-uppercase c i ∷ twice text i

still_ident : (text : List ℕ) → is_ident text ≡ true → is_ident (upper text) ≡ true
still_ident [] h = h
still_ident (c ∷ text) h =
    let outer = and_parts (not (is_ascii_digit c) && nat_le (length text) 30) (list_all is_ident_sign (c ∷ text)) h in
    let inner = and_parts (not (is_ascii_digit c)) (nat_le (length text) 30) outer.0 in
    and_from (not (is_ascii_digit (to_ascii_uppercase c)) && nat_le (length (upper text)) 30)
    (list_all is_ident_sign (upper (c ∷ text)))
    (and_from (not (is_ascii_digit (to_ascii_uppercase c))) (nat_le (length (upper text)) 30)
    (passes (λ x. not (is_ascii_digit x)) no_digit c inner.0) (few 30 text inner.1))
    (all_pass is_ident_sign ident_sign (c ∷ text) outer.1)

-- an identifier in upper case is kept as it is
pub ident_again : (text : List ℕ) → is_ident text ≡ true → ident_of (upper text) ≡ Some (upper text)
ident_again text h = ap (λ b. if b then Some (upper (upper text)) else None) (still_ident text h) ∙ ap Some (twice text)

-- names of processes
still_tail : (text : List ℕ) → is_name_tail text ≡ true → is_name_tail (upper text) ≡ true
still_tail [] h = h
still_tail (c ∷ text) h =
    let outer = and_parts (is_ascii_alphabetic c && nat_le (length text) 4) (list_all is_ascii_alphanumeric text) h in
    let inner = and_parts (is_ascii_alphabetic c) (nat_le (length text) 4) outer.0 in
    and_from (is_ascii_alphabetic (to_ascii_uppercase c) && nat_le (length (upper text)) 4)
    (list_all is_ascii_alphanumeric (upper text))
    (and_from (is_ascii_alphabetic (to_ascii_uppercase c)) (nat_le (length (upper text)) 4)
    (passes is_ascii_alphabetic alphabetic c inner.0) (few 4 text inner.1))
    (all_pass is_ascii_alphanumeric alphanumeric text outer.1)

still_name : (text : List ℕ) → is_name text ≡ true → is_name (upper text) ≡ true
still_name [] h = h
still_name (c ∷ text) h =
    let parts = and_parts (c == 36) (is_name_tail text) h in
    and_from (to_ascii_uppercase c == 36) (is_name_tail (upper text))
    (ap (λ x. to_ascii_uppercase x == 36) (eqb-true c 36 parts.0)) (still_tail text parts.1)

-- a process's name in upper case too
pub name_again : (text : List ℕ) → is_name text ≡ true → name_of (upper text) ≡ Some (upper text)
name_again text h = ap (λ b. if b then Some (upper (upper text)) else None) (still_name text h) ∙ ap Some (twice text)
