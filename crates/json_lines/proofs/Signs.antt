-- Strings of JSON hold no control sign.
use Rattle.std.proofs.Common.{◌≡◌, ◌∙◌, ◌⊎◌, ℕ, zero, suc, ◌+◌, ◌/◌, ◌%◌, ◌<◌, ◌≤◌, ◌==◌, ◌||◌, ◌&&◌, Bool, true, false}
use Rattle.std.proofs.Common.{cond, List, [], ◌∷◌, ◌++◌, arith, flat_map, inl, inr, refl}
use Rattle.std.proofs.lemmas.Bool.{and_from, eqb-true, le-leb, ltb-false}
use Rattle.std.proofs.lemmas.List.Folds.{list_all-append}
use Rattle.std.specs.Char.{digit_char}
use Rattle.std.specs.List.{list_all}
use Rattle.std.specs.Prelude.{codes, nat_le, nat_lt}
use Rattle.json.specs.Print.{escape_byte, escape_letter}
use Rattle.json_lines.specs.Strings.{later_text, plain_sign, sign_text, string_text, strings_text}

abbrev pub AreSigns : List ℕ → Type 0
AreSigns text = list_all (nat_le 32) text ≡ true

pub signs_both : (first second : List ℕ) → AreSigns first → AreSigns second → AreSigns (first ++ second)
signs_both first second one two =
    list_all-append (nat_le 32) first second
    ∙ and_from (list_all (nat_le 32) first) (list_all (nat_le 32) second) one two

quoted_sign : (c : ℕ) → (c ≡ 34) ⊎ (c ≡ 92) → 32 ≤ c
quoted_sign c (inl is) = omega (arith, is)
quoted_sign c (inr is) = omega (arith, is)

either : (a b : Bool) → (a || b) ≡ true → (a ≡ true) ⊎ (b ≡ true)
either true b is = inl refl
either false b is = inr is

which : (c : ℕ) → ((c == 34) ≡ true) ⊎ ((c == 92) ≡ true) → (c ≡ 34) ⊎ (c ≡ 92)
which c (inl one) = inl (eqb-true c 34 one)
which c (inr one) = inr (eqb-true c 92 one)

quoted_high : (c : ℕ) → ((c == 34) || (c == 92)) ≡ true → 32 ≤ c
quoted_high c is = quoted_sign c (which c (either (c == 34) (c == 92) is))

letter_high : (a b d e f g : Bool) (c : ℕ) → (a ≡ true → 32 ≤ c)
    → nat_lt 0 (cond a c (cond b 98 (cond d 102 (cond e 110 (cond f 114 (cond g 116 0)))))) ≡ true
    → 32 ≤ cond a c (cond b 98 (cond d 102 (cond e 110 (cond f 114 (cond g 116 0)))))
letter_high true b d e f g c high some = high refl
letter_high false true d e f g c high some = omega arith
letter_high false false true e f g c high some = omega arith
letter_high false false false true f g c high some = omega arith
letter_high false false false false true g c high some = omega arith
letter_high false false false false false true c high some = omega arith
letter_high false false false false false false c high some = absurd (cc)

lettered : (letter : ℕ) → 32 ≤ letter → AreSigns (92 ∷ letter ∷ [])
lettered letter high = rw (le-leb 32 letter high) refl

picked_high : (b : Bool) (d : ℕ) → 32 ≤ cond b (48 + d) (87 + d)
picked_high true d = omega arith
picked_high false d = omega arith

digit_high : (d : ℕ) → 32 ≤ digit_char d
digit_high d = picked_high (nat_lt d 10) d

coded : (first second : ℕ) → 32 ≤ first → 32 ≤ second
    → AreSigns (92 ∷ 117 ∷ 48 ∷ 48 ∷ first ∷ second ∷ [])
coded first second one two = rw (le-leb 32 first one, le-leb 32 second two) refl

itself : (c : ℕ) → 32 ≤ c → AreSigns (c ∷ [])
itself c high = rw (le-leb 32 c high) refl

unlettered : (b : Bool) (c : ℕ) → nat_lt c 32 ≡ b
    → AreSigns (cond b (92 ∷ 117 ∷ 48 ∷ 48 ∷ digit_char (c / 16) ∷ digit_char (c % 16) ∷ []) (c ∷ []))
unlettered true c is = coded (digit_char (c / 16)) (digit_char (c % 16)) (digit_high (c / 16)) (digit_high (c % 16))
unlettered false c is = itself c (ltb-false c 32 is)

escaped_by : (b : Bool) (c : ℕ) → nat_lt 0 (escape_letter c) ≡ b
    → AreSigns (cond b (92 ∷ escape_letter c ∷ [])
    (cond (nat_lt c 32) (92 ∷ 117 ∷ 48 ∷ 48 ∷ digit_char (c / 16) ∷ digit_char (c % 16) ∷ []) (c ∷ [])))
escaped_by true c is =
    lettered (escape_letter c)
    (letter_high ((c == 34) || (c == 92)) (c == 8) (c == 12) (c == 10) (c == 13) (c == 9) c (quoted_high c) is)
escaped_by false c is = unlettered (nat_lt c 32) c refl

escaped : (c : ℕ) → AreSigns (escape_byte c)
unfolding escape_byte
escaped c = escaped_by (nat_lt 0 (escape_letter c)) c refl

signs_of : (text : List ℕ) → AreSigns (flat_map sign_text text)
signs_of [] = refl
signs_of (c ∷ text) = signs_both (sign_text c) (flat_map sign_text text) (escaped (plain_sign c)) (signs_of text)

pub string_has : (text : List ℕ) → AreSigns (string_text text)
string_has text =
    signs_both (codes "\"" ++ flat_map sign_text text) (codes "\"")
    (signs_both (codes "\"") (flat_map sign_text text) refl (signs_of text)) refl

later_have : (texts : List (List ℕ)) → AreSigns (flat_map later_text texts)
later_have [] = refl
later_have (text ∷ texts) =
    signs_both (later_text text) (flat_map later_text texts)
    (signs_both (codes ",") (string_text text) refl (string_has text)) (later_have texts)

pub strings_have : (texts : List (List ℕ)) → AreSigns (strings_text texts)
strings_have [] = refl
strings_have (text ∷ texts) =
    signs_both (codes "[" ++ string_text text ++ flat_map later_text texts) (codes "]")
    (signs_both (codes "[" ++ string_text text) (flat_map later_text texts)
    (signs_both (codes "[") (string_text text) refl (string_has text)) (later_have texts)) refl
