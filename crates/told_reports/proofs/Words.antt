-- Words of 16 bits are read as they were written.
use Rattle.std.proofs.Common.{◌≡◌, ℕ, suc, ◌<◌, ◌≤◌, Bool, true, false, not, cond, nat_eq, ◌&&◌, ◌||◌, List, []}
use Rattle.std.proofs.Common.{◌∷◌, ◌++◌, length, map, Option, Some, None, is_some, refl, ap, ◌∙◌, arith}
use Rattle.std.proofs.Common.{append-nil}
use Rattle.std.specs.Prelude.{ℤ, pos, negsuc, nat_le}
use Rattle.std.specs.Char.{is_ascii_digit}
use Rattle.std.specs.Fmt.{decimal, signed_decimal}
use Rattle.std.specs.List.{list_all, list_any}
use Rattle.std.proofs.lemmas.Bool.Decides.{nat_tests}
use Rattle.std.proofs.lemmas.Fmt.{length-decimal-le}
use Rattle.deck_lines.specs.Numbers.{as_negative, as_positive, small_of}
use Rattle.report_reader.specs.Numbers.{begins_with_zero, is_plain, is_word, word_count, words_in}
use Rattle.report_reader.specs.Parts.{Parts, parts_of, parts_onto, parts_with}
use Rattle.trace_print.specs.NumbersText.{words_text}
use Rattle.told_reports.specs.Words.{AreWords, IsWord}
use Rattle.told_reports.proofs.Numerals.{at-least, digits-of, four}

-- no sign below the digits stands among digits
no-sign : (sign : ℕ) (digits : List ℕ) → sign < 48 → list_all is_ascii_digit digits ≡ true
    → list_any (λ c. nat_eq c sign) digits ≡ false
no-sign sign [] low all = refl
no-sign sign (c ∷ digits) low all = by (is_ascii_digit c) refl all (λ later. no-sign sign digits low later)
  where
    other : is_ascii_digit c ≡ true → nat_eq c sign ≡ false
    other is = grind (arith, nat_tests)

    by : (b : Bool) → is_ascii_digit c ≡ b → (b && list_all is_ascii_digit digits) ≡ true
        → (list_all is_ascii_digit digits ≡ true → list_any (λ c. nat_eq c sign) digits ≡ false)
        → (nat_eq c sign || list_any (λ c. nat_eq c sign) digits) ≡ false
    by true is e later =
        ap (λ (b : Bool). b || list_any (λ c. nat_eq c sign) digits) (other is) ∙ later e
    by false is e later = absurd (cc)

pub decimal-unsigned : (sign n : ℕ) → sign < 48 → n < 4294967296 → list_any (λ c. nat_eq c sign) (decimal n) ≡ false
decimal-unsigned sign n low small = no-sign sign (decimal n) low (digits-of n (omega arith)).all

-- nor does a colon
no-colon : (digits : List ℕ) → list_all is_ascii_digit digits ≡ true → list_any (λ c. nat_eq c 58) digits ≡ false
no-colon [] all = refl
no-colon (c ∷ digits) all = by (is_ascii_digit c) refl all (λ later. no-colon digits later)
  where
    other : is_ascii_digit c ≡ true → nat_eq c 58 ≡ false
    other is = grind (arith, nat_tests)

    by : (b : Bool) → is_ascii_digit c ≡ b → (b && list_all is_ascii_digit digits) ≡ true
        → (list_all is_ascii_digit digits ≡ true → list_any (λ c. nat_eq c 58) digits ≡ false)
        → (nat_eq c 58 || list_any (λ c. nat_eq c 58) digits) ≡ false
    by true is e later = ap (λ (b : Bool). b || list_any (λ c. nat_eq c 58) digits) (other is) ∙ later e
    by false is e later = absurd (cc)

pub decimal-colonless : (n : ℕ) → n < 4294967296 → list_any (λ c. nat_eq c 58) (decimal n) ≡ false
decimal-colonless n small = no-colon (decimal n) (digits-of n (omega arith)).all

small-told : (most n : ℕ) → n ≤ most → n < 100000 → small_of most (decimal n) ≡ Some n
small-told most n within few =
    let digits = digits-of n (omega arith) in
    let length_is : length (decimal n) ≤ 5 = length-decimal-le 5 n (omega arith) (omega arith) (omega arith) in
    ap (λ (v : ℕ). cond (nat_le 1 (length (decimal n)) && nat_le (length (decimal n)) 5
    && list_all is_ascii_digit (decimal n) && nat_le v most) (Some v) None) digits.value
    ∙ ap (λ (b : Bool). cond b (Some n) None)
    (four (nat_le 1 (length (decimal n))) (nat_le (length (decimal n)) 5) (list_all is_ascii_digit (decimal n))
    (nat_le n most) (at-least 1 (length (decimal n)) (omega (arith, digits.some)))
    (at-least (length (decimal n)) 5 length_is) digits.all (at-least n most within))

positive-word : (text : List ℕ) (n : ℕ) → list_all is_ascii_digit text ≡ true → 0 < length text
    → is_plain text ≡ true → small_of 32767 text ≡ Some n → is_word text ≡ true
positive-word [] n all some plain told = absurd (omega arith)
positive-word (c ∷ cs) n all some plain told = by (is_ascii_digit c) refl all
  where
    other : is_ascii_digit c ≡ true → nat_eq c 45 ≡ false
    other is = grind (arith, nat_tests)

    by : (b : Bool) → is_ascii_digit c ≡ b → (b && list_all is_ascii_digit cs) ≡ true → is_word (c ∷ cs) ≡ true
    by true is e =
        ap (λ (b : Bool). cond b (not (begins_with_zero cs)) (is_plain (c ∷ cs))
        && is_some (cond b (as_negative (small_of 32768 cs)) (as_positive (small_of 32767 (c ∷ cs))))) (other is)
        ∙ ap (λ (o : Option ℕ). is_plain (c ∷ cs) && is_some (as_positive o)) told
        ∙ ap (λ (b : Bool). b && true) plain
    by false is e = absurd (cc)

word-told : (w : ℤ) → IsWord w → is_word (signed_decimal w) ≡ true
word-told (pos n) fits =
    let digits = digits-of n (omega (arith, fits)) in
    positive-word (decimal n) n digits.all digits.some digits.plain (small-told 32767 n fits (omega (arith, fits)))
word-told (negsuc n) fits =
    let digits = digits-of (suc n) (omega (arith, fits)) in
    ap (λ (b : Bool). not b && is_some (as_negative (small_of 32768 (decimal (suc n))))) (digits.lead (omega arith))
    ∙ ap (λ (o : Option ℕ). is_some (as_negative o))
    (small-told 32768 (suc n) (omega (arith, fits)) (omega (arith, fits)))

pub word-unsigned : (sign : ℕ) (w : ℤ) → IsWord w → sign < 45 → list_any (λ c. nat_eq c sign) (signed_decimal w) ≡ false
word-unsigned sign (pos n) fits low = decimal-unsigned sign n (omega arith) (omega (arith, fits))
word-unsigned sign (negsuc n) fits low =
    ap (λ (b : Bool). b || list_any (λ c. nat_eq c sign) (decimal (suc n))) minus
    ∙ decimal-unsigned sign (suc n) (omega arith) (omega (arith, fits))
  where
    minus : nat_eq 45 sign ≡ false
    minus = grind (arith, nat_tests)

-- a text without the sign before others goes into their first part
pub parts-before : (sign : ℕ) (text rest : List ℕ) → list_any (λ c. nat_eq c sign) text ≡ false
    → parts_of sign (text ++ rest)
    ≡ record { first = text ++ (parts_of sign rest).first; others = (parts_of sign rest).others }
parts-before sign [] rest none = refl
parts-before sign (c ∷ text) rest none = by (nat_eq c sign) none (parts-before sign text rest)
  where
    by : (b : Bool) → (b || list_any (λ c. nat_eq c sign) text) ≡ false
        → (list_any (λ c. nat_eq c sign) text ≡ false → parts_of sign (text ++ rest)
        ≡ record { first = text ++ (parts_of sign rest).first; others = (parts_of sign rest).others })
        → cond b (parts_with [] (parts_of sign (text ++ rest))) (parts_onto c (parts_of sign (text ++ rest)))
        ≡ record { first = c ∷ text ++ (parts_of sign rest).first; others = (parts_of sign rest).others }
    by true e later = absurd (cc)
    by false e later = ap (parts_onto c) (later e)

words-cut : (words : List ℤ) → AreWords words
    → parts_of 32 (words_text words) ≡ record { first = []; others = map signed_decimal words }
words-cut [] are = refl
words-cut (w ∷ words) are =
    ap (parts_with []) (parts-before 32 (signed_decimal w) (words_text words) (word-unsigned 32 w are.0 (omega arith))
    ∙ ap (λ (p : Parts). record { first = signed_decimal w ++ p.first; others = p.others }) (words-cut words are.1)
    ∙ ap (λ (front : List ℕ). record { first = front; others = map signed_decimal words })
    (append-nil (signed_decimal w)))

all-words : (words : List ℤ) → AreWords words → list_all is_word (map signed_decimal words) ≡ true
all-words [] are = refl
all-words (w ∷ words) are =
    ap (λ (b : Bool). b && list_all is_word (map signed_decimal words)) (word-told w are.0) ∙ all-words words are.1

many : (words : List ℤ) → length (map signed_decimal words) ≡ length words
many [] = refl
many (w ∷ words) = ap suc (many words)

pub words-told : (words : List ℤ) → AreWords words → word_count (words_text words) ≡ Some (length words)
words-told words are =
    ap words_in (words-cut words are)
    ∙ ap (λ (b : Bool). cond b (Some (length (map signed_decimal words))) None) (all-words words are)
    ∙ ap Some (many words)
