-- A text that begins with a spelled number begins with the number's token.
use Rattle.std.proofs.Common.{◌≡◌, ℕ, ◌+◌, ◌-◌, ◌<◌, ◌≤◌, ◌^◌, suc, true, false, not, ◌&&◌, ◌||◌, ◌==◌, nat_le, nat_lt}
use Rattle.std.proofs.Common.{List, [], ◌∷◌, ◌++◌, length, take, refl, sym, ap, ◌∙◌, arith, if◌then◌else◌}
use Rattle.std.specs.Prelude.{ℤ, pos, negsuc, Some, None, FitsSigned}
use Rattle.std.specs.List.{list_all}
use Rattle.std.specs.Char.{is_ascii_digit}
use Rattle.std.specs.Int.{cast_signed, cast_unsigned, int_wrap, w16, is_in_range}
use Rattle.std.specs.Fmt.{decimal}
use Rattle.std.specs.Str.{all_ascii_digits}
use Rattle.std.proofs.lemmas.Bool.{and_parts, and_from, le-leb, leb-true, le-ltb, not_from_false, false_from_ne_true}
use Rattle.std.proofs.lemmas.Bool.{true≢false}
use Rattle.std.proofs.lemmas.Fmt.{digits_decimal, digits_value-decimal, decimal_nonempty}
use Rattle.std.proofs.lemmas.Int.{ints, int_wrap_fits}
use Rattle.std.proofs.lemmas.Str.Parse.{IsNumeralModel, tells_all_ascii_digits, numerals_by_fold}
use Rattle.gd_words.specs.Arithmetic.{wrap}
use Rattle.gd_words.specs.Spelling.{is_ident_sign}
use Rattle.tal_tree.specs.declared.fault.TalFault.TheVariants as fault
use Rattle.tal_tokens.specs.declared.begun.Begun.TheVariants.{Whole, Broken}
use Rattle.tal_tokens.specs.declared.cursor.Cursor.{Cursor}
use Rattle.tal_tokens.specs.declared.token.Token.TheVariants as tok
use Rattle.tal_tokens.specs.Cursor.{at_front}
use Rattle.tal_tokens.specs.Lexeme.{begun_of, at_most, numbered, run_of, is_octal, is_blank}
use Rattle.gd_words.specs.Digits.{value_from}
use Rattle.tal_pieces.specs.Spelling.{number_text, octal_text, octal_digit}
use Rattle.tal_pieces.proofs.Spelling.Begun.{BeginsWith, by_first, distinct, no_blank}
use Rattle.tal_pieces.proofs.Spelling.Follow.{heads, stops, word_below, text_positive}
use Rattle.tal_pieces.proofs.Spelling.Runs.{run_is, take_front}

model : IsNumeralModel (λ ds. all_ascii_digits ds ≡ true) (value_from 10 0)
model = numerals_by_fold (λ ds. all_ascii_digits ds ≡ true) tells_all_ascii_digits (value_from 10)
    (record { empty = λ n. refl; more = λ n c cs h. refl })

digit_is_sign : (c : ℕ) → is_ascii_digit c ≡ true → is_ident_sign c ≡ true
digit_is_sign c e = ap (λ b. ((b || is_in_range 65 90 c) || is_in_range 97 122 c) || (c == 95) || (c == 94)) e

no_digit : (c : ℕ) → stops c ≡ true → not (is_ascii_digit c) ≡ true
no_digit c h =
    not_from_false (is_ascii_digit c) (false_from_ne_true (is_ascii_digit c) (λ e.
    true≢false (sym h ∙ ap (λ b. not b && (not (c == 61) && not (c == 62))) (digit_is_sign c e))))

ends_digits : (rest : List ℕ) → heads stops rest ≡ true → heads (λ c. not (is_ascii_digit c)) rest ≡ true
ends_digits [] h = refl
ends_digits (c ∷ rest) h = no_digit c h

all_digits : (ds : List ℕ) → all_ascii_digits ds ≡ true → list_all is_ascii_digit ds ≡ true
all_digits [] h = refl
all_digits (c ∷ ds) h =
    let parts : (is_ascii_digit c ≡ true) × (all_ascii_digits ds ≡ true) =
    and_parts (is_ascii_digit c) (all_ascii_digits ds) h in
    and_from (is_ascii_digit c) (list_all is_ascii_digit ds) parts.0 (all_digits ds parts.1)

digits_begun : (here : Cursor) (m : ℕ) (ds rest : List ℕ) → 0 < length ds → all_ascii_digits ds ≡ true
    → value_from 10 0 ds ≡ m → m ≤ 32767 → heads stops rest ≡ true
    → BeginsWith here ds rest (λ at. tok.Number at (wrap (pos m)))
digits_begun here m [] rest some all value few ends = absurd (omega arith)
digits_begun here m (c ∷ ds) rest some all value few ends =
    let digit : is_ascii_digit c ≡ true = (and_parts (is_ascii_digit c) (all_ascii_digits ds) all).0 in
    let sign : is_ident_sign c ≡ true = digit_is_sign c digit in
    let run : run_of is_ascii_digit ((c ∷ ds) ++ rest) ≡ length (c ∷ ds) =
    run_is is_ascii_digit (c ∷ ds) rest (all_digits (c ∷ ds) all) (ends_digits rest ends) in
    let blank : is_blank c ≡ false = no_blank c sign in
    let comment : (c == 33) ≡ false = distinct c 33 sign refl in
    (λ i. by_first here c (ds ++ rest) (blank i) (comment i) (digit i) (is_ident_sign c))
    ∙ ap (λ n. numbered here n (at_most 32767 (value_from 10 0 (take n ((c ∷ ds) ++ rest))))) run
    ∙ ap (λ w. numbered here (length (c ∷ ds)) (at_most 32767 (value_from 10 0 w))) (take_front (c ∷ ds) rest)
    ∙ ap (λ v. numbered here (length (c ∷ ds)) (at_most 32767 v)) value
    ∙ ap (λ b. numbered here (length (c ∷ ds)) (if b then Some m else None)) (le-leb m 32767 few)

octal_digit_passes : (pattern weight : ℕ) → is_octal (octal_digit pattern weight) ≡ true
octal_digit_passes pattern weight =
    and_from (nat_le 48 (octal_digit pattern weight)) (nat_le (octal_digit pattern weight) 55)
    (le-leb 48 (octal_digit pattern weight) (omega arith)) (le-leb (octal_digit pattern weight) 55 (omega arith))

all_octal : (pattern : ℕ) → list_all is_octal (octal_text pattern) ≡ true
all_octal pattern =
    rw (
      octal_digit_passes pattern 32768,
      octal_digit_passes pattern 4096,
      octal_digit_passes pattern 512,
      octal_digit_passes pattern 64,
      octal_digit_passes pattern 8,
      octal_digit_passes pattern 1,
    ) refl

octal_value : (pattern : ℕ) → pattern < 65536 → value_from 8 0 (octal_text pattern) ≡ pattern
octal_value pattern few = omega arith

octal_is_digit : (c : ℕ) → is_octal c ≡ true → is_ascii_digit c ≡ true
octal_is_digit c e =
    let parts : (nat_le 48 c ≡ true) × (nat_le c 55 ≡ true) = and_parts (nat_le 48 c) (nat_le c 55) e in
    and_from (nat_le 48 c) (nat_le c 57) parts.0 (le-leb c 57 (omega (arith, leb-true c 55 parts.1)))

ends_octal : (rest : List ℕ) → heads stops rest ≡ true → heads (λ c. not (is_octal c)) rest ≡ true
ends_octal [] h = refl
ends_octal (c ∷ rest) h =
    not_from_false (is_octal c) (false_from_ne_true (is_octal c) (λ e.
    true≢false (sym (no_digit c h) ∙ ap not (octal_is_digit c e))))

octal_begun_is : (here : Cursor) (pattern : ℕ) (rest : List ℕ) → pattern < 65536 → heads stops rest ≡ true
    → BeginsWith here (37 ∷ octal_text pattern) rest (λ at. tok.Number at (wrap (pos pattern)))
octal_begun_is here pattern rest few ends =
    ap (λ n. if n == 0 then Broken (fault.BadCharacter here.place) else numbered here (n + 1)
    (at_most 65535 (value_from 8 0 (take n (octal_text pattern ++ rest)))))
    (run_is is_octal (octal_text pattern) rest (all_octal pattern) (ends_octal rest ends))
    ∙ ap (λ v. numbered here 7 (at_most 65535 v)) (octal_value pattern few)
    ∙ ap (λ b. numbered here 7 (if b then Some pattern else None)) (le-leb pattern 65535 (omega (arith, few)))

wrap_positive : (m : ℕ) → FitsSigned w16 (pos m) → wrap (pos m) ≡ pos m
wrap_positive m fits = int_wrap_fits w16 (pos m) fits

high_word : (v : ℕ) → 32768 ≤ v → v < 65536 → cast_signed w16 v ≡ negsuc (65535 - v)
high_word v high few =
    let test : nat_lt v 32768 ≡ false = le-ltb v 32768 high in
    rw test (ap negsuc (omega arith))

wrap_negative : (m : ℕ) → FitsSigned w16 (negsuc m) → wrap (pos (cast_unsigned w16 (negsuc m))) ≡ negsuc m
unfolding int_wrap
wrap_negative m fits =
    ap (cast_signed w16) (omega (arith, ints, fits))
    ∙ high_word (65536 - suc m) (omega (arith, ints, fits)) (omega (arith, ints, fits))
    ∙ ap negsuc (omega (arith, ints, fits))

pattern_below : (m : ℕ) → FitsSigned w16 (negsuc m) → cast_unsigned w16 (negsuc m) < 65536
pattern_below m fits = omega (arith, ints, fits)

pub number_begun : (here : Cursor) (n : ℤ) (rest : List ℕ) → FitsSigned w16 n → heads stops rest ≡ true
    → BeginsWith here (number_text n) rest (λ at. tok.Number at n)
number_begun here (pos m) rest fits ends =
    let below : m < 2 ^ 64 = word_below m fits in
    ap (λ text. begun_of here (text ++ rest)) (text_positive m)
    ∙ digits_begun here m (decimal m) rest (decimal_nonempty m below) (digits_decimal model m below)
    (digits_value-decimal model m below) (omega (arith, ints, fits)) ends
    ∙ ap (λ w. Whole (tok.Number (at_front here (length (decimal m))) w) (length (decimal m))) (wrap_positive m fits)
    ∙ ap (λ text. Whole (tok.Number (at_front here (length text)) (pos m)) (length text)) (sym (text_positive m))
number_begun here (negsuc m) rest fits ends =
    octal_begun_is here (cast_unsigned w16 (negsuc m)) rest (pattern_below m fits) ends
    ∙ ap (λ w. Whole (tok.Number (at_front here 7) w) 7) (wrap_negative m fits)
