-- Numbers in decimal digits are read as they were written.
use Rattle.std.proofs.Common.{◌≡◌, ℕ, ◌+◌, ◌*◌, ◌-◌, ◌/◌, ◌%◌, ◌<◌, ◌≤◌}
use Rattle.std.proofs.Common.{◌^◌, Bool, true, false, not, cond, nat_eq, ◌&&◌, ◌||◌}
use Rattle.std.proofs.Common.{List, [], ◌∷◌, ◌++◌, length, Some, None, refl, ap, ◌∙◌, arith, length-append}
use Rattle.std.specs.Prelude.{nat_le}
use Rattle.std.specs.Char.{is_ascii_digit}
use Rattle.std.specs.Fmt.{decimal}
use Rattle.std.specs.List.{list_all}
use Rattle.std.proofs.lemmas.Bool.Decides.{nat_tests}
use Rattle.std.proofs.lemmas.Fmt.{decimal_by_steps, length-decimal-le}
use Rattle.tal_tree.specs.gd_words.specs.Digits.{value_from}
use Rattle.deck_lines.specs.Numbers.{digits_value}
use Rattle.report_reader.specs.Numbers.{begins_with_zero, is_numeral, is_plain, number_told}

-- what is known of the digits of a number
pub record AreDigitsOf (n : ℕ) (digits : List ℕ) : Type 0 where
  pub value : value_from 10 0 digits ≡ n
  pub all : list_all is_ascii_digit digits ≡ true
  pub some : 0 < length digits
  pub lead : 0 < n → begins_with_zero digits ≡ false
  pub plain : is_plain digits ≡ true

digit-more : (value : ℕ) (digits : List ℕ) (c : ℕ)
    → value_from 10 value (digits ++ c ∷ []) ≡ value_from 10 value digits * 10 + (c - 48)
digit-more value [] c = refl
digit-more value (d ∷ digits) c = digit-more (value * 10 + (d - 48)) digits c

all-more : (digits : List ℕ) (c : ℕ) → list_all is_ascii_digit digits ≡ true → is_ascii_digit c ≡ true
    → list_all is_ascii_digit (digits ++ c ∷ []) ≡ true
all-more [] c all is = ap (λ (b : Bool). b && true) is
all-more (d ∷ digits) c all is = by (is_ascii_digit d) all (λ later. all-more digits c later is)
  where
    by : (b : Bool) → (b && list_all is_ascii_digit digits) ≡ true
        → (list_all is_ascii_digit digits ≡ true → list_all is_ascii_digit (digits ++ c ∷ []) ≡ true)
        → (b && list_all is_ascii_digit (digits ++ c ∷ [])) ≡ true
    by true e later = later e
    by false e later = absurd (cc)

lead-more : (digits : List ℕ) (c : ℕ) → 0 < length digits → begins_with_zero digits ≡ false
    → begins_with_zero (digits ++ c ∷ []) ≡ false
lead-more [] c some lead = absurd (omega arith)
lead-more (d ∷ digits) c some lead = lead

is-digit : (d : ℕ) → d < 10 → is_ascii_digit (48 + d) ≡ true
is-digit d less = grind (arith, nat_tests)

not-zero : (d : ℕ) → 0 < d → nat_eq (48 + d) 48 ≡ false
not-zero d more = grind (arith, nat_tests)

plain-from : (digits : List ℕ) → begins_with_zero digits ≡ false → is_plain digits ≡ true
plain-from digits lead = ap (λ (b : Bool). not b || nat_eq (length digits) 1) lead

plain-one : (c : ℕ) → is_plain (c ∷ []) ≡ true
plain-one c = by (nat_eq c 48)
  where
    by : (b : Bool) → (not b || true) ≡ true
    by true = refl
    by false = refl

pub digits-of : (n : ℕ) → n < 2 ^ 64 → AreDigitsOf n (decimal n)
digits-of n small = decimal_by_steps AreDigitsOf one more n small
  where
    one : (n : ℕ) → n < 10 → AreDigitsOf n ((48 + n) ∷ [])
    one n less = record {
      value = omega arith;
      all = ap (λ (b : Bool). b && true) (is-digit n less);
      some = omega arith;
      lead = not-zero n;
      plain = plain-one (48 + n);
    }

    more : (n : ℕ) (ds : List ℕ) → 10 ≤ n → AreDigitsOf (n / 10) ds → AreDigitsOf n (ds ++ (48 + n % 10) ∷ [])
    more n ds least front =
        let first : begins_with_zero (ds ++ (48 + n % 10) ∷ []) ≡ false =
        lead-more ds (48 + n % 10) front.some (front.lead (omega arith)) in
        record {
          value = digit-more 0 ds (48 + n % 10) ∙ ap (λ (v : ℕ). v * 10 + (48 + n % 10 - 48)) front.value
              ∙ omega arith;
          all = all-more ds (48 + n % 10) front.all (is-digit (n % 10) (omega arith));
          some = omega (arith, length-append ds ((48 + n % 10) ∷ []));
          lead = λ more. first;
          plain = plain-from (ds ++ (48 + n % 10) ∷ []) first;
        }

pub four : (a b c d : Bool) → a ≡ true → b ≡ true → c ≡ true → d ≡ true → (a && b && c && d) ≡ true
four true true true true ha hb hc hd = refl
four false b c d ha hb hc hd = absurd (cc)
four true false c d ha hb hc hd = absurd (cc)
four true true false d ha hb hc hd = absurd (cc)
four true true true false ha hb hc hd = absurd (cc)

pub at-least : (m n : ℕ) → m ≤ n → nat_le m n ≡ true
at-least m n less = grind (arith, nat_tests)

pub number-told : (n : ℕ) → n < 4294967296 → number_told (decimal n) ≡ Some n
number-told n small =
    let digits = digits-of n (omega arith) in
    let length_is : length (decimal n) ≤ 10 = length-decimal-le 10 n (omega arith) (omega arith) (omega arith) in
    let numeral : is_numeral (decimal n) ≡ true =
    four (nat_le 1 (length (decimal n))) (nat_le (length (decimal n)) 10) (list_all is_ascii_digit (decimal n))
    (is_plain (decimal n)) (at-least 1 (length (decimal n)) (omega (arith, digits.some)))
    (at-least (length (decimal n)) 10 length_is) digits.all digits.plain in
    ap (λ (b : Bool). cond b (cond (nat_le (digits_value (decimal n)) 4294967295) (Some (digits_value (decimal n)))
    None)
    None) numeral
    ∙ ap (λ (v : ℕ). cond (nat_le v 4294967295) (Some v) None) digits.value
    ∙ ap (λ (b : Bool). cond b (Some n) None) (at-least n 4294967295 (omega arith))
