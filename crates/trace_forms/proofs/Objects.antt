-- The object of an event: its text piece by piece, and that it is read back.
use Rattle.std.proofs.Common.{◌≡◌, ◌<◌, ◌∙◌, ℕ, zero, suc, false, max, List, [], ◌∷◌, ◌++◌, Some, refl, ap, sym}
use Rattle.std.proofs.Common.{append_assoc, arith, subst}
use Rattle.std.proofs.lemmas.Bool.{and_from, le-leb}
use Rattle.std.proofs.lemmas.Fmt.{decimal-digits_of, decimal_digit}
use Rattle.std.specs.Fmt.{decimal}
use Rattle.std.specs.Int.Digits.{digits_of}
use Rattle.std.specs.List.{list_all}
use Rattle.std.specs.Prelude.{◌+◌, true, codes, map, nat_le}
use Rattle.json.specs.Json.{document}
use Rattle.json.specs.Print.{escape_byte, print_from}
use Rattle.json.specs.Token.{begin_array, end_object}
use Rattle.json.specs.Tree.{ItemsHaveNumbers, items_depth, items_tokens}
use Rattle.json.proofs.Printed.Decimals.{IsNumber-decimal}
use Rattle.json.proofs.Printed.Trees.{document-print}
use Rattle.json_lines.specs.Strings.{items_of, string_text, strings_text}
use Rattle.json_lines.proofs.Printed.{string_is, strings_are}
use Rattle.json_lines.proofs.Signs.{AreSigns, signs_both, string_has, strings_have}
use Rattle.trace_forms.specs.Forms.{event_value, value_text}
use Rattle.trace_forms.specs.Pieces.{object_pieces}

joined : (a b c d e f g : List ℕ)
    → a ++ (b ++ (c ++ (d ++ (e ++ (f ++ g))))) ≡ (((((a ++ b) ++ c) ++ d) ++ e) ++ f) ++ g
joined a b c d e f g =
    sym (append_assoc a b (c ++ (d ++ (e ++ (f ++ g))))) ∙ sym (append_assoc (a ++ b) c (d ++ (e ++ (f ++ g))))
    ∙ sym (append_assoc ((a ++ b) ++ c) d (e ++ (f ++ g))) ∙ sym (append_assoc (((a ++ b) ++ c) ++ d) e (f ++ g))
    ∙ sym (append_assoc ((((a ++ b) ++ c) ++ d) ++ e) f g)

-- the text of the object
pub object_is : (number : ℕ) (event : List ℕ) (findings : List (List ℕ))
    → value_text (event_value number event findings) ≡ object_pieces number event findings
unfolding print_from escape_byte
object_is number event findings =
    ap (λ (text : List ℕ). codes "{\"number\":" ++ (decimal number ++ (codes ",\"event\":" ++ (text
    ++ (codes ",\"findings\":"
    ++ print_from false (begin_array ∷ (items_tokens (items_of findings) ++ end_object ∷ [])))))))
    (string_is event)
    ∙ ap (λ (text : List ℕ). codes "{\"number\":" ++ (decimal number ++ (codes ",\"event\":" ++ (string_text event
    ++ (codes ",\"findings\":" ++ text))))) (strings_are findings (end_object ∷ []))
    ∙ joined (codes "{\"number\":") (decimal number) (codes ",\"event\":") (string_text event) (codes ",\"findings\":")
    (strings_text findings) (codes "}")

have_numbers : (texts : List (List ℕ)) → ItemsHaveNumbers (items_of texts)
have_numbers [] = tt
have_numbers (text ∷ texts) = (tt, have_numbers texts)

shallow : (texts : List (List ℕ)) → items_depth (items_of texts) ≡ 0
shallow [] = refl
shallow (text ∷ texts) = rw (shallow texts) refl

few : (n : ℕ) → n ≡ 0 → max zero (max zero (max (suc n) zero)) < 128
few n is = rw is (omega arith)

-- and it is read as the object
pub is_read : (number : ℕ) (event : List ℕ) (findings : List (List ℕ)) → number < 18446744073709551616
    → document (value_text (event_value number event findings)) ≡ Some (event_value number event findings)
is_read number event findings small =
    document-print (event_value number event findings)
    (IsNumber-decimal number small, (tt, (have_numbers findings, tt))) (few _ (shallow findings))

-- it holds no control sign
digits_have : (digits : List ℕ) → AreSigns (map (λ digit. 48 + digit) digits)
digits_have [] = refl
digits_have (digit ∷ digits) =
    and_from (nat_le 32 (48 + digit)) (list_all (nat_le 32) (map (λ one. 48 + one) digits))
    (le-leb 32 (48 + digit) (omega arith)) (digits_have digits)

decimal_has : (n : ℕ) → n < 18446744073709551616 → AreSigns (decimal n)
decimal_has zero small = subst AreSigns (sym (decimal_digit 0 (omega arith))) refl
decimal_has (suc n) small =
    subst AreSigns (sym (decimal-digits_of (suc n) (omega arith) small)) (digits_have (digits_of 10 (suc n)))

pub has_signs : (number : ℕ) (event : List ℕ) (findings : List (List ℕ)) → number < 18446744073709551616
    → list_all (nat_le 32) (value_text (event_value number event findings)) ≡ true
has_signs number event findings small =
    let one = signs_both (codes "{\"number\":") (decimal number) refl (decimal_has number small) in
    let two = signs_both (codes "{\"number\":" ++ decimal number) (codes ",\"event\":") one refl in
    let three = signs_both (codes "{\"number\":" ++ decimal number ++ codes ",\"event\":") (string_text event) two
    (string_has event) in
    let four = signs_both (codes "{\"number\":" ++ decimal number ++ codes ",\"event\":" ++ string_text event)
    (codes ",\"findings\":") three refl in
    let five = signs_both
    (codes "{\"number\":" ++ decimal number ++ codes ",\"event\":" ++ string_text event ++ codes ",\"findings\":")
    (strings_text findings) four (strings_have findings) in
    let six = signs_both
    (codes "{\"number\":" ++ decimal number ++ codes ",\"event\":" ++ string_text event ++ codes ",\"findings\":"
    ++ strings_text findings) (codes "}") five refl in
    subst AreSigns (sym (object_is number event findings)) six
