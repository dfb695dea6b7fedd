-- Strings and arrays of strings are written as the crate `json` prints their tokens.
use Rattle.std.proofs.Common.{◌≡◌, ◌∙◌, ℕ, true, false, List, [], ◌∷◌, ◌++◌, refl, ap, sym, append_assoc, flat_map}
use Rattle.std.proofs.lemmas.List.Folds.{flat_map-map}
use Rattle.json.specs.Print.{escape_byte, print_from, quoted}
use Rattle.json.specs.Token.{Token, begin_array, end_array}
use Rattle.json.specs.Tree.{items_tokens}
use Rattle.json_lines.specs.Strings.{items_of, later_text, plain_sign, plain_text, sign_text, string_text, strings_text}

pub string_is : (text : List ℕ) → quoted (plain_text text) ≡ string_text text
string_is text = ap (λ (signs : List ℕ). 34 ∷ (signs ++ 34 ∷ [])) (flat_map-map escape_byte plain_sign text)

-- strings behind another one, up to the bracket
later_are : (texts : List (List ℕ)) (rest : List Token)
    → print_from true (items_tokens (items_of texts) ++ rest)
    ≡ flat_map later_text texts ++ (93 ∷ print_from true rest)
unfolding print_from
later_are [] rest = refl
later_are (text ∷ texts) rest =
    ap (λ (t : List ℕ). 44 ∷ (t ++ print_from true (items_tokens (items_of texts) ++ rest))) (string_is text)
    ∙ ap (λ (t : List ℕ). 44 ∷ (string_text text ++ t)) (later_are texts rest)
    ∙ sym (append_assoc (44 ∷ string_text text) (flat_map later_text texts) (93 ∷ print_from true rest))

-- an array of strings
pub strings_are : (texts : List (List ℕ)) (rest : List Token)
    → print_from false (begin_array ∷ (items_tokens (items_of texts) ++ rest))
    ≡ strings_text texts ++ print_from true rest
unfolding print_from
strings_are [] rest = refl
strings_are (text ∷ texts) rest =
    ap (λ (t : List ℕ). 91 ∷ (t ++ print_from true (items_tokens (items_of texts) ++ rest))) (string_is text)
    ∙ ap (λ (t : List ℕ). 91 ∷ (string_text text ++ t)) (later_are texts rest)
    ∙ sym (append_assoc (91 ∷ string_text text) (flat_map later_text texts) (93 ∷ print_from true rest))
    ∙ sym (append_assoc ((91 ∷ string_text text) ++ flat_map later_text texts) (93 ∷ []) (print_from true rest))
