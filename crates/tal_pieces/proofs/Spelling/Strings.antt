-- A text that begins with a spelled string begins with the string's token.
use Rattle.std.proofs.Common.{◌≡◌, ℕ, ◌+◌, ◌<◌, Bool, true, false, not, ◌&&◌, ◌||◌, ◌==◌, nat_le, nat_eq, List, [], ◌∷◌}
use Rattle.std.proofs.Common.{◌++◌, length, length-append, take, refl, sym, ap, ◌∙◌, arith, append_assoc, cond}
use Rattle.std.proofs.Common.{if◌then◌else◌}
use Rattle.std.specs.Prelude.{Some, None, codes, map, slice_index}
use Rattle.std.specs.List.{list_all, prefix_len, position}
use Rattle.std.specs.Int.{is_in_range}
use Rattle.std.specs.Char.{is_ascii_alphabetic, is_ascii_alphanumeric, to_ascii_lowercase}
use Rattle.std.proofs.lemmas.List.{length-map}
use Rattle.std.proofs.lemmas.Bool.{and_parts, and_from, and_right, lt-ltb, leb-true, eqb-true, true≢false}
use Rattle.gd_words.specs.Spelling.{is_ident_sign, is_name, is_name_tail, name_of, upper}
use Rattle.tal_tree.specs.declared.fault.TalFault.TheVariants as fault
use Rattle.tal_tokens.specs.declared.begun.Begun.TheVariants.{Whole, Broken}
use Rattle.tal_tokens.specs.declared.cursor.Cursor.{Cursor}
use Rattle.tal_tokens.specs.declared.token.At.{At}
use Rattle.tal_tokens.specs.declared.token.Token.TheVariants as tok
use Rattle.tal_tokens.specs.Cursor.{at_front}
use Rattle.tal_tokens.specs.Lexeme.{begun_of, is_string_end, string_to, text_token, process_token, same}
use Rattle.tal_pieces.proofs.Spelling.Begun.{BeginsWith, spelled_so, distinct}
use Rattle.tal_pieces.proofs.Spelling.Runs.{take_front}

prefix_is : (text rest : List ℕ) → list_all (λ c. not (is_string_end c)) text ≡ true
    → prefix_len (λ c. not (is_string_end c)) (text ++ 34 ∷ rest) ≡ length text
prefix_is [] rest all = refl
prefix_is (c ∷ text) rest all =
    let parts : (not (is_string_end c) ≡ true) × (list_all (λ d. not (is_string_end d)) text ≡ true) =
    and_parts (not (is_string_end c)) (list_all (λ d. not (is_string_end d)) text) all in
    rw (parts.0, prefix_is text rest parts.1) (omega arith)

place_is : (text rest : List ℕ) → list_all (λ c. not (is_string_end c)) text ≡ true
    → position is_string_end (text ++ 34 ∷ rest) ≡ Some (length text)
place_is text rest all =
    rw (prefix_is text rest all)
    (ap (λ b. cond b (Some (length text)) None)
    (lt-ltb (length text) (length (text ++ 34 ∷ rest)) (omega (arith, length-append text (34 ∷ rest)))))

quote_at : (text rest : List ℕ) → slice_index (text ++ 34 ∷ rest) (length text) ≡ 34
quote_at [] rest = refl
quote_at (c ∷ text) rest = quote_at text rest

-- a quoted text
quoted_begun : (here : Cursor) (text rest : List ℕ) → list_all (λ c. not (is_string_end c)) text ≡ true
    → begun_of here (34 ∷ (text ++ 34 ∷ rest))
    ≡ Whole (text_token (at_front here (length text + 2)) text) (length text + 2)
quoted_begun here text rest all =
    ap (string_to here (text ++ 34 ∷ rest)) (place_is text rest all)
    ∙ ap (λ c. if c == 34 then Whole (text_token (at_front here (length text + 2))
    (take (length text) (text ++ 34 ∷ rest))) (length text + 2) else Broken (fault.OpenString here.place))
    (quote_at text rest)
    ∙ ap (λ w. Whole (text_token (at_front here (length text + 2)) w) (length text + 2)) (take_front text (34 ∷ rest))

pub receive_begun : (here : Cursor) (rest : List ℕ)
    → begun_of here (codes "\"$RECEIVE\"" ++ rest) ≡ Whole (tok.Receive (at_front here 10)) 10
receive_begun here rest = quoted_begun here (codes "$RECEIVE") rest refl

sign_of : (c : ℕ) → is_ascii_alphanumeric c ≡ true → is_ident_sign c ≡ true
sign_of c h = ap (λ b. b || (c == 95) || (c == 94)) h

ends_no_string : (c : ℕ) → is_ascii_alphanumeric c ≡ true → not (is_string_end c) ≡ true
ends_no_string c h =
    let quote : (c == 34) ≡ false = distinct c 34 (sign_of c h) refl in
    let line : (c == 10) ≡ false = distinct c 10 (sign_of c h) refl in
    λ i. not (quote i || line i)

all_inside : (text : List ℕ) → list_all is_ascii_alphanumeric text ≡ true
    → list_all (λ c. not (is_string_end c)) text ≡ true
all_inside [] h = refl
all_inside (c ∷ text) h =
    let parts : (is_ascii_alphanumeric c ≡ true) × (list_all is_ascii_alphanumeric text ≡ true) =
    and_parts (is_ascii_alphanumeric c) (list_all is_ascii_alphanumeric text) h in
    and_from (not (is_string_end c)) (list_all (λ d. not (is_string_end d)) text) (ends_no_string c parts.0)
    (all_inside text parts.1)

of_three : (d a b : Bool) → (a || b) ≡ true → ((d || a) || b) ≡ true
of_three true a b h = refl
of_three false a b h = h

pub record NameParts (name : List ℕ) : Type 0 where
  pub few : length name < 8
  pub inside : list_all (λ c. not (is_string_end c)) name ≡ true

name_parts : (name : List ℕ) → is_name name ≡ true → NameParts name
name_parts [] h = absurd (true≢false (sym h))
name_parts (s ∷ []) h = absurd (true≢false (sym h ∙ and_right (s == 36) false refl))
name_parts (s ∷ first ∷ more) h =
    let tail = and_parts (s == 36) (is_name_tail (first ∷ more)) h in
    let outer = and_parts (is_ascii_alphabetic first && nat_le (length more) 4) (list_all is_ascii_alphanumeric more)
    tail.1 in
    let inner = and_parts (is_ascii_alphabetic first) (nat_le (length more) 4) outer.0 in
    let dollar : s ≡ 36 = eqb-true s 36 tail.0 in
    let letter : is_ascii_alphanumeric first ≡ true =
    of_three (is_in_range 48 57 first) (is_in_range 65 90 first) (is_in_range 97 122 first) inner.0 in
    record {
      few = omega (arith, leb-true (length more) 4 inner.1);
      inside =
          ap (λ c. not (is_string_end c) && (not (is_string_end first) && list_all (λ d. not (is_string_end d)) more))
          dollar
          ∙ and_from (not (is_string_end first)) (list_all (λ d. not (is_string_end d)) more)
          (ends_no_string first letter) (all_inside more outer.1);
    }

shorter : (xs ys : List ℕ) → length xs < length ys → same xs ys ≡ false
shorter [] [] h = absurd (omega (arith, h))
shorter [] (y ∷ ys) h = refl
shorter (x ∷ xs) [] h = absurd (omega (arith, h))
shorter (x ∷ xs) (y ∷ ys) h = and_right (nat_eq x y) (same xs ys) (shorter xs ys (omega (arith, h)))

token_is : (at : At) (name : List ℕ) → length name < 8 → name_of name ≡ Some name
    → text_token at name ≡ tok.Process at name
token_is at name few kept =
    let other : same (map to_ascii_lowercase name) (codes "$receive") ≡ false =
    shorter (map to_ascii_lowercase name) (codes "$receive") (omega (arith, few, length-map name to_ascii_lowercase)) in
    (λ i. if other i then tok.Receive at else process_token at (kept i))

pub process_begun : (here : Cursor) (name rest : List ℕ) → name_of name ≡ Some name
    → BeginsWith here (34 ∷ name ++ 34 ∷ []) rest (λ at. tok.Process at name)
process_begun here name rest kept =
    let parts : NameParts name = name_parts name (spelled_so (is_name name) (upper name) name kept) in
    let long : length name + 2 ≡ length (34 ∷ name ++ 34 ∷ []) = omega (arith, length-append name (34 ∷ [])) in
    ap (λ text. begun_of here (34 ∷ text)) (append_assoc name (34 ∷ []) rest)
    ∙ quoted_begun here name rest parts.inside
    ∙ ap (λ n. Whole (text_token (at_front here n) name) n) long
    ∙ ap (λ t. Whole t (length (34 ∷ name ++ 34 ∷ [])))
    (token_is (at_front here (length (34 ∷ name ++ 34 ∷ []))) name parts.few kept)
