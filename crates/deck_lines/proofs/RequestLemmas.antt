-- A request is read word by word.
use Rattle.std.proofs.Common.{◌≡◌, ℕ, ◌+◌, ◌<◌, ◌≤◌, Bool, true, false, cond, nat_le, List, [], ◌∷◌, ◌++◌, length}
use Rattle.std.proofs.Common.{Option, Some, None, option_map, option_and_then, refl, sym, ap, ap₂, ◌∙◌, arith}
use Rattle.std.proofs.Common.{append_assoc, append-nil, length-append, ℤ}
use borrow.Author.Tests.{le-leb, lt-leb}
use Rattle.deck_lines.specs.Numbers.{word_of}
use Rattle.deck_lines.specs.SayingOf.{request_words, request_of}

-- the request of which these words are read and this is left
abbrev pub request_from : List ℤ → List (List ℕ) → Option (List ℤ)
request_from words rest =
    cond (nat_le (length words + length rest) 16) (option_map (λ values. words ++ values) (request_words rest)) None

pub record IsReadUpTo (parts rest : List (List ℕ)) (words : List ℤ) : Type 0 where
  pub few : length words ≤ 16
  pub same : request_of parts ≡ request_from words rest

same_option : (o : Option (List ℤ)) → o ≡ option_map (λ values. [] ++ values) o
same_option None = refl
same_option (Some values) = refl

pub begin : (parts : List (List ℕ)) → IsReadUpTo parts parts []
begin parts = record {
  few = omega arith;
  same = ap₂ (λ n o. cond (nat_le n 16) o None) (omega arith) (same_option (request_words parts));
}

regroup : (words : List ℤ) (value : ℤ) (o : Option (List ℤ))
    → option_map (λ values. words ++ values) (option_map (λ values. value ∷ values) o)
    ≡ option_map (λ values. (words ++ value ∷ []) ++ values) o
regroup words value None = refl
regroup words value (Some values) = ap Some (sym (append_assoc words (value ∷ []) values))

pub more : (parts rest : List (List ℕ)) (word : List ℕ) (words : List ℤ) (value : ℤ)
    → IsReadUpTo parts (word ∷ rest) words → word_of word ≡ Some value → length words < 16
    → IsReadUpTo parts rest (words ++ value ∷ [])
more parts rest word words value before reads room = record {
  few = omega (arith, length-append words (value ∷ []));
  same = before.same
      ∙ ap₂ (λ n o. cond (nat_le n 16) o None)
      (omega (arith, length-append words (value ∷ [])))
      (ap (λ o. option_map (λ values. words ++ values)
      (option_and_then (λ v. option_map (λ values. v ∷ values) (request_words rest)) o)) reads
      ∙ regroup words value (request_words rest));
}

neither : (b : Bool) → ◌≡◌ {A = Option (List ℤ)} (cond b None None) None
neither true = refl
neither false = refl

pub malformed : (parts rest : List (List ℕ)) (word : List ℕ) (words : List ℤ) → IsReadUpTo parts (word ∷ rest) words
    → word_of word ≡ None → request_of parts ≡ None
malformed parts rest word words before bad =
    before.same
    ∙ ap (λ o. cond (nat_le (length words + length (word ∷ rest)) 16)
    (option_map (λ values. words ++ values)
    (option_and_then (λ v. option_map (λ values. v ∷ values) (request_words rest)) o)) None) bad
    ∙ neither (nat_le (length words + length (word ∷ rest)) 16)

pub too_many : (parts rest : List (List ℕ)) (word : List ℕ) (words : List ℤ) → IsReadUpTo parts (word ∷ rest) words
    → 16 ≤ length words → request_of parts ≡ None
too_many parts rest word words before full =
    let over : nat_le (length words + length (word ∷ rest)) 16 ≡ false = lt-leb _ _ (omega arith) in
    before.same ∙ ap (λ b. cond b (option_map (λ values. words ++ values) (request_words (word ∷ rest))) None) over

pub all_read : (parts : List (List ℕ)) (words : List ℤ) → IsReadUpTo parts [] words → request_of parts ≡ Some words
all_read parts words before =
    let within : nat_le (length words + 0) 16 ≡ true = le-leb _ _ (omega (arith, before.few)) in
    before.same ∙ ap (λ b. cond b (Some (words ++ [])) None) within ∙ ap Some (append-nil words)
