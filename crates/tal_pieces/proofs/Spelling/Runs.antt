-- How far a run of signs goes.
use Rattle.std.proofs.Common.{◌≡◌, ℕ, ◌≤◌, Bool, true, not, nat_lt, List, [], ◌∷◌, ◌++◌, length, length-append, take}
use Rattle.std.proofs.Common.{refl, ap, arith, cond}
use Rattle.std.specs.Prelude.{Some, None, unwrap_or}
use Rattle.std.specs.List.{list_all, prefix_len}
use Rattle.std.proofs.lemmas.Bool.{and_parts}
use Rattle.std.proofs.lemmas.Bool.Decides.{nat_tests}
use Rattle.tal_tokens.specs.Lexeme.{run_of}
use Rattle.tal_pieces.proofs.Spelling.Follow.{heads}

prefix_is : (p : ℕ → Bool) (word rest : List ℕ) → list_all p word ≡ true → heads (λ c. not (p c)) rest ≡ true
    → prefix_len (λ c. not (not (p c))) (word ++ rest) ≡ length word
prefix_is p [] [] all ends = refl
prefix_is p [] (c ∷ rest) all ends = rw ends refl
prefix_is p (c ∷ word) rest all ends =
    let parts : (p c ≡ true) × (list_all p word ≡ true) = and_parts (p c) (list_all p word) all in
    let more : prefix_len (λ c. not (not (p c))) (word ++ rest) ≡ length word = prefix_is p word rest parts.1 ends in
    rw (parts.0, more) (omega arith)

chosen : (n m : ℕ) → n ≤ m → unwrap_or (cond (nat_lt n m) (Some n) None) m ≡ n
chosen n m within = grind (arith, nat_tests)

-- a run goes on as far as its signs pass
pub run_is : (p : ℕ → Bool) (word rest : List ℕ) → list_all p word ≡ true → heads (λ c. not (p c)) rest ≡ true
    → run_of p (word ++ rest) ≡ length word
run_is p word rest all ends =
    rw (prefix_is p word rest all ends) (chosen (length word) (length (word ++ rest))
    (omega (arith, length-append word rest)))

pub take_front : (word rest : List ℕ) → take (length word) (word ++ rest) ≡ word
take_front [] rest = grind arith
take_front (c ∷ word) rest = ap (λ xs. c ∷ xs) (take_front word rest)
