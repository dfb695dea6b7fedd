-- Where the letter of a sending stands among letters whose numbers rise.
use Rattle.std.proofs.Common.{◌≡◌, ℕ, ◌+◌, ◌<◌, ◌≤◌, zero, suc, List, [], ◌∷◌, length, get_or, refl, arith, tests, true}
use Rattle.std.proofs.Common.{false, ltb, ltb-true, ◌==◌, Some, None, position, ◌⊎◌, inl, inr, ⊎_elim}
use Rattle.std.proofs.lemmas.Grind.{common_steps}
use Rattle.std.specs.List.{position_or_len}
use Rattle.std.specs.List.Sorted.{IsNonDecreasingBy, IsPartitionPoint}
use Rattle.std.proofs.lemmas.List.Sums.{position_or_len_is}
use Rattle.message_wires.specs.Wires.{Sent, is_sending}
use Rattle.posted_letters.specs.Rising.{RisesWithin, Rises}
use Rattle.posted_letters.proofs.Rising.{at_least}

not_below : (low high : ℕ) (all : List Sent) (i j : ℕ) (d : Sent) → RisesWithin low high all → i ≤ j → j < length all
    → (get_or all i d).number ≤ (get_or all j d).number
not_below low high [] i j d rising before less = absurd (omega (arith, less))
not_below low high (one ∷ rest) zero zero d rising before less = omega arith
not_below low high (one ∷ rest) zero (suc j) d rising before less =
    omega (arith, at_least (one.number + 1) high rest j d rising.1 (omega (arith, less)))
not_below low high (one ∷ rest) (suc i) zero d rising before less = absurd (omega (arith, before))
not_below low high (one ∷ rest) (suc i) (suc j) d rising before less =
    not_below (one.number + 1) high rest i j d rising.1 (omega (arith, before)) (omega (arith, less))

pub never_falls : (all : List Sent) → Rises all → IsNonDecreasingBy (λ one. one.number) all
never_falls all rising i j d before less = not_below 0 rising.0 all i j d rising.1 before less

pub lower_differs : (a b : ℕ) → a < b → (a == b) ≡ false
lower_differs a b less = grind (arith, tests)

pub higher_differs : (a b : ℕ) → b < a → (a == b) ≡ false
higher_differs a b less = grind (arith, tests)

strictly : (a b : ℕ) → ltb a b ≡ false → (a == b) ≡ false → b < a
strictly a b low other = grind (arith, tests)

order : (m n : ℕ) → (m < n) ⊎ (n ≤ m)
order zero zero = inr (omega arith)
order zero (suc n) = inl (omega arith)
order (suc m) zero = inr (omega arith)
order (suc m) (suc n) = ⊎_elim (λ l. inl (omega (arith, l))) (λ l. inr (omega (arith, l))) (order m n)

-- what a search for the first number that isn't below one finds
abbrev pub IsParted : ℕ → List Sent → ℕ → Type 0
IsParted number all place =
    IsPartitionPoint (λ one. ltb one.number number ≡ true) (λ one. ltb one.number number ≡ false) all place

there : (number place : ℕ) (all : List Sent) → position_or_len (is_sending number) all ≡ place → place < length all
    → Some place ≡ position (is_sending number) all
there number place all same less = grind (arith, common_steps, same)

nowhere : (number : ℕ) (all : List Sent) → position_or_len (is_sending number) all ≡ length all
    → None ≡ position (is_sending number) all
nowhere number all same = grind (arith, common_steps, same)

pub found : (number place : ℕ) (all : List Sent) (d : Sent) → IsParted number all place → place < length all
    → is_sending number (get_or all place d) ≡ true
    → Some place ≡ position (is_sending number) all
found number place all d parted less same =
    let before : (k : ℕ) → k < place → is_sending number (get_or all k d) ≡ false =
    λ k below. lower_differs (get_or all k d).number number
    (ltb-true (get_or all k d).number number (parted.0 k d (omega arith) below)) in
    there number place all (position_or_len_is (is_sending number) all place d (omega (arith, less)) before (λ _. same))
    less

pub missing : (number place : ℕ) (all : List Sent) (d : Sent) → Rises all → IsParted number all place
    → (place < length all → is_sending number (get_or all place d) ≡ false)
    → None ≡ position (is_sending number) all
missing number place all d rising parted other =
    let before : (k : ℕ) → k < place → is_sending number (get_or all k d) ≡ false =
    λ k below. lower_differs (get_or all k d).number number
    (ltb-true (get_or all k d).number number (parted.0 k d (omega arith) below)) in
    let past : (k : ℕ) → place ≤ k → k < length all → is_sending number (get_or all k d) ≡ false =
    λ k above less. higher_differs (get_or all k d).number number (omega (
      arith,
      strictly (get_or all place d).number number (parted.1 place d (omega arith) (omega (arith, above, less)))
          (other (omega (arith, above, less))),
      not_below 0 rising.0 all place k d rising.1 above less,
    )) in
    nowhere number all (position_or_len_is (is_sending number) all (length all) d (omega arith)
    (λ k less. ⊎_elim (λ below. before k below) (λ above. past k above less) (order k place))
    (λ less. absurd (omega (arith, less))))

pub absent : (number place : ℕ) (all : List Sent) → Rises all → IsParted number all place
    → ((d : Sent) → place < length all → is_sending number (get_or all place d) ≡ false)
    → None ≡ position (is_sending number) all
absent number place [] rising parted other = refl
absent number place (one ∷ rest) rising parted other = missing number place (one ∷ rest) one rising parted (other one)
