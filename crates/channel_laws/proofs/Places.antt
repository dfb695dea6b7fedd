-- Messages in pieces: how many there are, and where a number stands.
use Rattle.std.proofs.Common.{◌≡◌, ◌<◌, ◌≤◌, ◌+◌, ◌*◌, ℕ, ℤ, Bool, true, false, List, [], ◌∷◌, ◌++◌, length, take, drop}
use Rattle.std.proofs.Common.{refl, sym, subst, ap, ◌∙◌, arith, length-drop}
use Rattle.std.proofs.lemmas.List.{take_all}
use Rattle.std.proofs.Math.Seq.{take-add}
use Rattle.std.proofs.lemmas.Bool.{leb-true, leb-false, ltb-true}
use Rattle.std.specs.Prelude.{Some, None, nat_le, nat_lt, if◌then◌else◌}
use Rattle.packet_words.specs.declared.piece.Piece.{Piece}
use Rattle.packet_words.specs.Pieces.{pieces, piece_at, first_piece}
use Rattle.channel_laws.specs.Way.{total, IsWithin, first_of, Filled}

pub total-append : (xs ys : List (List ℤ)) → total (xs ++ ys) ≡ total xs + total ys
total-append [] ys = omega arith
total-append (x ∷ xs) ys = omega (arith, total-append xs ys)

pub filled-more : (xs : List (List ℤ)) (m : List ℤ) → 0 < length m → Filled xs → Filled (xs ++ m ∷ [])
filled-more [] m n h = (n, tt)
filled-more (x ∷ xs) m n h = (h.0, filled-more xs m n h.1)

pub filled-rest : (xs ys : List (List ℤ)) → Filled (xs ++ ys) → Filled ys
filled-rest [] ys h = h
filled-rest (x ∷ xs) ys h = filled-rest xs ys h.1

pub within-more : (k : ℕ) (xs : List (List ℤ)) (m : List ℤ) → 0 < length m → IsWithin k xs → IsWithin k (xs ++ m ∷ [])
within-more k [] m n h = omega (arith, h, n)
within-more k (x ∷ xs) m n h = h

pub none-within : (xs : List (List ℤ)) → Filled xs → IsWithin 0 xs
none-within [] h = refl
none-within (x ∷ xs) h = omega (arith, h.0)

-- what is kept in part stays where more is pushed
pub part-more : (k : ℕ) (xs : List (List ℤ)) (m : List ℤ) → IsWithin k xs
    → take (10 * k) (first_of xs) ≡ take (10 * k) (first_of (xs ++ m ∷ []))
part-more k [] m h = rw h refl
part-more k (x ∷ xs) m h = refl

-- no number of pieces leads past all messages
pub none-left : (k : ℕ) (xs : List (List ℤ)) → IsWithin k xs → total xs ≤ k → xs ≡ []
none-left k [] h n = refl
none-left k (x ∷ xs) h n = absurd (omega (arith, h, n))

-- a number stands at one place
pub same-place : (before out : List (List ℤ)) (m : List ℤ) (after rest : List (List ℤ)) (k some : ℕ)
    → before ++ m ∷ after ≡ out ++ rest → 10 * k < length m → IsWithin some rest → total before + k ≡ total out + some
    → (rest ≡ m ∷ after) × (k ≡ some)
same-place [] [] m after rest k some e within in_part n = (sym e, omega (arith, n))
same-place [] (o ∷ out) m after rest k some e within in_part n =
    let same : m ≡ o = cc in
    absurd (omega (arith, n, within, ap pieces same))
same-place (b ∷ before) [] m after rest k some e within in_part n =
    let in_first : IsWithin some (b ∷ (before ++ m ∷ after)) = subst (IsWithin some) (sym e) in_part in
    absurd (omega (arith, n, in_first))
same-place (b ∷ before) (o ∷ out) m after rest k some e within in_part n =
    let head : b ≡ o = cc in
    let tail : before ++ m ∷ after ≡ out ++ rest = cc in
    same-place before out m after rest k some tail within in_part (omega (arith, n, ap pieces head))

-- a piece that is cut is the first of what is left
pub cut-is : (k : ℕ) (m : List ℤ) (piece : Piece) → piece_at k m ≡ Some piece
    → (10 * k < length m) × (piece ≡ first_piece (drop (10 * k) m))
cut-is k m piece = go (nat_lt (10 * k) (length m)) refl
  where
    go : (b : Bool) → nat_lt (10 * k) (length m) ≡ b
        → (if b then Some (first_piece (drop (10 * k) m)) else None) ≡ Some piece
        → (10 * k < length m) × (piece ≡ first_piece (drop (10 * k) m))
    go true is e = (ltb-true _ _ is, cc)
    go false is e = absurd cc

-- the words so far and those of the next piece
pub part-and_piece : (k : ℕ) (m : List ℤ) → take (10 * k) m ++ take 10 (drop (10 * k) m) ≡ take (10 * (k + 1)) m
part-and_piece k m = sym (take-add (10 * k) 10 m) ∙ ap (λ n. take n m) (omega arith)

-- the last piece makes the message whole
pub whole-at_last : (k : ℕ) (m : List ℤ) → nat_le (length (drop (10 * k) m)) 10 ≡ true → take (10 * (k + 1)) m ≡ m
whole-at_last k m is = take_all (10 * (k + 1)) m (omega (arith, leb-true _ _ is, length-drop (10 * k) m))

pub count-at_last : (k : ℕ) (m : List ℤ) → 10 * k < length m → nat_le (length (drop (10 * k) m)) 10 ≡ true
    → pieces m ≡ k + 1
count-at_last k m within is = omega (arith, within, leb-true _ _ is, length-drop (10 * k) m)

pub more-after : (k : ℕ) (m : List ℤ) → nat_le (length (drop (10 * k) m)) 10 ≡ false → 10 * (k + 1) < length m
more-after k m is = omega (arith, leb-false _ _ is, length-drop (10 * k) m)
