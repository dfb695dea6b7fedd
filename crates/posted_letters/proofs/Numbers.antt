-- Where a letter stands that is owed no more: the list without a number is the list without the item at the first place
-- of that number.
use Rattle.std.proofs.Common.{◌≡◌, ℕ, ◌+◌, List, [], ◌∷◌, refl, arith, Bool, true, false, not, cond, if◌then◌else◌}
use Rattle.std.proofs.Common.{Some, None}
use Rattle.std.proofs.lemmas.Grind.{common_steps}
use Rattle.std.specs.List.{position, position_or_len, remove}
use Rattle.message_wires.specs.Wires.{Sent, is_sending, without_number}

-- one more letter before those of which this is known
after_one : (one : Sent) (rest less : List Sent) (place : ℕ) (b : Bool) → less ≡ remove rest place
    → (if b then rest else one ∷ less) ≡ remove (one ∷ rest) (cond (not b) (1 + place) 0)
after_one one rest less place true same = refl
after_one one rest less place false same = grind (arith, common_steps, same)

pub without_first : (number : ℕ) (all : List Sent)
    → without_number number all ≡ remove all (position_or_len (is_sending number) all)
without_first number [] = refl
without_first number (one ∷ rest) = after_one one rest _ _ (is_sending number one) (without_first number rest)

pub without_some : (number : ℕ) (all : List Sent) (place : ℕ) → position (is_sending number) all ≡ Some place
    → without_number number all ≡ remove all place
without_some number all place found = grind (arith, common_steps, without_first number all)

pub without_none : (number : ℕ) (all : List Sent) → position (is_sending number) all ≡ None
    → without_number number all ≡ all
without_none number all absent = grind (arith, common_steps, without_first number all)
