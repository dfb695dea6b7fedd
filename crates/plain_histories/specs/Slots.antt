-- What requests and replies leave in a slot of the machine of single processes. Lists have the newest first.
use Rattle.std.specs.Prelude.{◌≡◌, ℕ, ◌+◌, ℤ, List, ◌∷◌, length}
use Rattle.plain_semantics.specs.declared.slot.Slot.{Slot}
use Rattle.plain_semantics.specs.declared.slot.Slot.TheVariants.{Empty, Waiting, Taken, Answered}

-- the slot of an opener with these requests, of which the server took some, and with these answers, of which the opener
-- has some: all is done; a request waits; one was taken; or an answer waits
pub data IsSlot (requests taken answered replies : List (List ℤ)) : Slot → Type 0 where
  is_empty : requests ≡ taken → length taken ≡ length answered → answered ≡ replies
      → IsSlot requests taken answered replies Empty
  is_waiting : {words : List ℤ} → requests ≡ words ∷ taken → length taken ≡ length answered → answered ≡ replies
      → IsSlot requests taken answered replies (Waiting words)
  is_taken : requests ≡ taken → length taken ≡ length answered + 1 → answered ≡ replies
      → IsSlot requests taken answered replies Taken
  is_answered : {words : List ℤ} → requests ≡ taken → length taken ≡ length answered → answered ≡ words ∷ replies
      → IsSlot requests taken answered replies (Answered words)

-- words that have a number in a list: numbers count from 1 at its end
pub data IsEntry (number : ℕ) (words : List ℤ) : List (List ℤ) → Type 0 where
  is_newest : {older : List (List ℤ)} → number ≡ length older + 1 → IsEntry number words (words ∷ older)
  is_older : {newest : List ℤ} {older : List (List ℤ)} → IsEntry number words older
      → IsEntry number words (newest ∷ older)
