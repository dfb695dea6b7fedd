-- What one request or reply more makes of a slot.
use Rattle.std.proofs.Common.{◌≡◌, ◌+◌, ℤ, List, ◌∷◌, length, refl, ap, arith}
use Rattle.plain_semantics.specs.declared.slot.Slot.{Slot}
use Rattle.plain_semantics.specs.declared.slot.Slot.TheVariants.{Empty, Waiting, Taken, Answered}
use Rattle.plain_histories.specs.Slots.{IsSlot, is_empty, is_waiting, is_taken, is_answered}

pub slot-as : {a t n r a' t' n' r' : List (List ℤ)} {slot : Slot} → a' ≡ a → t' ≡ t → n' ≡ n → r' ≡ r
    → IsSlot a t n r slot → IsSlot a' t' n' r' slot
slot-as a t n r (is_empty asked even last) =
    is_empty (cc) (omega (arith, ap (length {A = List ℤ}) t, ap (length {A = List ℤ}) n)) (cc)
slot-as a t n r (is_waiting asked even last) =
    is_waiting (cc) (omega (arith, ap (length {A = List ℤ}) t, ap (length {A = List ℤ}) n)) (cc)
slot-as a t n r (is_taken asked even last) =
    is_taken (cc) (omega (arith, ap (length {A = List ℤ}) t, ap (length {A = List ℤ}) n)) (cc)
slot-as a t n r (is_answered asked even last) =
    is_answered (cc) (omega (arith, ap (length {A = List ℤ}) t, ap (length {A = List ℤ}) n)) (cc)

many : {xs ys : List (List ℤ)} → xs ≡ ys → length xs ≡ length ys
many e = ap (length {A = List ℤ}) e

-- the request that waits is taken
pub next-taken : {a t n r : List (List ℤ)} {slot : Slot} (words : List ℤ) → a ≡ words ∷ t → IsSlot a t n r slot
    → (slot ≡ Waiting words) × IsSlot a (words ∷ t) n r Taken
next-taken words e (is_empty asked even last) = absurd (omega (arith, many e, many asked))
next-taken words e (is_waiting {words = said} asked even last) =
    (let same : said ≡ words = cc in ap Waiting same, is_taken e (omega arith) last)
next-taken words e (is_taken asked even last) = absurd (omega (arith, many e, many asked))
next-taken words e (is_answered asked even last) = absurd (omega (arith, many e, many asked))

-- the request that was taken is answered
pub next-answered : {a t n r : List (List ℤ)} {slot : Slot} (words : List ℤ) → length t ≡ length n + 1
    → IsSlot a t n r slot → IsSlot a t (words ∷ n) r (Answered words)
next-answered words e (is_empty asked even last) = absurd (omega arith)
next-answered words e (is_waiting asked even last) = absurd (omega arith)
next-answered words e (is_taken asked even last) = is_answered asked (omega arith) (ap (λ xs. words ∷ xs) last)
next-answered words e (is_answered asked even last) = absurd (omega arith)

-- an opener that has all replies asks
pub next-asked : {a t n r : List (List ℤ)} {slot : Slot} (words : List ℤ) → length a ≡ length r → IsSlot a t n r slot
    → (slot ≡ Empty) × (a ≡ t) × IsSlot (words ∷ a) t n r (Waiting words)
next-asked words e (is_empty asked even last) = (refl, asked, is_waiting (ap (λ xs. words ∷ xs) asked) even last)
next-asked words e (is_waiting asked even last) = absurd (omega (arith, many asked, many last))
next-asked words e (is_taken asked even last) = absurd (omega (arith, many asked, many last))
next-asked words e (is_answered asked even last) = absurd (omega (arith, many asked, many last))

-- the answer that waits is got
pub next-got : {a t n r : List (List ℤ)} {slot : Slot} (words : List ℤ) → n ≡ words ∷ r → IsSlot a t n r slot
    → (slot ≡ Answered words) × IsSlot a t n (words ∷ r) Empty
next-got words e (is_empty asked even last) = absurd (omega (arith, many e, many last))
next-got words e (is_waiting asked even last) = absurd (omega (arith, many e, many last))
next-got words e (is_taken asked even last) = absurd (omega (arith, many e, many last))
next-got words e (is_answered {words = said} asked even last) =
    (let same : said ≡ words = cc in ap Answered same, is_empty asked even e)
