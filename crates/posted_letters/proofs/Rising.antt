-- Letters whose numbers rise stay so as letters come and go, and each number stands at one place at most.
use Rattle.std.proofs.Common.{◌≡◌, ℕ, ◌+◌, ◌<◌, ◌≤◌, zero, suc, List, [], ◌∷◌, ◌++◌, length, get_or, arith, Bool, true}
use Rattle.std.proofs.Common.{false, cond, if◌then◌else◌}
use Rattle.std.specs.List.{filter}
use Rattle.message_wires.specs.Wires.{Sent, is_sending, without_number}
use Rattle.posted_letters.specs.Rising.{RisesWithin}

-- they are at least any lower number too
pub from_lower : (least low high : ℕ) (all : List Sent) → least ≤ low → RisesWithin low high all
    → RisesWithin least high all
from_lower least low high [] le rising = omega (arith, le, rising)
from_lower least low high (one ∷ rest) le rising = (omega (arith, le, rising.0), rising.1)

-- one more with the number that all are below
pub one_more : (low high : ℕ) (all : List Sent) (one : Sent) → one.number ≡ high → RisesWithin low high all
    → RisesWithin low (high + 1) (all ++ one ∷ [])
one_more low high [] one same rising = (omega (arith, same, rising), omega (arith, same))
one_more low high (first ∷ rest) one same rising = (rising.0, one_more (first.number + 1) high rest one same rising.1)

-- one of them is gone, or none
fewer : (b : Bool) (low high : ℕ) (one : Sent) (rest less : List Sent) → RisesWithin low high (one ∷ rest)
    → RisesWithin (one.number + 1) high less
    → RisesWithin low high (if b then rest else one ∷ less)
fewer true low high one rest less rising also =
    from_lower low (one.number + 1) high rest (omega (arith, rising.0)) rising.1
fewer false low high one rest less rising also = (rising.0, also)

pub without : (low high number : ℕ) (all : List Sent) → RisesWithin low high all
    → RisesWithin low high (without_number number all)
without low high number [] rising = rising
without low high number (one ∷ rest) rising =
    fewer (is_sending number one) low high one rest (without_number number rest) rising
    (without (one.number + 1) high number rest rising.1)

kept : (b : Bool) (low high : ℕ) (one : Sent) (less : List Sent) → low ≤ one.number
    → RisesWithin (one.number + 1) high less
    → RisesWithin low high (cond b (one ∷ less) less)
kept true low high one less le also = (le, also)
kept false low high one less le also = from_lower low (one.number + 1) high less (omega (arith, le)) also

-- those that pass a test
pub filtered : (p : Sent → Bool) (low high : ℕ) (all : List Sent) → RisesWithin low high all
    → RisesWithin low high (filter p all)
filtered p low high [] rising = rising
filtered p low high (one ∷ rest) rising =
    kept (p one) low high one (filter p rest) rising.0 (filtered p (one.number + 1) high rest rising.1)

-- each is at least the lower number
pub at_least : (low high : ℕ) (all : List Sent) (k : ℕ) (d : Sent) → RisesWithin low high all → k < length all
    → low ≤ (get_or all k d).number
at_least low high [] k d rising less = absurd (omega (arith, less))
at_least low high (one ∷ rest) zero d rising less = rising.0
at_least low high (one ∷ rest) (suc k) d rising less =
    omega (arith, rising.0, at_least (one.number + 1) high rest k d rising.1 (omega (arith, less)))

-- an earlier one is below a later one
pub rise : (low high : ℕ) (all : List Sent) (i j : ℕ) (d : Sent) → RisesWithin low high all → i < j → j < length all
    → (get_or all i d).number < (get_or all j d).number
rise low high [] i j d rising before less = absurd (omega (arith, less))
rise low high (one ∷ rest) i zero d rising before less = absurd (omega (arith, before))
rise low high (one ∷ rest) zero (suc j) d rising before less =
    omega (arith, at_least (one.number + 1) high rest j d rising.1 (omega (arith, less)))
rise low high (one ∷ rest) (suc i) (suc j) d rising before less =
    rise (one.number + 1) high rest i j d rising.1 (omega (arith, before)) (omega (arith, less))
