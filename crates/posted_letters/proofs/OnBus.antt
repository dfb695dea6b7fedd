-- Whether packets of letters are on the bus, as one pass over it finds.
use Rattle.std.proofs.Common.{◌≡◌, ℕ, ◌+◌, ◌<◌, ◌≤◌, zero, suc, List, [], ◌∷◌, ◌++◌, length, map, get_or, set, take}
use Rattle.std.proofs.Common.{drop, replicate, slice_get, position, refl, ap, ap₂, sym, subst, ◌∙◌, arith, tests, Bool}
use Rattle.std.proofs.Common.{true, false, true≢false, cond, not, ◌||◌, ◌==◌, if◌then◌else◌, Option, Some, None}
use Rattle.std.proofs.Common.{is_some}
use Rattle.std.proofs.lemmas.Grind.{common_steps}
use Rattle.std.proofs.lemmas.List.{at_drop_more, set_past}
use Rattle.std.specs.List.{position_or_len}
use Rattle.message_wires.specs.Wires.{Sent, has_room, is_due, is_sending, is_on, put_again, put_on}
use Rattle.posted_letters.specs.Rising.{RisesWithin, Rises}
use Rattle.posted_letters.proofs.Places.{lower_differs}

-- which of these letters have a packet on the bus
abbrev pub on_bus_of : List Sent → List Sent → List Bool
on_bus_of bus all = map (λ one. is_on bus one.number) all

or_false : (b : Bool) → (b || false) ≡ b
or_false true = refl
or_false false = refl

or_true : (b : Bool) → (b || true) ≡ true
or_true true = refl
or_true false = refl

one_further : (b x y z : Bool) → x ≡ (y || z) → (b || x) ≡ ((b || y) || z)
one_further true x y z same = refl
one_further false x y z same = same

-- one more packet
added : (bus : List Sent) (packet : Sent) (number : ℕ)
    → is_on (bus ++ packet ∷ []) number ≡ (is_on bus number || (packet.number == number))
added [] packet number = or_false (packet.number == number)
added (one ∷ bus) packet number =
    one_further (is_sending number one) (is_on (bus ++ packet ∷ []) number) (is_on bus number)
    (packet.number == number) (added bus packet number)

same_told : (bus : List Sent) (packet : Sent) (number : ℕ) → (packet.number == number) ≡ false
    → is_on (bus ++ packet ∷ []) number ≡ is_on bus number
same_told bus packet number other =
    added bus packet number ∙ ap (λ b. is_on bus number || b) other ∙ or_false (is_on bus number)

-- a packet with a lower number than those of letters is of none of them
pub tells_none : (low high : ℕ) (bus : List Sent) (packet : Sent) (all : List Sent) → packet.number < low
    → RisesWithin low high all
    → on_bus_of (bus ++ packet ∷ []) all ≡ on_bus_of bus all
tells_none low high bus packet [] less rising = refl
tells_none low high bus packet (one ∷ rest) less rising =
    ap₂ (λ b bs. b ∷ bs) (same_told bus packet one.number
    (lower_differs packet.number one.number (omega (arith, less, rising.0))))
    (tells_none (one.number + 1) high bus packet rest (omega (arith, less, rising.0)) rising.1)

turned : (a b : ℕ) (x : Bool) → (a == b) ≡ x → (b == a) ≡ x
turned a b true same = grind (arith, tests, same)
turned a b false same = grind (arith, tests, same)

at_most : (a b : ℕ) → (a == b) ≡ true → b < a + 1
at_most a b same = grind (arith, tests, same)

set_next : (b : Bool) (bs : List Bool) (k : ℕ) → b ∷ set bs k true ≡ set (b ∷ bs) (1 + k) true
set_next b bs k = let next : suc k ≡ 1 + k = omega arith in ap (λ n. set (b ∷ bs) n true) next

-- a packet is of the letter of its number
tells_first : (x : Bool) (low high : ℕ) (bus : List Sent) (packet one : Sent) (rest : List Sent)
    → is_sending packet.number one ≡ x
    → RisesWithin low high (one ∷ rest)
    → on_bus_of (bus ++ packet ∷ []) rest
    ≡ set (on_bus_of bus rest) (position_or_len (is_sending packet.number) rest) true
    → on_bus_of (bus ++ packet ∷ []) (one ∷ rest)
    ≡ set (on_bus_of bus (one ∷ rest)) (cond (not x) (1 + position_or_len (is_sending packet.number) rest) 0) true
tells_first true low high bus packet one rest same rising also =
    ap₂ (λ b bs. b ∷ bs)
    (added bus packet one.number ∙ ap (λ b. is_on bus one.number || b) (turned one.number packet.number true same)
    ∙ or_true (is_on bus one.number))
    (tells_none (one.number + 1) high bus packet rest (at_most one.number packet.number same) rising.1)
tells_first false low high bus packet one rest same rising also =
    ap₂ (λ b bs. b ∷ bs) (same_told bus packet one.number (turned one.number packet.number false same)) also
    ∙ set_next (is_on bus one.number) (on_bus_of bus rest) (position_or_len (is_sending packet.number) rest)

pub tells : (low high : ℕ) (bus : List Sent) (packet : Sent) (all : List Sent) → RisesWithin low high all
    → on_bus_of (bus ++ packet ∷ []) all ≡ set (on_bus_of bus all) (position_or_len (is_sending packet.number) all) true
tells low high bus packet [] rising = refl
tells low high bus packet (one ∷ rest) rising =
    tells_first (is_sending packet.number one) low high bus packet one rest refl rising
    (tells (one.number + 1) high bus packet rest rising.1)

-- on an empty bus no letter has one
pub none_told : (all : List Sent) → replicate (length all) false ≡ on_bus_of [] all
none_told [] = refl
none_told (one ∷ rest) = ap (λ bs. false ∷ bs) (none_told rest)

-- once a letter was put on the bus, or not, what is told of the letters behind it is as it was
put_or_not : (b : Bool) (low high : ℕ) (bus : List Sent) (one : Sent) (rest : List Sent) → one.number < low
    → RisesWithin low high rest
    → on_bus_of (if b then bus ++ one ∷ [] else bus) rest ≡ on_bus_of bus rest
put_or_not true low high bus one rest less rising = tells_none low high bus one rest less rising
put_or_not false low high bus one rest less rising = refl

put_if : (b : Bool) (low high : ℕ) (bus : List Sent) (one : Sent) (rest : List Sent) → one.number < low
    → RisesWithin low high rest
    → on_bus_of (if b then put_on one bus else bus) rest ≡ on_bus_of bus rest
put_if true low high bus one rest less rising = put_or_not (has_room bus) low high bus one rest less rising
put_if false low high bus one rest less rising = refl

tails : (b : Bool) (bs on_bus : List Bool) → b ∷ bs ≡ on_bus → bs ≡ drop 1 on_bus
tails b bs on_bus same = ap (λ xs. drop 1 xs) same

rest_told : (b : Bool) (low high : ℕ) (bus : List Sent) (k : ℕ) (all : List Sent) (on_bus : List Bool) (one : Sent)
    → RisesWithin low high all
    → k < length all → k < length on_bus → on_bus_of bus (drop k all) ≡ drop k on_bus
    → on_bus_of (if b then put_on (get_or all k one) bus else bus) (drop (suc k) all) ≡ drop (suc k) on_bus
rest_told b low high bus k [] on_bus one rising less few same = absurd (omega (arith, less))
rest_told b low high bus k (first ∷ rest) [] one rising less few same = absurd (omega (arith, few))
rest_told b low high bus zero (first ∷ rest) (there ∷ on_bus) one rising less few same =
    put_if b (first.number + 1) high bus first rest (omega arith) rising.1
    ∙ tails (is_on bus first.number) (on_bus_of bus rest) (there ∷ on_bus) same
rest_told b low high bus (suc k) (first ∷ rest) (there ∷ on_bus) one rising less few same =
    rest_told b (first.number + 1) high bus k rest on_bus one rising.1 (omega (arith, less)) (omega (arith, few)) same

-- a letter was put on the bus again if it was due: what is told of those that are left then
pub next_told : (stopped : List Bool) (node high k : ℕ) (all : List Sent) (on_bus : List Bool) (bus new : List Sent)
    (one : Sent) → RisesWithin 0 high all
    → k < length all → length on_bus ≡ length all → one ≡ get_or all k one
    → new ≡ (if is_due stopped node bus one then put_on one bus else bus)
    → on_bus_of bus (drop k all) ≡ drop k on_bus → on_bus_of new (drop (k + 1) all) ≡ drop (k + 1) on_bus
next_told stopped node high k all on_bus bus new one rising less long there made same =
    let put = made ∙ ap (λ (sent : Sent). if is_due stopped node bus one then put_on sent bus else bus) there in
    let rest = rest_told (is_due stopped node bus one) 0 high bus k all on_bus one rising less
    (omega (arith, less, long)) same in
    let next : suc k ≡ k + 1 = omega arith in
    subst (λ n. on_bus_of new (drop n all) ≡ drop n on_bus) next (ap (λ b. on_bus_of b (drop (suc k) all)) put ∙ rest)

-- and what is left to be put again
pub next_put : (stopped : List Bool) (node k : ℕ) (all bus new start : List Sent) (one : Sent) → k < length all
    → one ≡ get_or all k one
    → new ≡ (if is_due stopped node bus one then put_on one bus else bus)
    → put_again stopped node (drop k all) bus ≡ start
    → put_again stopped node (drop (k + 1) all) new ≡ start
next_put stopped node k all bus new start one less there made same =
    let parted = at_drop_more (λ (xs : List Sent). put_again stopped node xs bus) all k one less in
    let here = ap (λ (sent : Sent). put_again stopped node (sent ∷ drop (k + 1) all) bus) there in
    ap (λ b. put_again stopped node (drop (k + 1) all) b) made ∙ here ∙ sym parted ∙ same

-- the packets up to one more
abbrev held : Sent → Option Sent → Sent
held one None = one
held one (Some sent) = sent

take_next : (k : ℕ) (bus : List Sent) (packet : Sent) → slice_get bus k ≡ Some packet
    → take (suc k) bus ≡ take k bus ++ packet ∷ []
take_next k [] packet same = absurd (true≢false (sym (ap is_some same)))
take_next zero (one ∷ bus) packet same = ap (λ o. held packet o ∷ []) same
take_next (suc k) (one ∷ bus) packet same = ap (λ xs. one ∷ xs) (take_next k bus packet same)

take_past : (k : ℕ) (bus : List Sent) → slice_get bus k ≡ None → take (suc k) bus ≡ take k bus
take_past zero [] same = refl
take_past (suc k) [] same = refl
take_past zero (one ∷ bus) same = absurd (true≢false (ap is_some same))
take_past (suc k) (one ∷ bus) same = ap (λ xs. one ∷ xs) (take_past k bus same)

further : (k : ℕ) (bus : List Sent) (packet : Sent) (all : List Sent) → Rises all → slice_get bus k ≡ Some packet
    → on_bus_of (take (k + 1) bus) all
    ≡ set (on_bus_of (take k bus) all) (position_or_len (is_sending packet.number) all) true
further k bus packet all rising there =
    let next : k + 1 ≡ suc k = omega arith in
    ap (λ n. on_bus_of (take n bus) all) next ∙ ap (λ xs. on_bus_of xs all) (take_next k bus packet there)
    ∙ tells 0 rising.0 (take k bus) packet all rising.1

-- one packet further: the letter of its number is on the bus
pub next_at : (k place : ℕ) (bus : List Sent) (packet : Sent) (all : List Sent) → Rises all
    → slice_get bus k ≡ Some packet
    → position (is_sending packet.number) all ≡ Some place
    → on_bus_of (take (k + 1) bus) all ≡ set (on_bus_of (take k bus) all) place true
next_at k place bus packet all rising there at =
    let same : position_or_len (is_sending packet.number) all ≡ place = grind (arith, common_steps, at) in
    further k bus packet all rising there ∙ ap (λ n. set (on_bus_of (take k bus) all) n true) same

length_map : (f : Sent → Bool) (all : List Sent) → length (map f all) ≡ length all
length_map f [] = refl
length_map f (one ∷ rest) = ap suc (length_map f rest)

-- or none is
pub next_none : (k : ℕ) (bus : List Sent) (packet : Sent) (all : List Sent) → Rises all → slice_get bus k ≡ Some packet
    → position (is_sending packet.number) all ≡ None → on_bus_of (take (k + 1) bus) all ≡ on_bus_of (take k bus) all
next_none k bus packet all rising there at =
    let past : length all ≤ position_or_len (is_sending packet.number) all = grind (arith, common_steps, at) in
    further k bus packet all rising there ∙ set_past (on_bus_of (take k bus) all)
    (position_or_len (is_sending packet.number) all) true
    (omega (arith, past, length_map (λ (one : Sent). is_on (take k bus) one.number) all))

-- past the last packet
pub next_past : (k : ℕ) (bus all : List Sent) → slice_get bus k ≡ None
    → on_bus_of (take (k + 1) bus) all ≡ on_bus_of (take k bus) all
next_past k bus all there =
    let next : k + 1 ≡ suc k = omega arith in
    ap (λ n. on_bus_of (take n bus) all) next ∙ ap (λ xs. on_bus_of xs all) (take_past k bus there)
