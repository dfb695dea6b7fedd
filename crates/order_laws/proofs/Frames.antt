-- What a deed leaves.
use Rattle.std.proofs.Common.{◌≡◌, ℕ, zero, suc, List, [], ◌∷◌, Option, Some, None, slice_get, slice_set, refl, ap}
use Rattle.std.proofs.Common.{sym, ◌∙◌}
use Rattle.std.specs.Option.{option_and_then, option_map, unwrap_or}
use Rattle.plain_semantics.specs.declared.slot.Opener.{Opener}
use Rattle.plain_semantics.specs.declared.slot.Slot.{Slot}
use Rattle.plain_semantics.specs.Machine.{Plain, PlainProcess, slot_of}
use Rattle.order_laws.proofs.Deeds.{Actor, Core, Deed, Entered, Nothing, OfProcess, OfTerminal, Own, Process, alter}
use Rattle.order_laws.proofs.Deeds.{alter-both, carried, own, own_of, put_own, put_slot, slot_into, with_core}

-- Lists

pub set-other : {A : Type 0} (xs : List A) (i j : ℕ) (x : A) → (i ≡ j → ⊥)
    → slice_get (slice_set xs i x) j ≡ slice_get xs j
set-other [] i j x apart = refl
set-other (y ∷ xs) zero zero x apart = absurd (apart refl)
set-other (y ∷ xs) zero (suc j) x apart = refl
set-other (y ∷ xs) (suc i) zero x apart = refl
set-other (y ∷ xs) (suc i) (suc j) x apart = set-other xs i j x (λ e. apart (ap suc e))

set-there : {A : Type 0} (xs : List A) (i : ℕ) (x : A)
    → slice_get (slice_set xs i x) i ≡ option_map (λ (was : A). x) (slice_get xs i)
set-there [] i x = refl
set-there (y ∷ xs) zero x = refl
set-there (y ∷ xs) (suc i) x = set-there xs i x

set-both : {A : Type 0} (xs : List A) (i j : ℕ) (x y : A) → (i ≡ j → ⊥)
    → slice_set (slice_set xs i x) j y ≡ slice_set (slice_set xs j y) i x
set-both [] i j x y apart = refl
set-both (z ∷ xs) zero zero x y apart = absurd (apart refl)
set-both (z ∷ xs) zero (suc j) x y apart = refl
set-both (z ∷ xs) (suc i) zero x y apart = refl
set-both {A} (z ∷ xs) (suc i) (suc j) x y apart =
    ap (λ (rest : List A). z ∷ rest) (set-both xs i j x y (λ e. apart (ap suc e)))

get-other : (change : PlainProcess → PlainProcess) (all : List PlainProcess) (i j : ℕ) → (i ≡ j → ⊥)
    → slice_get (alter i change all) j ≡ slice_get all j
get-other change [] i j apart = refl
get-other change (x ∷ all) zero zero apart = absurd (apart refl)
get-other change (x ∷ all) zero (suc j) apart = refl
get-other change (x ∷ all) (suc i) zero apart = refl
get-other change (x ∷ all) (suc i) (suc j) apart = get-other change all i j (λ e. apart (ap suc e))

get-own : (all : List PlainProcess) (i place : ℕ) (slot : Slot) (j : ℕ)
    → own_of (slice_get (alter i (slot_into place slot) all) j) ≡ own_of (slice_get all j)
get-own [] i place slot j = refl
get-own (x ∷ all) zero place slot zero = refl
get-own (x ∷ all) zero place slot (suc j) = refl
get-own (x ∷ all) (suc i) place slot zero = refl
get-own (x ∷ all) (suc i) place slot (suc j) = get-own all i place slot j

get-put : (all : List PlainProcess) (i : ℕ) (core was : Core) → own_of (slice_get all i) ≡ Process was
    → own_of (slice_get (alter i (with_core core) all) i) ≡ Process core
get-put [] i core was there = absurd (cc)
get-put (x ∷ all) zero core was there = refl
get-put (x ∷ all) (suc i) core was there = get-put all i core was there

-- the slot at a place of a process, if both are there
abbrev slot_in : ℕ → Option PlainProcess → Option Slot
slot_in place found = option_and_then (λ (server : PlainProcess). slice_get server.slots place) found

slot-core : (all : List PlainProcess) (i : ℕ) (core : Core) (j place : ℕ)
    → slot_in place (slice_get (alter i (with_core core) all) j) ≡ slot_in place (slice_get all j)
slot-core [] i core j place = refl
slot-core (x ∷ all) zero core zero place = refl
slot-core (x ∷ all) zero core (suc j) place = refl
slot-core (x ∷ all) (suc i) core zero place = refl
slot-core (x ∷ all) (suc i) core (suc j) place = slot-core all i core j place

slot-other : (all : List PlainProcess) (i place : ℕ) (slot : Slot) (j other : ℕ) → (i ≡ j → place ≡ other → ⊥)
    → slot_in other (slice_get (alter i (slot_into place slot) all) j) ≡ slot_in other (slice_get all j)
slot-other [] i place slot j other apart = refl
slot-other (x ∷ all) zero place slot zero other apart = set-other x.slots place other slot (apart refl)
slot-other (x ∷ all) zero place slot (suc j) other apart = refl
slot-other (x ∷ all) (suc i) place slot zero other apart = refl
slot-other (x ∷ all) (suc i) place slot (suc j) other apart =
    slot-other all i place slot j other (λ e. apart (ap suc e))

slot-there : (all : List PlainProcess) (i place : ℕ) (slot : Slot)
    → slot_in place (slice_get (alter i (slot_into place slot) all) i)
    ≡ option_map (λ (was : Slot). slot) (slot_in place (slice_get all i))
slot-there [] i place slot = refl
slot-there (x ∷ all) zero place slot = set-there x.slots place slot
slot-there (x ∷ all) (suc i) place slot = slot-there all i place slot

-- What actors have

own-kept : (one other : Actor) (after : Own) (plain : Plain) → (one ≡ other → ⊥)
    → own (put_own one after plain) other ≡ own plain other
own-kept (OfProcess n) (OfProcess m) (Process core) plain apart =
    ap own_of (get-other (with_core core) plain.processes n m (λ e. apart (ap OfProcess e)))
own-kept (OfProcess n) (OfProcess m) Nothing plain apart = refl
own-kept (OfProcess n) (OfProcess m) (Entered count) plain apart = refl
own-kept (OfProcess n) (OfTerminal t) (Process core) plain apart = refl
own-kept (OfProcess n) (OfTerminal t) Nothing plain apart = refl
own-kept (OfProcess n) (OfTerminal t) (Entered count) plain apart = refl
own-kept (OfTerminal t) (OfProcess m) (Process core) plain apart = refl
own-kept (OfTerminal t) (OfProcess m) Nothing plain apart = refl
own-kept (OfTerminal t) (OfProcess m) (Entered count) plain apart = refl
own-kept (OfTerminal t) (OfTerminal u) (Process core) plain apart = refl
own-kept (OfTerminal t) (OfTerminal u) Nothing plain apart = refl
own-kept (OfTerminal t) (OfTerminal u) (Entered count) plain apart =
    ap (λ (found : Option ℕ). Entered (unwrap_or found 0))
    (set-other plain.entered t u count (λ e. apart (ap OfTerminal e)))

own-slot : (opener : Option Opener) (slot : Slot) (plain : Plain) (actor : Actor)
    → own (put_slot opener slot plain) actor ≡ own plain actor
own-slot None slot plain actor = refl
own-slot (Some opener) slot plain (OfProcess n) = get-own plain.processes opener.server opener.place slot n
own-slot (Some opener) slot plain (OfTerminal t) = refl

-- another actor has what it had
pub own-apart : (opener : Option Opener) (actor other : Actor) (one : Deed) (plain : Plain) → (actor ≡ other → ⊥)
    → own (carried opener actor one plain) other ≡ own plain other
own-apart opener actor other one plain apart =
    own-slot opener one.slot (put_own actor one.after plain) other ∙ own-kept actor other one.after plain apart

-- its process has what is put
pub own-put : (opener : Option Opener) (number : ℕ) (one : Deed) (plain : Plain) (core was : Core)
    → one.after ≡ Process core → own plain (OfProcess number) ≡ Process was
    → own (carried opener (OfProcess number) one plain) (OfProcess number) ≡ Process core
own-put opener number one plain core was after there =
    own-slot opener one.slot (put_own (OfProcess number) one.after plain) (OfProcess number)
    ∙ ap (λ (has : Own). own (put_own (OfProcess number) has plain) (OfProcess number)) after
    ∙ get-put plain.processes number core was there

-- Slots

slot-own : (actor : Actor) (after : Own) (plain : Plain) (opener : Opener)
    → slot_of (put_own actor after plain) (Some opener) ≡ slot_of plain (Some opener)
slot-own (OfProcess n) (Process core) plain opener = slot-core plain.processes n core opener.server opener.place
slot-own (OfProcess n) Nothing plain opener = refl
slot-own (OfProcess n) (Entered count) plain opener = refl
slot-own (OfTerminal t) (Process core) plain opener = refl
slot-own (OfTerminal t) Nothing plain opener = refl
slot-own (OfTerminal t) (Entered count) plain opener = refl

opener-is : (one other : Opener) → one.server ≡ other.server → one.place ≡ other.place → one ≡ other
opener-is one other server place =
    ap (λ (n : ℕ). record { server = n; place = one.place }) server
    ∙ ap (λ (n : ℕ). record { server = other.server; place = n }) place

-- another slot is as it was
pub slot-apart : (opener : Option Opener) (actor : Actor) (one : Deed) (plain : Plain) (other : Opener)
    → (opener ≡ Some other → ⊥)
    → slot_of (carried opener actor one plain) (Some other) ≡ slot_of plain (Some other)
slot-apart None actor one plain other apart = slot-own actor one.after plain other
slot-apart (Some opener) actor one plain other apart =
    slot-other (put_own actor one.after plain).processes opener.server opener.place one.slot other.server other.place
    (λ server place. apart (ap Some (opener-is opener other server place)))
    ∙ slot-own actor one.after plain other

-- the slot has what is put, if it is there
pub slot-put : (opener : Opener) (actor : Actor) (one : Deed) (plain : Plain)
    → slot_of (carried (Some opener) actor one plain) (Some opener)
    ≡ option_map (λ (was : Slot). one.slot) (slot_of plain (Some opener))
slot-put opener actor one plain =
    slot-there (put_own actor one.after plain).processes opener.server opener.place one.slot
    ∙ ap (option_map (λ (was : Slot). one.slot)) (slot-own actor one.after plain opener)

-- Two deeds

owns-both : (one other : Actor) (first second : Own) (plain : Plain) → (one ≡ other → ⊥)
    → put_own other second (put_own one first plain) ≡ put_own one first (put_own other second plain)
owns-both (OfProcess n) (OfProcess m) (Process core) (Process next) plain apart =
    ap (λ (all : List PlainProcess). record plain { processes = all })
    (alter-both (with_core core) (with_core next) n m plain.processes (λ e x. absurd (apart (ap OfProcess e))))
owns-both (OfProcess n) (OfProcess m) (Process core) Nothing plain apart = refl
owns-both (OfProcess n) (OfProcess m) (Process core) (Entered count) plain apart = refl
owns-both (OfProcess n) (OfTerminal t) (Process core) (Process next) plain apart = refl
owns-both (OfProcess n) (OfTerminal t) (Process core) Nothing plain apart = refl
owns-both (OfProcess n) (OfTerminal t) (Process core) (Entered count) plain apart = refl
owns-both (OfProcess n) other Nothing second plain apart = refl
owns-both (OfProcess n) other (Entered count) second plain apart = refl
owns-both (OfTerminal t) other (Process core) second plain apart = refl
owns-both (OfTerminal t) other Nothing second plain apart = refl
owns-both (OfTerminal t) (OfProcess m) (Entered count) (Process next) plain apart = refl
owns-both (OfTerminal t) (OfProcess m) (Entered count) Nothing plain apart = refl
owns-both (OfTerminal t) (OfProcess m) (Entered count) (Entered next) plain apart = refl
owns-both (OfTerminal t) (OfTerminal u) (Entered count) (Process next) plain apart = refl
owns-both (OfTerminal t) (OfTerminal u) (Entered count) Nothing plain apart = refl
owns-both (OfTerminal t) (OfTerminal u) (Entered count) (Entered next) plain apart =
    ap (λ (entered : List ℕ). record plain { entered = entered })
    (set-both plain.entered t u count next (λ e. apart (ap OfTerminal e)))

own-slot-both : (actor : Actor) (after : Own) (opener : Option Opener) (slot : Slot) (plain : Plain)
    → put_own actor after (put_slot opener slot plain) ≡ put_slot opener slot (put_own actor after plain)
own-slot-both actor after None slot plain = refl
own-slot-both (OfProcess n) (Process core) (Some opener) slot plain =
    ap (λ (all : List PlainProcess). record plain { processes = all })
    (alter-both (slot_into opener.place slot) (with_core core) opener.server n plain.processes (λ e x. refl))
own-slot-both (OfProcess n) Nothing (Some opener) slot plain = refl
own-slot-both (OfProcess n) (Entered count) (Some opener) slot plain = refl
own-slot-both (OfTerminal t) (Process core) (Some opener) slot plain = refl
own-slot-both (OfTerminal t) Nothing (Some opener) slot plain = refl
own-slot-both (OfTerminal t) (Entered count) (Some opener) slot plain = refl

slots-both : (one other : Option Opener) (slot next : Slot) (plain : Plain)
    → ((opener : Opener) → one ≡ Some opener → other ≡ Some opener → ⊥)
    → put_slot other next (put_slot one slot plain) ≡ put_slot one slot (put_slot other next plain)
slots-both None other slot next plain apart = refl
slots-both (Some one) None slot next plain apart = refl
slots-both (Some one) (Some other) slot next plain apart =
    ap (λ (all : List PlainProcess). record plain { processes = all })
    (alter-both (slot_into one.place slot) (slot_into other.place next) one.server other.server plain.processes
    (λ server x. ap (λ (slots : List Slot). record x { slots = slots })
    (set-both x.slots one.place other.place slot next
    (λ place. apart other (ap Some (opener-is one other server place)) refl))))

-- two deeds of different actors that touch different slots come to the same in either order
pub carried-both : (one other : Option Opener) (actor next : Actor) (first second : Deed) (plain : Plain)
    → (actor ≡ next → ⊥) → ((opener : Opener) → one ≡ Some opener → other ≡ Some opener → ⊥)
    → carried other next second (carried one actor first plain)
    ≡ carried one actor first (carried other next second plain)
carried-both one other actor next first second plain actors openers =
    ap (put_slot other second.slot) (own-slot-both next second.after one first.slot (put_own actor first.after plain))
    ∙ slots-both one other first.slot second.slot (put_own next second.after (put_own actor first.after plain)) openers
    ∙ ap (λ (p : Plain). put_slot one first.slot (put_slot other second.slot p))
    (owns-both actor next first.after second.after plain actors)
    ∙ ap (put_slot one first.slot)
    (sym (own-slot-both actor first.after other second.slot (put_own next second.after plain)))
