-- The present of what is its own present already, and of a process among others.
use Rattle.std.proofs.Common.{◌≡◌, ℕ, zero, suc, List, [], ◌∷◌, map, take, slice_get, slice_set, refl, ap, ap₂}
use Rattle.std.proofs.Common.{option_map}
use Rattle.schedule_loop.specs.world_semantics.specs.World.{Pair, World}
use Rattle.schedule_loop.specs.machine_states.specs.States.{State}
use Rattle.history_laws.specs.Present.{present, present_pair, present_state, recent}

pub recent-twice : {A : Type 0} (l : List A) → recent (recent l) ≡ recent l
recent-twice [] = refl
recent-twice (one ∷ []) = refl
recent-twice (one ∷ two ∷ rest) = refl

-- the newest one
pub newest-twice : {A : Type 0} (l : List A) → take 1 (recent l) ≡ take 1 l
newest-twice [] = refl
newest-twice (one ∷ []) = refl
newest-twice (one ∷ two ∷ rest) = refl

pub pair-twice : (pair : Pair) → present_pair (present_pair pair) ≡ present_pair pair
pair-twice pair = rw (recent-twice pair.checkpoints) refl

pub pairs-twice : (pairs : List Pair) → map present_pair (map present_pair pairs) ≡ map present_pair pairs
pairs-twice [] = refl
pairs-twice (pair ∷ pairs) = ap₂ (λ (p : Pair) (ps : List Pair). p ∷ ps) (pair-twice pair) (pairs-twice pairs)

pub world-twice : (w : World) → present (present w) ≡ present w
world-twice w =
    ap (λ (pairs : List Pair). record w { requests = []; replies = []; processes = pairs }) (pairs-twice w.processes)

pub state-twice : {Wires : Type 0} (s : State Wires) → present_state (present_state s) ≡ present_state s
state-twice s = ap (λ (w : World). record s { world = w }) (world-twice s.world)

pub get-present : (pairs : List Pair) (number : ℕ)
    → slice_get (map present_pair pairs) number ≡ option_map present_pair (slice_get pairs number)
get-present [] number = refl
get-present (pair ∷ pairs) zero = refl
get-present (pair ∷ pairs) (suc number) = get-present pairs number

pub set-present : (pairs : List Pair) (number : ℕ) (pair : Pair)
    → map present_pair (slice_set pairs number pair) ≡ slice_set (map present_pair pairs) number (present_pair pair)
set-present [] number pair = refl
set-present (one ∷ pairs) zero pair = refl
set-present (one ∷ pairs) (suc number) pair =
    ap (λ (ps : List Pair). present_pair one ∷ ps) (set-present pairs number pair)
