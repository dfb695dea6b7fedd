-- That processes have the room that a change of the world needs.
use Rattle.std.proofs.Common.{◌≡◌, ℕ, List, Option, Some, None, slice_get, slice_set, map, ap, sym, subst, ◌∙◌}
use Rattle.std.specs.Option.{option_map}
use Rattle.world_semantics.specs.declared.which.Which.{Which}
use Rattle.world_semantics.specs.declared.which.Which.TheVariants.{First, Second}
use Rattle.world_semantics.specs.Rules.{pair_after_down, pair_at_down, renewals_ended, taker}
use Rattle.world_semantics.specs.World.{Pair, World}
use Rattle.world_semantics.proofs.Lists.{map-all, set-all}
use Rattle.process_copies.specs.message_wires.specs.HasRoom.{PairHasRoom, WorldHasRoom}
use Rattle.process_copies.specs.Seen.{Placed}
use Rattle.world_copies.specs.Room.{AllHaveRoom, AllWatchersHaveRoom, WatchersHaveRoom}
use Rattle.world_copies.specs.Seen.{pairs_in}
use Rattle.world_copies.proofs.Places.{pair-at, pairs-set}

-- a process that is found in its place has room
pub placed-room : (w : World) (places : List Placed) (k : ℕ) (placed : Placed) → w.processes ≡ pairs_in places
    → slice_get places k ≡ Some placed
    → WorldHasRoom w → PairHasRoom placed.pair
placed-room w places k placed pairs there room =
    room.processes k placed.pair
    (ap (λ all. slice_get all k) pairs ∙ pair-at places k ∙ ap (option_map (λ (placed : Placed). placed.pair)) there)

marked-one : (k : Option Which) (pair : Pair) → WatchersHaveRoom pair → WatchersHaveRoom (pair_after_down k pair)
marked-one None pair room k watches = room k watches
marked-one (Some First) pair room First watches = absurd (cc)
marked-one (Some First) pair room Second watches =
    let has = room Second watches in
    record {
      next = has.next;
      taken = has.taken;
      write = has.write;
      number = has.number;
      era = has.era;
      position = has.position;
    }
marked-one (Some Second) pair room First watches =
    let has = room First watches in
    record {
      next = has.next;
      taken = has.taken;
      write = has.write;
      number = has.number;
      era = has.era;
      position = has.position;
    }
marked-one (Some Second) pair room Second watches = absurd (cc)

ended-one : (node processor : ℕ) (pair : Pair) → WatchersHaveRoom pair
    → WatchersHaveRoom (renewals_ended node processor pair)
ended-one node processor pair room First watches =
    let has = room First watches in
    record {
      next = has.next;
      taken = has.taken;
      write = has.write;
      number = has.number;
      era = has.era;
      position = has.position;
    }
ended-one node processor pair room Second watches =
    let has = room Second watches in
    record {
      next = has.next;
      taken = has.taken;
      write = has.write;
      number = has.number;
      era = has.era;
      position = has.position;
    }

-- a mark leaves room to the copies that still watch
pub marked-room : (node processor : ℕ) (pair : Pair) → WatchersHaveRoom pair
    → WatchersHaveRoom (pair_at_down node processor pair)
marked-room node processor pair room =
    ended-one node processor (pair_after_down (taker node processor pair) pair)
    (marked-one (taker node processor pair) pair room)

-- and all of them
pub all-marked-room : (node processor : ℕ) (pairs : List Pair) → AllWatchersHaveRoom pairs
    → AllWatchersHaveRoom (map (pair_at_down node processor) pairs)
all-marked-room node processor pairs room =
    map-all (λ number. WatchersHaveRoom) (pair_at_down node processor) pairs
    (λ number pair there. marked-room node processor pair (room number pair there))

-- the process at a place
pub watcher-there : (places : List Placed) (k : ℕ) (placed : Placed) → slice_get places k ≡ Some placed
    → AllWatchersHaveRoom (pairs_in places)
    → WatchersHaveRoom placed.pair
watcher-there places k placed there rooms =
    rooms k placed.pair (pair-at places k ∙ ap (option_map (λ (placed : Placed). placed.pair)) there)

pub room-there : (places : List Placed) (k : ℕ) (placed : Placed) → slice_get places k ≡ Some placed
    → AllHaveRoom (pairs_in places) → PairHasRoom placed.pair
room-there places k placed there rooms =
    rooms k placed.pair (pair-at places k ∙ ap (option_map (λ (placed : Placed). placed.pair)) there)

-- where one process changes that keeps room, and no other one
pub put-room : (places : List Placed) (k : ℕ) (after : Placed) → WatchersHaveRoom after.pair
    → AllWatchersHaveRoom (pairs_in places)
    → AllWatchersHaveRoom (pairs_in (slice_set places k after))
put-room places k after room rooms =
    subst AllWatchersHaveRoom (sym (pairs-set places k after))
    (set-all (λ number. WatchersHaveRoom) (pairs_in places) k after.pair rooms room)
