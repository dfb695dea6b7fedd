-- That each part of an event has what it needs: the room of its state, and letters whose count has 64 bits.
use Rattle.std.proofs.Common.{◌≡◌, inl, inr, ◌≤◌, ◌<◌, ℕ, zero, suc, ◌+◌, ◌-◌, Bool, true, false, List, [], ◌∷◌, Option}
use Rattle.std.proofs.Common.{Some, None, slice_get, refl, sym, subst, ◌∙◌, ap, arith}
use Rattle.std.specs.List.{cons_option}
use Rattle.std.specs.Option.{option_map}
use Rattle.gd_words.specs.Members.{IsAmong}
use Rattle.schedule.specs.declared.event.Event.{Event}
use Rattle.world_semantics.specs.Messages.{Sending}
use Rattle.world_semantics.specs.Running.{Done}
use Rattle.world_semantics.proofs.Lists.{some-same}
use Rattle.message_wires.specs.computed_changes.specs.Stopped.{mark_where, down_done, marked_where, may_mark}
use Rattle.message_wires.specs.letters.specs.Routes.{Letter, letter_of, letters_of, receiver_of}
use Rattle.machine_states.specs.States.{Played, Makes, Skips, Would}
use Rattle.message_wires.specs.Play.{MachineState, made_by, marked_by, marks_from, play}
use Rattle.message_wires.specs.Wires.{Wires, wires_after_posts, wires_after_post}
use Rattle.number_laws.proofs.Counts.{downs-grow}
use Rattle.gd_words.specs.Ranges.{HasNextLong}
use Rattle.number_laws.specs.message_wires.specs.HasRoom.{HasRoom, HasRoomForLetters}
use Rattle.world_copies.specs.Room.{AllWatchersHaveRoom}
use Rattle.world_copies.specs.Told.{sent_in}
use Rattle.world_copies.proofs.Room.{all-marked-room}
use Rattle.pair_machine.specs.Room.{AreCounted, AreCountedAfter, AreCountedTelling}
use Rattle.pair_machine.specs.Told.{sent_all, unsent}

-- Marks

pub watchers-room : (s : MachineState) → HasRoom s → AllWatchersHaveRoom s.world.processes
watchers-room s room number pair there k watches = room.processes number pair there k

-- a mark of a tick leaves room to those that still watch
pub mark-room : (node processor : ℕ) (s : MachineState) → AllWatchersHaveRoom s.world.processes
    → AllWatchersHaveRoom (marked_by node processor s (down_done node processor s.world)).world.processes
mark-room node processor s room = by (slice_get s.world.stopped processor)
  where
    where_may : (test : Bool) → AllWatchersHaveRoom
        (marked_by node processor s (marked_where node processor s.world test)).world.processes
    where_may true = all-marked-room node processor s.world.processes room
    where_may false = room

    by : (stopped : Option Bool) → AllWatchersHaveRoom
        (marked_by node processor s (mark_where node processor s.world stopped)).world.processes
    by None = room
    by (Some false) = room
    by (Some true) = where_may (may_mark node processor s.world)

-- Letters

posted-grows : (letters : List Letter) (wires : Wires) → wires.count ≤ (wires_after_posts letters wires).count
posted-grows [] wires = omega arith
posted-grows (letter ∷ letters) wires =
    let rest = posted-grows letters (wires_after_post letter wires) in omega (arith, rest)

fewer : (s t : MachineState) → s.wires.count ≤ t.wires.count → AreCounted t → AreCounted s
fewer s t less counted = omega (arith, less, counted)

-- the letter of what is sent to a receiver that is found
abbrev letter_by : Sending → Option ℕ → Option Letter
letter_by sending receiver =
    option_map (λ receiver. record { sender = sending.node; receiver = receiver; message = sending.message }) receiver

-- what is sent first has its letters counted where all have
pub first-counted : (sending : Sending) (rest : List Sending) (s all : MachineState)
    → sent_all (sending ∷ rest) s ≡ all → AreCounted all
    → AreCounted (sent_all (sending ∷ []) s)
first-counted sending rest s all same counted =
    fewer (sent_all (sending ∷ []) s) (sent_all (sending ∷ rest) s) (by (letter_of s.site s.world sending))
    (subst AreCounted (sym same) counted)
  where
    by : (one : Option Letter)
        → (wires_after_posts (cons_option one []) s.wires).count
        ≤ (wires_after_posts (cons_option one (letters_of s.site s.world rest)) s.wires).count
    by None = posted-grows (letters_of s.site s.world rest) s.wires
    by (Some letter) = posted-grows (letters_of s.site s.world rest) (wires_after_post letter s.wires)

-- a letter that is posted has a number with a successor where it is counted
pub posted_next : (sending : Sending) (receiver : ℕ) (s : MachineState)
    → receiver_of s.site s.world sending.node sending.message ≡ Some receiver
    → AreCounted (sent_all (sending ∷ []) s) → HasNextLong s.wires.count
posted_next sending receiver s found counted =
    let all : AreCounted (record s {
      wires =
          wires_after_posts (cons_option (letter_by sending (Some receiver)) []) s.wires;
    }) =
    subst (λ there. AreCounted (record s {
      wires =
          wires_after_posts (cons_option (letter_by sending there) []) s.wires;
    })) found counted in
    omega (arith, all)

-- one mark of a tick has its letters counted where all have
pub mark-counted : (node place count : ℕ) (s all : MachineState) → place < count
    → marks_from node place (count - place) s ≡ all → AreCounted all
    → AreCounted (marked_by node place s (down_done node place s.world))
mark-counted node place count s all within same counted =
    let next = marked_by node place s (down_done node place s.world) in
    let more : count - place ≡ suc (count - (place + 1)) = omega arith in
    fewer next (marks_from node (place + 1) (count - (place + 1)) next)
    (downs-grow node (place + 1) (count - (place + 1)) next)
    (subst AreCounted (sym same ∙ ap (λ left. marks_from node place left s) more) counted)

-- whatever event comes, its letters are counted
pub played-counted : (s : MachineState) → HasRoomForLetters s → (event : Event) → AreCountedAfter (play s event)
played-counted s letters event = by (play s event) refl
  where
    by : (made : Played Wires) → play s event ≡ made → AreCountedAfter made
    by (Makes next) is = letters event next is
    by Skips is = tt
    by (Would harm) is = tt

-- so are those that a change sends, which is told
pub told-counted : (s mid : MachineState) (done : Option Done) (told : Option (List Sending)) → mid ≡ unsent s done
    → told ≡ sent_in done
    → AreCountedAfter (made_by s done) → AreCountedTelling told mid
told-counted s mid done told same tells counted =
    subst (λ mid. AreCountedTelling told mid) (sym same)
    (subst (λ told. AreCountedTelling told (unsent s done)) (sym tells) (by done counted))
  where
    by : (done : Option Done) → AreCountedAfter (made_by s done) → AreCountedTelling (sent_in done) (unsent s done)
    by None counted = tt
    by (Some made) counted = counted

-- Packets

-- a packet that stands at a position is among them
pub is-among : {A : Type 0} (xs : List A) (k : ℕ) (x : A) → slice_get xs k ≡ Some x → IsAmong x xs
is-among [] k x there = absurd (cc)
is-among (y ∷ xs) zero x there = inl (sym (some-same there))
is-among (y ∷ xs) (suc k) x there = inr (is-among xs k x there)
