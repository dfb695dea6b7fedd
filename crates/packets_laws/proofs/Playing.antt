-- Every event does to the post what it makes of the state.
use Rattle.std.proofs.Common.{◌≡◌, ◌≢◌, ◌<◌, ℕ, Bool, true, false, if◌then◌else◌, ℤ, List, [], ◌∷◌, ◌++◌, Option, Some}
use Rattle.std.proofs.Common.{None, slice_get, inl, inr, refl, sym, ap, subst, ◌∙◌}
use Rattle.gd_words.specs.Members.{IsAmong}
use Rattle.gd_words.proofs.Among.{among-at, among-left, among-right}
use Rattle.schedule.specs.declared.event.Event.{Event}
use Rattle.schedule.specs.declared.event.Event.TheVariants.{Run, Enter, Deliver, Lose, Repeat, Tick, Fail, Reload}
use Rattle.schedule.specs.declared.event.Event.TheVariants.{Drive}
use Rattle.schedule.specs.declared.bus_name.BusName.{BusName}
use Rattle.schedule.specs.declared.bus_name.BusName.TheVariants as bus
use Rattle.packet_words.specs.declared.packet.Packet.{Packet}
use Rattle.alive_regroup.specs.Watching as watching
use Rattle.alive_regroup.specs.Watching.{changed_at}
use Rattle.world_semantics.specs.World.{World, is_running, is_whole}
use Rattle.world_semantics.proofs.Roles.{both-true}
use Rattle.world_semantics.specs.Messages.{Cause, Message, Checkpointing, Entering, Handing, Running}
use Rattle.world_semantics.specs.Messages.{Reloading, Stopping}
use Rattle.world_semantics.specs.Rules.{Change}
use Rattle.world_semantics.specs.Rules.{by_stop}
use Rattle.world_semantics.specs.Follows.{IsIdleFor}
use Rattle.world_semantics.specs.Running.{Done, run_done}
use Rattle.world_semantics.proofs.Ran.{run-may, run-idle}
use Rattle.computed_changes.specs.Entered.{enter_done}
use Rattle.computed_changes.specs.Laws.{IsSent}
use Rattle.computed_changes.specs.Handed.{handed_done}
use Rattle.computed_changes.specs.Stopped.{stop_if, stopped_world, down_done}
use Rattle.computed_changes.specs.Stopped.{reload_done}
use Rattle.computed_changes.proofs.Entered.{enter-may, enter-only}
use Rattle.computed_changes.proofs.Made.{handed-may}
use Rattle.computed_changes.proofs.Outcomes.{idle-where, reload-makes}
use Rattle.computed_changes.proofs.Stopped.{mark-may, reload-only}
use Rattle.letters.specs.Routes.{Letter, letters_of}
use Rattle.letters.specs.Posts.{Post, with_letters, played_more}
use Rattle.letters.specs.Posts.{PlaysEvent, plays_run, plays_no_run, plays_enter, plays_no_enter, plays_nothing}
use Rattle.letters.specs.Posts.{plays_hand, plays_drop, plays_again, plays_mark, plays_loss, plays_repeat}
use Rattle.letters.specs.Posts.{plays_no_tick, plays_tick, plays_tick_stop, plays_fail, plays_no_fail, MarksLetters}
use Rattle.letters.specs.Posts.{plays_drive, plays_reload, plays_no_reload, without_those_of}
use Rattle.letters.specs.Posts.{no_mark, one_mark, IsTaken}
use Rattle.letters.proofs.Owed.{played-sent, taken-there}
use Rattle.message_wires_laws.specs.machine_states.specs.States.{Played, Makes, Skips, Would, drive_played}
use Rattle.message_wires_laws.proofs.Stopping.{StopsNone, run-none, enter-none, handed-none, mark-none}
use Rattle.letters_layout.specs.message_layout.specs.Messages.{NodeMessage, Carrying, Changing, Reporting, Declaring}
use Rattle.letters_layout.specs.message_layout.specs.Reading.{understood}
use Rattle.packet_nets.specs.packet_wires.specs.Nodes.{end_at}
use Rattle.packet_nets.specs.packet_wires.specs.Wires.{Wires, Midst, goes_over, midst_after_arrival, learns}
use Rattle.packet_nets.specs.packet_wires.specs.Wires.{midst_after_tick}
use Rattle.packet_nets.specs.packet_wires.specs.Wires.{loaded_again}
use Rattle.packet_nets.specs.packet_wires.specs.Play.{Packeted, Underway, underway, after_done, made_by, after_any}
use Rattle.packet_nets.specs.packet_wires.specs.Play.{after_marked, marked_by}
use Rattle.packet_nets.specs.packet_wires.specs.Play.{marks, declared, handed, handed_any, handed_words, received}
use Rattle.packet_nets.specs.packet_wires.specs.Play.{deliver_acted}
use Rattle.packet_nets.specs.packet_wires.specs.Play.{lose_acted, repeat_acted, fail_acted, marks_and_declares, pulled}
use Rattle.packet_nets.specs.packet_wires.specs.Play.{pulls, line_of}
use Rattle.packet_nets.specs.packet_wires.specs.Play.{comes_in, is_current_at, pulled_running, reload_acted, stop_acted}
use Rattle.packet_nets.specs.packet_wires.specs.Play.{pulls_its, tick_acted, packet_at, acted, taken_off, ended, play}
use Rattle.change_layout.specs.Changing.{change_of}
use Rattle.checkpoint_image.specs.declared.message.ImageMessage.{ImageMessage}
use Rattle.computed_changes.specs.Changed.{change_done}
use Rattle.checkpoint_chains.specs.Chains.{IsNextTo}
use Rattle.checkpoint_chains.proofs.Newest.{change-new}
use Rattle.packet_nets.specs.packet_wires.specs.Parcels.{Parcel}
use Rattle.packet_nets.specs.Owing as net
use Rattle.packet_nets.specs.Owing.{content_of, Owes, Ties, on_both}
use Rattle.packets_laws.specs.Carried.{AllStandFor, IsCarried, IsCarriedAtRest, StandsFor}
use Rattle.packets_laws.proofs.Forms.{change-stays}
use Rattle.packets_laws.proofs.Forms.{letters-new}
use Rattle.packets_laws.proofs.Forms.{takes-letter, stand-without-of, were-without-of}
use Rattle.packet_nets.proofs.Arriving.{Arrives, hands_none, hands_other, hands_letter, hands_again}
use Rattle.packet_nets.proofs.Buses.{among-without}
use Rattle.packet_nets.proofs.Reloading.{reload-ties}
use Rattle.packet_nets.proofs.Sending.{watched-ties, fewer-ties, rest-ties, Came}
use Rattle.packet_nets.proofs.Sending.{came}
use Rattle.packet_nets.proofs.Ticking.{ticked-ties, down-ties, pulled-other}
use Rattle.packet_nets.proofs.Watches.{changed-watch}
use Rattle.message_wires_laws.specs.machine_states.proofs.Turning.{drive-cases}
use Rattle.schedule.specs.declared.event.DriveEvent.{DriveEvent}
use Rattle.packets_laws.proofs.Posting.{Carries, FitAll, HoldsLetters, change-counts, holds-still, marked-on}
use Rattle.packets_laws.proofs.Posting.{now-stopped}
use Rattle.packets_laws.proofs.Posting.{posted-on, reload-is, repeated-ties, still-running, stopped-ties}

-- the state that an event makes, if it makes one, is carried in its turn
abbrev pub GoesOn : List Event → List Packet → Underway → Played Midst → Type 0
GoesOn events on s (Makes next) = Carries events on next
GoesOn events on s Skips = Carries events on s
GoesOn events on s (Would harm) = Unit {0}

-- A state that is carried after these events, and in the midst of one more. Its letters carry messages that were sent,
-- and where one comes in that changes nothing no change is possible
module _ (events : List Event) (on : List Packet) (s : Underway) (owed sent : List Letter)
    (carried : IsCarried events on s owed sent)
    (honest : (letter : Letter) → IsAmong letter sent → IsSent s.world letter.message)
    (only : (letter : Letter) → IsAmong letter sent → handed_done s.site letter.receiver letter.message s.world ≡ None
    → IsIdleFor s.site s.world (Handing letter.receiver letter.message))
    (whole : (node : ℕ) (before one : ImageMessage) → IsSent s.world (Checkpointing before)
    → IsSent s.world (Checkpointing one) → IsNextTo before one
    → change_done s.site node (change_of before one) s.world ≡ handed_done s.site node (Checkpointing one) s.world)
    (fit : (event : Event) → FitAll s.site (events ++ event ∷ [])) where
  abbrev Post_of : List Letter → Post
  Post_of owed = record { world = s.world; owed = owed; sent = sent }

  abbrev Same : Event → Type 0
  Same event = PlaysEvent s.site (Post_of owed) event (Post_of owed)

  abbrev Tied : Midst → Type 0
  Tied midst = Ties s.site s.world.stopped s.world.reloads on midst carried.parcels carried.posted

  held : HoldsLetters s.world carried.parcels carried.posted owed sent
  held = record { stand = carried.stand; were = carried.were }

  -- the post stays the same, and the new wires are tied to it
  calm : (event : Event) (midst : Midst) → Tied midst → Same event
      → Carries (events ++ event ∷ []) on (record s { wires = midst })
  calm event midst T plays = (
    owed,
    sent,
    record {
      played = played_more carried.played plays;
      parcels = carried.parcels;
      posted = carried.posted;
      stand = carried.stand;
      were = carried.were;
      ties = T;
    },
  )

  T : Tied s.wires
  T = carried.ties

  changes : (event : Event) (cause : Cause) (done : Done) → StopsNone s.world (Some done)
      → ((processor : ℕ) → cause ≡ Reloading processor → ⊥)
      → Change s.site s.world cause done.sendings done.world
      → PlaysEvent s.site (Post_of owed) event
      (with_letters (letters_of s.site done.world done.sendings)
      (record { world = done.world; owed = owed; sent = sent }))
      → Carries (events ++ event ∷ []) on (after_done s done)
  changes event cause done none other change plays =
      posted-on s (events ++ event ∷ []) done.world s.wires owed sent (letters_of s.site done.world done.sendings)
      carried.parcels carried.posted (fit event) (change-stays s.world done.world cause done.sendings change) none
      (change-counts s.world done.world cause done.sendings change other)
      (letters-new s.site done.world done.sendings (change-new s.world done.world cause done.sendings change)) held
      carried.ties (played_more carried.played plays)

  run-on : (number : ℕ) → GoesOn (events ++ Run number ∷ []) on s (made_by s (run_done s.site number s.world))
  run-on number = by (run_done s.site number s.world) refl (run-none s.site s.world number)
    where
      by : (done : Option Done) → run_done s.site number s.world ≡ done → StopsNone s.world done
          → GoesOn (events ++ Run number ∷ []) on s (made_by s done)
      by None e none = calm (Run number) s.wires carried.ties (plays_no_run (run-idle s.site number s.world e))
      by (Some done) e none =
          let change = run-may s.site number s.world done e in
          changes (Run number) (Running number) done none (λ x same. cc) change (plays_run change)

  enter-on : (number : ℕ) → GoesOn (events ++ Enter number ∷ []) on s (made_by s (enter_done s.site number s.world))
  enter-on number = by (enter_done s.site number s.world) refl (enter-none s.site s.world number)
    where
      by : (done : Option Done) → enter_done s.site number s.world ≡ done → StopsNone s.world done
          → GoesOn (events ++ Enter number ∷ []) on s (made_by s done)
      by None e none =
          calm (Enter number) s.wires carried.ties
          (plays_no_enter (idle-where s.site s.world (Entering number) (enter_done s.site number s.world)
          (λ next sendings change. enter-only number s.world next sendings change) e))
      by (Some done) e none =
          let change = enter-may s.site number s.world done e in
          changes (Enter number) (Entering number) done none (λ x same. cc) change (plays_enter change)

  lose-on : (bus : BusName) (k : ℕ) (packet : Option Packet)
      → GoesOn (events ++ Lose bus k ∷ []) on s (lose_acted s packet)
  lose-on bus k None = calm (Lose bus k) s.wires carried.ties plays_loss
  lose-on bus k (Some packet) = calm (Lose bus k) s.wires carried.ties plays_loss

  repeat-on : (bus : BusName) (k : ℕ) (packet : Option Packet) → ((p : Packet) → packet ≡ Some p → IsAmong p on)
      → GoesOn (events ++ Repeat bus k ∷ []) on s (repeat_acted bus s packet)
  repeat-on bus k None stands = calm (Repeat bus k) s.wires carried.ties plays_repeat
  repeat-on bus k (Some p) stands =
      calm (Repeat bus k) (goes_over bus p s.wires)
      (repeated-ties s.wires bus p (stands p refl) carried.ties) plays_repeat

  fail-on : (processor : ℕ) → GoesOn (events ++ Fail processor ∷ []) on s
      (fail_acted processor s (slice_get s.world.stopped processor))
  fail-on processor = by (slice_get s.world.stopped processor) refl
    where
      stops : slice_get s.world.stopped processor ≡ Some false → (whole : Bool) → is_whole s.world ≡ whole
          → GoesOn (events ++ Fail processor ∷ []) on s
          (stop_acted processor s (stop_if processor s.world whole))
      stops e false parts = tt
      stops e true whole =
          let change : Change s.site s.world (Stopping processor) [] (stopped_world processor s.world) =
          by_stop processor e whole in
          let still = holds-still s.world (stopped_world processor s.world) carried.parcels carried.posted owed sent
          (change-stays s.world (stopped_world processor s.world) (Stopping processor) [] change) held in (
            owed,
            sent,
            record {
              played = played_more carried.played (plays_fail change);
              parcels = carried.parcels;
              posted = carried.posted;
              stand = still.stand;
              were = still.were;
              ties = stopped-ties s.site s.world.stopped s.wires carried.parcels carried.posted processor e
                  carried.ties;
            },
          )

      by : (stopped : Option Bool) → slice_get s.world.stopped processor ≡ stopped
          → GoesOn (events ++ Fail processor ∷ []) on s (fail_acted processor s stopped)
      by (Some false) e = rw e (stops e (is_whole s.world) refl)
      by (Some true) e =
          calm (Fail processor) s.wires carried.ties (plays_no_fail (λ runs. let same = sym e ∙ runs in cc))
      by None e = calm (Fail processor) s.wires carried.ties (plays_no_fail (λ runs. let same = sym e ∙ runs in cc))

  reload-on : (processor : ℕ) → GoesOn (events ++ Reload processor ∷ []) on s
      (reload_acted processor s (reload_done s.site processor s.world))
  reload-on processor = by (reload_done s.site processor s.world) refl
    where
      by : (done : Option Done) → reload_done s.site processor s.world ≡ done
          → GoesOn (events ++ Reload processor ∷ []) on s (reload_acted processor s done)
      by None e =
          calm (Reload processor) s.wires carried.ties
          (plays_no_reload (idle-where s.site s.world (Reloading processor) (reload_done s.site processor s.world)
          (λ next sendings change. reload-only processor s.world next sendings change) e))
      by (Some done) e =
          let is = reload-is s.site processor s.world done e in
          let change = reload-makes s.site s.world processor done e in
          let still = holds-still s.world done.world carried.parcels carried.posted owed sent
          (change-stays s.world done.world (Reloading processor) [] change) held in (
            without_those_of processor owed,
            without_those_of processor sent,
            record {
              played = played_more carried.played (plays_reload change);
              parcels = net.without_those_of processor carried.parcels;
              posted = net.without_those_of processor carried.posted;
              stand = stand-without-of done.world processor carried.parcels owed still.stand;
              were = were-without-of done.world processor carried.posted sent still.were;
              ties = subst (λ (d : Done). Ties s.site d.world.stopped d.world.reloads on
                  (loaded_again s.site.processors processor s.wires)
                  (net.without_those_of processor carried.parcels) (net.without_those_of processor carried.posted))
                  (sym is.3) (reload-ties s.wires processor is.0 is.1 is.2 carried.ties);
            },
          )

  drive-on : (event : DriveEvent) → GoesOn (events ++ Drive event ∷ []) on s (drive_played event s)
  drive-on event =
      drive-cases event s (GoesOn (events ++ Drive event ∷ []) on s)
      (λ drives. (
        owed,
        sent,
        record {
          played = played_more carried.played plays_drive;
          parcels = carried.parcels;
          posted = carried.posted;
          stand = carried.stand;
          were = carried.were;
          ties = carried.ties;
        },
      ))
      (calm (Drive event) s.wires carried.ties plays_drive) (λ process. tt)

  -- A packet is delivered

  module _ (bus : BusName) (k : ℕ) (p : Packet) (stands : IsAmong p on)
      (runs : is_running s.world.stopped p.receiver ≡ true)
      (current : is_current_at p (end_at s.wires.nodes p.receiver p.sender) ≡ true) where
    abbrev Now : Event
    Now = Deliver bus k

    abbrev next : Midst
    next = midst_after_arrival bus p s.wires

    abbrev parcel : NodeMessage → Parcel
    parcel content = record { sender = p.sender; receiver = p.receiver; content = content }

    abbrev here : Underway
    here = record s { wires = next }

    abbrev Handed : Underway → Type 0
    Handed after = Carries (events ++ Deliver bus k ∷ []) on after

    -- what is handed over does what its letter's message does
    as-letter : (content : NodeMessage) (letter : Letter) → StandsFor s.world (parcel content) letter
        → IsAmong letter sent
        → handed p.receiver content here
        ≡ after_any here (handed_done s.site letter.receiver letter.message s.world)
    as-letter content letter stands among =
        elim stands.form [
          | inl same ↦ ap (λ (told : NodeMessage). handed p.receiver told here) same
              ∙ ap (λ (node : ℕ). after_any here (handed_done s.site node letter.message s.world)) stands.receiver
          | inr (before, one, is, goes_as, known, next_to) ↦
              ap (λ (told : NodeMessage). handed p.receiver told here) goes_as
              ∙ ap (after_any here) (whole p.receiver before one known
              (subst (λ (m : Message). IsSent s.world m) is (honest letter among)) next_to)
              ∙ ap (λ (m : Message). after_any here (handed_done s.site p.receiver m s.world)) (sym is)
              ∙ ap (λ (node : ℕ). after_any here (handed_done s.site node letter.message s.world)) stands.receiver
        ]

    -- its receiver runs
    letter-runs : (content : NodeMessage) (letter : Letter) → StandsFor s.world (parcel content) letter
        → is_running s.world.stopped letter.receiver ≡ true
    letter-runs content letter stands =
        ap (is_running s.world.stopped) (sym stands.receiver) ∙ runs

    take-on : (letter : Letter) (left : List Letter) (rest : List Parcel) → IsTaken letter owed left
        → IsAmong letter sent → is_running s.world.stopped letter.receiver ≡ true → AllStandFor s.world rest left
        → Ties s.site s.world.stopped s.world.reloads on next rest carried.posted
        → (done : Option Done) → handed_done s.site letter.receiver letter.message s.world ≡ done
        → StopsNone s.world done → Handed (after_any here done)
    take-on letter left rest taken among alive stand T None e none = (
      left,
      sent,
      record {
        played = played_more carried.played (plays_drop letter taken alive (only letter among e));
        parcels = rest;
        posted = carried.posted;
        stand = stand;
        were = carried.were;
        ties = T;
      },
    )
    take-on letter left rest taken among alive stand T (Some done) e none =
        let change = handed-may s.site _ _ s.world done (honest letter among) e in
        posted-on s (events ++ Deliver bus k ∷ []) done.world next left sent
        (letters_of s.site done.world done.sendings) rest carried.posted (fit (Deliver bus k))
        (change-stays s.world done.world (Handing letter.receiver letter.message) done.sendings change) none
        (change-counts s.world done.world (Handing letter.receiver letter.message) done.sendings change (λ x same. cc))
        (letters-new s.site done.world done.sendings
        (change-new s.world done.world (Handing letter.receiver letter.message) done.sendings change))
        (record { stand = stand; were = carried.were }) T
        (played_more carried.played (plays_hand letter taken change))

    again-on : (letter : Letter) → IsAmong letter sent → Tied next
        → (done : Option Done) → handed_done s.site letter.receiver letter.message s.world ≡ done
        → StopsNone s.world done → Handed (after_any here done)
    again-on letter among T None e none = calm (Deliver bus k) next T plays_nothing
    again-on letter among T (Some done) e none =
        let change = handed-may s.site _ _ s.world done (honest letter among) e in
        posted-on s (events ++ Deliver bus k ∷ []) done.world next owed sent
        (letters_of s.site done.world done.sendings) carried.parcels carried.posted (fit (Deliver bus k))
        (change-stays s.world done.world (Handing letter.receiver letter.message) done.sendings change) none
        (change-counts s.world done.world (Handing letter.receiver letter.message) done.sendings change (λ x same. cc))
        (letters-new s.site done.world done.sendings
        (change-new s.world done.world (Handing letter.receiver letter.message) done.sendings change)) held T
        (played_more carried.played (plays_again letter among change))

    mark-on : (processor : ℕ) → Tied next → Handed (marks p.receiver processor here)
    mark-on processor T = by (down_done p.receiver processor s.world) refl
      where
        by : (done : Option Done) → down_done p.receiver processor s.world ≡ done
            → Handed (marked_by p.receiver processor here done)
        by None e = calm (Deliver bus k) next T plays_nothing
        by (Some done) e =
            marked-on here (events ++ Deliver bus k ∷ []) owed sent carried.parcels carried.posted p.receiver processor
            done (fit (Deliver bus k)) runs e held T (played_more carried.played (plays_mark p.receiver processor
            (mark-may s.site p.receiver processor s.world done e)))

    other-on : (told : NodeMessage) → content_of told ≡ None → Tied next → Handed (handed p.receiver told here)
    other-on (Carrying message) none T = absurd cc
    other-on (Changing change) none T = absurd cc
    other-on (Reporting from set) none T =
        calm (Deliver bus k) (learns p.receiver (changed_at from (watching.neighbour_after_report set)) next)
        (watched-ties next p.receiver (changed_at from (watching.neighbour_after_report set))
        (λ watch is. changed-watch from (watching.neighbour_after_report set) refl is) T) plays_nothing
    other-on (Declaring processor) none T = mark-on processor T

    read-on : (words : List ℤ) (told : NodeMessage) → understood s.site words ≡ Some told
        → Handed (handed p.receiver told here)
        → Handed (handed_any p.receiver (understood s.site words) here)
    read-on words told e is = subst (λ o. Handed (handed_any p.receiver o here)) (sym e) is

    arrive-on : (h : Option (List ℤ))
        → Came s.site s.world.stopped s.world.reloads on next carried.parcels carried.posted p.sender p.receiver h
        → Handed (handed_words p.receiver h here)
    arrive-on h c = by h c.arrived
      where
        ties : (parcels : List Parcel) → Owes s.site s.world.stopped s.world.reloads parcels carried.posted c.net
            → Ties s.site s.world.stopped s.world.reloads on next parcels carried.posted
        ties parcels o = record { net = c.net; tied = c.tied; owes = o; watches = c.watches; places = c.places }

        -- what is owed was sent
        sent-too : (letter : Letter) → IsAmong letter owed → IsAmong letter sent
        sent-too letter among = played-sent carried.played letter among

        by : (h : Option (List ℤ))
            → Arrives s.site s.world.stopped s.world.reloads carried.parcels carried.posted c.net p.sender p.receiver h
            → Handed (handed_words p.receiver h here)
        by None (hands_none o) = calm (Deliver bus k) next (ties carried.parcels o) plays_nothing
        by (Some words) (hands_other told reads fits right none o) =
            read-on words told reads (other-on told none (ties carried.parcels o))
        by (Some words) (hands_letter {rest = rest} content own reads fits among taken o) =
            let takes = takes-letter s.world (parcel content) carried.parcels rest owed carried.stand taken in
            let there = sent-too takes.letter (taken-there takes.taken) in
            read-on words content reads
            (subst Handed (sym (as-letter content takes.letter takes.stands there))
            (take-on takes.letter takes.left rest takes.taken there (letter-runs content takes.letter takes.stands)
            takes.all (ties rest o)
            (handed_done s.site takes.letter.receiver takes.letter.message s.world) refl
            (handed-none s.site s.world takes.letter.receiver takes.letter.message)))
        by (Some words) (hands_again content own reads fits among o) =
            let one = carried.were (parcel content) among in
            read-on words content reads
            (subst Handed (sym (as-letter content one.0 one.2 one.1))
            (again-on one.0 one.1 (ties carried.parcels o)
            (handed_done s.site one.0.receiver one.0.message s.world) refl
            (handed-none s.site s.world one.0.receiver one.0.message)))

    received-on : Handed (received bus p s)
    received-on = arrive-on _ (came s.wires carried.ties bus p (carried.ties.tied.flight p stands) runs
        current)

  deliver-on : (bus : BusName) (k : ℕ) (packet : Option Packet) → ((p : Packet) → packet ≡ Some p → IsAmong p on)
      → GoesOn (events ++ Deliver bus k ∷ []) on s (deliver_acted bus s packet)
  deliver-on bus k None stands = calm (Deliver bus k) s.wires carried.ties plays_nothing
  deliver-on bus k (Some p) stands = by (comes_in p s) refl
    where
      by : (test : Bool) → comes_in p s ≡ test
          → Carries (events ++ Deliver bus k ∷ []) on (if test then received bus p s else s)
      by true comes =
          let both = both-true (is_running s.world.stopped p.receiver)
          (is_current_at p (end_at s.wires.nodes p.receiver p.sender)) comes in
          received-on bus k p (stands p refl) both.0 both.1
      by false rests = calm (Deliver bus k) s.wires carried.ties plays_nothing

  -- Ticks and lines

  module _ (node : ℕ) (runs : is_running s.world.stopped node ≡ true) where
    abbrev after_tick : Midst
    after_tick = midst_after_tick s.site.processors node s.wires

    abbrev Ticks : Underway → Type 0
    Ticks after = Carries (events ++ Tick node ∷ []) on after

    tick_ties : Tied (midst_after_tick s.site.processors node s.wires)
    tick_ties = ticked-ties node runs s.wires carried.ties

    -- after the mark, the declarations are sent
    told-on : (processor : ℕ) (one : Underway) → one.site ≡ s.site → is_running one.world.stopped node ≡ true
        → slice_get one.world.stopped processor ≡ Some true → processor < 16
        → Ticks one → Ticks (declared node processor one)
    told-on processor one same alive gone few (now, ever, c) = (
      now,
      ever,
      record {
        played = c.played;
        parcels = c.parcels;
        posted = c.posted;
        stand = c.stand;
        were = c.were;
        ties = down-ties node alive one.wires processor few gone c.ties;
      },
    )

    -- the node marks the processor in a world in which that has stopped
    held-on : (w : World) (processor : ℕ) → is_running w.stopped node ≡ true
        → slice_get w.stopped processor ≡ Some true → processor < 16
        → HoldsLetters w carried.parcels carried.posted owed sent
        → Ties s.site w.stopped w.reloads on (midst_after_tick s.site.processors node s.wires) carried.parcels
        carried.posted
        → ((post : Post) → MarksLetters s.site node (record { world = w; owed = owed; sent = sent }) post
        → PlaysEvent s.site (Post_of owed) (Tick node) post)
        → Ticks (marks_and_declares node processor
        (record s { world = w; wires = midst_after_tick s.site.processors node s.wires }))
    held-on w processor alive gone few holds T plays =
        by (down_done node processor w) refl (mark-none s.site w node processor)
      where
        one : Underway
        one = record s { world = w; wires = midst_after_tick s.site.processors node s.wires }

        by : (done : Option Done) → down_done node processor w ≡ done → StopsNone w done
            → Ticks (declared node processor (marked_by node processor
            (record s { world = w; wires = midst_after_tick s.site.processors node s.wires }) done))
        by None e none =
            told-on processor (record s { world = w; wires = midst_after_tick s.site.processors node s.wires }) refl
            alive gone few (
              owed,
              sent,
              record {
                played = played_more carried.played (plays _ no_mark);
                parcels = carried.parcels;
                posted = carried.posted;
                stand = holds.stand;
                were = holds.were;
                ties = T;
              },
            )
        by (Some done) e none =
            told-on processor (after_marked node processor
            (record s { world = w; wires = midst_after_tick s.site.processors node s.wires }) done) refl
            (subst (λ stopped. is_running stopped node ≡ true) (sym none) alive)
            (subst (λ stopped. slice_get stopped processor ≡ Some true) (sym none) gone) few
            (marked-on (record s { world = w; wires = midst_after_tick s.site.processors node s.wires })
            (events ++ Tick node ∷ []) owed sent carried.parcels carried.posted node processor done (fit (Tick node))
            alive e holds T
            (played_more carried.played (plays _ (one_mark processor (mark-may s.site node processor w done e)
            no_mark))))

    none-on : Ticks (record s { wires = midst_after_tick s.site.processors node s.wires })
    none-on = calm (Tick node) (midst_after_tick s.site.processors node s.wires) tick_ties (plays_tick runs no_mark)

    line-on : (line : Option ℕ) → ((processor : ℕ) → line ≡ Some processor → (processor ≢ node) × (processor < 16))
        → GoesOn (events ++ Tick node ∷ []) on s
        (pulls node (record s { wires = midst_after_tick s.site.processors node s.wires }) line)
    line-on None other = none-on
    line-on (Some processor) other = by (slice_get s.world.stopped processor) refl
      where
        stops : slice_get s.world.stopped processor ≡ Some false → (whole : Bool) → is_whole s.world ≡ whole
            → GoesOn (events ++ Tick node ∷ []) on s (pulled_running node processor
            (record s { wires = midst_after_tick s.site.processors node s.wires }) (stop_if processor s.world whole))
        stops e false parts = tt
        stops e true whole =
            let change : Change s.site s.world (Stopping processor) [] (stopped_world processor s.world) =
            by_stop processor e whole in
            held-on (stopped_world processor s.world) processor
            (still-running s.world.stopped processor node (other processor refl).0 runs)
            (now-stopped s.world.stopped processor e) (other processor refl).1
            (holds-still s.world (stopped_world processor s.world) carried.parcels carried.posted owed sent
            (change-stays s.world (stopped_world processor s.world) (Stopping processor) [] change) held)
            (stopped-ties s.site s.world.stopped _ carried.parcels carried.posted processor e tick_ties)
            (λ post made. plays_tick_stop processor runs (other processor refl).0 change made)

        by : (stopped : Option Bool) → slice_get s.world.stopped processor ≡ stopped
            → GoesOn (events ++ Tick node ∷ []) on s
            (pulled node processor (record s { wires = midst_after_tick s.site.processors node s.wires }) stopped)
        by None e = none-on
        by (Some true) e =
            held-on s.world processor runs e (other processor refl).1 held tick_ties
            (λ post made. plays_tick runs made)
        by (Some false) e = rw e (stops e (is_whole s.world) refl)

    ticked-on : GoesOn (events ++ Tick node ∷ []) on s
        (pulls_its node (record s { wires = midst_after_tick s.site.processors node s.wires }))
    ticked-on = line-on (line_of node (record s { wires = midst_after_tick s.site.processors node s.wires }))
        (pulled-other node (midst_after_tick s.site.processors node s.wires).nodes)

  tick-on : (node : ℕ) → GoesOn (events ++ Tick node ∷ []) on s (tick_acted node s)
  tick-on node = by (is_running s.world.stopped node) refl
    where
      by : (test : Bool) → is_running s.world.stopped node ≡ test
          → GoesOn (events ++ Tick node ∷ []) on s
          (if test then pulls_its node (record s {
            wires =
                midst_after_tick s.site.processors node s.wires;
          }) else Skips)
      by true runs = ticked-on node runs
      by false rests = calm (Tick node) s.wires carried.ties plays_no_tick

-- A whole event

-- the state after an event that is over is carried
abbrev pub CarriesAtRest : List Event → Packeted → Type 0
CarriesAtRest events s = Carries events (on_both s.wires) (underway s)

abbrev pub GoesOnAtRest : List Event → Packeted → Played Wires → Type 0
GoesOnAtRest events s (Makes next) = CarriesAtRest events next
GoesOnAtRest events s Skips = CarriesAtRest events s
GoesOnAtRest events s (Would harm) = Unit {0}

-- what is left on the buses when an event has taken its packet was there
pub among-taken : (event : Event) (wires : Wires) (p : Packet) → IsAmong p (on_both (taken_off event wires))
    → IsAmong p (on_both wires)
among-taken (Run number) wires p among = among
among-taken (Enter number) wires p among = among
among-taken (Deliver bus k) wires p among = among-without bus k wires p among
among-taken (Lose bus k) wires p among = among-without bus k wires p among
among-taken (Repeat bus k) wires p among = among
among-taken (Tick node) wires p among = among
among-taken (Fail processor) wires p among = among
among-taken (Reload processor) wires p among = among
among-taken (Drive event) wires p among = among

over-on : (events : List Event) (s : Packeted) (event : Event) (played : Played Midst)
    → GoesOn events (on_both s.wires) (underway s) played
    → GoesOnAtRest events s (ended (taken_off event s.wires) played)
over-on events s event Skips on = on
over-on events s event (Would harm) on = tt
over-on events s event (Makes next) (owed, sent, c) = (
  owed,
  sent,
  record {
    played = c.played;
    parcels = c.parcels;
    posted = c.posted;
    stand = c.stand;
    were = c.were;
    ties = rest-ties (taken_off event s.wires) next.wires (fewer-ties (among-taken event s.wires) c.ties);
  },
)

-- a packet at a position of a bus is on the buses
pub stands-there : (s : Packeted) (name : BusName) (k : ℕ) (p : Packet) → packet_at s name k ≡ Some p
    → IsAmong p (on_both s.wires)
stands-there s bus.X k p at = among-left p s.wires.x s.wires.y (among-at s.wires.x k p at)
stands-there s bus.Y k p at = among-right p s.wires.x s.wires.y (among-at s.wires.y k p at)

pub plays-on : (events : List Event) (s : Packeted) (owed sent : List Letter) → IsCarriedAtRest events s owed sent
    → ((letter : Letter) → IsAmong letter sent → IsSent s.world letter.message)
    → ((letter : Letter) → IsAmong letter sent → handed_done s.site letter.receiver letter.message s.world ≡ None
    → IsIdleFor s.site s.world (Handing letter.receiver letter.message))
    → ((node : ℕ) (before one : ImageMessage) → IsSent s.world (Checkpointing before)
    → IsSent s.world (Checkpointing one) → IsNextTo before one
    → change_done s.site node (change_of before one) s.world ≡ handed_done s.site node (Checkpointing one) s.world)
    → ((event : Event) → FitAll s.site (events ++ event ∷ [])) → (event : Event)
    → GoesOnAtRest (events ++ event ∷ []) s (play s event)
plays-on events s owed sent carried honest only whole fit event =
    over-on (events ++ event ∷ []) s event (acted s event) (by event)
  where
    by : (event : Event) → GoesOn (events ++ event ∷ []) (on_both s.wires) (underway s) (acted s event)
    by (Run number) = run-on events (on_both s.wires) (underway s) owed sent carried honest only whole fit number
    by (Enter number) = enter-on events (on_both s.wires) (underway s) owed sent carried honest only whole fit number
    by (Deliver bus k) =
        deliver-on events (on_both s.wires) (underway s) owed sent carried honest only whole fit bus k
        (packet_at s bus k) (stands-there s bus k)
    by (Lose bus k) =
        lose-on events (on_both s.wires) (underway s) owed sent carried honest only whole fit bus k
        (packet_at s bus k)
    by (Repeat bus k) =
        repeat-on events (on_both s.wires) (underway s) owed sent carried honest only whole fit bus k
        (packet_at s bus k) (stands-there s bus k)
    by (Tick node) = tick-on events (on_both s.wires) (underway s) owed sent carried honest only whole fit node
    by (Fail processor) =
        fail-on events (on_both s.wires) (underway s) owed sent carried honest only whole fit processor
    by (Reload processor) =
        reload-on events (on_both s.wires) (underway s) owed sent carried honest only whole fit processor
    by (Drive event) = drive-on events (on_both s.wires) (underway s) owed sent carried honest only whole fit event
