-- What each event makes of a state is what it does to its post.
use Rattle.std.proofs.Common.{◌≡◌, ◌<◌, ◌⊎◌, inl, inr, ℕ, zero, suc, ◌+◌, Bool, true, false, if◌then◌else◌, List, []}
use Rattle.std.proofs.Common.{◌∷◌, ◌++◌, ◌&&◌, length, Option, Some, None, slice_get, refl, sym, ap, subst, ◌∙◌}
use Rattle.std.proofs.lemmas.Option.{slice_get_within}
use Rattle.gd_words.specs.Members.{IsAmong}
use Rattle.gd_words.proofs.Among.{among-at, among-left, among-right}
use Rattle.schedule.specs.declared.bus_name.BusName.TheVariants as bus
use Rattle.schedule.specs.declared.bus_name.BusName.{BusName}
use Rattle.schedule.specs.declared.event.Event.{Event}
use Rattle.schedule.specs.declared.event.Event.TheVariants.{Run, Enter, Deliver, Lose, Repeat, Tick, Fail, Reload}
use Rattle.schedule.specs.declared.event.Event.TheVariants.{Drive}
use Rattle.world_semantics.specs.World.{is_running, is_whole}
use Rattle.world_semantics.specs.Messages.{Message, Cause, Sending, Entering, Handing, Reloading}
use Rattle.world_semantics.specs.Rules.{Change, by_stop}
use Rattle.world_semantics.specs.Follows.{IsIdleFor}
use Rattle.world_semantics.specs.Running.{Done, run_done}
use Rattle.world_semantics.proofs.Ran.{run-may, run-idle}
use Rattle.world_semantics.proofs.Roles.{both-true}
use Rattle.computed_changes.specs.Entered.{enter_done}
use Rattle.computed_changes.specs.Laws.{IsSent}
use Rattle.computed_changes.proofs.Entered.{enter-may, enter-only}
use Rattle.computed_changes.proofs.Made.{handed-may}
use Rattle.computed_changes.proofs.Outcomes.{idle-where, reload-makes}
use Rattle.computed_changes.proofs.Stopped.{mark-may, reload-only, reload-stopped}
use Rattle.computed_changes.specs.Handed.{handed_done}
use Rattle.computed_changes.specs.Stopped.{stop_if, down_done, reload_done}
use Rattle.letter_laws.proofs.Sent.{sent-stays}
use Rattle.letters.specs.Routes.{Letter, letters_of}
use Rattle.letters.specs.Again.{sent_again}
use Rattle.letters.specs.Posts.{HasPlayed, Post, after_change, played_more, PlaysEvent, plays_run, plays_no_run}
use Rattle.letters.specs.Posts.{plays_enter, plays_no_enter, plays_nothing, plays_hand, plays_drop, plays_again}
use Rattle.letters.specs.Posts.{plays_loss, plays_repeat, plays_no_tick, plays_tick, plays_fail, plays_no_fail}
use Rattle.letters.specs.Posts.{plays_reload, plays_no_reload, plays_drive, MarksLetters, no_mark, one_mark, IsTaken}
use Rattle.letters.specs.Posts.{is_from_or_to, without_those_of}
use Rattle.message_wires.specs.machine_states.specs.States.{Played, Makes, Skips, Would}
use Rattle.message_wires.specs.Wires.{Sent, Wires, is_current, without_number, paid, paid_between, without_packet}
use Rattle.message_wires.specs.Wires.{repeated_packet}
use Rattle.message_wires.specs.Play.{MachineState, after_done, made_by, after_any, state_after_handing, is_admitted}
use Rattle.message_wires.specs.Play.{deliver_played, lose_played, repeat_played, fail_played, stop_played, after_marked}
use Rattle.message_wires.specs.Play.{marked_by, marks_from, state_after_tick, packet_at, play, reload_played}
use Rattle.message_wires.specs.Runs.{letters_in, post_of}
use Rattle.message_wires_laws.specs.Carried.{AreTidy, IsCarried, IsOn}
use Rattle.message_wires_laws.proofs.Tidy.{without-tidy, repeated-tidy, again-tidy, paid-tidy, Pays, was_owed, was_paid}
use Rattle.message_wires_laws.proofs.Tidy.{pays, again-on, between-on, other-letters, paid-on, posted-among}
use Rattle.message_wires_laws.proofs.Tidy.{reloaded-on, reloaded-tidy, repeated-on, without-on}
use Rattle.message_wires_laws.proofs.Posting.{Carries, posted-on, posted-between}
use Rattle.message_wires.specs.machine_states.proofs.Turning.{drive-cases}
use Rattle.schedule.specs.declared.event.DriveEvent.{DriveEvent}

-- what an event makes of a state is carried as well
abbrev pub GoesOn : List Event → MachineState → List Letter → Played Wires → Type 0
GoesOn events s sent (Makes next) = Carries events next
GoesOn events s sent Skips = IsCarried events s sent
GoesOn events s sent (Would harm) = Unit {0}

-- a state that is carried after these events: the letters of each post to which one event more leads carry what was
-- sent; where one that may come changes nothing no change is possible; and of each processor is noted when it was
-- loaded
module _ (events : List Event) (s : MachineState) (sent : List Letter) (carried : IsCarried events s sent)
    (were : (event : Event) (post : Post) → HasPlayed s.site (events ++ event ∷ []) post → (letter : Letter)
    → IsAmong letter post.sent → IsSent post.world letter.message)
    (only : (letter : Letter) → IsAmong letter sent → handed_done s.site letter.receiver letter.message s.world ≡ None
    → IsIdleFor s.site s.world (Handing letter.receiver letter.message))
    (noted : length s.wires.before ≡ length s.world.stopped) where
  -- nothing happens to the post
  skips : (event : Event) → PlaysEvent s.site (post_of s sent) event (post_of s sent)
      → IsCarried (events ++ event ∷ []) s sent
  skips event plays =
      record { played = played_more carried.played plays; tidy = carried.tidy; honest = carried.honest }

  -- nor does anything but to the bus, on which nothing is new
  bus-alone : (event : Event) (wires : Wires) → wires.owed ≡ s.wires.owed → AreTidy wires sent
      → ((one : Sent) → IsOn one wires → IsOn one s.wires)
      → PlaysEvent s.site (post_of s sent) event (post_of s sent)
      → Carries (events ++ event ∷ []) (record s { wires = wires })
  bus-alone event wires same tidy from plays = (
    sent,
    record {
      played =
          subst (λ (owed : List Sent). HasPlayed s.site (events ++ event ∷ [])
          (record { world = s.world; owed = letters_in owed; sent = sent })) (sym same)
          (played_more carried.played plays);
      tidy = tidy;
      honest = λ one on. carried.honest one (from one on);
    },
  )

  -- what was on the wires was sent after a change too
  stays-sent : {cause : Cause} {sendings : List Sending} (done : Done)
      → Change s.site s.world cause sendings done.world → (one : Sent)
      → IsOn one s.wires → IsSent done.world one.letter.message
  stays-sent done change one on = sent-stays s.world done.world _ _ change one.letter.message (carried.honest one on)

  -- a change of the world
  changes : (event : Event) {cause : Cause} (done : Done) → Change s.site s.world cause done.sendings done.world
      → PlaysEvent s.site (post_of s sent) event (after_change s.site done.sendings done.world (post_of s sent))
      → Carries (events ++ event ∷ []) (after_done s done)
  changes event done change plays =
      posted-on s (events ++ event ∷ []) done.world s.wires (letters_in s.wires.owed)
      (letters_of s.site done.world done.sendings) refl carried.tidy (stays-sent done change)
      (were event _ (played_more carried.played plays)) (played_more carried.played plays)

  run-on : (number : ℕ) → GoesOn (events ++ Run number ∷ []) s sent (play s (Run number))
  run-on number = by (run_done s.site number s.world) refl
    where
      by : (done : Option Done) → run_done s.site number s.world ≡ done
          → GoesOn (events ++ Run number ∷ []) s sent (made_by s done)
      by None e = skips (Run number) (plays_no_run (run-idle s.site number s.world e))
      by (Some done) e =
          let change = run-may s.site number s.world done e in changes (Run number) done change (plays_run change)

  enter-on : (number : ℕ) → GoesOn (events ++ Enter number ∷ []) s sent (play s (Enter number))
  enter-on number = by (enter_done s.site number s.world) refl
    where
      by : (done : Option Done) → enter_done s.site number s.world ≡ done
          → GoesOn (events ++ Enter number ∷ []) s sent (made_by s done)
      by None e =
          skips (Enter number)
          (plays_no_enter (idle-where s.site s.world (Entering number) (enter_done s.site number s.world)
          (λ next sendings change. enter-only number s.world next sendings change) e))
      by (Some done) e =
          let change = enter-may s.site number s.world done e in
          changes (Enter number) done change (plays_enter change)

  lose-on : (bus : BusName) (k : ℕ) → GoesOn (events ++ Lose bus k ∷ []) s sent (play s (Lose bus k))
  lose-on bus k = by (packet_at s bus k)
    where
      by : (packet : Option Sent) → GoesOn (events ++ Lose bus k ∷ []) s sent (lose_played k s packet)
      by None = skips (Lose bus k) plays_loss
      by (Some packet) =
          bus-alone (Lose bus k) (without_packet k s.wires) refl (without-tidy k carried.tidy) (without-on k s.wires)
          plays_loss

  on-bus : (bus : BusName) (k : ℕ) (packet : Sent) → packet_at s bus k ≡ Some packet → IsAmong packet s.wires.bus
  on-bus bus.Y k packet e = absurd (cc)
  on-bus bus.X k packet e = among-at s.wires.bus k packet e

  repeat-on : (bus : BusName) (k : ℕ) → GoesOn (events ++ Repeat bus k ∷ []) s sent (play s (Repeat bus k))
  repeat-on bus k = by (packet_at s bus k) refl
    where
      by : (packet : Option Sent) → packet_at s bus k ≡ packet
          → GoesOn (events ++ Repeat bus k ∷ []) s sent (repeat_played s packet)
      by None e = skips (Repeat bus k) plays_repeat
      by (Some packet) e =
          let on = on-bus bus k packet e in
          bus-alone (Repeat bus k) (repeated_packet packet s.wires) refl (repeated-tidy packet on carried.tidy)
          (repeated-on packet s.wires on) plays_repeat

  fail-on : (processor : ℕ) → GoesOn (events ++ Fail processor ∷ []) s sent (play s (Fail processor))
  fail-on processor = by (slice_get s.world.stopped processor) refl
    where
      stops : slice_get s.world.stopped processor ≡ Some false → (whole : Bool) → is_whole s.world ≡ whole
          → GoesOn (events ++ Fail processor ∷ []) s sent (stop_played processor s (stop_if processor s.world whole))
      stops runs false parts = tt
      stops runs true whole =
          let change = by_stop processor runs whole in (
            sent,
            record {
              played = played_more carried.played (plays_fail change);
              tidy = carried.tidy;
              honest = λ one on. sent-stays s.world _ _ _ change one.letter.message (carried.honest one on);
            },
          )

      by : (stopped : Option Bool) → slice_get s.world.stopped processor ≡ stopped
          → GoesOn (events ++ Fail processor ∷ []) s sent (fail_played processor s stopped)
      by (Some false) e = rw e (stops e (is_whole s.world) refl)
      by (Some true) e = skips (Fail processor) (plays_no_fail (λ runs. let same = sym e ∙ runs in cc))
      by None e = skips (Fail processor) (plays_no_fail (λ runs. let same = sym e ∙ runs in cc))

  reload-on : (processor : ℕ) → GoesOn (events ++ Reload processor ∷ []) s sent (play s (Reload processor))
  reload-on processor = by (reload_done s.site processor s.world) refl
    where
      by : (done : Option Done) → reload_done s.site processor s.world ≡ done
          → GoesOn (events ++ Reload processor ∷ []) s sent (reload_played processor s done)
      by None e =
          skips (Reload processor)
          (plays_no_reload (idle-where s.site s.world (Reloading processor) (reload_done s.site processor s.world)
          (λ next sendings change. reload-only processor s.world next sendings change) e))
      by (Some done) e =
          let change = reload-makes s.site s.world processor done e in
          let there = slice_get_within s.world.stopped processor true
          (reload-stopped s.site processor s.world done e) in
          let low = subst (λ (n : ℕ). processor < n) (sym noted) there in (
            without_those_of processor sent,
            record {
              played =
                  subst (λ (owed : List Letter). HasPlayed s.site (events ++ Reload processor ∷ [])
                  (record { world = done.world; owed = owed; sent = without_those_of processor sent }))
                  (sym (other-letters (is_from_or_to processor) s.wires.owed))
                  (played_more carried.played (plays_reload change));
              tidy = reloaded-tidy processor s.wires low carried.tidy;
              honest = λ one on. stays-sent done change one (reloaded-on processor s.wires one on);
            },
          )

  drive-on : (event : DriveEvent) → GoesOn (events ++ Drive event ∷ []) s sent (play s (Drive event))
  drive-on event =
      drive-cases event s (GoesOn (events ++ Drive event ∷ []) s sent)
      (λ drives.
      (sent, record { played = played_more carried.played plays_drive; tidy = carried.tidy; honest = carried.honest }))
      (skips (Drive event) plays_drive) (λ process. tt)

  -- Deliveries

  module _ (bus : BusName) (k : ℕ) (packet : Sent) (on : IsAmong packet s.wires.bus) where
    abbrev handed : Wires
    handed = paid packet.number (without_packet k s.wires)

    handed-on : (one : Sent) → IsOn one handed → IsOn one s.wires
    handed-on one there = without-on k s.wires one (paid-on packet.number (without_packet k s.wires) one there)

    handed-tidy : AreTidy handed sent
    handed-tidy = paid-tidy packet.number (without-tidy k carried.tidy)

    module _ (before : IsAmong packet.letter sent) where
      -- a letter that is owed or not is handed over, and changes the world
      hand-changes : (done : Done) → handed_done s.site packet.letter.receiver packet.letter.message s.world ≡ Some done
          → (owed : List Letter) → letters_in handed.owed ≡ owed
          → (Change s.site s.world (Handing packet.letter.receiver packet.letter.message) done.sendings done.world
          → PlaysEvent s.site (post_of s sent) (Deliver bus k) (after_change s.site done.sendings done.world
          (record (post_of s sent) { owed = owed })))
          → Carries (events ++ Deliver bus k ∷ []) (after_any (record s { wires = handed }) (Some done))
      hand-changes done e owed same plays =
          let change = handed-may s.site packet.letter.receiver packet.letter.message s.world done
          (carried.honest packet (inl on)) e in
          posted-on s (events ++ Deliver bus k ∷ []) done.world handed owed
          (letters_of s.site done.world done.sendings) same handed-tidy
          (λ one there. stays-sent done change one (handed-on one there))
          (were (Deliver bus k) _ (played_more carried.played (plays change)))
          (played_more carried.played (plays change))

      hand-on : is_running s.world.stopped packet.letter.receiver ≡ true → Pays packet.number s.wires.owed
          → (done : Option Done) → handed_done s.site packet.letter.receiver packet.letter.message s.world ≡ done
          → Carries (events ++ Deliver bus k ∷ []) (after_any (record s { wires = handed }) done)
      hand-on running (was_owed one among same taken) done e =
          by done e (subst (λ (letter : Letter). IsTaken letter (letters_in s.wires.owed)
          (letters_in (without_number packet.number s.wires.owed)))
          (sym (carried.tidy.alike packet one (inl on) (inr among) (sym same))) taken)
        where
          by : (done : Option Done) → handed_done s.site packet.letter.receiver packet.letter.message s.world ≡ done
              → IsTaken packet.letter (letters_in s.wires.owed)
              (letters_in (without_number packet.number s.wires.owed))
              → Carries (events ++ Deliver bus k ∷ []) (after_any (record s { wires = handed }) done)
          by None e taken = (
            sent,
            record {
              played = played_more carried.played (plays_drop packet.letter taken running
                  (only packet.letter before e));
              tidy = handed-tidy;
              honest = λ one there. carried.honest one (handed-on one there);
            },
          )
          by (Some done) e taken =
              hand-changes done e (letters_in (without_number packet.number s.wires.owed)) refl
              (λ change. plays_hand packet.letter taken change)
      hand-on running (was_paid same) None e =
          bus-alone (Deliver bus k) handed same handed-tidy handed-on plays_nothing
      hand-on running (was_paid same) (Some done) e =
          hand-changes done e (letters_in s.wires.owed) (ap letters_in same)
          (λ change. plays_again packet.letter before change)

    receive-on : (test : Bool) → (is_current s.wires.before packet && is_admitted s packet.letter) ≡ test
        → Carries (events ++ Deliver bus k ∷ []) (if test then state_after_handing packet
        (record s { wires = without_packet k s.wires }) else record s { wires = without_packet k s.wires })
    receive-on true e =
        let both = both-true (is_current s.wires.before packet) _ e in
        hand-on (carried.tidy.known packet (inl on) both.0)
        (both-true (is_running s.world.stopped packet.letter.receiver) _ both.1).0
        (pays packet.number s.wires.owed) _ refl
    receive-on false e =
        bus-alone (Deliver bus k) (without_packet k s.wires) refl (without-tidy k carried.tidy) (without-on k s.wires)
        plays_nothing

  deliver-on : (bus : BusName) (k : ℕ) → GoesOn (events ++ Deliver bus k ∷ []) s sent (play s (Deliver bus k))
  deliver-on bus k = by (packet_at s bus k) refl
    where
      by : (packet : Option Sent) → packet_at s bus k ≡ packet
          → GoesOn (events ++ Deliver bus k ∷ []) s sent (deliver_played k s packet)
      by None e = skips (Deliver bus k) plays_nothing
      by (Some packet) e =
          receive-on bus k packet (on-bus bus k packet e)
          (is_current s.wires.before packet && is_admitted s packet.letter)
          refl

-- Ticks

-- the marks that a node makes are marks of the post. What was sent stays so, and what is on the wires then was on them
-- or is of letters that were sent
record Marked (node : ℕ) (s end : MachineState) (sent : List Letter) : Type 0 where
  all : List Letter
  site : end.site ≡ s.site
  makes : MarksLetters s.site node (post_of s sent) (post_of end all)
  tidy : AreTidy end.wires all
  stays : (message : Message) → IsSent s.world message → IsSent end.world message
  more : (letter : Letter) → IsAmong letter sent → IsAmong letter all
  from : (one : Sent) → IsOn one end.wires → IsOn one s.wires ⊎ IsAmong one.letter all

downs-on : (node processor more : ℕ) (s : MachineState) (sent : List Letter) → AreTidy s.wires sent
    → Marked node s (marks_from node processor more s) sent
downs-on node processor zero s sent tidy = record {
  all = sent;
  site = refl;
  makes = no_mark;
  tidy = tidy;
  stays = λ message was. was;
  more = λ letter among. among;
  from = λ one on. inl on;
}
downs-on node processor (suc more) s sent tidy =
    by (down_done node processor s.world) refl (λ next all. downs-on node (processor + 1) more next all)
  where
    by : (done : Option Done) → down_done node processor s.world ≡ done
        → ((next : MachineState) (all : List Letter) → AreTidy next.wires all
        → Marked node next (marks_from node (processor + 1) more next) all)
        → Marked node s (marks_from node (processor + 1) more (marked_by node processor s done)) sent
    by None e rest = rest s sent tidy
    by (Some done) e rest =
        let letters =
        letters_of s.site done.world (done.sendings ++ sent_again s.site s.world done.world node processor) in
        let here = posted-between s sent node processor letters tidy in
        let later = rest (after_marked node processor s done) (letters ++ sent) here.1 in
        let change = mark-may s.site node processor s.world done e in
        record {
          all = later.all;
          site = later.site;
          makes =
              one_mark processor change
              (subst (λ (owed : List Letter). MarksLetters s.site node
              (record { world = done.world; owed = owed; sent = letters ++ sent })
              (post_of (marks_from node (processor + 1) more (after_marked node processor s done)) later.all)) here.0
              later.makes);
          tidy = later.tidy;
          stays = λ message was. later.stays message (sent-stays s.world done.world _ _ change message was);
          more = λ letter among. later.more letter (among-right letter letters sent among);
          from = λ one on. elim (later.from one on) [
            | inl there ↦ elim (posted-among letters (paid_between node processor s.wires) one there) [
              | inl old ↦ inl (between-on node processor s.wires one old)
              | inr new ↦ inr (later.more one.letter (among-left one.letter letters sent new))
            ]
            | inr among ↦ inr among
          ];
        }

tick-on : (events : List Event) (s : MachineState) (sent : List Letter) → IsCarried events s sent → (node : ℕ)
    → ((post : Post) → HasPlayed s.site (events ++ Tick node ∷ []) post → (letter : Letter)
    → IsAmong letter post.sent → IsSent post.world letter.message)
    → GoesOn (events ++ Tick node ∷ []) s sent (play s (Tick node))
tick-on events s sent carried node were = by (is_running s.world.stopped node) refl
  where
    by : (test : Bool) → is_running s.world.stopped node ≡ test
        → GoesOn (events ++ Tick node ∷ []) s sent
        (if test then Makes (state_after_tick node (marks_from node 0 (length s.world.stopped) s)) else Skips)
    by false e =
        record { played = played_more carried.played plays_no_tick; tidy = carried.tidy; honest = carried.honest }
    by true e =
        let end = marks_from node 0 (length s.world.stopped) s in
        let marked = downs-on node 0 (length s.world.stopped) s sent carried.tidy in
        let played = played_more carried.played (plays_tick e marked.makes) in (
          marked.all,
          record {
            played =
                subst (λ site. HasPlayed site (events ++ Tick node ∷ []) (post_of end marked.all)) (sym marked.site)
                played;
            tidy = again-tidy _ node marked.tidy;
            honest = λ one on. elim (marked.from one (again-on _ node end.wires one on)) [
              | inl old ↦ marked.stays one.letter.message (carried.honest one old)
              | inr among ↦ were (post_of end marked.all) played one.letter among
            ];
          },
        )

-- an event goes on
pub plays-on : (events : List Event) (s : MachineState) (sent : List Letter) → IsCarried events s sent
    → ((event : Event) (post : Post) → HasPlayed s.site (events ++ event ∷ []) post → (letter : Letter)
    → IsAmong letter post.sent → IsSent post.world letter.message)
    → ((letter : Letter) → IsAmong letter sent → handed_done s.site letter.receiver letter.message s.world ≡ None
    → IsIdleFor s.site s.world (Handing letter.receiver letter.message))
    → length s.wires.before ≡ length s.world.stopped
    → (event : Event) → GoesOn (events ++ event ∷ []) s sent (play s event)
plays-on events s sent carried were only noted (Run number) = run-on events s sent carried were only noted number
plays-on events s sent carried were only noted (Enter number) = enter-on events s sent carried were only noted number
plays-on events s sent carried were only noted (Deliver bus k) = deliver-on events s sent carried were only noted bus k
plays-on events s sent carried were only noted (Lose bus k) = lose-on events s sent carried were only noted bus k
plays-on events s sent carried were only noted (Repeat bus k) = repeat-on events s sent carried were only noted bus k
plays-on events s sent carried were only noted (Tick node) = tick-on events s sent carried node (were (Tick node))
plays-on events s sent carried were only noted (Fail processor) =
    fail-on events s sent carried were only noted processor
plays-on events s sent carried were only noted (Reload processor) =
    reload-on events s sent carried were only noted processor
plays-on events s sent carried were only noted (Drive event) = drive-on events s sent carried were only noted event
