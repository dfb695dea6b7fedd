-- Each request on the wires of what is played names an opener that is there.
use Rattle.std.proofs.Common.{◌≡◌, ◌<◌, inl, inr, ℕ, zero, suc, ◌+◌, Bool, true, false, if◌then◌else◌, List, [], ◌∷◌}
use Rattle.std.proofs.Common.{◌++◌, ◌&&◌, length, Option, Some, None, option_map, refl, subst, sym}
use Rattle.std.specs.List.{cons_option}
use Rattle.gd_words.specs.Members.{IsAmong}
use Rattle.gd_words.specs.declared.message.Request.{Request}
use Rattle.tal_tree.specs.declared.site.Site.{Site}
use Rattle.schedule.specs.declared.bus_name.BusName.TheVariants as bus
use Rattle.schedule.specs.declared.bus_name.BusName.{BusName}
use Rattle.schedule.specs.declared.event.Event.{Event}
use Rattle.schedule.specs.declared.event.Event.TheVariants.{Run, Enter, Deliver, Lose, Repeat, Tick, Fail, Reload}
use Rattle.schedule.specs.declared.event.Event.TheVariants.{Drive}
use Rattle.plain_semantics.specs.Openers.{openers_of}
use Rattle.world_semantics.specs.Messages.{Asking, Sending}
use Rattle.world_semantics.specs.Running.{Done}
use Rattle.world_semantics.specs.World.{World, is_running}
use Rattle.computed_changes.specs.Stopped.{down_done}
use Rattle.message_wires.specs.letters.specs.Routes.{Letter, receiver_of, letters_of}
use Rattle.message_wires.specs.letters.specs.Again.{sent_again}
use Rattle.message_wires.specs.machine_states.specs.States.{Played, Makes, Skips, Would}
use Rattle.message_wires.specs.Wires.{Sent, Wires, has_room, put_on, wires_after_post}
use Rattle.message_wires.specs.Wires.{wires_after_posts, is_sending}
use Rattle.message_wires.specs.Wires.{without_number, paid, without_packet, is_due, is_current}
use Rattle.message_wires.specs.Wires.{put_again}
use Rattle.message_wires.specs.Play.{MachineState, after_done, made_by, after_any}
use Rattle.message_wires.specs.Play.{state_after_handing, is_admitted}
use Rattle.message_wires.specs.Play.{deliver_played, lose_played, repeat_played, stop_played}
use Rattle.message_wires.specs.Play.{fail_played}
use Rattle.message_wires.specs.Play.{reload_played, marked_by, marks_from, state_after_tick}
use Rattle.message_wires.specs.Play.{tick_played, packet_at}
use Rattle.message_wires.specs.Play.{play}
use Rattle.message_wires.specs.Runs.{IsPlayed, played_none, played_more, skipped}
use Rattle.number_laws.proofs.Each.{Each, each-get, each-append, each-filter, each-remove}
use Rattle.number_laws.proofs.Openers.{Names, AreNaming, AnyNames, run-named, enter-named, handed-named, stop-named}
use Rattle.number_laws.proofs.Openers.{mark-named, again-named}
use Rattle.message_wires.specs.machine_states.proofs.Turning.{drive-cases}

-- Wires

module _ (site : Site) where
  abbrev AreLetters : List Letter → Type 0
  AreLetters letters = Each (λ (letter : Letter). Names site letter.message) letters

  abbrev AreSent : List Sent → Type 0
  AreSent all = Each (λ (sent : Sent). Names site sent.letter.message) all

  abbrev WiresName : Wires → Type 0
  WiresName wires = AreSent wires.bus × AreSent wires.owed

  letters-named : (w : World) (sendings : List Sending) → AreNaming site sendings
      → AreLetters (letters_of site w sendings)
  letters-named w [] are = tt
  letters-named w (sending ∷ sendings) are =
      by (receiver_of site w sending.node sending.message) (letters-named w sendings are.1)
    where
      by : (receiver : Option ℕ) → AreLetters (letters_of site w sendings)
          → AreLetters (cons_option (option_map (λ receiver.
          record { sender = sending.node; receiver = receiver; message = sending.message }) receiver)
          (letters_of site w sendings))
      by None rest = rest
      by (Some receiver) rest = (are.0, rest)

  put-named : (packet : Sent) (bus : List Sent) → Names site packet.letter.message → AreSent bus
      → AreSent (put_on packet bus)
  put-named packet bus is are = by (has_room bus)
    where
      by : (room : Bool) → AreSent (if room then bus ++ packet ∷ [] else bus)
      by true = each-append _ bus (packet ∷ []) are (is, tt)
      by false = are

  posted-named : (letters : List Letter) (wires : Wires) → AreLetters letters → WiresName wires
      → WiresName (wires_after_posts letters wires)
  posted-named [] wires are is = is
  posted-named (letter ∷ letters) wires are is =
      posted-named letters (wires_after_post letter wires) are.1 (
        put-named _ wires.bus are.0 is.0,
        each-append _ wires.owed
            (record { number = wires.count; letter = letter } ∷ []) is.1 (are.0, tt),
      )

  without-named : (number : ℕ) (all : List Sent) → AreSent all → AreSent (without_number number all)
  without-named number [] are = tt
  without-named number (one ∷ rest) are = by (is_sending number one) (without-named number rest are.1)
    where
      by : (test : Bool) → AreSent (without_number number rest)
          → AreSent (if test then rest else one ∷ without_number number rest)
      by true without = are.1
      by false without = (are.0, without)

  again-put : (stopped : List Bool) (node : ℕ) (owed bus : List Sent) → AreSent owed → AreSent bus
      → AreSent (put_again stopped node owed bus)
  again-put stopped node [] bus are is = is
  again-put stopped node (one ∷ rest) bus are is =
      again-put stopped node rest _ are.1 (by (is_due stopped node bus one))
    where
      by : (due : Bool) → AreSent (if due then put_on one bus else bus)
      by true = put-named one bus are.0 is
      by false = is

-- States

abbrev WholeNames : MachineState → Type 0
WholeNames s = WiresName s.site s.wires

abbrev PlayedNames : Played Wires → Type 0
PlayedNames (Makes next) = WholeNames next
PlayedNames Skips = Unit {0}
PlayedNames (Would harm) = Unit {0}

done-named : (s : MachineState) (done : Done) → WholeNames s → AreNaming s.site done.sendings
    → WholeNames (after_done s done)
done-named s done names are = posted-named s.site (letters_of s.site done.world done.sendings) s.wires
    (letters-named s.site done.world done.sendings are) names

made-named : (s : MachineState) (done : Option Done) → WholeNames s → AnyNames s.site done
    → PlayedNames (made_by s done)
made-named s None names are = tt
made-named s (Some done) names are = done-named s done names are

any-named : (s : MachineState) (done : Option Done) → WholeNames s → AnyNames s.site done
    → WholeNames (after_any s done)
any-named s None names are = names
any-named s (Some done) names are = done-named s done names are

marked-named : (node processor : ℕ) (s : MachineState) (done : Option Done) → WholeNames s → AnyNames s.site done
    → WholeNames (marked_by node processor s done)
marked-named node processor s None names are = names
marked-named node processor s (Some done) names are =
    posted-named s.site _ _
    (letters-named s.site done.world (done.sendings ++ sent_again s.site s.world done.world node processor)
    (each-append _ done.sendings _ are (again-named s.site s.world node processor done.world)))
    (names.0, each-filter _ _ s.wires.owed names.1)

downs-named : (node processor left : ℕ) (s : MachineState) → WholeNames s
    → WholeNames (marks_from node processor left s)
downs-named node processor zero s names = names
downs-named node processor (suc left) s names =
    downs-named node (processor + 1) left _
    (marked-named node processor s (down_done node processor s.world) names (mark-named s.site s.world node processor))

tick-named : (node : ℕ) (s : MachineState) → WholeNames s → PlayedNames (tick_played node s)
tick-named node s names = by (is_running s.world.stopped node)
  where
    by : (test : Bool) → PlayedNames (if test then Makes
        (state_after_tick node (marks_from node 0 (length s.world.stopped) s)) else Skips)
    by true =
        let after = marks_from node 0 (length s.world.stopped) s in
        let marked = downs-named node 0 (length s.world.stopped) s names in
        (again-put after.site after.world.stopped node after.wires.owed after.wires.bus marked.1 marked.0, marked.1)
    by false = tt

stopped-named : (processor : ℕ) (s : MachineState) (done : Option Done) → WholeNames s → AnyNames s.site done
    → PlayedNames (stop_played processor s done)
stopped-named processor s None names are = tt
stopped-named processor s (Some done) names are = done-named s done names are

fail-named : (processor : ℕ) (s : MachineState) (there : Option Bool) → WholeNames s
    → PlayedNames (fail_played processor s there)
fail-named processor s None names = tt
fail-named processor s (Some true) names = tt
fail-named processor s (Some false) names =
    stopped-named processor s _ names (stop-named s.site s.world processor)

reload-named : (processor : ℕ) (s : MachineState) (done : Option Done) → WholeNames s
    → PlayedNames (reload_played processor s done)
reload-named processor s None names = tt
reload-named processor s (Some done) names = (names.0, each-filter _ _ s.wires.owed names.1)

module _ (s : MachineState) (names : WholeNames s) where
  without : (k : ℕ) → WiresName s.site (without_packet k s.wires)
  without k = (each-remove _ s.wires.bus k names.0, names.1)

  packet-there : (bus : BusName) (k : ℕ) (packet : Sent) → packet_at s bus k ≡ Some packet
      → Names s.site packet.letter.message
  packet-there bus.Y k packet there = absurd (cc)
  packet-there bus.X k packet there = each-get _ s.wires.bus k packet names.0 there

  deliver-named : (k : ℕ) (packet : Option Sent) → PlayedNames (deliver_played k s packet)
  deliver-named k None = tt
  deliver-named k (Some packet) =
      by (is_current s.wires.before packet && is_admitted (record s { wires = without_packet k s.wires }) packet.letter)
    where
      by : (test : Bool)
          → WholeNames (if test then state_after_handing packet (record s { wires = without_packet k s.wires }) else
          record s { wires = without_packet k s.wires })
      by true =
          any-named (record s { wires = paid packet.number (without_packet k s.wires) }) _
          ((without k).0, without-named s.site packet.number s.wires.owed names.1)
          (handed-named s.site s.world packet.letter.receiver packet.letter.message)
      by false = without k

  lose-named : (k : ℕ) (packet : Option Sent) → PlayedNames (lose_played k s packet)
  lose-named k None = tt
  lose-named k (Some packet) = without k

  repeat-named : (bus : BusName) (k : ℕ) (packet : Option Sent) → packet_at s bus k ≡ packet
      → PlayedNames (repeat_played s packet)
  repeat-named bus k None there = tt
  repeat-named bus k (Some packet) there =
      (put-named s.site packet s.wires.bus (packet-there bus k packet there) names.0, names.1)

  play-named : (event : Event) → PlayedNames (play s event)
  play-named (Run number) = made-named s _ names (run-named s.site s.world number)
  play-named (Enter number) = made-named s _ names (enter-named s.site s.world number)
  play-named (Deliver bus k) = deliver-named k (packet_at s bus k)
  play-named (Lose bus k) = lose-named k (packet_at s bus k)
  play-named (Repeat bus k) = repeat-named bus k (packet_at s bus k) refl
  play-named (Tick node) = tick-named node s names
  play-named (Fail processor) = fail-named processor s _ names
  play-named (Reload processor) = reload-named processor s _ names
  play-named (Drive event) = drive-cases event s PlayedNames (λ drives. names) tt (λ process. tt)

-- What is played

played-named : (site : Site) (events : List Event) (s : MachineState) → IsPlayed site events s → WholeNames s
played-named site _ _ played_none = (tt, tt)
played-named site _ _ (played_more {events = events} {s = s} event before makes) =
    subst PlayedNames makes (play-named s (played-named site events s before) event)
played-named site _ _ (skipped {events = events} {s = s} event before skips) = played-named site events s before

each-among : {A : Type 0} (P : A → Type 0) (xs : List A) (x : A) → Each P xs → IsAmong x xs → P x
each-among P [] x each among = absurd among
each-among P (y ∷ xs) x each (inl same) = subst P (sym same) each.0
each-among P (y ∷ xs) x each (inr among) = each-among P xs x each.1 among

-- each request on the bus names an opener that is there
pub openers-there : (site : Site) (events : List Event) (s : MachineState) → IsPlayed site events s
    → (packet : Sent) (request : Request)
    → IsAmong packet s.wires.bus → packet.letter.message ≡ Asking request
    → request.opener < length (openers_of s.site request.process)
openers-there site events s played packet request among asks =
    subst (Names s.site) asks
    (each-among (λ (sent : Sent). Names s.site sent.letter.message) s.wires.bus packet
    (played-named site events s played).0 among)
