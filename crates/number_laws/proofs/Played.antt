-- After so many events no number of what is played is greater.
use Rattle.std.proofs.Common.{◌≡◌, ◌≤◌, ◌<◌, ℕ, zero, suc, ◌+◌, Bool, true, false, if◌then◌else◌, List, [], ◌∷◌, ◌++◌}
use Rattle.std.proofs.Common.{◌&&◌, length, Option, Some, None, slice_get, option_map, refl, ap, sym, subst, arith}
use Rattle.std.proofs.Common.{length-append}
use Rattle.std.specs.List.{cons_option}
use Rattle.tal_tree.specs.declared.site.Site.{Site}
use Rattle.tal_tree.specs.declared.site.ProcessSpec.{ProcessSpec}
use Rattle.tal_tree.specs.declared.site.TerminalSpec.{TerminalSpec}
use Rattle.schedule.specs.declared.bus_name.BusName.TheVariants as bus
use Rattle.schedule.specs.declared.bus_name.BusName.{BusName}
use Rattle.schedule.specs.declared.event.Event.{Event}
use Rattle.schedule.specs.declared.event.Event.TheVariants.{Run, Enter, Deliver, Lose, Repeat, Tick, Fail, Reload}
use Rattle.schedule.specs.declared.event.Event.TheVariants.{Drive}
use Rattle.process_semantics.specs.Process.{start_of}
use Rattle.checkpoint_image.specs.declared.receive.OpenerBlock.{OpenerBlock}
use Rattle.world_semantics.specs.declared.which.Which.{Which}
use Rattle.world_semantics.specs.declared.which.Which.TheVariants.{First, Second}
use Rattle.world_semantics.specs.Messages.{Sending}
use Rattle.world_semantics.specs.Running.{Done}
use Rattle.world_semantics.specs.World.{Copy, Pair, World, pairs_at_boot, copy_of, is_running}
use Rattle.world_semantics.proofs.Beginning.{all-begin}
use Rattle.world_semantics.proofs.Lists.{some-same}
use Rattle.computed_changes.specs.Stopped.{down_done}
use Rattle.message_wires.specs.letters.specs.Routes.{Letter, receiver_of, letters_of}
use Rattle.message_wires.specs.letters.specs.Again.{sent_again}
use Rattle.message_wires.specs.machine_states.specs.States.{Played, Makes, Skips, Would}
use Rattle.message_wires.specs.Wires.{Sent, Wires, has_room, put_on, wires_after_post}
use Rattle.message_wires.specs.Wires.{wires_after_posts, is_sending}
use Rattle.message_wires.specs.Wires.{without_number, paid, without_packet, is_due, is_current}
use Rattle.message_wires.specs.Wires.{put_again}
use Rattle.message_wires.specs.Play.{MachineState, machine_at_boot, after_done, made_by, after_any}
use Rattle.message_wires.specs.Play.{state_after_handing}
use Rattle.message_wires.specs.Play.{is_admitted, deliver_played, lose_played, repeat_played}
use Rattle.message_wires.specs.Play.{stop_played, fail_played}
use Rattle.message_wires.specs.Play.{reload_played, marked_by, marks_from, state_after_tick}
use Rattle.message_wires.specs.Play.{tick_played, packet_at}
use Rattle.message_wires.specs.Play.{play}
use Rattle.message_wires.specs.Runs.{IsPlayed, played_none, played_more, skipped}
use Rattle.gd_words.specs.Ranges.{HasNext}
use Rattle.message_wires.specs.HasRoom.{CopyHasRoom, TerminalHasRoom, HasRoom}
use Rattle.number_laws.proofs.Each.{Each, each-all, each-more, each-get, each-append, each-map, each-always}
use Rattle.number_laws.proofs.Each.{each-filter, each-remove}
use Rattle.number_laws.proofs.Boot.{boot-core}
use Rattle.number_laws.proofs.Within.{serves, CopyWithin, PairWithin, MessageWithin, AreSendings, AreSent}
use Rattle.number_laws.proofs.Within.{WiresWithin, WorldWithin, DoneWithin, AnyWithin, TerminalWithin, wires-more}
use Rattle.number_laws.proofs.Within.{WatchersWithin, watchers-within, world-more, held_in}
use Rattle.number_laws.proofs.Runs.{run-within}
use Rattle.number_laws.proofs.Hands.{handed-within, enter-within}
use Rattle.number_laws.proofs.Marks.{AnyWatchersWithin, stop-within, mark-within, mark-watchers, again-within}
use Rattle.number_laws.proofs.Reloads.{AreKinds, reload-within}
use Rattle.message_wires.specs.machine_states.proofs.Turning.{drive-cases}

-- Wires

module _ (n : ℕ) (kinds : ℕ → Bool) where
  abbrev AreLetters : List Letter → Type 0
  AreLetters letters = Each (λ (letter : Letter). MessageWithin n kinds letter.message) letters

  letters-within : (site : Site) (w : World) (sendings : List Sending) → AreSendings n kinds sendings
      → AreLetters (letters_of site w sendings)
  letters-within site w [] are = tt
  letters-within site w (sending ∷ sendings) are =
      by (receiver_of site w sending.node sending.message) (letters-within site w sendings are.1)
    where
      by : (receiver : Option ℕ) → AreLetters (letters_of site w sendings)
          → AreLetters (cons_option (option_map (λ receiver.
          record { sender = sending.node; receiver = receiver; message = sending.message }) receiver)
          (letters_of site w sendings))
      by None rest = rest
      by (Some receiver) rest = (are.0, rest)

  put-within : (packet : Sent) (bus : List Sent) → MessageWithin n kinds packet.letter.message → AreSent n kinds bus
      → AreSent n kinds (put_on packet bus)
  put-within packet bus is are = by (has_room bus)
    where
      by : (room : Bool) → AreSent n kinds (if room then bus ++ packet ∷ [] else bus)
      by true = each-append _ bus (packet ∷ []) are (is, tt)
      by false = are

  posted-within : (letters : List Letter) (wires : Wires) → AreLetters letters → WiresWithin n kinds wires
      → WiresWithin n kinds (wires_after_posts letters wires)
  posted-within [] wires are is = is
  posted-within (letter ∷ letters) wires are is =
      posted-within letters (wires_after_post letter wires) are.1 (
        put-within _ wires.bus are.0 is.0,
        each-append _ wires.owed
            (record { number = wires.count; letter = letter } ∷ []) is.1 (are.0, tt),
      )

  without-within : (number : ℕ) (all : List Sent) → AreSent n kinds all → AreSent n kinds (without_number number all)
  without-within number [] are = tt
  without-within number (one ∷ rest) are = by (is_sending number one) (without-within number rest are.1)
    where
      by : (test : Bool) → AreSent n kinds (without_number number rest)
          → AreSent n kinds (if test then rest else one ∷ without_number number rest)
      by true without = are.1
      by false without = (are.0, without)

  again-put : (stopped : List Bool) (node : ℕ) (owed bus : List Sent) → AreSent n kinds owed → AreSent n kinds bus
      → AreSent n kinds (put_again stopped node owed bus)
  again-put stopped node [] bus are is = is
  again-put stopped node (one ∷ rest) bus are is =
      again-put stopped node rest _ are.1 (by (is_due stopped node bus one))
    where
      by : (due : Bool) → AreSent n kinds (if due then put_on one bus else bus)
      by true = put-within one bus are.0 is
      by false = is

-- States

-- a state: its world and its wires, and which processes of its site are discs
abbrev pub WholeWithin : ℕ → (ℕ → Bool) → MachineState → Type 0
WholeWithin n kinds s = WorldWithin n kinds s.world × WiresWithin n kinds s.wires × AreKinds kinds s.site

abbrev PlayedWithin : ℕ → (ℕ → Bool) → Played Wires → Type 0
PlayedWithin n kinds (Makes next) = WholeWithin n kinds next
PlayedWithin n kinds Skips = Unit {0}
PlayedWithin n kinds (Would harm) = Unit {0}

module _ (n : ℕ) (kinds : ℕ → Bool) where
  done-within : (s : MachineState) (done : Done) → WholeWithin n kinds s → DoneWithin n kinds done
      → WholeWithin n kinds (after_done s done)
  done-within s done within is = (
    is.world,
    posted-within n kinds (letters_of s.site done.world done.sendings) s.wires
        (letters-within n kinds s.site done.world done.sendings is.sendings) within.1,
    within.2,
  )

  made-within : (s : MachineState) (done : Option Done) → WholeWithin n kinds s → AnyWithin n kinds done
      → PlayedWithin n kinds (made_by s done)
  made-within s None within is = tt
  made-within s (Some done) within is = done-within s done within is

  any-within : (s : MachineState) (done : Option Done) → WholeWithin n kinds s → AnyWithin n kinds done
      → WholeWithin n kinds (after_any s done)
  any-within s None within is = within
  any-within s (Some done) within is = done-within s done within is

  pub marked-within : (node processor : ℕ) (s : MachineState) (done : Option Done) → WholeWithin n kinds s
      → AnyWithin n kinds done → WholeWithin n kinds (marked_by node processor s done)
  marked-within node processor s None within is = within
  marked-within node processor s (Some done) within is = (
    is.world,
    posted-within n kinds _ _
        (letters-within n kinds s.site done.world (done.sendings ++ sent_again s.site s.world done.world node processor)
        (each-append _ done.sendings _ is.sendings (again-within n kinds s.site s.world node processor done.world)))
        (within.1.0, each-filter _ _ s.wires.owed within.1.1),
    within.2,
  )

  pub marked-watchers : (before node processor : ℕ) (s : MachineState) (done : Option Done)
      → WatchersWithin before s.world.processes → AnyWatchersWithin before done
      → WatchersWithin before (marked_by node processor s done).world.processes
  marked-watchers before node processor s None watchers is = watchers
  marked-watchers before node processor s (Some done) watchers is = is

  -- where the eras of copies that watch have room: a copy takes over once
  downs-within : (before node processor left : ℕ) (s : MachineState) → before < n → WholeWithin n kinds s
      → WatchersWithin before s.world.processes → WholeWithin n kinds (marks_from node processor left s)
  downs-within before node processor zero s less within watchers = within
  downs-within before node processor (suc left) s less within watchers =
      downs-within before node (processor + 1) left _ less
      (marked-within node processor s (down_done node processor s.world) within
      (mark-within n kinds s.world within.0 before node processor less watchers))
      (marked-watchers before node processor s (down_done node processor s.world) watchers
      (mark-watchers before s.world node processor watchers))

  tick-within : (before node : ℕ) (s : MachineState) → before < n → WholeWithin n kinds s
      → WatchersWithin before s.world.processes → PlayedWithin n kinds (tick_played node s)
  tick-within before node s less within watchers = by (is_running s.world.stopped node)
    where
      by : (test : Bool) → PlayedWithin n kinds
          (if test then Makes (state_after_tick node (marks_from node 0 (length s.world.stopped) s)) else Skips)
      by true =
          let marked = downs-within before node 0 (length s.world.stopped) s less within watchers in
          let after = marks_from node 0 (length s.world.stopped) s in (
            marked.0,
            (
              again-put n kinds after.world.stopped node after.wires.owed after.wires.bus marked.1.1
                  marked.1.0,
              marked.1.1,
            ),
            marked.2,
          )
      by false = tt

  stopped-within : (processor : ℕ) (s : MachineState) (done : Option Done) → WholeWithin n kinds s
      → AnyWithin n kinds done → PlayedWithin n kinds (stop_played processor s done)
  stopped-within processor s None within is = tt
  stopped-within processor s (Some done) within is = done-within s done within is

  fail-within : (processor : ℕ) (s : MachineState) (there : Option Bool) → WholeWithin n kinds s
      → PlayedWithin n kinds (fail_played processor s there)
  fail-within processor s None within = tt
  fail-within processor s (Some true) within = tt
  fail-within processor s (Some false) within =
      stopped-within processor s _ within (stop-within n kinds s.world within.0 processor)

  reloaded-within : (processor : ℕ) (s : MachineState) (done : Option Done) → WholeWithin n kinds s
      → AnyWithin n kinds done → PlayedWithin n kinds (reload_played processor s done)
  reloaded-within processor s None within is = tt
  reloaded-within processor s (Some done) within is =
      (is.world, (within.1.0, each-filter _ _ s.wires.owed within.1.1), within.2)

module _ (n : ℕ) (kinds : ℕ → Bool) (low : n < 4294967295) (s : MachineState) (within : WholeWithin n kinds s) where
  pub later : WholeWithin (n + 1) kinds s
  later = (
    world-more (n + 1) n kinds s.world (omega arith) within.0,
    wires-more (n + 1) n kinds s.wires (omega arith) within.1,
    within.2,
  )

  without : (k : ℕ) → WiresWithin (n + 1) kinds (without_packet k s.wires)
  without k = (each-remove _ s.wires.bus k later.1.0, later.1.1)

  packet-there : (bus : BusName) (k : ℕ) (packet : Sent) → packet_at s bus k ≡ Some packet
      → MessageWithin (n + 1) kinds packet.letter.message
  packet-there bus.Y k packet there = absurd (cc)
  packet-there bus.X k packet there = each-get _ s.wires.bus k packet later.1.0 there

  deliver-within : (bus : BusName) (k : ℕ) (packet : Option Sent) → packet_at s bus k ≡ packet
      → PlayedWithin (n + 1) kinds (deliver_played k s packet)
  deliver-within bus k None there = tt
  deliver-within bus k (Some packet) there =
      by (is_current s.wires.before packet && is_admitted (record s { wires = without_packet k s.wires }) packet.letter)
    where
      by : (test : Bool)
          → WholeWithin (n + 1) kinds
          (if test then state_after_handing packet (record s { wires = without_packet k s.wires }) else record s
          { wires = without_packet k s.wires })
      by true =
          any-within (n + 1) kinds (record s { wires = paid packet.number (without_packet k s.wires) }) _
          (later.0, ((without k).0, without-within (n + 1) kinds packet.number s.wires.owed later.1.1), within.2)
          (handed-within n kinds s.world within.0 low s.site packet.letter.receiver packet.letter.message
          (packet-there bus k packet there))
      by false = (later.0, without k, within.2)

  lose-within : (k : ℕ) (packet : Option Sent) → PlayedWithin (n + 1) kinds (lose_played k s packet)
  lose-within k None = tt
  lose-within k (Some packet) = (later.0, without k, within.2)

  repeat-within : (bus : BusName) (k : ℕ) (packet : Option Sent) → packet_at s bus k ≡ packet
      → PlayedWithin (n + 1) kinds (repeat_played s packet)
  repeat-within bus k None there = tt
  repeat-within bus k (Some packet) there = (
    later.0,
    (put-within (n + 1) kinds packet s.wires.bus (packet-there bus k packet there) later.1.0, later.1.1),
    within.2,
  )

  play-within : (event : Event) → PlayedWithin (n + 1) kinds (play s event)
  play-within (Run number) =
      made-within (n + 1) kinds s _ later (run-within n kinds s.world within.0 low s.site number)
  play-within (Enter number) =
      made-within (n + 1) kinds s _ later (enter-within n kinds s.world within.0 low s.site number)
  play-within (Deliver bus k) = deliver-within bus k (packet_at s bus k) refl
  play-within (Lose bus k) = lose-within k (packet_at s bus k)
  play-within (Repeat bus k) = repeat-within bus k (packet_at s bus k) refl
  play-within (Tick node) =
      tick-within (n + 1) kinds n node s (omega arith) later (watchers-within n kinds s.world within.0)
  play-within (Fail processor) = fail-within (n + 1) kinds processor s _ later
  play-within (Reload processor) =
      reloaded-within (n + 1) kinds processor s _ later
      (reload-within n kinds s.world within.0 s.site within.2 processor)
  play-within (Drive event) = drive-cases event s (PlayedWithin (n + 1) kinds) (λ drives. later) tt (λ process. tt)

-- The beginning

abbrev pub serves_at : Option Pair → Bool
serves_at None = false
serves_at (Some pair) = serves pair.first.core.state

-- which processes of a site are discs
abbrev pub kinds_of : Site → ℕ → Bool
kinds_of site number = serves_at (slice_get (pairs_at_boot site 0 site.processes) number)

kinds-from : (site : Site) (from : ℕ) (specs : List ProcessSpec) (number : ℕ) (spec : ProcessSpec)
    → slice_get specs number ≡ Some spec
    → serves (start_of spec.what) ≡ serves_at (slice_get (pairs_at_boot site from specs) number)
kinds-from site from [] number spec there = absurd (cc)
kinds-from site from (one ∷ specs) zero spec there =
    ap (λ (other : ProcessSpec). serves (start_of other.what)) (sym (some-same there))
kinds-from site from (one ∷ specs) (suc number) spec there = kinds-from site (from + 1) specs number spec there

-- the processes of a site are what their numbers tell
pub kinds-site : (site : Site) → AreKinds (kinds_of site) site
kinds-site site = kinds-from site 0 site.processes

boot-pairs : (site : Site) (number : ℕ) (pair : Pair)
    → slice_get (pairs_at_boot site 0 site.processes) number ≡ Some pair
    → PairWithin 0 (serves pair.first.core.state) pair
boot-pairs site number pair there =
    all-begin (λ j one. PairWithin 0 (serves one.first.core.state) one) site
    (λ j from spec.
    let core = boot-core site from spec in (
      (core, omega arith, omega arith, omega arith, omega arith),
      (core, omega arith, omega arith, omega arith, omega arith),
      omega arith,
    ))
    number pair there

boot-held : (site : Site) (from : ℕ) (specs : List ProcessSpec) → held_in (pairs_at_boot site from specs) ≡ 0
boot-held site from [] = refl
boot-held site from (spec ∷ specs) = let rest = boot-held site (from + 1) specs in omega (arith, rest)

boot-within : (site : Site) → WholeWithin 0 (kinds_of site) (machine_at_boot site)
boot-within site = (
  record {
    pairs = λ number pair there. subst (λ (one : Option Pair). PairWithin 0 (serves_at one) pair) (sym there)
        (boot-pairs site number pair there);
    acts = let none = boot-held site 0 site.processes in omega (arith, none);
    shown = omega arith;
    terminals = each-map _ (λ (terminal : TerminalSpec). record { entered = 0; printed = 0 }) site.terminals
        (each-always _ (λ terminal. (omega arith, omega arith)) site.terminals);
  },
  (tt, tt),
  kinds-site site,
)

-- What is played

pub played-within : (site : Site) (events : List Event) (s : MachineState) → IsPlayed site events s
    → length events < 4294967295 → WholeWithin (length events) (kinds_of site) s
played-within site _ _ played_none few = boot-within site
played-within site _ _ (played_more {events = events} {s = s} {next = next} event before makes) few =
    let count : length (events ++ event ∷ []) ≡ length events + 1 = length-append events (event ∷ []) in
    let low : length events < 4294967295 = omega (arith, count, few) in
    let all = played-within site events s before low in
    subst (λ n. WholeWithin n (kinds_of site) next) (sym count)
    (subst (PlayedWithin (length events + 1) (kinds_of site)) makes
    (play-within (length events) (kinds_of site) low s all event))
played-within site _ _ (skipped {events = events} {s = s} event before skips) few =
    let count : length (events ++ event ∷ []) ≡ length events + 1 = length-append events (event ∷ []) in
    let low : length events < 4294967295 = omega (arith, count, few) in
    let all = played-within site events s before low in
    subst (λ n. WholeWithin n (kinds_of site) s) (sym count) (later (length events) (kinds_of site) low s all)

copy-room : (n : ℕ) (d : Bool) (copy : Copy) → n < 4294967294 → CopyWithin n d copy → CopyHasRoom copy
copy-room n d copy low is = record {
  next = each-all HasNext copy.core.next (each-more (λ number. number ≤ n + 1) HasNext
      (λ number few. omega (arith, few, low)) copy.core.next is.0.next);
  taken =
      each-all (λ (block : OpenerBlock). HasNext block.taken) copy.core.receive.openers
      (each-more (λ (block : OpenerBlock). block.taken ≤ n) (λ (block : OpenerBlock). HasNext block.taken)
      (λ block few. omega (arith, few, low))
      copy.core.receive.openers is.0.taken);
  write = let few = is.0.state.1 in omega (arith, few, low);
  number = let few = is.1 in omega (arith, few, low);
  era = let few = is.2 in omega (arith, few, low);
  position = let few = is.3 in omega (arith, few, low);
}

-- which copy it is
copy-of : (n : ℕ) (d : Bool) (pair : Pair) (k : Which) → PairWithin n d pair → CopyWithin n d (copy_of k pair)
copy-of n d pair First is = is.0
copy-of n d pair Second is = is.1

-- before the next event each number has a successor
pub room-within : (site : Site) (events : List Event) (s : MachineState) → IsPlayed site events s
    → length events < 4294967294 → HasRoom s
room-within site events s played few = record {
  processes = λ number pair there k.
      copy-room (length events) (kinds_of site number) (copy_of k pair) few
      (copy-of (length events) (kinds_of site number) pair k (all.0.pairs number pair there));
  terminals =
      each-all TerminalHasRoom s.world.terminals
      (each-more (TerminalWithin (length events)) TerminalHasRoom (λ terminal is. record {
        entered = let low = is.0 in omega (arith, low, few);
        printed = let low = is.1 in omega (arith, low, few);
      }) s.world.terminals all.0.terminals);
  shown = let low = all.0.shown in omega (arith, low, few);
}
  where
    all : WholeWithin (length events) (kinds_of site) s
    all = played-within site events s played (omega (arith, few))
