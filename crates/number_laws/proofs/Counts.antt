-- How many letters were posted at most after so many events: each event sends one at most, but for marks, which are
-- few.
use Rattle.std.proofs.Common.{◌≡◌, ◌≤◌, ◌<◌, ℕ, zero, suc, ◌+◌, ◌*◌, ◌^◌, Bool, true, false, not, if◌then◌else◌, List}
use Rattle.std.proofs.Common.{[], ◌∷◌, ◌++◌, length, Option, Some, None, slice_get, refl, ap₂, sym, subst, arith}
use Rattle.std.proofs.Common.{◌&&◌, length-append}
use Rattle.std.proofs.lemmas.Bool.{eqb-true}
use Rattle.std.proofs.lemmas.List.{length-map, length-replicate, length-set}
use Rattle.tal_tree.specs.declared.site.ProcessSpec.{ProcessSpec}
use Rattle.tal_tree.specs.declared.site.Site.{Site}
use Rattle.tal_tree.specs.declared.site.TerminalSpec.{TerminalSpec}
use Rattle.schedule.specs.declared.event.Event.{Event}
use Rattle.schedule.specs.declared.event.Event.TheVariants.{Run, Enter, Deliver, Lose, Repeat, Tick, Fail, Reload}
use Rattle.schedule.specs.declared.event.Event.TheVariants.{Drive}
use Rattle.world_semantics.specs.Rules.{pair_at_down}
use Rattle.world_semantics.specs.Running.{Done}
use Rattle.world_semantics.specs.World.{World, has_marked, is_running, pairs_at_boot, runs_by, terminal_node}
use Rattle.world_semantics.proofs.Roles.{both-true}
use Rattle.computed_changes.specs.Handed.{handed_done}
use Rattle.computed_changes.specs.Stopped.{world_at_down, may_mark, marked_where, mark_where, down_done, reload_done}
use Rattle.message_wires.specs.letters.specs.Routes.{Letter, letters_of}
use Rattle.message_wires.specs.letters.specs.Again.{sent_again}
use Rattle.message_wires.specs.machine_states.specs.States.{Played, Makes, Skips, Would}
use Rattle.message_wires.specs.Wires.{Sent, Wires, wires_after_post, wires_after_posts, paid}
use Rattle.message_wires.specs.Wires.{paid_between}
use Rattle.message_wires.specs.Wires.{is_current, without_packet}
use Rattle.message_wires.specs.Play.{MachineState, machine_at_boot, after_done, made_by, after_any}
use Rattle.message_wires.specs.Play.{state_after_handing}
use Rattle.message_wires.specs.Play.{is_admitted, deliver_played, lose_played, repeat_played}
use Rattle.message_wires.specs.Play.{stop_played, fail_played}
use Rattle.message_wires.specs.Play.{reload_played, marked_by, marks_from, state_after_tick}
use Rattle.message_wires.specs.Play.{tick_played, packet_at}
use Rattle.message_wires.specs.Play.{play}
use Rattle.message_wires.specs.Runs.{IsPlayed, played_none, played_more, skipped}
use Rattle.number_laws.proofs.Within.{AnyWithin, WatchersWithin, watchers-within}
use Rattle.number_laws.proofs.Quiet.{IsQuiet, IsQuietAny, run-quiet, enter-quiet, handed-quiet, stop-quiet}
use Rattle.number_laws.proofs.Unmarked.{left_marks, left-less, left-most, left-reloaded}
use Rattle.number_laws.proofs.Letters.{letters-few, mark-few}
use Rattle.number_laws.proofs.Marks.{mark-watchers, mark-within}
use Rattle.number_laws.proofs.Reloads.{reload-cases, reloaded-length}
use Rattle.number_laws.proofs.Played.{WholeWithin, kinds_of, later, marked-watchers, marked-within, played-within}
use Rattle.message_wires.specs.machine_states.proofs.Turning.{drive-cases}

posted-count : (letters : List Letter) (wires : Wires)
    → (wires_after_posts letters wires).count ≡ wires.count + length letters
posted-count [] wires = omega arith
posted-count (letter ∷ letters) wires =
    let rest = posted-count letters (wires_after_post letter wires) in omega (arith, rest)

-- a mark only adds to the count
pub marked-grows : (node processor : ℕ) (s : MachineState) (done : Option Done)
    → s.wires.count ≤ (marked_by node processor s done).wires.count
marked-grows node processor s None = omega arith
marked-grows node processor s (Some done) =
    let wires_after_post = posted-count (letters_of s.site done.world
    (done.sendings ++ sent_again s.site s.world done.world node processor)) (paid_between node processor s.wires) in
    omega (arith, wires_after_post)

pub downs-grow : (node processor left : ℕ) (s : MachineState)
    → s.wires.count ≤ (marks_from node processor left s).wires.count
downs-grow node processor zero s = omega arith
downs-grow node processor (suc left) s =
    let one = marked-grows node processor s (down_done node processor s.world) in
    let rest = downs-grow node (processor + 1) left (marked_by node processor s (down_done node processor s.world)) in
    omega (arith, one, rest)

-- the world is of a size within the limits
record IsSmall (w : World) : Type 0 where
  stopped : length w.stopped ≤ 255
  processes : length w.processes ≤ 16
  terminals : length w.terminals ≤ 16

record Counted (n : ℕ) (s : MachineState) : Type 0 where
  small : IsSmall s.world
  count : s.wires.count + left_marks s.world.downs s.world.reloads * 206158430208 ≤ n + 1722679634027347968

abbrev CountedPlayed : ℕ → Played Wires → Type 0
CountedPlayed n (Makes next) = Counted n next
CountedPlayed n Skips = Unit {0}
CountedPlayed n (Would harm) = Unit {0}

counted-more : (n : ℕ) (s : MachineState) → Counted n s → Counted (n + 1) s
counted-more n s is = record { small = is.small; count = let low = is.count in omega (arith, low) }

-- the same with other letters on the wires
counted-wires : (n : ℕ) (s : MachineState) (wires : Wires) → wires.count ≡ s.wires.count → Counted n s
    → Counted n (record s { wires = wires })
counted-wires n s wires same is = record { small = is.small; count = let low = is.count in omega (arith, low, same) }

module _ (n : ℕ) where
  done-counted : (s : MachineState) (done : Done) → Counted n s → IsQuiet s.world done
      → Counted (n + 1) (after_done s done)
  done-counted s done is quiet = record {
    small = record {
      stopped = let same = quiet.size.stopped in let few = is.small.stopped in omega (arith, same, few);
      processes = let same = quiet.size.processes in let few = is.small.processes in omega (arith, same, few);
      terminals = let same = quiet.size.terminals in let few = is.small.terminals in omega (arith, same, few);
    };
    count =
        let wires_after_post = posted-count (letters_of s.site done.world done.sendings) s.wires in
        let fewer = letters-few s.site done.world done.sendings in
        let few = quiet.few in
        let same = ap₂ left_marks quiet.downs quiet.reloads in
        let low = is.count in
        omega (arith, wires_after_post, fewer, few, same, low);
  }

  made-counted : (s : MachineState) (done : Option Done) → Counted n s → IsQuietAny s.world done
      → CountedPlayed (n + 1) (made_by s done)
  made-counted s None is quiet = tt
  made-counted s (Some done) is quiet = done-counted s done is quiet

  any-counted : (s : MachineState) (done : Option Done) → Counted n s → IsQuietAny s.world done
      → Counted (n + 1) (after_any s done)
  any-counted s None is quiet = counted-more n s is
  any-counted s (Some done) is quiet = done-counted s done is quiet

  deliver-counted : (k : ℕ) (s : MachineState) (packet : Option Sent) → Counted n s
      → CountedPlayed (n + 1) (deliver_played k s packet)
  deliver-counted k s None is = tt
  deliver-counted k s (Some packet) is =
      by (is_current s.wires.before packet && is_admitted (record s { wires = without_packet k s.wires }) packet.letter)
    where
      by : (test : Bool)
          → Counted (n + 1)
          (if test then state_after_handing packet (record s { wires = without_packet k s.wires }) else record s
          { wires = without_packet k s.wires })
      by true =
          any-counted (record s { wires = paid packet.number (without_packet k s.wires) })
          (handed_done s.site packet.letter.receiver packet.letter.message s.world)
          (counted-wires n s (paid packet.number (without_packet k s.wires)) refl is)
          (handed-quiet s.site s.world packet.letter.receiver packet.letter.message)
      by false = counted-more n _ (counted-wires n s (without_packet k s.wires) refl is)

  lose-counted : (k : ℕ) (s : MachineState) (packet : Option Sent) → Counted n s
      → CountedPlayed (n + 1) (lose_played k s packet)
  lose-counted k s None is = tt
  lose-counted k s (Some packet) is = counted-more n _ (counted-wires n s (without_packet k s.wires) refl is)

  repeat-counted : (s : MachineState) (packet : Option Sent) → Counted n s
      → CountedPlayed (n + 1) (repeat_played s packet)
  repeat-counted s None is = tt
  repeat-counted s (Some packet) is = counted-more n _ (counted-wires n s _ refl is)

  stopped-counted : (processor : ℕ) (s : MachineState) (done : Option Done) → Counted n s → IsQuietAny s.world done
      → CountedPlayed (n + 1) (stop_played processor s done)
  stopped-counted processor s None is quiet = tt
  stopped-counted processor s (Some done) is quiet = done-counted s done is quiet

  fail-counted : (processor : ℕ) (s : MachineState) (there : Option Bool) → Counted n s
      → CountedPlayed (n + 1) (fail_played processor s there)
  fail-counted processor s None is = tt
  fail-counted processor s (Some true) is = tt
  fail-counted processor s (Some false) is =
      stopped-counted processor s _ is (stop-quiet s.site s.world processor)

  -- a reload sends nothing, and the marks that it takes away are made up for by the reloads that are left
  reload-counted : (processor : ℕ) (s : MachineState) → Counted n s
      → CountedPlayed (n + 1) (reload_played processor s (reload_done s.site processor s.world))
  reload-counted processor s is =
      reload-cases (λ done. CountedPlayed (n + 1) (reload_played processor s done)) s.site processor s.world tt
      (λ times can. record {
        small = record {
          stopped =
              let same = length-set s.world.stopped processor false in
              let few = is.small.stopped in
              omega (arith, same, few);
          processes =
              let same = reloaded-length s.site processor 0 s.world.processes in
              let few = is.small.processes in
              omega (arith, same, few);
          terminals = is.small.terminals;
        };
        count =
            let fewer = left-reloaded processor times s.world.downs s.world.reloads can.there can.few in
            let low = is.count in
            omega (arith, fewer, low);
      })

-- Marks

there-low : {A : Type 0} (xs : List A) (k : ℕ) (x : A) → slice_get xs k ≡ Some x → k < length xs
there-low [] k x there = absurd (cc)
there-low (one ∷ xs) zero x there = omega arith
there-low (one ∷ xs) (suc k) x there = let rest = there-low xs k x there in omega (arith, rest)

running-low : (stopped : List Bool) (node : ℕ) → length stopped ≤ 255 → is_running stopped node ≡ true → node < 256
running-low stopped node few runs = by (slice_get stopped node) refl runs
  where
    by : (there : Option Bool) → slice_get stopped node ≡ there → runs_by node there ≡ true → node < 256
    by (Some one) is running = let low = there-low stopped node one is in omega (arith, low, few)
    by None is running = let same = eqb-true node terminal_node running in omega (arith, same)

not-marked : (test : Bool) → not test ≡ true → test ≡ false
not-marked true is = absurd (cc)
not-marked false is = refl

module _ (n before : ℕ) (less : before < n) (kinds : ℕ → Bool) (low : n ≤ 4294967295) where
  mark-counted : (node processor : ℕ) (s : MachineState) → WholeWithin n kinds s
      → WatchersWithin before s.world.processes → Counted n s
      → Counted n (marked_by node processor s (down_done node processor s.world))
  mark-counted node processor s within watchers is =
      by (slice_get s.world.stopped processor) refl
      (mark-within n kinds s.world within.0 before node processor less watchers)
    where
      downs : may_mark node processor s.world ≡ true → slice_get s.world.stopped processor ≡ Some true
          → AnyWithin n kinds (Some (world_at_down node processor s.world))
          → Counted n (marked_by node processor s (Some (world_at_down node processor s.world)))
      downs may there done =
          let both = both-true (is_running s.world.stopped node) (not (has_marked s.world.downs node processor)) may in
          let node_low = running-low s.world.stopped node is.small.stopped both.0 in
          let down = there-low s.world.stopped processor true there in
          let few = is.small.stopped in
          let left = left-less (record { node = node; down = processor }) s.world.downs s.world.reloads node_low
          (omega (arith, down, few)) (not-marked _ both.1) in
          let processes : length (world_at_down node processor s.world).world.processes ≡ length s.world.processes =
          length-map s.world.processes (pair_at_down node processor) in
          let few_processes = is.small.processes in
          let letters = mark-few n kinds s.site s.world (world_at_down node processor s.world).world node processor low
          within.0.pairs done.world.pairs few_processes
          (omega (arith, processes, few_processes)) is.small.terminals in
          let fewer = letters-few s.site (world_at_down node processor s.world).world
          ((world_at_down node processor s.world).sendings
          ++ sent_again s.site s.world (world_at_down node processor s.world).world node processor) in
          let wires_after_post = posted-count
          (letters_of s.site (world_at_down node processor s.world).world
          ((world_at_down node processor s.world).sendings
          ++ sent_again s.site s.world (world_at_down node processor s.world).world node processor))
          (paid_between node processor s.wires) in
          let was = is.count in
          record {
            small = record {
              stopped = few;
              processes = omega (arith, processes, few_processes);
              terminals = is.small.terminals;
            };
            count = omega (arith, left, letters, fewer, wires_after_post, was);
          }

      where_may : (test : Bool) → may_mark node processor s.world ≡ test
          → slice_get s.world.stopped processor ≡ Some true
          → AnyWithin n kinds (marked_where node processor s.world test)
          → Counted n (marked_by node processor s (marked_where node processor s.world test))
      where_may true may there done = downs may there done
      where_may false may there done = is

      by : (stopped : Option Bool) → slice_get s.world.stopped processor ≡ stopped
          → AnyWithin n kinds (mark_where node processor s.world stopped)
          → Counted n (marked_by node processor s (mark_where node processor s.world stopped))
      by None there done = is
      by (Some false) there done = is
      by (Some true) there done = where_may (may_mark node processor s.world) refl there done

  downs-counted : (node processor left : ℕ) (s : MachineState) → WholeWithin n kinds s
      → WatchersWithin before s.world.processes → Counted n s → Counted n (marks_from node processor left s)
  downs-counted node processor zero s within watchers is = is
  downs-counted node processor (suc left) s within watchers is =
      downs-counted node (processor + 1) left _
      (marked-within n kinds node processor s (down_done node processor s.world) within
      (mark-within n kinds s.world within.0 before node processor less watchers))
      (marked-watchers n kinds before node processor s (down_done node processor s.world) watchers
      (mark-watchers before s.world node processor watchers))
      (mark-counted node processor s within watchers is)

  tick-counted : (node : ℕ) (s : MachineState) → WholeWithin n kinds s → WatchersWithin before s.world.processes
      → Counted n s → CountedPlayed n (tick_played node s)
  tick-counted node s within watchers is = by (is_running s.world.stopped node)
    where
      by : (test : Bool) → CountedPlayed n (if test then Makes
          (state_after_tick node (marks_from node 0 (length s.world.stopped) s)) else Skips)
      by true = counted-wires n (marks_from node 0 (length s.world.stopped) s) _ refl
          (downs-counted node 0 (length s.world.stopped) s within watchers is)
      by false = tt

-- Events

module _ (n : ℕ) (kinds : ℕ → Bool) (low : n < 4294967295) (s : MachineState) (within : WholeWithin n kinds s)
    (is : Counted n s) where
  play-counted : (event : Event) → CountedPlayed (n + 1) (play s event)
  play-counted (Run number) = made-counted n s _ is (run-quiet s.site s.world number)
  play-counted (Enter number) = made-counted n s _ is (enter-quiet s.site s.world number)
  play-counted (Deliver bus k) = deliver-counted n k s (packet_at s bus k) is
  play-counted (Lose bus k) = lose-counted n k s (packet_at s bus k) is
  play-counted (Repeat bus k) = repeat-counted n s (packet_at s bus k) is
  play-counted (Tick node) =
      tick-counted (n + 1) n (omega arith) kinds (omega (arith, low)) node s (later n kinds low s within)
      (watchers-within n kinds s.world within.0) (counted-more n s is)
  play-counted (Fail processor) = fail-counted n processor s _ is
  play-counted (Reload processor) = reload-counted n processor s is
  play-counted (Drive event) =
      let more = counted-more n s is in
      drive-cases event s (CountedPlayed (n + 1)) (λ drives. record { small = more.small; count = more.count }) tt
      (λ process. tt)

boot-length : (site : Site) (from : ℕ) (specs : List ProcessSpec)
    → length (pairs_at_boot site from specs) ≡ length specs
boot-length site from [] = refl
boot-length site from (spec ∷ specs) = let rest = boot-length site (from + 1) specs in omega (arith, rest)

boot-counted : (site : Site) → length site.processes ≤ 16 → length site.terminals ≤ 16 → site.processors ≤ 255
    → Counted 0 (machine_at_boot site)
boot-counted site processes terminals processors = record {
  small = record {
    stopped = let same = length-replicate site.processors false in omega (arith, same, processors);
    processes = let same = boot-length site 0 site.processes in omega (arith, same, processes);
    terminals =
        let same : length (machine_at_boot site).world.terminals ≡ length site.terminals =
        length-map site.terminals (λ (terminal : TerminalSpec). record { entered = 0; printed = 0 }) in
        omega (arith, same, terminals);
  };
  count = let most = left-most [] site.processors processors in omega (arith, most);
}

module _ (site : Site) (processes : length site.processes ≤ 16) (terminals : length site.terminals ≤ 16)
    (processors : site.processors ≤ 255) where
  played-counted : (events : List Event) (s : MachineState) → IsPlayed site events s → length events < 4294967295
      → Counted (length events) s
  played-counted _ _ played_none few = boot-counted site processes terminals processors
  played-counted _ _ (played_more {events = events} {s = s} {next = next} event before makes) few =
      let count : length (events ++ event ∷ []) ≡ length events + 1 = length-append events (event ∷ []) in
      let low : length events < 4294967295 = omega (arith, count, few) in
      subst (λ n. Counted n next) (sym count)
      (subst (CountedPlayed (length events + 1)) makes
      (play-counted (length events) (kinds_of site) low s (played-within site events s before low)
      (played-counted events s before low) event))
  played-counted _ _ (skipped {events = events} {s = s} event before skips) few =
      let count : length (events ++ event ∷ []) ≡ length events + 1 = length-append events (event ∷ []) in
      let low : length events < 4294967295 = omega (arith, count, few) in
      subst (λ n. Counted n s) (sym count) (counted-more (length events) s (played-counted events s before low))

  -- whatever event comes next, the count of letters has 64 bits after it
  pub letters-within : (events : List Event) (s : MachineState) → IsPlayed site events s → length events < 4294967294
      → (event : Event) (next : MachineState)
      → play s event ≡ Makes next → next.wires.count < 2 ^ 64
  letters-within events s played few event next makes =
      let low : length events < 4294967295 = omega (arith, few) in
      let after = subst (CountedPlayed (length events + 1)) makes
      (play-counted (length events) (kinds_of site) low s (played-within site events s played low)
      (played-counted events s played low) event) in
      let most = after.count in
      omega (arith, most, few)
