-- Over packets nodes watch each other in every state that is played.
use Rattle.std.proofs.Common.{◌≡◌, ◌≢◌, ◌≤◌, ◌<◌, ◌⊎◌, inl, inr, ℕ, zero, suc, ◌+◌, ◌∙◌, ◌==◌, ◌&&◌, not, Bool}
use Rattle.std.proofs.Common.{true, false, if◌then◌else◌, List, [], ◌∷◌, length, map, replicate, slice_get, Option}
use Rattle.std.proofs.Common.{Some, None, option_map, option_and_then, refl, ap, sym, subst, arith}
use Rattle.std.proofs.lemmas.Bool.{eqb-true, lt-ltb}
use Rattle.std.proofs.lemmas.List.{length-replicate}
use Rattle.std.proofs.lemmas.Option.{slice_get-map}
use Rattle.std.specs.Cmp.Derive.{both_true}
use Rattle.std.specs.List.{filter}
use Rattle.gd_words.specs.Members.{IsAmong}
use Rattle.gd_words.proofs.Among.{among-right}
use Rattle.tal_tree.specs.declared.site.Site.{Site}
use Rattle.schedule.specs.Buses.{is_bus}
use Rattle.schedule.specs.declared.event.Event.{Event}
use Rattle.schedule.specs.declared.event.Event.TheVariants.{Run, Enter, Deliver, Lose, Repeat, Tick, Fail, Reload}
use Rattle.schedule.specs.declared.event.Event.TheVariants.{Drive}
use Rattle.schedule.specs.declared.bus_name.BusName.TheVariants as bus
use Rattle.packet_words.specs.declared.packet.Incarnation.{Incarnation}
use Rattle.packet_words.specs.declared.packet.Packet.{Packet}
use Rattle.packet_words.specs.declared.packet.PacketKind.TheVariants as kind
use Rattle.link_control.specs.Ends.{End, new_end, packet_of}
use Rattle.alive_regroup.specs.declared.neighbour.Missed.TheVariants as missed
use Rattle.alive_regroup.specs.declared.neighbour.Neighbour.TheVariants.{Absent, Up}
use Rattle.alive_regroup.specs.Sets.{nobody}
use Rattle.alive_regroup.specs.Watching.{Watching, after_tick, at_first, new_watch as first_watch, is_silent, places}
use Rattle.world_semantics.specs.World.{is_running, runs_by}
use Rattle.channel_laws.specs.Net.{Net, incarnation_of}
use Rattle.channel_laws.specs.Rounds.{Passes, nothing, by_push, by_packet, by_drop, by_tick, by_alive, by_bus, by_stop}
use Rattle.channel_laws.specs.Rounds.{by_mark}
use Rattle.machine_states.specs.States.{Played, Makes, Skips, Would}
use Rattle.packet_wires.specs.Nodes.{Node, all_nodes, end_at, never_reloaded, node_at_boot, nodes_at_boot, numbers}
use Rattle.packet_wires.specs.Wires.{Wires, Midst, Outgoing, packets_over}
use Rattle.packet_wires.specs.Play.{Packeted, Underway, IsClear, acted, underway, comes_in, deliver_acted, ended}
use Rattle.packet_wires.specs.Play.{is_current_at, line_of, out_of, over, packeted_at_boot, play, received, taken_off}
use Rattle.packet_wires.specs.Play.{tick_acted}
use Rattle.packet_wires.proofs.Rooms.{all-there}
use Rattle.packet_rounds.specs.packet_nets.proofs.Ticking.{begins-net}
use Rattle.packet_rounds.specs.packets_laws.specs.Passing.{IsNetOf, ReloadsNone, as_on_buses}
use Rattle.packet_rounds.specs.packets_laws.proofs.Passing.{event-passes}
use Rattle.round_laws.specs.Buses.{HasBuses}
use Rattle.player.specs.declared.standing.Place.TheVariants as place
use Rattle.alive_rounds.specs.Watched.{IsThere, WasHeard, KeepsWatch, TicksWatch, PullsLine, IsWatched}
use Rattle.alive_rounds.specs.Fresh.{IsFresh}
use Rattle.packet_rounds.specs.Played.{IsPlay, IsClearPlay, buses_of}
use Rattle.packet_rounds.proofs.Nets.{both-run, ran-before, remains, terminals-run}
use Rattle.packet_rounds.proofs.Rounds.{clear-buses, in-site}
use Rattle.calm_runs.specs.Sights.{alive_packet, checks_of, known_of, packets_seen, watch_at}
use Rattle.calm_runs.proofs.Acting.{KeepsIf, StopsIf, is_quiet, quiet-keeps, stop-leaves}
use Rattle.calm_runs.proofs.Ticking.{IsLine, TicksIf, TicksSo, alive-sent, line-is, over_x, sent_before, ticked-checks}
use Rattle.calm_runs.proofs.Ticking.{ticked-knows, ticked-me, ticked-other, ticked-own, tick-me, ticks-so}
use Rattle.calm_runs.proofs.Watching.{Keeps, alive-heard, keeps-same}
use Rattle.machine_states.proofs.Turning.{drive-cases}
use Rattle.schedule.specs.declared.event.DriveEvent.{DriveEvent}

-- a node of a site: a processor, or that of the terminals
abbrev pub IsNode : Site → ℕ → Type 0
IsNode site a = (a < site.processors) ⊎ (a ≡ 16)

-- States that are sound: the wires are those of a net, no node was loaded again, and each node's watch has its number
pub record IsSound (site : Site) (s : Packeted) : Type 0 where
  pub net : Net
  pub is : IsNetOf s net
  pub size : length s.world.stopped ≡ site.processors
  pub site_is : s.site ≡ site
  pub never : (a b : ℕ) → IsNode site a → IsNode site b → incarnation_of net.reloads a b ≡ never_reloaded
  pub me : (q : ℕ) → q ≤ 16 → (w : Watching) × (watch_at s.wires.nodes q ≡ Some w) × (w.me ≡ q)

passes-reloads : {a b : ℕ} {one other : Net} {came : List Packet} → Passes a b one came other
    → other.reloads ≡ one.reloads
passes-reloads nothing = refl
passes-reloads (by_push x y message some opened p) = passes-reloads p
passes-reloads (by_packet packet among current opened p) = passes-reloads p
passes-reloads (by_drop packet gone p) = passes-reloads p
passes-reloads (by_tick x y opened p) = passes-reloads p
passes-reloads (by_alive x y opened p) = passes-reloads p
passes-reloads (by_bus flight fewer stays p) = passes-reloads p
passes-reloads (by_stop x na nb p) = passes-reloads p
passes-reloads (by_mark x y gone p) = passes-reloads p

-- Ticks that are made

pub record TickMade (s : Packeted) (node : ℕ) (next : Packeted) : Type 0 where
  pub after : Underway
  pub acts : acted s (Tick node) ≡ Makes after
  pub next_is : next ≡ over s.wires after
  pub so : TicksSo node s after

pub tick-made : (s : Packeted) (node : ℕ) (next : Packeted) → play s (Tick node) ≡ Makes next → TickMade s node next
tick-made s node next made = by (tick_acted node (underway s)) refl (ticks-so s node) made
  where
    by : (played : Played Midst) → tick_acted node (underway s) ≡ played → TicksIf node s played
        → ended s.wires played ≡ Makes next → TickMade s node next
    by (Makes after) is so made =
        record { after = after; acts = is; next_is = (let same : next ≡ over s.wires after = cc in same); so = so }
    by Skips is so made = absurd (cc)
    by (Would harm) is so made = absurd (cc)

pub tick-skips : (s : Packeted) (node : ℕ) → play s (Tick node) ≡ Skips → is_running s.world.stopped node ≡ false
tick-skips s node skips = by (tick_acted node (underway s)) (ticks-so s node) skips
  where
    by : (played : Played Midst) → TicksIf node s played → ended s.wires played ≡ Skips
        → is_running s.world.stopped node ≡ false
    by (Makes after) so skips = absurd (cc)
    by Skips so skips = so
    by (Would harm) so skips = absurd (cc)

-- What nodes keep

abbrev OnlyIf : (Packeted → Type 0) → Played Wires → Type 0
OnlyIf holds (Makes next) = holds next
OnlyIf holds Skips = Unit {0}
OnlyIf holds (Would harm) = Unit {0}

only-if : (holds : Packeted → Type 0) (played : Played Wires) (next : Packeted) → OnlyIf holds played
    → played ≡ Makes next → holds next
only-if holds played next h made = subst (OnlyIf holds) made h

-- after an event that isn't its tick
module _ (s : Packeted) (q : ℕ) where
  quiet-kept : (event : Event) → is_quiet event ≡ true → OnlyIf
      (λ next. Keeps next.world.stopped (watch_at s.wires.nodes q) (watch_at next.wires.nodes q)) (play s event)
  quiet-kept event quiet = by (acted s event) (quiet-keeps s event quiet)
    where
      by : (played : Played Midst) → KeepsIf s played → OnlyIf
          (λ next. Keeps next.world.stopped (watch_at s.wires.nodes q) (watch_at next.wires.nodes q))
          (ended (taken_off event s.wires) played)
      by (Makes after) k = subst (λ l. Keeps l (watch_at s.wires.nodes q) (watch_at after.wires.nodes q))
          (sym k.stopped) (k.keep.keeps q)
      by Skips k = tt
      by (Would harm) k = tt

  fail-kept : (processor : ℕ) → OnlyIf
      (λ next. Keeps next.world.stopped (watch_at s.wires.nodes q) (watch_at next.wires.nodes q))
      (play s (Fail processor))
  fail-kept processor = by (acted s (Fail processor)) (stop-leaves s processor)
    where
      by : (played : Played Midst) → StopsIf s played → OnlyIf
          (λ next. Keeps next.world.stopped (watch_at s.wires.nodes q) (watch_at next.wires.nodes q))
          (ended s.wires played)
      by (Makes after) k = keeps-same after.world.stopped (watch_at s.wires.nodes q) (watch_at after.wires.nodes q)
          (ap (λ (m : Midst). watch_at m.nodes q) k.wires)
      by Skips k = tt
      by (Would harm) k = tt

  drive-kept : (event : DriveEvent) → OnlyIf
      (λ next. Keeps next.world.stopped (watch_at s.wires.nodes q) (watch_at next.wires.nodes q))
      (play s (Drive event))
  drive-kept event =
      drive-cases event (underway s) (λ (played : Played Midst). OnlyIf
      (λ next. Keeps next.world.stopped (watch_at s.wires.nodes q) (watch_at next.wires.nodes q))
      (ended s.wires played))
      (λ drives. keeps-same s.world.stopped (watch_at s.wires.nodes q) (watch_at s.wires.nodes q) refl) tt
      (λ process. tt)

  pub event-keeps : (event : Event) (next : Packeted) → ReloadsNone event → play s event ≡ Makes next
      → event ≢ Tick q
      → Keeps next.world.stopped (watch_at s.wires.nodes q) (watch_at next.wires.nodes q)
  event-keeps (Run number) next none made apart =
      only-if _ (play s (Run number)) next (quiet-kept (Run number) refl) made
  event-keeps (Enter number) next none made apart =
      only-if _ (play s (Enter number)) next (quiet-kept (Enter number) refl) made
  event-keeps (Deliver bus k) next none made apart =
      only-if _ (play s (Deliver bus k)) next (quiet-kept (Deliver bus k) refl) made
  event-keeps (Lose bus k) next none made apart = only-if _ (play s (Lose bus k)) next (quiet-kept (Lose bus k) refl)
      made
  event-keeps (Repeat bus k) next none made apart =
      only-if _ (play s (Repeat bus k)) next (quiet-kept (Repeat bus k) refl) made
  event-keeps (Fail processor) next none made apart =
      only-if _ (play s (Fail processor)) next (fail-kept processor) made
  event-keeps (Reload processor) next none made apart = absurd none
  event-keeps (Drive event) next none made apart = only-if _ (play s (Drive event)) next (drive-kept event) made
  event-keeps (Tick node) next none made apart = let t = tick-made s node next made in
      subst (λ (u : Packeted). Keeps u.world.stopped (watch_at s.wires.nodes q) (watch_at u.wires.nodes q))
      (sym t.next_is)
      (subst (λ o. Keeps t.after.world.stopped o (watch_at t.after.wires.nodes q))
      (ticked-other s.site.processors node (underway s).wires q (λ is. apart (ap Tick is))) (t.so.keep.keeps q))

  pub event-me : (event : Event) (next : Packeted) → ReloadsNone event → play s event ≡ Makes next
      → option_map (λ (w : Watching). w.me) (watch_at next.wires.nodes q)
      ≡ option_map (λ (w : Watching). w.me) (watch_at s.wires.nodes q)
  event-me (Run number) next none made = (event-keeps (Run number) next tt made (λ is. cc)).me
  event-me (Enter number) next none made = (event-keeps (Enter number) next tt made (λ is. cc)).me
  event-me (Deliver bus k) next none made = (event-keeps (Deliver bus k) next tt made (λ is. cc)).me
  event-me (Lose bus k) next none made = (event-keeps (Lose bus k) next tt made (λ is. cc)).me
  event-me (Repeat bus k) next none made = (event-keeps (Repeat bus k) next tt made (λ is. cc)).me
  event-me (Fail processor) next none made = (event-keeps (Fail processor) next tt made (λ is. cc)).me
  event-me (Reload processor) next none made = absurd none
  event-me (Drive event) next none made = (event-keeps (Drive event) next tt made (λ is. cc)).me
  event-me (Tick node) next none made = let t = tick-made s node next made in
      ap (λ (u : Packeted). option_map (λ (w : Watching). w.me) (watch_at u.wires.nodes q)) t.next_is
      ∙ (t.so.keep.keeps q).me ∙ ticked-me s.site.processors node (underway s).wires q

watch-of : (q : ℕ) (o : Option Watching) → option_map (λ (w : Watching). w.me) o ≡ Some q
    → (w : Watching) × (o ≡ Some w) × (w.me ≡ q)
watch-of q None is = absurd (cc)
watch-of q (Some w) is = (w, refl, (let same : w.me ≡ q = cc in same))

pub sound-on : (site : Site) → site.processors ≤ 16 → (s : Packeted) (event : Event) (next : Packeted)
    → ReloadsNone event → IsPlay s event next → IsSound site s → IsSound site next
sound-on site few s event next none (inr skips) w = subst (IsSound site) (sym skips.1) w
sound-on site few s event next none (inl made) w =
    let r = remains s event next made in let size = r.size ∙ w.size in let old = w.size in
    let runs = terminals-run next.world.stopped (omega (arith, few, size)) in
    let q = event-passes s event next w.net 16 16 (omega (arith, few, old)) w.is none made runs runs in record {
      net = as_on_buses next q.middle;
      is = q.net;
      size = size;
      site_is = r.site ∙ w.site_is;
      never = λ a b one other.
          ap (λ reloads. incarnation_of reloads a b) (passes-reloads q.passes) ∙ w.never a b one other;
      me = λ k low. let m = w.me k low in watch-of k (watch_at next.wires.nodes k)
          (event-me s k event next none made ∙ ap (option_map (λ (w : Watching). w.me)) m.1 ∙ ap Some m.2);
    }

-- The beginning

numbers-at : (from more k : ℕ) → k < more → slice_get (numbers from more) k ≡ Some (from + k)
numbers-at from zero k low = absurd (let bad : k < 0 = low in omega (arith, bad))
numbers-at from (suc more) zero low = ap Some (omega arith)
numbers-at from (suc more) (suc k) low = numbers-at (from + 1) more k (omega (arith, low)) ∙ ap Some (omega arith)

boot-watch : (n q : ℕ) → q ≤ 16 → watch_at (nodes_at_boot n) q ≡ Some (first_watch q n)
boot-watch n q low = ap (option_map (λ (node : Node). node.watch)) (slice_get-map (node_at_boot n) all_nodes q
    ∙ ap (option_map (node_at_boot n)) (numbers-at 0 17 q (omega (arith, low)) ∙ ap Some (omega arith)))

boot-end : (n a b : ℕ) (e : End) → end_at (nodes_at_boot n) a b ≡ Some e → e.incarnation ≡ never_reloaded
boot-end n a b e at = by (slice_get all_nodes a) (ap (option_and_then (λ (node : Node). slice_get node.ends b))
    (sym (slice_get-map (node_at_boot n) all_nodes a)) ∙ at)
  where
    of : (x : ℕ) (o : Option ℕ) → option_map (λ other. new_end x other never_reloaded) o ≡ Some e
        → e.incarnation ≡ never_reloaded
    of x None is = absurd (cc)
    of x (Some other) is =
        let same : e ≡ new_end x other never_reloaded = cc in ap (λ (d : End). d.incarnation) same

    by : (o : Option ℕ) → option_and_then (λ (node : Node). slice_get node.ends b) (option_map (node_at_boot n) o) ≡
        Some e
        → e.incarnation ≡ never_reloaded
    by None is = absurd (cc)
    by (Some x) is = of x (slice_get all_nodes b)
        (sym (slice_get-map (λ other. new_end x other never_reloaded) all_nodes b) ∙ is)

boot-runs : (n a : ℕ) → a < n → is_running (replicate n false) a ≡ true
boot-runs n a low = ap (runs_by a) (there n a low)
  where
    there : (n a : ℕ) → a < n → slice_get (replicate n false) a ≡ Some false
    there zero a low = absurd (let bad : a < 0 = low in omega (arith, bad))
    there (suc n) zero low = refl
    there (suc n) (suc a) low = there n a (omega (arith, low))

node-low : (site : Site) (a : ℕ) → site.processors ≤ 16 → IsNode site a → a ≤ 16
node-low site a few (inl low) = omega (arith, low, few)
node-low site a few (inr is) = omega (arith, is)

node-runs : (site : Site) (a : ℕ) → site.processors ≤ 16 → IsNode site a
    → is_running (replicate site.processors false) a ≡ true
node-runs site a few (inl low) = boot-runs site.processors a low
node-runs site a few (inr is) =
    let size = length-replicate site.processors false in
    subst (λ q. is_running (replicate site.processors false) q ≡ true) (sym is)
    (terminals-run (replicate site.processors false) (omega (arith, size, few)))

pub boot-sound : (site : Site) → site.processors ≤ 16 → IsSound site (packeted_at_boot site)
boot-sound site few = record {
  net = (begins-net site).0;
  is = (begins-net site).1;
  size = length-replicate site.processors false;
  site_is = refl;
  never = λ a b one other.
      let net : Net = (begins-net site).0 in
      let tied = (begins-net site).1.tied in
      let e = tied.shape a b (node-low site a few one) (node-low site b few other) in
      sym (tied.whole.named a b).incarnation
      ∙ ap (λ (d : End). d.incarnation) (tied.ends a b e.0 (node-runs site a few one) e.1)
      ∙ boot-end site.processors a b e.0 e.1;
  me = λ q low. (first_watch q site.processors, boot-watch site.processors q low, refl);
}

places-at : (p : ℕ) → p < 16 → slice_get places p ≡ Some p
places-at p low = numbers-at 0 16 p low ∙ ap Some (omega arith)

first-known : (q n p : ℕ) → p < n → q ≢ p → at_first q n p ≡ Up false missed.None nobody
first-known q n p low apart =
    ap (λ b. if b && not (p == q) then Up false missed.None nobody else Absent) (lt-ltb p n low) ∙ by (p == q) refl
  where
    by : (b : Bool) → (p == q) ≡ b
        → (if not b then Up false missed.None nobody else Absent) ≡ Up false missed.None nobody
    by true is = absurd (apart (sym (eqb-true p q is)))
    by false is = refl

boot-known : (n q p : ℕ) → n ≤ 16 → q < n → p < n → q ≢ p
    → known_of (watch_at (nodes_at_boot n) q) p ≡ Some (Up false missed.None nobody)
boot-known n q p few low_q low_p apart = ap (λ o. known_of o p) (boot-watch n q (omega (arith, low_q, few)))
    ∙ slice_get-map (at_first q n) places p
    ∙ ap (option_map (at_first q n)) (places-at p (omega (arith, low_p, few))) ∙ ap Some (first-known q n p low_p apart)

pub boot-fresh : (site : Site) → site.processors ≤ 16
    → IsFresh site.processors packets_seen place.Before (packeted_at_boot site)
boot-fresh site few = record {
  low = omega arith;
  there = λ q p two. (false, nobody, boot-known site.processors q p few two.one two.other two.apart);
  heard = λ q p two turn check. absurd (let low = two.one in
      let none = ap checks_of (boot-watch site.processors q (omega (arith, low, few))) in
      let bad : true ≡ false = sym check ∙ none in cc);
  sent = λ q p two turn. absurd (let bad : p < 0 = turn in omega (arith, bad));
}

-- Nodes watch each other

abbrev pub SoundPlay : Site → Packeted → Event → Packeted → Type 0
SoundPlay site s event next = IsSound site s × IsClearPlay s event next × ReloadsNone event

not-both : {A : Type 0} (b : Bool) → b ≡ true → b ≡ false → A
not-both b is isnt = absurd (cc)

keeps-watch : (s : Packeted) (event : Event) (next : Packeted) (q : ℕ) → ReloadsNone event → IsPlay s event next
    → event ≢ Tick q → is_running next.world.stopped q ≡ true → KeepsWatch packets_seen s next q
keeps-watch s event next q none (inl made) apart here = let k = event-keeps s q event next none made apart in record {
  ran = ran-before s event next none (inl made) q here;
  checks = k.checks;
  there = λ p runs. (k.kept p runs).0;
  heard = λ p runs. (k.kept p runs).1;
}
keeps-watch s event next q none (inr skips) apart here = subst (λ (u : Packeted). KeepsWatch packets_seen s u q) (sym
    skips.1)
    (record {
      ran = ran-before s event next none (inr skips) q here;
      checks = refl;
      there = λ p runs there. there;
      heard = λ p runs heard. heard;
    })

abbrev HeardIf : ℕ → ℕ → Played Wires → Type 0
HeardIf p q (Makes next) = WasHeard (known_of (watch_at next.wires.nodes q) p)
HeardIf p q Skips = ⊥
HeardIf p q (Would harm) = Unit {0}

-- an I'm-alive packet of a node that was never loaded again is a present one
alive-current : (site : Site) → site.processors ≤ 16 → (s : Packeted) (p q : ℕ) → IsSound site s → IsNode site p
    → IsNode site q → is_running s.world.stopped q ≡ true
    → is_current_at (alive_packet p q) (end_at s.wires.nodes q p) ≡ true
alive-current site few s p q sound on_p on_q runs =
    subst (λ o. is_current_at (alive_packet p q) o ≡ true) (sym e.1)
    (subst (λ (i : Incarnation). ((0 == i.receiver) && (0 == i.sender)) ≡ true) (sym incarnation) refl)
  where
    e : (e : End) × (end_at s.wires.nodes q p ≡ Some e)
    e = sound.is.tied.shape q p (node-low site q few on_q) (node-low site p few on_p)

    incarnation : e.0.incarnation ≡ never_reloaded
    incarnation = ap (λ (d : End). d.incarnation) (sym (sound.is.tied.ends q p e.0 runs e.1))
        ∙ (sound.is.tied.whole.named q p).incarnation ∙ sound.never q p on_q on_p

hears-alive : (site : Site) → site.processors ≤ 16 → (s next : Packeted) (p q : ℕ) (rest : List Packet)
    → IsSound site s → IsPlay s (Deliver bus.X 0) next
    → s.wires.x ≡ alive_packet p q ∷ rest → is_running next.world.stopped p ≡ true
    → is_running next.world.stopped q ≡ true → IsThere (known_of (watch_at s.wires.nodes q) p)
    → WasHeard (known_of (watch_at next.wires.nodes q) p)
hears-alive site few s next p q rest sound g front on_p on_q there = of g
  where
    ran_p : is_running s.world.stopped p ≡ true
    ran_p = ran-before s (Deliver bus.X 0) next tt g p on_p

    ran_q : is_running s.world.stopped q ≡ true
    ran_q = ran-before s (Deliver bus.X 0) next tt g q on_q

    comes : comes_in (alive_packet p q) (underway s) ≡ true
    comes = both_true ran_q
        (alive-current site few s p q sound (in-site s.world.stopped site.processors p sound.size ran_p)
        (in-site s.world.stopped site.processors q sound.size ran_q) ran_q)

    heard : HeardIf p q (play s (Deliver bus.X 0))
    heard = subst (λ o. HeardIf p q (ended (taken_off (Deliver bus.X 0) s.wires) (deliver_acted bus.X (underway s) o)))
        (sym (ap (λ l. slice_get l 0) front))
        (subst (λ b. HeardIf p q (ended (taken_off (Deliver bus.X 0) s.wires)
        (Makes (if b then received bus.X (alive_packet p q) (underway s) else underway s))))
        (sym comes) (alive-heard bus.X p q (underway s) ran_p there))

    of : IsPlay s (Deliver bus.X 0) next → WasHeard (known_of (watch_at next.wires.nodes q) p)
    of (inl made) = subst (HeardIf p q) made heard
    of (inr skips) = absurd (subst (HeardIf p q) skips.0 heard)

-- what goes out over bus X is on it in the end, where there is room
among-over : (one : Outgoing) (out : List Outgoing) → one.bus ≡ bus.X → IsAmong one out
    → IsAmong one.packet (packets_over bus.X out)
among-over one [] is among = absurd among
among-over one (two ∷ out) is among = by (is_bus bus.X two.bus) refl among (among-over one out is)
  where
    by : (test : Bool) → is_bus bus.X two.bus ≡ test → IsAmong one (two ∷ out)
        → (IsAmong one out → IsAmong one.packet (packets_over bus.X out))
        → IsAmong one.packet (map (λ (o : Outgoing). o.packet) (if test then two ∷ filter
        (λ (o : Outgoing). is_bus bus.X o.bus) out else filter (λ (o : Outgoing). is_bus bus.X o.bus) out))
    by true at (inl here) later = inl (ap (λ (o : Outgoing). o.packet) here)
    by true at (inr more) later = inr (later more)
    by false at (inl here) later = absurd (let bad : true ≡ false = ap (is_bus bus.X) (sym is)
        ∙ ap (λ (o : Outgoing). is_bus bus.X o.bus) here ∙ at in cc)
    by false at (inr more) later = later more

end-found : (nodes : List Node) (x y : ℕ) (e : End) → end_at nodes x y ≡ Some e
    → (node : Node) × (slice_get nodes x ≡ Some node) × (slice_get node.ends y ≡ Some e)
end-found nodes x y e at = by (slice_get nodes x) refl at
  where
    by : (o : Option Node) → slice_get nodes x ≡ o → option_and_then (λ (node : Node). slice_get node.ends y) o ≡ Some e
        → (node : Node) × (slice_get nodes x ≡ Some node) × (slice_get node.ends y ≡ Some e)
    by None there at = absurd (cc)
    by (Some node) there at = (node, there, at)

-- after a clear tick each other processor that runs has an I'm-alive packet on bus X
alive-there : (site : Site) → site.processors ≤ 16 → (s : Packeted) (node q : ℕ) (after : Underway) → IsSound site s
    → IsClear s (Tick node) → acted s (Tick node) ≡ Makes after → TicksSo node s after → node < site.processors
    → q < site.processors → q ≢ node → is_running s.world.stopped q ≡ true
    → IsAmong (alive_packet node q) (over s.wires after).wires.x
alive-there site few s node q after sound clear acts so low low_q apart on_q =
    subst (IsAmong (alive_packet node q)) (sym (all-there (packets_over bus.X after.wires.out) s.wires.x room))
    (among-right (alive_packet node q) s.wires.x (packets_over bus.X after.wires.out)
    (subst (λ p. IsAmong p (packets_over bus.X after.wires.out)) named
    (among-over (over_x e.0) after.wires.out refl
    (so.keep.out (over_x e.0) (alive-sent s.site.processors node q (underway s).wires f.0 e.0 (omega (arith, low, few))
    (let same = sound.site_is in let many = ap (λ (t : Site). t.processors) same in omega (arith, low_q, many)) apart
    f.1
    f.2 up)))))
  where
    e : (e : End) × (end_at s.wires.nodes node q ≡ Some e)
    e = sound.is.tied.shape node q (omega (arith, low, few)) (omega (arith, low_q, few))

    f : (one : Node) × (slice_get s.wires.nodes node ≡ Some one) × (slice_get one.ends q ≡ Some e.0)
    f = end-found s.wires.nodes node q e.0 e.1

    end_is : sound.net.ends node q ≡ e.0
    end_is = sound.is.tied.ends node q e.0 so.runs e.1

    up : e.0.down ≡ false
    up = ap (λ (d : End). d.down) (sym end_is) ∙ (both-run s sound.net sound.is node q so.runs on_q).1

    named : packet_of e.0 kind.Alive ≡ alive_packet node q
    named = ap (λ (d : End). packet_of d kind.Alive) (sym end_is)
        ∙ (let n = sound.is.tied.whole.named node q in
        let incarnation = n.incarnation ∙ sound.never node q (inl low) (inl low_q) in
        λ i. record { sender = n.here i; receiver = n.there i; incarnation = incarnation i; kind = kind.Alive })

    room : length s.wires.x + length (packets_over bus.X after.wires.out) ≤ 4096
    room = subst (λ out. length s.wires.x + length (packets_over bus.X out) ≤ 4096) (ap out_of acts) (clear bus.X)

ticks-watch : (site : Site) → site.processors ≤ 16 → (s next : Packeted) (node : ℕ) → IsSound site s
    → IsClearPlay s (Tick node) next → node < site.processors → is_running next.world.stopped node ≡ true
    → TicksWatch site.processors packets_seen s next node
ticks-watch site few s next node sound (clear, inr skips) low here = not-both _
    (subst (λ (u : Packeted). is_running u.world.stopped node ≡ true) skips.1 here) (tick-skips s node skips.0)
ticks-watch site few s next node sound (clear, inl made) low here =
    subst (λ (u : Packeted). TicksWatch site.processors packets_seen s u node) (sym t.next_is) (record {
      ran = t.so.runs;
      checks = k.checks ∙ ticked-checks s.site.processors node (underway s).wires m.0 m.1 low16;
      there = λ p runs there. (k.kept p runs).0
          (subst IsThere (sym (ticked-knows s.site.processors node (underway s).wires m.0 m.1 low16 p)) there);
      sends = λ q low_q apart on_q there. alive-there site few s node q t.after sound clear t.acts t.so low low_q apart
          (ran-before s (Tick node) next tt (inl made) q
          (subst (λ (u : Packeted). is_running u.world.stopped q ≡ true) (sym t.next_is) on_q));
    })
  where
    t : TickMade s node next
    t = tick-made s node next made

    m : (w : Watching) × (watch_at s.wires.nodes node ≡ Some w) × (w.me ≡ node)
    m = sound.me node (omega (arith, low, few))

    low16 : m.0.me < 16
    low16 = let same = m.2 in omega (arith, same, low, few)

    k : Keeps t.after.world.stopped (watch_at (sent_before node s).wires.nodes node) (watch_at t.after.wires.nodes node)
    k = t.so.keep.keeps node

-- a node that pulls a line is a processor of the site, and finds the other one silent
pub line-pulled : (site : Site) → site.processors ≤ 16 → (s : Packeted) (node p : ℕ) → IsSound site s
    → is_running s.world.stopped node ≡ true → line_of node (sent_before node s) ≡ Some p
    → PullsLine site.processors packets_seen s node p
line-pulled site few s node p sound here line = by (in-site s.world.stopped site.processors node sound.size here)
  where
    at : node ≤ 16 → PullsLine site.processors packets_seen s node p
    at most = record {
      one = by_number (in-site s.world.stopped site.processors node sound.size here);
      runs = here;
      apart = λ is. pulled.apart (sym is);
      silent = ap (option_map is_silent) (sym (ticked-knows s.site.processors node (underway s).wires m.0 m.1 low p))
          ∙ ap (λ o. option_map is_silent (known_of o p)) own ∙ pulled.silent;
    }
      where
        m : (w : Watching) × (watch_at s.wires.nodes node ≡ Some w) × (w.me ≡ node)
        m = sound.me node most

        own : watch_at (sent_before node s).wires.nodes node ≡ Some (after_tick m.0)
        own = ticked-own s.site.processors node (underway s).wires ∙ ap (option_map after_tick) m.1

        pulled : IsLine node p (after_tick m.0)
        pulled = line-is node p (sent_before node s) (after_tick m.0) own line

        low : m.0.me < 16
        low = let below = pulled.low in let same = tick-me m.0 in omega (arith, below, same)

        by_number : (node < site.processors) ⊎ (node ≡ 16) → node < site.processors
        by_number (inl below) = below
        by_number (inr terminals) = absurd (let mine = m.2 in
            let bad : 16 < 16 = omega (arith, low, mine, terminals) in omega (arith, bad))

    by : (node < site.processors) ⊎ (node ≡ 16) → PullsLine site.processors packets_seen s node p
    by (inl below) = at (omega (arith, below, few))
    by (inr terminals) = at (omega (arith, terminals))

stops-at-tick : (site : Site) → site.processors ≤ 16 → (s next : Packeted) (node p : ℕ) → IsSound site s
    → IsPlay s (Tick node) next → is_running s.world.stopped p ≡ true → is_running next.world.stopped p ≡ false
    → PullsLine site.processors packets_seen s node p
stops-at-tick site few s next node p sound (inr skips) here gone =
    not-both _ here (subst (λ (u : Packeted). is_running u.world.stopped p ≡ false) skips.1 gone)
stops-at-tick site few s next node p sound (inl made) here gone = let t = tick-made s node next made in
    line-pulled site few s node p sound t.so.runs
    (t.so.line p here (subst (λ (u : Packeted). is_running u.world.stopped p ≡ false) t.next_is gone))

pub watched : (site : Site) → site.processors ≤ 16 → IsWatched site.processors packets_seen (SoundPlay site)
watched site few = record {
  keeps = λ s event next q g low apart here. keeps-watch s event next q g.2 g.1.1 apart here;
  hears = λ s next p q rest g low front on_p on_q there.
      hears-alive site few s next p q rest g.0 g.1.1 front on_p on_q there;
  ticks = λ s next node g low here. ticks-watch site few s next node g.0 g.1 low here;
  stops = λ s next node p g here gone. stops-at-tick site few s next node p g.0 g.1.1 here gone;
}

pub sound-buses : (site : Site) → HasBuses buses_of (SoundPlay site)
sound-buses site s event next g = clear-buses s event next g.1
