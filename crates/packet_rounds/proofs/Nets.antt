-- Every state that is played has the wires of a net, and a clear event of a round goes on in it.
use Rattle.std.proofs.Common.{◌≡◌, ◌≤◌, ◌<◌, inl, inr, ℕ, zero, suc, ◌∙◌, ◌==◌, not, Bool, true, false}
use Rattle.std.proofs.Common.{List, [], ◌∷◌, length, slice_get, slice_set, Option, Some, None, refl, ap, sym}
use Rattle.std.proofs.Common.{subst, arith}
use Rattle.std.proofs.lemmas.List.{length-replicate, length-set}
use Rattle.std.proofs.lemmas.Option.{slice_get_within}
use Rattle.std.specs.Option.{option_to_list}
use Rattle.gd_words.specs.Members.{IsAmong}
use Rattle.tal_tree.specs.declared.site.Site.{Site}
use Rattle.schedule.specs.declared.bus_name.BusName.TheVariants as bus
use Rattle.schedule.specs.declared.bus_name.BusName.{BusName}
use Rattle.schedule.specs.declared.event.Event.{Event}
use Rattle.schedule.specs.declared.event.Event.TheVariants.{Run, Enter, Deliver, Lose, Repeat, Tick, Fail, Reload}
use Rattle.schedule.specs.declared.event.Event.TheVariants.{Drive}
use Rattle.packet_words.specs.declared.packet.Packet.{Packet}
use Rattle.world_semantics.specs.World.{is_running, runs_by, terminal_node}
use Rattle.world_semantics.proofs.Lists.{set-there, set-other}
use Rattle.channel_laws.specs.Net.{Net, Runs}
use Rattle.channel_laws.specs.Rounds.{Passes, nothing}
use Rattle.machine_states.specs.States.{Played, Makes, Skips}
use Rattle.packet_wires.specs.Wires.{Wires}
use Rattle.packet_wires.specs.Play.{Packeted, underway, deliver_acted, ended, packet_at, play, taken_off}
use Rattle.packet_wires.specs.Runs.{IsPlayed, played_none, played_more, skipped}
use Rattle.packets_laws.specs.packet_nets.proofs.Nodes.{Same, are, differ, same}
use Rattle.packets_laws.specs.packet_nets.proofs.Ticking.{begins-net}
use Rattle.packets_laws.specs.packet_nets.proofs.Tied.{running-stands}
use Rattle.packets_laws.specs.Passing.{IsNetOf, ReloadsNone, TakesToDeliver, as_on_buses, delivered}
use Rattle.packets_laws.proofs.Going as going
use Rattle.packets_laws.proofs.Going.{play-goes}
use Rattle.packets_laws.proofs.Passing.{event-passes, reload-netted}
use Rattle.round_laws.specs.Buses.{delivered_of}
use Rattle.packet_rounds.specs.Played.{IsPlay, IsClearPlay, buses_of}

-- Who runs

set-ran : (stopped : List Bool) (k q : ℕ) → is_running (slice_set stopped k true) q ≡ true → is_running stopped q ≡ true
set-ran stopped k q runs = by (same k q)
  where
    of : (one : Option Bool) → slice_get stopped k ≡ one → k ≡ q → is_running stopped q ≡ true
    of (Some was) there is = absurd (let bad : false ≡ true = ap (runs_by k) (sym (set-there stopped k was true there))
        ∙ ap (is_running (slice_set stopped k true)) is ∙ runs in cc)
    of None none is = ap (is_running stopped) (sym is) ∙ ap (runs_by k) none
        ∙ (let same : (k == terminal_node) ≡ true = sym (ap (runs_by k) (beyond stopped k none))
        ∙ ap (is_running (slice_set stopped k true)) is ∙ runs in same)
      where
        beyond : (xs : List Bool) (j : ℕ) → slice_get xs j ≡ None → slice_get (slice_set xs j true) j ≡ None
        beyond [] j none = refl
        beyond (x ∷ xs) zero none = absurd (cc)
        beyond (x ∷ xs) (suc j) none = beyond xs j none

    by : Same k q → is_running stopped q ≡ true
    by (are is) = of (slice_get stopped k) refl is
    by (differ apart) = ap (runs_by q) (sym (set-other stopped k q true apart)) ∙ runs

-- what an event leaves of the site, and who ran before it, if it loads no processor again
pub record Remains (event : Event) (s next : Packeted) : Type 0 where
  pub site : next.site ≡ s.site
  pub size : length next.world.stopped ≡ length s.world.stopped
  pub ran : ReloadsNone event → (q : ℕ) → is_running next.world.stopped q ≡ true
      → is_running s.world.stopped q ≡ true

pub remains : (s : Packeted) (event : Event) (next : Packeted) → play s event ≡ Makes next → Remains event s next
remains s event next made = by (play s event) (play-goes s event) made
  where
    by : (played : Played Wires) → going.Goes event s played → played ≡ Makes next → Remains event s next
    by _ going.skips is = absurd (cc)
    by _ (going.would_harm harm) is = absurd (cc)
    by _ (going.stops_none {next = made} site stopped) is =
        let same : made ≡ next = cc in
        subst (Remains event s) same (record {
          site = site;
          size = ap length stopped;
          ran = λ none q runs. subst (λ l. is_running l q ≡ true) stopped runs;
        })
    by _ (going.stops_one {next = made} processor site whole stopped) is =
        let same : made ≡ next = cc in
        subst (Remains event s) same (record {
          site = site;
          size = ap length stopped ∙ length-set s.world.stopped processor true;
          ran = λ none q runs. set-ran s.world.stopped processor q (subst (λ l. is_running l q ≡ true) stopped runs);
        })
    by _ (going.starts_one {next = made} processor loads site stopped) is =
        let same : made ≡ next = cc in
        subst (Remains event s) same (record {
          site = site;
          size = ap length stopped ∙ length-set s.world.stopped processor false;
          ran = λ none q runs. absurd (subst ReloadsNone loads none);
        })

pub ran-before : (s : Packeted) (event : Event) (next : Packeted) → ReloadsNone event → IsPlay s event next → (q : ℕ)
    → is_running next.world.stopped q ≡ true → is_running s.world.stopped q ≡ true
ran-before s event next none (inl made) q runs = (remains s event next made).ran none q runs
ran-before s event next none (inr skips) q runs =
    subst (λ (t : Packeted). is_running t.world.stopped q ≡ true) skips.1 runs

-- States

-- a state of a site has the wires of a net, and as many processors as the site
pub record IsNetted (site : Site) (s : Packeted) : Type 0 where
  pub net : Net
  pub is : IsNetOf s net
  pub size : length s.world.stopped ≡ site.processors
  pub same : s.site ≡ site

pub terminals-run : (stopped : List Bool) → length stopped ≤ 16 → is_running stopped 16 ≡ true
terminals-run stopped few = by (slice_get stopped 16) refl
  where
    by : (one : Option Bool) → slice_get stopped 16 ≡ one → runs_by 16 one ≡ true
    by None is = refl
    by (Some one) is = absurd (let low = slice_get_within stopped 16 one is in let bad : 16 < 16 = omega (
      arith,
      low,
      few,
    ) in
        omega (arith, bad))

-- each event leads to the wires of a net
net-on : (s : Packeted) (event : Event) (next : Packeted) (n : Net) → length s.world.stopped ≤ 16 → IsNetOf s n
    → play s event ≡ Makes next → is_running next.world.stopped 16 ≡ true → (m : Net) × IsNetOf next m
net-on s event next n few is made runs = by event made
  where
    plain : (event : Event) → ReloadsNone event → play s event ≡ Makes next → (m : Net) × IsNetOf next m
    plain event none made =
        let q = event-passes s event next n 16 16 few is none made runs runs in (as_on_buses next q.middle, q.net)

    by : (event : Event) → play s event ≡ Makes next → (m : Net) × IsNetOf next m
    by (Run number) made = plain (Run number) tt made
    by (Enter terminal) made = plain (Enter terminal) tt made
    by (Deliver bus k) made = plain (Deliver bus k) tt made
    by (Lose bus k) made = plain (Lose bus k) tt made
    by (Repeat bus k) made = plain (Repeat bus k) tt made
    by (Tick node) made = plain (Tick node) tt made
    by (Fail processor) made = plain (Fail processor) tt made
    by (Reload processor) made = reload-netted s next processor n few is made
    by (Drive event) made = plain (Drive event) tt made

pub netted-on : (site : Site) → site.processors ≤ 16 → (s : Packeted) (event : Event) (next : Packeted)
    → play s event ≡ Makes next → IsNetted site s → IsNetted site next
netted-on site few s event next made w =
    let r = remains s event next made in
    let size = r.size ∙ w.size in
    let old = w.size in
    let runs = terminals-run next.world.stopped (omega (arith, few, size)) in
    let on = net-on s event next w.net (omega (arith, few, old)) w.is made runs in
    record {
      net = on.0;
      is = on.1;
      size = size;
      same = r.site ∙ w.same;
    }

pub netted : (site : Site) → site.processors ≤ 16 → (events : List Event) (s : Packeted) → IsPlayed site events s
    → IsNetted site s
netted site few _ _ played_none = record {
  net = (begins-net site).0;
  is = (begins-net site).1;
  size = length-replicate site.processors false;
  same = refl;
}
netted site few _ _ (played_more {events = events} {s = s} {next = next} event before made) =
    netted-on site few s event next made (netted site few events s before)
netted site few _ _ (skipped {events = events} {s = s} event before skips) = netted site few events s before

-- two nodes that run haven't marked each other down
pub both-run : (s : Packeted) (n : Net) → IsNetOf s n → (a b : ℕ) → is_running s.world.stopped a ≡ true
    → is_running s.world.stopped b ≡ true → Runs n a b
both-run s n is a b here there = (is.tied.stood a ∙ ap not here, by ((n.ends a b).down) refl)
  where
    by : (down : Bool) → (n.ends a b).down ≡ down → down ≡ false
    by false e = refl
    by true e = absurd (let bad : false ≡ true = sym (running-stands s.world.stopped b there) ∙ is.tied.down a b e in
        cc)

-- an event of a round that is clear goes on in the net, and what it delivers comes
pub record GoesThrough (a b : ℕ) (s : Packeted) (event : Event) (next : Packeted) (n : Net) : Type 0 where
  pub net : Net
  pub is : IsNetOf next net
  pub few : length next.world.stopped ≤ 16
  pub came : List Packet
  pub passes : Passes a b n came net
  pub comes : (bus : BusName) (p : Packet) → IsAmong p (delivered_of bus event (buses_of s bus)) → IsAmong p came

-- what an event delivers of a bus is the packet that it names
comes-named : (s : Packeted) (event : Event) (came : List Packet)
    → ((p : Packet) → delivered s event ≡ Some p → IsAmong p came)
    → (bus : BusName) (p : Packet) → IsAmong p (delivered_of bus event (buses_of s bus)) → IsAmong p came
comes-named s (Run number) came named bus p among = absurd among
comes-named s (Enter terminal) came named bus p among = absurd among
comes-named s (Lose one k) came named bus p among = absurd among
comes-named s (Repeat one k) came named bus p among = absurd among
comes-named s (Tick node) came named bus p among = absurd among
comes-named s (Fail processor) came named bus p among = absurd among
comes-named s (Reload processor) came named bus p among = absurd among
comes-named s (Drive event) came named bus p among = absurd among
comes-named s (Deliver one k) came named name p among = by one name named among
  where
    there : (o : Option Packet) → ((q : Packet) → o ≡ Some q → IsAmong q came) → IsAmong p (option_to_list o)
        → IsAmong p came
    there None named among = absurd among
    there (Some q) named (inl is) = named p (ap Some (sym is))
    there (Some q) named (inr none) = absurd none

    by : (one name : BusName) → ((q : Packet) → packet_at s one k ≡ Some q → IsAmong q came)
        → IsAmong p (delivered_of name (Deliver one k) (buses_of s name)) → IsAmong p came
    by bus.X bus.X named among = there (slice_get s.wires.x k) named among
    by bus.X bus.Y named among = absurd among
    by bus.Y bus.X named among = absurd among
    by bus.Y bus.Y named among = there (slice_get s.wires.y k) named among

-- what is skipped delivers nothing
none-delivered : (s : Packeted) (event : Event) → play s event ≡ Skips → (p : Packet) → delivered s event ≡ Some p → ⊥
none-delivered s (Run number) skips p is = absurd (cc)
none-delivered s (Enter terminal) skips p is = absurd (cc)
none-delivered s (Lose bus k) skips p is = absurd (cc)
none-delivered s (Repeat bus k) skips p is = absurd (cc)
none-delivered s (Tick node) skips p is = absurd (cc)
none-delivered s (Fail processor) skips p is = absurd (cc)
none-delivered s (Reload processor) skips p is = absurd (cc)
none-delivered s (Drive event) skips p is = absurd (cc)
none-delivered s (Deliver bus k) skips p is = absurd (by (packet_at s bus k) is skips)
  where
    by : (o : Option Packet) → o ≡ Some p → ended (taken_off (Deliver bus k) s.wires)
        (deliver_acted bus (underway s) o) ≡ Skips → ⊥
    by None is skips = absurd (cc)
    by (Some q) is skips = absurd (cc)

-- an event as those of rounds: it takes nothing off a bus that it doesn't deliver, and loads no processor again
abbrev pub IsOfRounds : Event → Type 0
IsOfRounds event = TakesToDeliver event × ReloadsNone event

pub goes-through : (s : Packeted) (event : Event) (next : Packeted) (n : Net) (a b : ℕ) → length s.world.stopped ≤ 16
    → IsNetOf s n → IsOfRounds event → IsClearPlay s event next → is_running next.world.stopped a ≡ true
    → is_running next.world.stopped b ≡ true → GoesThrough a b s event next n
goes-through s event next n a b few is takes (clear, inl made) here there =
    let q = event-passes s event next n a b few is takes.1 made here there in record {
      net = as_on_buses next q.middle;
      is = q.net;
      few = q.few;
      came = q.came;
      passes = q.clear clear takes.0;
      comes = comes-named s event q.came q.comes;
    }
goes-through s event next n a b few is takes (clear, inr skips) here there =
    subst (λ (t : Packeted). GoesThrough a b s event t n) (sym skips.1) (record {
      net = n;
      is = is;
      few = few;
      came = [];
      passes = nothing;
      comes = comes-named s event [] (λ p named. none-delivered s event skips.0 p named);
    })
