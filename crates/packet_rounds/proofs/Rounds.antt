-- Why whole clear rounds end a piece that is outstanding.
use Rattle.std.proofs.Common.{◌≡◌, ◌≤◌, ◌<◌, ◌⊎◌, inl, inr, ℕ, zero, suc, ◌+◌, Bool, true, false, if◌then◌else◌, List}
use Rattle.std.proofs.Common.{[]}
use Rattle.std.proofs.Common.{◌++◌, length, Option, Some, None, slice_get, refl, sym, subst, arith}
use Rattle.std.proofs.lemmas.Bool.{eqb-true}
use Rattle.std.proofs.lemmas.Option.{slice_get_within}
use Rattle.gd_words.specs.Members.{IsAmong}
use Rattle.gd_words.proofs.Among.{among-left, among-right, among-either}
use Rattle.tal_tree.specs.declared.site.Site.{Site}
use Rattle.schedule.specs.declared.bus_name.BusName.TheVariants as bus
use Rattle.schedule.specs.declared.bus_name.BusName.{BusName}
use Rattle.schedule.specs.declared.event.Event.{Event}
use Rattle.schedule.specs.declared.event.Event.TheVariants.{Tick, Fail}
use Rattle.player.specs.declared.standing.Sizes.{Sizes}
use Rattle.player.specs.declared.standing.Place.{Place}
use Rattle.player.specs.declared.standing.Place.TheVariants as place
use Rattle.player.specs.declared.standing.Rule.{Rule}
use Rattle.player.specs.Lines.{is_before}
use Rattle.agendas.specs.Agendas.{Agenda}
use Rattle.schedule.specs.declared.event.Counts.{Counts}
use Rattle.schedule.specs.declared.line.Line.{Line}
use Rattle.packet_wires.specs.Runs.{IsPlayed}
use Rattle.packet_words.specs.declared.packet.Packet.{Packet}
use Rattle.link_control.specs.Ends.{End}
use Rattle.world_semantics.specs.World.{is_running, runs_by, terminal_node}
use Rattle.channel_laws.specs.Net.{Net}
use Rattle.channel_laws.specs.Rounds.{Passes, nothing, by_push, by_packet, by_drop, by_tick, by_alive, by_bus, by_stop}
use Rattle.channel_laws.specs.Rounds.{by_mark, IsRound, HasWaited, IsSent, IsAnswered, IsBroughtOn}
use Rattle.channel_laws.specs.Way.{IsOutstanding, IsEnded}
use Rattle.channel_laws.proofs.Rounds.{brought-on}
use Rattle.machine_states.specs.States.{Played, Makes, Skips, Would}
use Rattle.packet_wires.specs.Nodes.{end_at}
use Rattle.packet_wires.specs.Wires.{Wires, Midst, midst_after_tick}
use Rattle.packet_wires.specs.Play.{Packeted, Underway, IsClear, underway, ended, line_of, play, pulled, pulled_running}
use Rattle.packet_wires.specs.Play.{pulls, pulls_its}
use Rattle.computed_changes.specs.Stopped.{stop_done}
use Rattle.world_semantics.specs.Running.{Done}
use Rattle.packets_laws.specs.packet_nets.proofs.Nodes.{Same, are, differ, same}
use Rattle.packets_laws.specs.Passing.{IsNetOf, as_on_buses}
use Rattle.packets_laws.proofs.Passing.{tick-passed}
use Rattle.round_laws.specs.Buses.{IsGrown, delivered_of, HasBuses}
use Rattle.round_laws.specs.Rounds.{InRound, begins, goes_on, stops, IsWholeRound, AreRounds, no_round, one_more}
use Rattle.round_laws.specs.Rounds.{TurnsIn}
use Rattle.round_laws.specs.Turns.{ticked as ticked_in}
use Rattle.round_laws.specs.Turns.{Turns, AllCame, enters, runs, delivers_x, delivers_y, ticks, ends}
use Rattle.round_laws.specs.Stretches.{BeginsRound, CountsBuses, EndsRound, GoesOn, is_drain}
use Rattle.round_laws.proofs.Stretching.{stretch-rounds}
use Rattle.round_laws.proofs.Delivering.{still-due, all-came}
use Rattle.packet_rounds.specs.Pieces.{IsAcknowledged}
use Rattle.packet_rounds.specs.Played.{IsClearPlay, buses_of, sizes_of}
use Rattle.packet_rounds.proofs.Buses.{has-buses}
use Rattle.packet_rounds.proofs.Kept.{acknowledged}
use Rattle.packet_rounds.proofs.Nets.{GoesThrough, IsOfRounds, both-run, goes-through, netted, ran-before}

-- what goes on, and then more
passes-on : {a b : ℕ} {one other last : Net} {came later : List Packet} → Passes a b one came other
    → Passes a b other later last → Passes a b one (later ++ came) last
passes-on p nothing = p
passes-on p (by_push x y message some opened q) = by_push x y message some opened (passes-on p q)
passes-on p (by_packet packet among current opened q) = by_packet packet among current opened (passes-on p q)
passes-on p (by_drop packet gone q) = by_drop packet gone (passes-on p q)
passes-on p (by_tick x y opened q) = by_tick x y opened (passes-on p q)
passes-on p (by_alive x y opened q) = by_alive x y opened (passes-on p q)
passes-on {came = came} p (by_bus {came = later} flight fewer stays q) =
    by_bus {came = later ++ came} flight fewer
    (λ packet among. elim (stays packet among) [
      | inl still ↦ inl still
      | inr gone ↦ inr (among-left packet later came gone)
    ]) (passes-on p q)
passes-on p (by_stop x na nb q) = by_stop x na nb (passes-on p q)
passes-on p (by_mark x y gone q) = by_mark x y gone (passes-on p q)

-- in a round that began with a net: the end of a with b has still to tick, and all that the buses delivered has come
record StillToTick (a b : ℕ) (start : Net) (came : BusName → List Packet) (s : Packeted) : Type 0 where
  net : Net
  is : IsNetOf s net
  all : List Packet
  passes : Passes a b start all net
  comes : (bus : BusName) (p : Packet) → IsAmong p (came bus) → IsAmong p all

-- or it has ticked, and so a round from a to b was made
record HasTicked (a b : ℕ) (start : Net) (s : Packeted) : Type 0 where
  net : Net
  is : IsNetOf s net
  round : IsRound a b start net

record IsUnderWay (a b : ℕ) (start : Net) (came : BusName → List Packet) (at : Place) (s : Packeted) : Type 0 where
  few : length s.world.stopped ≤ 16
  so_far : StillToTick a b start came s ⊎ HasTicked a b start s
  ticked : a < ticked_in at → HasTicked a b start s

still-on : (a b : ℕ) (start : Net) (came : BusName → List Packet) (s : Packeted) (event : Event) (next : Packeted)
    (t : StillToTick a b start came s) → GoesThrough a b s event next t.net
    → StillToTick a b start (λ bus. came bus ++ delivered_of bus event (buses_of s bus)) next
still-on a b start came s event next t q = record {
  net = q.net;
  is = q.is;
  all = q.came ++ t.all;
  passes = passes-on t.passes q.passes;
  comes = λ bus p among. elim (among-either p (came bus) (delivered_of bus event (buses_of s bus)) among) [
    | inl old ↦ among-right p q.came t.all (t.comes bus p old)
    | inr new ↦ among-left p q.came t.all (q.comes bus p new)
  ];
}

still-same : (a b : ℕ) (start : Net) (came : BusName → List Packet) (s : Packeted) (event : Event) (next : Packeted)
    (t : StillToTick a b start came s) → GoesThrough a b s event next t.net → StillToTick a b start came next
still-same a b start came s event next t q = record {
  net = q.net;
  is = q.is;
  all = q.came ++ t.all;
  passes = passes-on t.passes q.passes;
  comes = λ bus p among. among-right p q.came t.all (t.comes bus p among);
}

ticked-on : (a b : ℕ) (start : Net) (s : Packeted) (event : Event) (next : Packeted) (t : HasTicked a b start s)
    → GoesThrough a b s event next t.net → HasTicked a b start next
ticked-on a b start s event next t q = let r = t.round in record {
  net = q.net;
  is = q.is;
  round = record {
    came = r.came;
    middle = r.middle;
    first = r.first;
    all = r.all;
    later = q.came ++ r.later;
    rest = passes-on r.rest q.passes;
  };
}

turn-takes : {sizes : Sizes} {x y : ℕ} {from to : Place} {event : Event} → Turns sizes x y from event to
    → IsOfRounds event
turn-takes (enters terminal early low) = (tt, tt)
turn-takes (runs process early low) = (tt, tt)
turn-takes (delivers_x left some at) = (tt, tt)
turn-takes (delivers_y left empty some at) = (tt, tt)
turn-takes (ticks node low came at) = (tt, tt)
turn-takes (ends came all) = (tt, tt)

-- its own tick, when all that was on the buses has come
now-ticks : (a b : ℕ) (start : Net) (first : Packeted) → IsNetOf first start → (came : BusName → List Packet)
    (s next : Packeted) → length s.world.stopped ≤ 16
    → ((bus : BusName) → IsGrown (buses_of first bus) (came bus)) → IsClear s (Tick a) → play s (Tick a) ≡ Makes next
    → is_running next.world.stopped a ≡ true → is_running next.world.stopped b ≡ true → StillToTick a b start came s
    → HasTicked a b start next
now-ticks a b start first is came s next few grown clear made here there t =
    let q = tick-passed s next t.net a b few t.is made here there in record {
      net = as_on_buses next q.last;
      is = q.net;
      round = record {
        came = t.all;
        middle = q.middle;
        first = passes-on t.passes q.first;
        all = λ p among. flew p (among-either p first.wires.x first.wires.y (is.held p among));
        later = [];
        rest = q.clear clear;
      };
    }
  where
    flew : (p : Packet) → IsAmong p first.wires.x ⊎ IsAmong p first.wires.y → IsAmong p t.all
    flew p (inl on) = t.comes bus.X p
        (subst (IsAmong p) (sym (grown bus.X).1) (among-left p first.wires.x (grown bus.X).0 on))
    flew p (inr on) = t.comes bus.Y p
        (subst (IsAmong p) (sym (grown bus.Y).1) (among-left p first.wires.y (grown bus.Y).0 on))

-- a node that runs ticks
module _ (node : ℕ) (s : Underway) where
  pulled-acts : (processor : ℕ) (one : Option Bool) → pulled node processor s one ≡ Skips → ⊥
  pulled-acts processor None skips = absurd (cc)
  pulled-acts processor (Some true) skips = absurd (cc)
  pulled-acts processor (Some false) skips = by (stop_done processor s.world) skips
    where
      by : (done : Option Done) → pulled_running node processor s done ≡ Skips → ⊥
      by None skips = absurd (cc)
      by (Some done) skips = absurd (cc)

  pulls-acts : (line : Option ℕ) → pulls node s line ≡ Skips → ⊥
  pulls-acts None skips = absurd (cc)
  pulls-acts (Some processor) skips = pulled-acts processor (slice_get s.world.stopped processor) skips

  ended-acts : (wires : Wires) (played : Played Midst) → (played ≡ Skips → ⊥) → ended wires played ≡ Skips → ⊥
  ended-acts wires (Makes next) acts skips = absurd (cc)
  ended-acts wires Skips acts skips = acts refl
  ended-acts wires (Would harm) acts skips = absurd (cc)

tick-acts : (s : Packeted) (node : ℕ) → is_running s.world.stopped node ≡ true → play s (Tick node) ≡ Skips → ⊥
tick-acts s node here skips = by (is_running s.world.stopped node) here skips
  where
    after : Underway
    after = record (underway s) { wires = midst_after_tick s.site.processors node (underway s).wires }

    by : (test : Bool) → test ≡ true → ended s.wires (if test then pulls_its node after else Skips) ≡ Skips → ⊥
    by false is skips = absurd (cc)
    by true is skips = ended-acts node after s.wires (pulls_its node after)
        (pulls-acts node after (line_of node after)) skips

pub clear-buses : HasBuses buses_of IsClearPlay
clear-buses s event next g = has-buses s event next g.1

-- its own tick in a round
own-tick : (a b : ℕ) (start : Net) (first : Packeted) → IsNetOf first start → (came : BusName → List Packet)
    (s next : Packeted) → length s.world.stopped ≤ 16
    → ((bus : BusName) → IsGrown (buses_of first bus) (came bus)) → IsClearPlay s (Tick a) next
    → is_running next.world.stopped a ≡ true → is_running next.world.stopped b ≡ true
    → StillToTick a b start came s ⊎ HasTicked a b start s → HasTicked a b start next
own-tick a b start first is came s next few grown g here there (inr t) =
    ticked-on a b start s (Tick a) next t (goes-through s (Tick a) next t.net a b few t.is (tt, tt) g here there)
own-tick a b start first is came s next few grown (clear, inl made) here there (inl t) =
    now-ticks a b start first is came s next few grown clear made here there t
own-tick a b start first is came s next few grown (clear, inr skips) here there (inl t) = absurd
    (tick-acts s a (subst (λ (u : Packeted). is_running u.world.stopped a ≡ true) skips.1 here) skips.0)

no-tick : {A : Type 0} (a : ℕ) → a < 0 → A
no-tick a low = absurd (omega (arith, low))

-- who runs in a round ran as it began
round-ran : (sizes : Sizes) (first : Packeted) (came : BusName → List Packet) (at : Place) (s : Packeted)
    → InRound sizes buses_of IsClearPlay first came at s → (q : ℕ) → is_running s.world.stopped q ≡ true
    → is_running first.world.stopped q ≡ true
round-ran sizes first _ _ _ begins q here = here
round-ran sizes first _ _ _ (stops {came = came} {from = from} {s = s} {next = next} processor made g) q here =
    round-ran sizes first came from s made q (ran-before s (Fail processor) next tt g.1 q here)
round-ran sizes first _ _ _ (goes_on {came = came} {from = from} {s = s} {next = next} event to made turn on g) q here =
    round-ran sizes first came from s made q (ran-before s event next (turn-takes turn).1 g.1 q here)

rounds-ran : (sizes : Sizes) (first : Packeted) (k : ℕ) (s : Packeted)
    → AreRounds sizes buses_of IsClearPlay first k s → (q : ℕ) → is_running s.world.stopped q ≡ true
    → is_running first.world.stopped q ≡ true
rounds-ran sizes first _ _ no_round q here = here
rounds-ran sizes first _ _ (one_more {k = k} {s = s} {next = next} rounds round) q here =
    rounds-ran sizes first k s rounds q (round-ran sizes s round.came round.from round.last round.made q
    (ran-before round.last (Tick 16) next tt round.ended.1 q here))

module _ (sizes : Sizes) (a b : ℕ) (first : Packeted) (start : Net) (is : IsNetOf first start)
    (few : length first.world.stopped ≤ 16) where
  -- what is due of both buses has come where nothing is due
  grown-by : (came : BusName → List Packet) (at : Place) (s : Packeted)
      → InRound sizes buses_of IsClearPlay first came at s
      → AllCame (length s.wires.x) (length s.wires.y) at → (bus : BusName) → IsGrown (buses_of first bus) (came bus)
  grown-by came at s made all bus.X = all-came (buses_of first bus.X) (came bus.X) (buses_of s bus.X) _ all.0
      (still-due sizes buses_of IsClearPlay clear-buses first came at s made bus.X)
  grown-by came at s made all bus.Y = all-came (buses_of first bus.Y) (came bus.Y) (buses_of s bus.Y) _ all.1
      (still-due sizes buses_of IsClearPlay clear-buses first came at s made bus.Y)

  either-on : (came : BusName → List Packet) (s : Packeted) (event : Event) (next : Packeted)
      → length s.world.stopped ≤ 16 → IsOfRounds event
      → IsClearPlay s event next → is_running next.world.stopped a ≡ true → is_running next.world.stopped b ≡ true
      → StillToTick a b start came s ⊎ HasTicked a b start s
      → StillToTick a b start (λ bus. came bus ++ delivered_of bus event (buses_of s bus)) next
      ⊎ HasTicked a b start next
  either-on came s event next few takes g here there (inl t) =
      inl (still-on a b start came s event next t (goes-through s event next t.net a b few t.is takes g here there))
  either-on came s event next few takes g here there (inr t) =
      inr (ticked-on a b start s event next t (goes-through s event next t.net a b few t.is takes g here there))

  done-on : (s : Packeted) (event : Event) (next : Packeted) → length s.world.stopped ≤ 16 → IsOfRounds event
      → IsClearPlay s event next → is_running next.world.stopped a ≡ true → is_running next.world.stopped b ≡ true
      → HasTicked a b start s → HasTicked a b start next
  done-on s event next few takes g here there t =
      ticked-on a b start s event next t (goes-through s event next t.net a b few t.is takes g here there)

  few-on : (came : BusName → List Packet) (s : Packeted) (event : Event) (next : Packeted)
      → length s.world.stopped ≤ 16 → IsOfRounds event
      → IsClearPlay s event next → is_running next.world.stopped a ≡ true → is_running next.world.stopped b ≡ true
      → StillToTick a b start came s ⊎ HasTicked a b start s → length next.world.stopped ≤ 16
  few-on came s event next few takes g here there (inl t) =
      (goes-through s event next t.net a b few t.is takes g here there).few
  few-on came s event next few takes g here there (inr t) =
      (goes-through s event next t.net a b few t.is takes g here there).few

  -- the turn of the node a, or another one
  at-turn : (came : BusName → List Packet) (from : Place) (s : Packeted) (event : Event) (to : Place) (next : Packeted)
      → InRound sizes buses_of IsClearPlay first came from s → IsUnderWay a b start came from s
      → Turns sizes (length s.wires.x) (length s.wires.y) from event to → is_before to ≡ false
      → IsClearPlay s event next → is_running next.world.stopped a ≡ true → is_running next.world.stopped b ≡ true
      → a < ticked_in to → HasTicked a b start next
  at-turn came from s _ _ next made k (enters terminal early low) on g here there past = no-tick a past
  at-turn came from s _ _ next made k (runs process early low) on g here there past = no-tick a past
  at-turn came from s _ _ next made k (delivers_x left some at) on g here there past = no-tick a past
  at-turn came from s _ _ next made k (delivers_y left empty some at) on g here there past = no-tick a past
  at-turn came from s _ _ next made k (ends all over) on g here there past = no-tick a past
  at-turn came from s _ _ next made k (ticks node low all at) on g here there past = by (same a node)
    where
      by : Same a node → HasTicked a b start next
      by (are own) = own-tick a b start first is came s next k.few (grown-by came from s made all)
          (subst (λ q. IsClearPlay s (Tick q) next) (sym own) g) here there k.so_far
      by (differ other) =
          done-on s (Tick node) next k.few (tt, tt) g here there (k.ticked (omega (arith, past, at, other)))

  under-way : (came : BusName → List Packet) (at : Place) (s : Packeted)
      → InRound sizes buses_of IsClearPlay first came at s
      → is_running s.world.stopped a ≡ true → is_running s.world.stopped b ≡ true → IsUnderWay a b start came at s
  under-way _ _ _ begins here there = record {
    few = few;
    so_far = inl
        (record { net = start; is = is; all = []; passes = nothing; comes = λ bus p among. absurd among });
    ticked = λ low. no-tick a low;
  }
  under-way _ _ _ (stops {came = came} {from = from} {s = s} {next = next} processor made g) here there =
      let k = under-way came from s made (ran-before s (Fail processor) next tt g.1 a here)
      (ran-before s (Fail processor) next tt g.1 b there) in
      record {
        few = few-on came s (Fail processor) next k.few (tt, tt) g here there k.so_far;
        so_far = by k.few k.so_far;
        ticked = λ low. done-on s (Fail processor) next k.few (tt, tt) g here there (k.ticked low);
      }
    where
      by : length s.world.stopped ≤ 16 → StillToTick a b start came s ⊎ HasTicked a b start s
          → StillToTick a b start came next ⊎ HasTicked a b start next
      by few (inl t) = inl (still-same a b start came s (Fail processor) next t
          (goes-through s (Fail processor) next t.net a b few t.is (tt, tt) g here there))
      by few (inr t) = inr (done-on s (Fail processor) next few (tt, tt) g here there t)
  under-way _ _ _ (goes_on {came = came} {from = from} {s = s} {next = next} event to made turn on g) here there =
      let none = (turn-takes turn).1 in
      let k = under-way came from s made (ran-before s event next none g.1 a here)
      (ran-before s event next none g.1 b there) in
      record {
        few = few-on came s event next k.few (turn-takes turn) g here there k.so_far;
        so_far = either-on came s event next k.few (turn-takes turn) g here there k.so_far;
        ticked = λ low. at-turn came from s event to next made k turn on g here there low;
      }

  -- a whole clear round is one of the net, from each node to each
  whole-round : (next : Packeted) (r : IsWholeRound sizes buses_of IsClearPlay first next)
      → (a < sizes.processors) ⊎ (a ≡ 16) → is_running next.world.stopped a ≡ true
      → is_running next.world.stopped b ≡ true → HasTicked a b start next × (length next.world.stopped ≤ 16)
  whole-round next r which here there = (
    by which r.turn,
    few-on r.came r.last (Tick 16) next k.few (tt, tt) r.ended here
        there
        k.so_far,
  )
    where
      k : IsUnderWay a b start r.came r.from r.last
      k = under-way r.came r.from r.last r.made (ran-before r.last (Tick 16) next tt r.ended.1 a here)
          (ran-before r.last (Tick 16) next tt r.ended.1 b there)

      all-ticked : {x y : ℕ} {from to : Place} {event : Event} → Turns sizes x y from event to → event ≡ Tick 16
          → is_before to ≡ true → AllCame x y from × (sizes.processors ≤ ticked_in from)
      all-ticked (enters terminal early low) is over = absurd (cc)
      all-ticked (runs process early low) is over = absurd (cc)
      all-ticked (delivers_x left some at) is over = absurd (cc)
      all-ticked (delivers_y left empty some at) is over = absurd (cc)
      all-ticked (ticks node low all at) is over = absurd (cc)
      all-ticked (ends all past) is over = (all, past)

      by : (a < sizes.processors) ⊎ (a ≡ 16) → TurnsIn sizes buses_of r.last r.from (Tick 16) place.Before
          → HasTicked a b start next
      by (inl low) turn = let past = (all-ticked turn refl refl).1 in
          done-on r.last (Tick 16) next k.few (tt, tt) r.ended here there (k.ticked (omega (arith, low, past)))
      by (inr own) turn = own-tick a b start first is r.came r.last next k.few
          (grown-by r.came r.from r.last r.made (all-ticked turn refl refl).0)
          (subst (λ q. IsClearPlay r.last (Tick q) next) (sym own) r.ended) here there k.so_far

-- how far the piece n has come after so many rounds
abbrev HasCome : ℕ → ℕ → ℕ → ℕ → Net → Type 0
HasCome n a b zero m = Unit {0}
HasCome n a b (suc zero) m = HasWaited n (m.ends a b).sending
HasCome n a b (suc (suc zero)) m = IsSent m.reloads n a b (m.ends a b).sending m.flight
HasCome n a b (suc (suc (suc zero))) m = IsAnswered m.reloads n a b (m.ends a b).sending m.flight
HasCome n a b (suc (suc (suc (suc k)))) m = IsEnded n (m.ends a b).sending

comes-on : (n a b k : ℕ) (one next : Net) → IsBroughtOn n a b one next → HasCome n a b k one
    → HasCome n a b (suc k) next
comes-on n a b zero one next brought h = brought.waited
comes-on n a b (suc zero) one next brought h = brought.sent h
comes-on n a b (suc (suc zero)) one next brought h = brought.answered h
comes-on n a b (suc (suc (suc zero))) one next brought h = brought.ended h
comes-on n a b (suc (suc (suc (suc k)))) one next brought h = brought.ended (inl h)

record IsBrought (n a b k : ℕ) (s : Packeted) : Type 0 where
  net : Net
  is : IsNetOf s net
  few : length s.world.stopped ≤ 16
  numbered : n ≤ (net.ends a b).sending.numbered
  come : HasCome n a b k net

module _ (sizes : Sizes) (n a b : ℕ) (first : Packeted) (start : Net) (is : IsNetOf first start)
    (few : length first.world.stopped ≤ 16) (low : n ≤ (start.ends a b).sending.numbered)
    (which : (a < sizes.processors) ⊎ (a ≡ 16)) where
  brought : (k : ℕ) (s : Packeted) → AreRounds sizes buses_of IsClearPlay first k s
      → is_running s.world.stopped a ≡ true → is_running s.world.stopped b ≡ true → IsBrought n a b k s
  brought _ _ no_round here there = record { net = start; is = is; few = few; numbered = low; come = tt }
  brought _ _ (one_more {k = k} {s = s} {next = next} rounds round) here there =
      let on_a = ran a here in let on_b = ran b there in
      let m = brought k s rounds on_a on_b in
      let r = whole-round sizes a b s m.net m.is m.few next round which here there in
      let on = brought-on n a b r.0.round m.is.tied.whole (both-run s m.net m.is a b on_a on_b)
      (both-run s m.net m.is b a on_b on_a) m.numbered in
      record {
        net = r.0.net;
        is = r.0.is;
        few = r.1;
        numbered = on.numbered;
        come = comes-on n a b k m.net r.0.net on
            m.come;
      }
    where
      ran : (q : ℕ) → is_running next.world.stopped q ≡ true → is_running s.world.stopped q ≡ true
      ran q here = round-ran sizes s round.came round.from round.last round.made q
          (ran-before round.last (Tick 16) next tt round.ended.1 q here)

-- four whole clear rounds or more end a piece
pub rounds-end : (sizes : Sizes) (n a b k : ℕ) (first s : Packeted) (start : Net) → IsNetOf first start
    → length first.world.stopped ≤ 16 → (a < sizes.processors) ⊎ (a ≡ 16)
    → AreRounds sizes buses_of IsClearPlay first (suc (suc (suc (suc k)))) s
    → is_running s.world.stopped a ≡ true → is_running s.world.stopped b ≡ true → (e : End)
    → end_at first.wires.nodes a b ≡ Some e → IsOutstanding n e.sending → IsAcknowledged s a b n
rounds-end sizes n a b k first s start is few which rounds here there e at out =
    let began = is.tied.ends a b e (rounds-ran sizes first _ s rounds a here) at in
    let low : n ≤ (start.ends a b).sending.numbered =
    subst (λ (d : End). n ≤ d.sending.numbered) (sym began) (let same = out.0 in omega (arith, same)) in
    let m = brought sizes n a b first start is few low which (suc (suc (suc (suc k)))) s rounds here there in
    acknowledged n a b s m.net m.is m.few here there m.come

-- a node that runs is a processor of the site, or carries the terminals
pub in-site : (stopped : List Bool) (processors a : ℕ) → length stopped ≡ processors → is_running stopped a ≡ true
    → (a < processors) ⊎ (a ≡ 16)
in-site stopped processors a size here = by (slice_get stopped a) refl here
  where
    by : (one : Option Bool) → slice_get stopped a ≡ one → runs_by a one ≡ true → (a < processors) ⊎ (a ≡ 16)
    by None is here = inr (eqb-true a terminal_node here)
    by (Some one) is here = inl (let low = slice_get_within stopped a one is in omega (arith, low, size))

-- and so in a run
pub lines-end : (site : Site) → site.processors ≤ 16 → (events : List Event) (start : Packeted)
    → IsPlayed site events start → (counts : Packeted → Counts) → CountsBuses buses_of counts → (kind : Rule)
    → is_drain kind ≡ true → (left k : ℕ) (rest : List Line) (before now : ℕ) (agenda there : Agenda) (s : Packeted)
    → BeginsRound (sizes_of site) (counts start) agenda kind (left + suc (suc (suc (suc k)))) rest
    → GoesOn (sizes_of site) counts IsClearPlay before agenda start now there s → EndsRound there kind left rest
    → (a b n : ℕ) → is_running s.world.stopped a ≡ true → is_running s.world.stopped b ≡ true → (e : End)
    → end_at start.wires.nodes a b ≡ Some e → IsOutstanding n e.sending → IsAcknowledged s a b n
lines-end site low events start played counts counted kind drain left k rest before now agenda there s first on last
    a b n here other e at out =
    let w = netted site low events start played in let size = w.size in
    let rounds = stretch-rounds (sizes_of site) buses_of counts IsClearPlay clear-buses counted kind drain left
    (suc (suc (suc k))) rest before now agenda there start s first on last in
    rounds-end (sizes_of site) n a b k start s w.net w.is (omega (arith, low, size))
    (in-site start.world.stopped site.processors a size (rounds-ran (sizes_of site) start _ s rounds a here)) rounds
    here
    other e at out
