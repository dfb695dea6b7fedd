-- What a tick does to what nodes know.
use Rattle.std.proofs.Common.{◌≡◌, ◌≢◌, ◌≤◌, ◌<◌, inl, inr, ℕ, zero, suc, ◌+◌, ◌∙◌, ◌==◌, ◌&&◌, nat_lt, not, Bool}
use Rattle.std.proofs.Common.{true, false, if◌then◌else◌, List, [], ◌∷◌, ◌++◌, slice_get, slice_set, Option}
use Rattle.std.proofs.Common.{Some, None, option_map, option_and_then, refl, ap, sym, subst, arith}
use Rattle.std.specs.List.{filter}
use Rattle.std.specs.Option.{unwrap_or}
use Rattle.std.proofs.lemmas.Bool.{eqb-true, eqb-false, lt-ltb, ltb-true}
use Rattle.std.proofs.lemmas.Option.{slice_get-map}
use Rattle.gd_words.specs.Members.{IsAmong}
use Rattle.gd_words.proofs.Among.{among-left, among-right}
use Rattle.schedule.specs.declared.bus_name.BusName.TheVariants as bus
use Rattle.packet_words.specs.declared.packet.PacketKind.TheVariants as kind
use Rattle.link_control.specs.Ends.{End, packet_of}
use Rattle.alive_regroup.specs.declared.neighbour.Neighbour.{Neighbour}
use Rattle.alive_regroup.specs.Watching.{Watching, after_check, after_tick, agrees, all_but, is_coordinator, is_held}
use Rattle.alive_regroup.specs.Watching.{is_silent, is_silent_at, neighbour_after_check, told_by_tick}
use Rattle.world_semantics.specs.World.{is_running, is_whole, runs_by, terminal_node}
use Rattle.world_semantics.proofs.Lists.{set-other}
use Rattle.computed_changes.specs.Stopped.{may_mark, marked_where, mark_where, stop_if, stopped_world}
use Rattle.machine_states.specs.States.{Played, Makes, Skips, Would, SecondStop, DiscLoss}
use Rattle.packet_wires.specs.Nodes.{Node, numbers, others}
use Rattle.packet_wires.specs.Lines.{first_held, line_pulled}
use Rattle.packet_wires.specs.Wires.{Midst, Outgoing, alive_at, at_end, at_end_of, at_node, check_at, checks, for_each}
use Rattle.packet_wires.specs.Wires.{goes_over, learns, tells_alive, midst_after_tick, watch_changed}
use Rattle.packet_wires.specs.Play.{Packeted, Underway, underway, line_of, marked_by, marks, marks_and_declares, pulled}
use Rattle.packet_wires.specs.Play.{pulled_running, pulls, pulls_its, tick_acted}
use Rattle.packet_rounds.specs.packet_nets.proofs.Nodes.{Same, are, differ, same}
use Rattle.alive_rounds.specs.Watched.{after_tick_of}
use Rattle.calm_runs.specs.Sights.{watch_at, known_of, checks_of}
use Rattle.calm_runs.proofs.Sending.{IsStill, still-none, still-on, each-alive-still, reports-still}
use Rattle.calm_runs.proofs.Sending.{resends-still, tells-still}
use Rattle.calm_runs.proofs.Watching.{AllKeep, declares-keep, learns-other, learns-out, learns-own, still-keeps}

-- The tick of what a processor knows

tick-is : (w : Watching) → w.me < 16 → after_tick w ≡ (if w.checks then after_check w else record w { checks = true })
tick-is w low = ap (λ b. if b && w.checks then after_check w else record w { checks = true }) (lt-ltb w.me 16 low)

tick-checks : (w : Watching) → w.me < 16 → (after_tick w).checks ≡ not w.checks
tick-checks w low = ap (λ (v : Watching). v.checks) (tick-is w low) ∙ by w.checks
  where
    by : (b : Bool) → (if b then after_check w else record w { checks = true }).checks ≡ not b
    by true = refl
    by false = refl

tick-knows : (w : Watching) (p : ℕ) → w.me < 16
    → slice_get (after_tick w).neighbours p ≡ after_tick_of w.checks (slice_get w.neighbours p)
tick-knows w p low = ap (λ (v : Watching). slice_get v.neighbours p) (tick-is w low) ∙ by w.checks
  where
    by : (b : Bool) → slice_get (if b then after_check w else record w { checks = true }).neighbours p
        ≡ after_tick_of b (slice_get w.neighbours p)
    by true = slice_get-map neighbour_after_check w.neighbours p
    by false = refl

pub tick-me : (w : Watching) → (after_tick w).me ≡ w.me
tick-me w = by (nat_lt w.me 16 && w.checks)
  where
    by : (b : Bool) → (if b then after_check w else record w { checks = true }).me ≡ w.me
    by true = refl
    by false = refl

-- What a node sends, but for the line

module _ (processors x : ℕ) (m : Midst) where
  checks-learns : IsStill (learns x after_tick (tells_alive processors x m)) (checks processors x (tells_alive
      processors x m))
  checks-learns = by (slice_get (tells_alive processors x m).nodes x)
    where
      by : (node : Option Node) → IsStill (at_node (watch_changed x after_tick) node (tells_alive processors x m))
          (at_node (check_at processors x) node (tells_alive processors x m))
      by None = still-none (tells_alive processors x m)
      by (Some node) = reports-still processors x (told_by_tick node.watch)
          (watch_changed x after_tick node (tells_alive processors x m))

  rest-still : IsStill (learns x after_tick (tells_alive processors x m)) (midst_after_tick processors x m)
  rest-still = still-on (learns x after_tick (tells_alive processors x m))
      (checks processors x (tells_alive processors x m)) (midst_after_tick processors x m) checks-learns
      (resends-still x (checks processors x (tells_alive processors x m)))

  pub ticked-own : watch_at (midst_after_tick processors x m).nodes x ≡ option_map after_tick (watch_at m.nodes x)
  ticked-own = rest-still.watch x ∙ learns-own x after_tick (tells_alive processors x m)
      ∙ ap (option_map after_tick) ((tells-still processors x m).watch x)

  pub ticked-other : (q : ℕ) → (x ≡ q → ⊥) → watch_at (midst_after_tick processors x m).nodes q ≡ watch_at m.nodes q
  ticked-other q apart = rest-still.watch q ∙ learns-other x after_tick (tells_alive processors x m) q apart
      ∙ (tells-still processors x m).watch q

  pub ticked-out : (one : Outgoing) → IsAmong one (tells_alive processors x m).out
      → IsAmong one (midst_after_tick processors x m).out
  ticked-out one among = rest-still.out one
      (subst (IsAmong one) (sym (learns-out x after_tick (tells_alive processors x m))) among)

  pub ticked-me : (q : ℕ) → option_map (λ (w : Watching). w.me) (watch_at (midst_after_tick processors x m).nodes q)
      ≡ option_map (λ (w : Watching). w.me) (watch_at m.nodes q)
  ticked-me q = by (same x q)
    where
      own : (o : Option Watching)
          → option_map (λ (w : Watching). w.me) (option_map after_tick o) ≡ option_map (λ (w : Watching). w.me) o
      own None = refl
      own (Some w) = ap Some (tick-me w)

      by : Same x q → option_map (λ (w : Watching). w.me) (watch_at (midst_after_tick processors x m).nodes q)
          ≡ option_map (λ (w : Watching). w.me) (watch_at m.nodes q)
      by (differ apart) = ap (option_map (λ (w : Watching). w.me)) (ticked-other q apart)
      by (are is) = subst (λ k. option_map (λ (w : Watching). w.me) (watch_at (midst_after_tick processors x m).nodes k)
          ≡ option_map (λ (w : Watching). w.me) (watch_at m.nodes k)) is
          (ap (option_map (λ (w : Watching). w.me)) ticked-own ∙ own (watch_at m.nodes x))

  -- what a processor knows then
  pub ticked-checks : (w : Watching) → watch_at m.nodes x ≡ Some w → w.me < 16
      → checks_of (watch_at (midst_after_tick processors x m).nodes x) ≡ not (checks_of (watch_at m.nodes x))
  ticked-checks w is low = ap checks_of (ticked-own ∙ ap (option_map after_tick) is) ∙ tick-checks w low
      ∙ ap (λ o. not (checks_of o)) (sym is)

  pub ticked-knows : (w : Watching) → watch_at m.nodes x ≡ Some w → w.me < 16 → (p : ℕ)
      → known_of (watch_at (midst_after_tick processors x m).nodes x) p
      ≡ after_tick_of (checks_of (watch_at m.nodes x)) (known_of (watch_at m.nodes x) p)
  ticked-knows w is low p = ap (λ o. known_of o p) (ticked-own ∙ ap (option_map after_tick) is) ∙ tick-knows w p low
      ∙ ap (λ o. after_tick_of (checks_of o) (known_of o p)) (sym is)

-- I'm-alive packets

among-numbers : (q from more : ℕ) → from ≤ q → q < from + more → IsAmong q (numbers from more)
among-numbers q from zero low high = absurd (let bad : q < q = omega (arith, low, high) in omega (arith, bad))
among-numbers q from (suc more) low high = by (same q from) (among-numbers q (from + 1) more)
  where
    by : Same q from → (from + 1 ≤ q → q < from + 1 + more → IsAmong q (numbers (from + 1) more))
        → IsAmong q (from ∷ numbers (from + 1) more)
    by (are is) later = inl is
    by (differ apart) later = inr (later (omega (arith, low, apart)) (omega (arith, high)))

among-filter : {A : Type 0} (passes : A → Bool) (x : A) (xs : List A) → IsAmong x xs → passes x ≡ true
    → IsAmong x (filter passes xs)
among-filter passes x [] among is = absurd among
among-filter passes x (y ∷ xs) among is = by (passes y) refl among (among-filter passes x xs)
  where
    by : (test : Bool) → passes y ≡ test → IsAmong x (y ∷ xs)
        → (IsAmong x xs → passes x ≡ true → IsAmong x (filter passes xs))
        → IsAmong x (if test then y ∷ filter passes xs else filter passes xs)
    by true at (inl here) later = inl here
    by true at (inr more) later = inr (later more is)
    by false at (inl here) later = absurd (let bad : false ≡ true = sym at ∙ ap passes (sym here) ∙ is in cc)
    by false at (inr more) later = later more is

among-others : (processors node q : ℕ) → q < processors → q ≢ node → IsAmong q (others processors node)
among-others processors node q low apart = among-filter (λ other. not (other == node)) q (numbers 0 processors)
    (among-numbers q 0 processors (omega arith) (omega (arith, low))) (by (q == node) refl)
  where
    by : (test : Bool) → (q == node) ≡ test → not test ≡ true
    by true is = absurd (apart (eqb-true q node is))
    by false is = refl

alive-nodes : (x y : ℕ) (m : Midst) → (at_end x y alive_at m).nodes ≡ m.nodes
alive-nodes x y m = by (slice_get m.nodes x)
  where
    sent : (e : End) (down : Bool) → (if down then m else goes_over bus.Y (packet_of e kind.Alive)
        (goes_over bus.X (packet_of e kind.Alive) m)).nodes ≡ m.nodes
    sent e true = refl
    sent e false = refl

    at : (node : Node) (e : Option End) → (at_end_of (alive_at node) e m).nodes ≡ m.nodes
    at node None = refl
    at node (Some e) = sent e e.down

    by : (node : Option Node)
        → (at_node (λ node. at_end_of (alive_at node) (slice_get node.ends y)) node m).nodes ≡ m.nodes
    by None = refl
    by (Some node) = at node (slice_get node.ends y)

-- what goes out over bus X
abbrev pub over_x : End → Outgoing
over_x e = record { bus = bus.X; packet = packet_of e kind.Alive }

one-sent : (x q : ℕ) (m : Midst) (node : Node) (e : End) → slice_get m.nodes x ≡ Some node
    → slice_get node.ends q ≡ Some e → e.down ≡ false → IsAmong (over_x e) (at_end x q alive_at m).out
one-sent x q m node e there has up =
    subst (λ o. IsAmong (over_x e) (at_node (λ node. at_end_of (alive_at node) (slice_get node.ends q)) o m).out)
    (sym there)
    (subst (λ o. IsAmong (over_x e) (at_end_of (alive_at node) o m).out) (sym has)
    (subst (λ b. IsAmong (over_x e) (if b then m else goes_over bus.Y (packet_of e kind.Alive)
    (goes_over bus.X (packet_of e kind.Alive) m)).out) (sym up)
    (among-left (over_x e) (m.out ++ over_x e ∷ []) (record { bus = bus.Y; packet = packet_of e kind.Alive } ∷ [])
    (among-right (over_x e) m.out (over_x e ∷ []) (inl refl)))))

each-sent : (x q : ℕ) (ys : List ℕ) (m : Midst) (node : Node) (e : End) → slice_get m.nodes x ≡ Some node
    → slice_get node.ends q ≡ Some e → e.down ≡ false → IsAmong q ys
    → IsAmong (over_x e) (for_each (λ y. at_end x y alive_at) ys m).out
each-sent x q [] m node e there has up among = absurd among
each-sent x q (y ∷ ys) m node e there has up (inl is) =
    (each-alive-still x ys (at_end x y alive_at m)).out (over_x e)
    (subst (λ k. IsAmong (over_x e) (at_end x k alive_at m).out) is (one-sent x q m node e there has up))
each-sent x q (y ∷ ys) m node e there has up (inr among) =
    each-sent x q ys (at_end x y alive_at m) node e (ap (λ l. slice_get l x) (alive-nodes x y m) ∙ there) has up among

pub alive-sent : (processors x q : ℕ) (m : Midst) (node : Node) (e : End) → x < 16 → q < processors → q ≢ x
    → slice_get m.nodes x ≡ Some node → slice_get node.ends q ≡ Some e → e.down ≡ false
    → IsAmong (over_x e) (midst_after_tick processors x m).out
alive-sent processors x q m node e low in_site apart there has up =
    ticked-out processors x m (over_x e) (by (x == terminal_node) refl)
  where
    by : (test : Bool) → (x == terminal_node) ≡ test → IsAmong (over_x e)
        (if test then m else for_each (λ y. at_end x y alive_at) (others processors x) m).out
    by true is = absurd (let same = eqb-true x 16 is in let bad : 16 < 16 = omega (arith, same, low) in omega (
      arith,
      bad,
    ))
    by false is = each-sent x q (others processors x) m node e there has up (among-others processors x q in_site apart)

-- The line

-- a line that is pulled is that of another processor, which a processor finds silent
pub record IsLine (node k : ℕ) (w : Watching) : Type 0 where
  pub low : w.me < 16
  pub apart : k ≢ node
  pub silent : option_map is_silent (slice_get w.neighbours k) ≡ Some true

both : (a b : Bool) → (a && b) ≡ true → (a ≡ true) × (b ≡ true)
both true b is = (refl, is)
both false b is = absurd (cc)

held-line : (node k : ℕ) (w : Watching) → k ≢ node → is_held k w ≡ true → IsLine node k w
held-line node k w apart held = record {
  low = ltb-true w.me 16 first.0;
  apart = apart;
  silent = by (slice_get
      w.neighbours k) first.1;
}
  where
    first : (nat_lt w.me 16 ≡ true) × (is_silent_at k w ≡ true)
    first = both (nat_lt w.me 16) (is_silent_at k w)
        (both _ (is_coordinator k w) (both _ (all_but k (agrees k) w.neighbours) held).0).0

    by : (o : Option Neighbour) → unwrap_or (option_map is_silent o) false ≡ true → option_map is_silent o ≡ Some true
    by None bad = absurd (cc)
    by (Some one) is = ap Some is

first-line : (node : ℕ) (w : Watching) (from more k : ℕ) → first_held node w from more ≡ Some k → IsLine node k w
first-line node w from zero k is = absurd (cc)
first-line node w from (suc more) k is =
    by (first-line node w (from + 1) more k) (from == node) refl (is_held from w) refl is
  where
    by : (first_held node w (from + 1) more ≡ Some k → IsLine node k w) → (own : Bool) → (from == node) ≡ own
        → (now : Bool) → is_held from w ≡ now
        → (if own then first_held node w (from + 1) more else if now then Some from else
        first_held node w (from + 1) more) ≡ Some k → IsLine node k w
    by later true own now held is = later is
    by later false own false held is = later is
    by later false own true held is = let here : from ≡ k = cc in
        subst (λ j. IsLine node j w) here (held-line node from w (eqb-false from node own) held)

pub line-is : (node k : ℕ) (s : Underway) (w : Watching) → watch_at s.wires.nodes node ≡ Some w
    → line_of node s ≡ Some k → IsLine node k w
line-is node k s w there line = by (slice_get s.wires.nodes node) there line
  where
    by : (o : Option Node) → option_map (λ (n : Node). n.watch) o ≡ Some w
        → option_and_then (line_pulled node) o ≡ Some k → IsLine node k w
    by None there line = absurd (cc)
    by (Some one) there line =
        let watch : one.watch ≡ w = cc in subst (IsLine node k) watch (first-line node one.watch 0 16 k line)

-- A tick that is made

abbrev pub sent_before : ℕ → Packeted → Underway
sent_before node s = record (underway s) { wires = midst_after_tick s.site.processors node (underway s).wires }

pub record TicksSo (node : ℕ) (s : Packeted) (after : Underway) : Type 0 where
  pub runs : is_running s.world.stopped node ≡ true
  pub shown : after.world.shown ≡ s.world.shown
  pub keep : AllKeep after.world.stopped (sent_before node s).wires after.wires
  pub line : (p : ℕ) → is_running s.world.stopped p ≡ true → is_running after.world.stopped p ≡ false
      → line_of node (sent_before node s) ≡ Some p

abbrev pub TicksIf : ℕ → Packeted → Played Midst → Type 0
TicksIf node s (Makes after) = TicksSo node s after
TicksIf node s Skips = is_running s.world.stopped node ≡ false
TicksIf node s (Would (DiscLoss process)) = ⊥
TicksIf node s (Would (SecondStop k)) = (is_running s.world.stopped node ≡ true)
    × (line_of node (sent_before node s) ≡ Some k) × (slice_get s.world.stopped k ≡ Some false)

not-both : {A : Type 0} (b : Bool) → b ≡ true → b ≡ false → A
not-both b is isnt = absurd (cc)

marks-shown : (node k : ℕ) (s : Underway) → (marks node k s).world.shown ≡ s.world.shown
marks-shown node k s = by (slice_get s.world.stopped k)
  where
    allowed : (may : Bool) → (marked_by node k s (marked_where node k s.world may)).world.shown ≡ s.world.shown
    allowed true = refl
    allowed false = refl

    by : (o : Option Bool) → (marked_by node k s (mark_where node k s.world o)).world.shown ≡ s.world.shown
    by None = refl
    by (Some false) = refl
    by (Some true) = allowed (may_mark node k s.world)

pub ticks-so : (s : Packeted) (node : ℕ) → TicksIf node s (tick_acted node (underway s))
ticks-so s node = by (is_running s.world.stopped node) refl
  where
    none : is_running s.world.stopped node ≡ true → TicksSo node s (sent_before node s)
    none runs = record {
      runs = runs;
      shown = refl;
      keep = still-keeps s.world.stopped (sent_before node s).wires (sent_before node s).wires
          (still-none (sent_before node s).wires);
      line = λ p here gone. not-both _ here gone;
    }

    marked : is_running s.world.stopped node ≡ true → (k : ℕ)
        → TicksSo node s (marks_and_declares node k (sent_before node s))
    marked runs k = let d = declares-keep node k (sent_before node s) in record {
      runs = runs;
      shown = marks-shown node k (sent_before node s);
      keep = subst (λ l. AllKeep l (sent_before node s).wires
          (marks_and_declares node k (sent_before node s)).wires) (sym d.stopped) d.keep;
      line = λ p here gone. not-both _ here (subst (λ l. is_running l p ≡ false) d.stopped gone);
    }

    stops : is_running s.world.stopped node ≡ true → (k : ℕ) → line_of node (sent_before node s) ≡ Some k
        → TicksSo node s (marks_and_declares node k (record (sent_before node s) { world = stopped_world k s.world }))
    stops runs k is =
        let u : Underway = record (sent_before node s) { world = stopped_world k s.world } in
        let d = declares-keep node k u in record {
          runs = runs;
          shown = marks-shown node k u;
          keep = subst (λ l. AllKeep l (sent_before node s).wires (marks_and_declares node k u).wires) (sym d.stopped)
              d.keep;
          line = λ p here gone. of p here (subst (λ l. is_running l p ≡ false) d.stopped gone) (same k p);
        }
      where
        of : (p : ℕ) → is_running s.world.stopped p ≡ true → is_running (slice_set s.world.stopped k true) p ≡ false
            → Same k p → line_of node (sent_before node s) ≡ Some p
        of p here gone (are same) = is ∙ ap Some same
        of p here gone (differ apart) = not-both _ here
            (sym (ap (runs_by p) (set-other s.world.stopped k p true apart)) ∙ gone)

    first : is_running s.world.stopped node ≡ true → (k : ℕ) → line_of node (sent_before node s) ≡ Some k
        → slice_get s.world.stopped k ≡ Some false → (whole : Bool)
        → TicksIf node s (pulled_running node k (sent_before node s) (stop_if k s.world whole))
    first runs k is there true = stops runs k is
    first runs k is there false = (runs, is, there)

    at : is_running s.world.stopped node ≡ true → (k : ℕ) → line_of node (sent_before node s) ≡ Some k
        → (one : Option Bool) → slice_get s.world.stopped k ≡ one
        → TicksIf node s (pulled node k (sent_before node s) one)
    at runs k is None there = none runs
    at runs k is (Some true) there = marked runs k
    at runs k is (Some false) there = rw there (first runs k is there (is_whole s.world))

    line : is_running s.world.stopped node ≡ true → (o : Option ℕ) → line_of node (sent_before node s) ≡ o
        → TicksIf node s (pulls node (sent_before node s) o)
    line runs None is = none runs
    line runs (Some k) is = at runs k is (slice_get s.world.stopped k) refl

    by : (test : Bool) → is_running s.world.stopped node ≡ test
        → TicksIf node s (if test then pulls_its node (sent_before node s) else Skips)
    by false rests = rests
    by true runs = line runs (line_of node (sent_before node s)) refl
