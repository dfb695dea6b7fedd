-- The tie of midst to a net, kept step by step.
use Rattle.std.proofs.lemmas.Bool.{eqb-true}
use Rattle.std.proofs.lemmas.Option.{slice_get_within}
use Rattle.world_semantics.proofs.Lists.{set-there, set-other, some-same}
use Rattle.std.proofs.Common.{◌≡◌, ◌≤◌, ◌⊎◌, inl, inr, ℕ, Bool, true, false, not, if◌then◌else◌, ◌==◌, List, [], ◌∷◌}
use Rattle.std.proofs.Common.{◌++◌, Option, Some, None, slice_get, slice_set, refl, ap, sym, subst, ◌∙◌, eq-eqb, length}
use Rattle.std.proofs.Common.{arith}
use Rattle.std.specs.Option.{option_to_list, unwrap_or}
use Rattle.gd_words.specs.Members.{IsAmong}
use Rattle.gd_words.proofs.Among.{among-left, among-right, among-either}
use Rattle.schedule.specs.declared.bus_name.BusName.{BusName}
use Rattle.schedule.specs.declared.bus_name.BusName.TheVariants as bus
use Rattle.packet_words.specs.declared.packet.Packet.{Packet}
use Rattle.link_control.specs.Ends.{End, after_down}
use Rattle.alive_regroup.specs.Watching.{Watching}
use Rattle.channel_laws.specs.Net.{Net, IsNamed, IsWhole, put, stopped_net, marked_net, stops, marks}
use Rattle.channel_laws.proofs.Nets.{put-same, put-all, whole-goes}
use Rattle.world_semantics.specs.World.{is_running, runs_by, terminal_node}
use Rattle.packet_wires.specs.Nodes.{Node, end_at, with_end}
use Rattle.packet_wires.specs.Wires.{Wires, Midst, Outgoing, nothing_sent, on_bus, packets_over, all_put, with_sent}
use Rattle.packet_wires.specs.Wires.{goes_over, any_goes_over, end_changed, watch_changed, learns, at_node}
use Rattle.packet_nets.specs.Tied.{stands, IsTied}
use Rattle.packet_nets.specs.Owing.{on_both}
use Rattle.packet_nets.proofs.Buses.{either-bus, among-put, among-over}
use Rattle.packet_nets.proofs.Nodes.{Same, are, differ, same, end-new, end-was, end-other, end-watch}

-- a node that runs isn't one that has stopped
pub running-stands : (stopped : List Bool) (x : ℕ) → is_running stopped x ≡ true → stands stopped x ≡ false
running-stands stopped x r = by (slice_get stopped x) r
  where
    by : (one : Option Bool) → runs_by x one ≡ true → unwrap_or one false ≡ false
    by None r = refl
    by (Some true) r = absurd cc
    by (Some false) r = refl

pub stopped-stands : (stopped : List Bool) (x : ℕ) → slice_get stopped x ≡ Some true → stands stopped x ≡ true
stopped-stands stopped x e = ap (λ o. unwrap_or o false) e

-- who has stopped doesn't run
pub gone-rests : (stopped : List Bool) (x : ℕ) → slice_get stopped x ≡ Some true → is_running stopped x ≡ false
gone-rests stopped x e = ap (runs_by x) e

-- nodes that run are numbered up to 16, as processors are fewer
pub running-low : (stopped : List Bool) (x : ℕ) → length stopped ≤ 16 → is_running stopped x ≡ true → x ≤ 16
running-low stopped x few runs = by (slice_get stopped x) refl runs
  where
    by : (one : Option Bool) → slice_get stopped x ≡ one → runs_by x one ≡ true → x ≤ 16
    by None e r = let same = eqb-true x terminal_node r in omega (arith, same)
    by (Some one) e r = let low = slice_get_within stopped x one e in omega (arith, low, few)

pub stands-stopped : (stopped : List Bool) (x : ℕ) → stands stopped x ≡ true → slice_get stopped x ≡ Some true
stands-stopped stopped x e = by (slice_get stopped x) e
  where
    by : (one : Option Bool) → unwrap_or one false ≡ true → one ≡ Some true
    by None e = absurd cc
    by (Some true) e = refl
    by (Some false) e = absurd cc

-- Tables, changed at one pair of places

pub put-other : {A : Type 0} (x y : ℕ) (v : A) (f : ℕ → ℕ → A) (a b : ℕ) → (a ≡ x → b ≡ y → ⊥) → put x y v f a b ≡ f a b
put-other x y v f a b n =
    put-all (λ a b w. (a ≡ x → b ≡ y → ⊥) → w ≡ f a b) x y v f (λ n. absurd (n refl refl)) (λ a b n. refl) a b n

-- a pair of places is the changed one, or another
pub data Place (x y a b : ℕ) : Type 0 where
  here : a ≡ x → b ≡ y → Place x y a b
  there : (a ≡ x → b ≡ y → ⊥) → Place x y a b

pub place : (x y a b : ℕ) → Place x y a b
place x y a b = by (same a x) (same b y)
  where
    by : Same a x → Same b y → Place x y a b
    by (are e) (are h) = here e h
    by (are e) (differ n) = there (λ _ h. n h)
    by (differ n) h = there (λ e _. n e)

-- each end bears its names, where one was changed that bears its own
names-set : (reloads : ℕ → ℕ) (nodes : List Node) (x y : ℕ) (node : Node) (e0 e : End)
    → slice_get nodes x ≡ Some node → slice_get node.ends y ≡ Some e0
    → ((a b : ℕ) (d : End) → end_at nodes a b ≡ Some d → IsNamed reloads a b d) → IsNamed reloads x y e
    → (a b : ℕ) (d : End) → end_at (with_end x y node e nodes) a b ≡ Some d → IsNamed reloads a b d
names-set reloads nodes x y node e0 e at has all named a b d is = by (place x y a b)
  where
    by : Place x y a b → IsNamed reloads a b d
    by (here s u) =
        let one : end_at (with_end x y node e nodes) x y ≡ Some d =
        subst (λ c. end_at (with_end x y node e nodes) x c ≡ Some d) u
        (subst (λ c. end_at (with_end x y node e nodes) c b ≡ Some d) s is) in
        subst (λ c. IsNamed reloads c b d) (sym s)
        (subst (λ c. IsNamed reloads x c d) (sym u)
        (subst (IsNamed reloads x y) (some-same (sym (end-new nodes x y node e0 e at has) ∙ one)) named))
    by (there m) = all a b d (sym (end-other nodes x y node e0 e at has a b m) ∙ is)

-- What is sent

pub any-nodes : (name : BusName) (sent : Option Packet) (midst : Midst)
    → (any_goes_over name sent midst).nodes ≡ midst.nodes
any-nodes name None midst = refl
any-nodes name (Some packet) midst = refl

-- what goes out of an event went out before, or is what is sent now
pub out-any : (name : BusName) (sent : Option Packet) (one : Outgoing) (midst : Midst)
    → IsAmong one (any_goes_over name sent midst).out
    → IsAmong one midst.out ⊎ IsAmong one.packet (option_to_list sent)
out-any name None one midst among = inl among
out-any name (Some packet) one midst among =
    elim (among-either one midst.out (record { bus = name; packet = packet } ∷ []) among) [
      | inl before ↦ inl before
      | inr now ↦ elim now [ inl same ↦ inr (inl (ap (λ (o : Outgoing). o.packet) same)) | inr none ↦ absurd none ]
    ]

-- One end changes and sends

module _ {stopped : List Bool} {on : List Packet} {midst : Midst} {n : Net} (t : IsTied stopped on midst n) (x y : ℕ)
    (node : Node) (e0 e : End)
    (at : slice_get midst.nodes x ≡ Some node) (has : slice_get node.ends y ≡ Some e0)
    (runs : is_running stopped x ≡ true) where
  -- the net has the same end
  pub end-is : n.ends x y ≡ e0
  end-is = t.ends x y e0 runs (end-was midst.nodes x y node e0 e at has)

  pub end-tied : (name : BusName) (sent : Option Packet) (next : Net) → IsWhole next → next.stopped ≡ n.stopped
      → next.reloads ≡ n.reloads → next.ends ≡ put x y e n.ends
      → next.flight ≡ n.flight ++ option_to_list sent → e.down ≡ e0.down
      → IsTied stopped on (any_goes_over name sent (end_changed x y node e midst)) next
  end-tied name sent next whole stood reloads ends flight down = record {
    shape = λ a b low few. subst (λ (ns : List Node). (e : End) × (end_at ns a b ≡ Some e)) (sym nodes)
        (shape a b low few);
    names = λ a b d is. subst (λ (r : ℕ → ℕ). IsNamed r a b d) (sym reloads)
        (names-set n.reloads midst.nodes x y node e0 e at has t.names named a b d
        (subst (λ (ns : List Node). end_at ns a b ≡ Some d) nodes is));
    whole = whole;
    stood = λ a. ap (λ (f : ℕ → Bool). f a) stood ∙ t.stood a;
    ends = λ a b d r is. ap (λ (f : ℕ → ℕ → End). f a b) ends
        ∙ has_end a b d r (subst (λ (ns : List Node). end_at ns a b ≡ Some d) nodes is);
    flight = λ p among. subst (IsAmong p) (sym flight) (among-left p n.flight (option_to_list sent) (t.flight p among));
    out = λ one among. subst (IsAmong one.packet) (sym flight)
        (elim (out-any name sent one (end_changed x y node e midst) among) [
          | inl before ↦ among-left one.packet n.flight (option_to_list sent) (t.out one before)
          | inr now ↦ among-right one.packet n.flight (option_to_list sent) now
        ]);
    down = λ a b is. downs a b (sym (ap (λ (f : ℕ → ℕ → End). (f a b).down) ends) ∙ is);
  }
    where
      nodes : (any_goes_over name sent (end_changed x y node e midst)).nodes ≡ with_end x y node e midst.nodes
      nodes = any-nodes name sent (end_changed x y node e midst)

      named : IsNamed n.reloads x y e
      named = subst (λ (r : ℕ → ℕ). IsNamed r x y e) reloads
          (subst (IsNamed next.reloads x y) (ap (λ (f : ℕ → ℕ → End). f x y) ends ∙ put-same x y e n.ends)
          (whole.named x y))

      shape : (a b : ℕ) → a ≤ 16 → b ≤ 16 → (d : End) × (end_at (with_end x y node e midst.nodes) a b ≡ Some d)
      shape a b low few = by (place x y a b)
        where
          by : Place x y a b → (d : End) × (end_at (with_end x y node e midst.nodes) a b ≡ Some d)
          by (here s u) = (
            e,
            subst (λ c. end_at (with_end x y node e midst.nodes) c b ≡ Some e) (sym s)
                (subst (λ c. end_at (with_end x y node e midst.nodes) x c ≡ Some e) (sym u)
                (end-new midst.nodes x y node e0 e at has)),
          )
          by (there m) =
              let was = t.shape a b low few in (was.0, end-other midst.nodes x y node e0 e at has a b m ∙ was.1)

      has_end : (a b : ℕ) (d : End) → is_running stopped a ≡ true
          → end_at (with_end x y node e midst.nodes) a b ≡ Some d → put x y e n.ends a b ≡ d
      has_end a b d r is = by (place x y a b)
        where
          by : Place x y a b → put x y e n.ends a b ≡ d
          by (here s u) =
              let one : end_at (with_end x y node e midst.nodes) x y ≡ Some d =
              subst (λ c. end_at (with_end x y node e midst.nodes) x c ≡ Some d) u
              (subst (λ c. end_at (with_end x y node e midst.nodes) c b ≡ Some d) s is) in
              let same : Some e ≡ Some d = sym (end-new midst.nodes x y node e0 e at has) ∙ one in
              subst (λ c. put x y e n.ends c b ≡ d) (sym s)
              (subst (λ c. put x y e n.ends x c ≡ d) (sym u) (put-same x y e n.ends ∙ ap (λ o. unwrap_or o e) same))
          by (there m) = put-other x y e n.ends a b m
              ∙ t.ends a b d r (sym (end-other midst.nodes x y node e0 e at has a b m) ∙ is)

      downs : (a b : ℕ) → (put x y e n.ends a b).down ≡ true → stands stopped b ≡ true
      downs a b is = by (place x y a b)
        where
          by : Place x y a b → stands stopped b ≡ true
          by (here s u) =
              let one : (put x y e n.ends x y).down ≡ true =
              subst (λ c. (put x y e n.ends x c).down ≡ true) u
              (subst (λ c. (put x y e n.ends c b).down ≡ true) s is) in
              let up : (n.ends x y).down ≡ true = ap (λ (d : End). d.down) end-is ∙ sym down
              ∙ sym (ap (λ (d : End). d.down) (put-same x y e n.ends)) ∙ one in
              subst (λ c. stands stopped c ≡ true) (sym u) (t.down x y up)
          by (there m) = t.down a b (sym (ap (λ (d : End). d.down) (put-other x y e n.ends a b m)) ∙ is)

-- Watches

pub watched-tied : {stopped : List Bool} {on : List Packet} {midst : Midst} {n : Net} (x : ℕ)
    (change : Watching → Watching) → IsTied stopped on midst n
    → IsTied stopped on (learns x change midst) n
watched-tied {stopped = stopped} {on = on} {midst = midst} {n = n} x change t = by (slice_get midst.nodes x) refl
  where
    by : (one : Option Node) → slice_get midst.nodes x ≡ one
        → IsTied stopped on (at_node (watch_changed x change) one midst) n
    by None e = t
    by (Some node) e = record {
      shape = λ a b low few. let was =
          t.shape a b low few in (was.0, end-watch midst.nodes x node (change node.watch) e a b ∙ was.1);
      names = λ a b d is. t.names a b d (sym (end-watch midst.nodes x node (change node.watch) e a b) ∙ is);
      whole = t.whole;
      stood = t.stood;
      ends = λ a b d r is. t.ends a b d r (sym (end-watch midst.nodes x node (change node.watch) e a b) ∙ is);
      flight = t.flight;
      out = t.out;
      down = t.down;
    }

-- The nodes stay, and other packets are on the buses and go out

kept-tied : {stopped : List Bool} {on still : List Packet} {midst : Midst} {n : Net} (out : List Outgoing)
    → ((p : Packet) → IsAmong p still → IsAmong p n.flight)
    → ((one : Outgoing) → IsAmong one out → IsAmong one.packet n.flight) → IsTied stopped on midst n
    → IsTied stopped still (record midst { out = out }) n
kept-tied out from going t = record {
  shape = t.shape;
  names = t.names;
  whole = t.whole;
  stood = t.stood;
  ends = t.ends;
  flight = from;
  out = going;
  down = t.down;
}

-- fewer packets are on the buses
pub fewer-tied : {stopped : List Bool} {on fewer : List Packet} {midst : Midst} {n : Net}
    → ((p : Packet) → IsAmong p fewer → IsAmong p on) → IsTied stopped on midst n
    → IsTied stopped fewer midst n
fewer-tied {midst = midst} from t = kept-tied midst.out (λ p among. t.flight p (from p among)) t.out t

-- a packet that is on a bus goes out again
pub repeated-tied : {stopped : List Bool} {on : List Packet} {midst : Midst} {n : Net} (name : BusName)
    (packet : Packet) → IsAmong packet on → IsTied stopped on midst n
    → IsTied stopped on (goes_over name packet midst) n
repeated-tied {midst = midst} {n = n} name packet on t = kept-tied (goes_over name packet midst).out t.flight from t
  where
    from : (one : Outgoing) → IsAmong one (goes_over name packet midst).out → IsAmong one.packet n.flight
    from one among = elim (out-any name (Some packet) one midst among) [
      | inl before ↦ t.out one before
      | inr now ↦ elim now [
        | inl same ↦ subst (λ p. IsAmong p n.flight) (sym same) (t.flight packet on)
        | inr none ↦
            absurd none
      ]
    ]

-- the event is over
pub rest-tied : {stopped : List Bool} {midst : Midst} {n : Net} (wires : Wires) → IsTied stopped (on_both wires) midst n
    → IsTied stopped (on_both (with_sent midst wires)) (nothing_sent midst.nodes) n
rest-tied {midst = midst} {n = n} wires t =
    kept-tied [] (λ p among. either-bus p (with_sent midst wires).x (with_sent midst wires).y n.flight (from bus.X p)
    (from bus.Y p) among) (λ one none. absurd none) t
  where
    there : (name : BusName) (p : Packet) → IsAmong p (on_bus name wires) → IsAmong p n.flight
    there bus.X p among = t.flight p (among-left p wires.x wires.y among)
    there bus.Y p among = t.flight p (among-right p wires.x wires.y among)

    from : (name : BusName) (p : Packet) → IsAmong p (all_put (packets_over name midst.out) (on_bus name wires))
        → IsAmong p n.flight
    from name p among = elim (among-put (packets_over name midst.out) (on_bus name wires) p among) [
      | inl before ↦ there name p before
      | inr sent ↦ let one =
          among-over name midst.out p sent in subst (λ q. IsAmong q n.flight) (sym one.2) (t.out one.0 one.1)
    ]

-- One processor stops

module _ (stopped : List Bool) (processor : ℕ) (runs : slice_get stopped processor ≡ Some false) where
  abbrev later : List Bool
  later = slice_set stopped processor true

  now : slice_get later processor ≡ Some true
  now = set-there stopped processor false true runs

  pub stop-running : (a : ℕ) → is_running later a ≡ true → is_running stopped a ≡ true
  stop-running a r = by (same processor a)
    where
      by : Same processor a → is_running stopped a ≡ true
      by (are s) =
          let gone : runs_by processor (Some true) ≡ true =
          ap (runs_by processor) (sym now) ∙ subst (λ c. is_running later c ≡ true) (sym s) r in absurd cc
      by (differ m) = ap (runs_by a) (sym (set-other stopped processor a true m)) ∙ r

  pub stop-stands : (a : ℕ) → stands stopped a ≡ true → stands later a ≡ true
  stop-stands a is = by (same processor a)
    where
      by : Same processor a → stands later a ≡ true
      by (are s) = subst (λ c. stands later c ≡ true) s (stopped-stands later processor now)
      by (differ m) = ap (λ o. unwrap_or o false) (set-other stopped processor a true m) ∙ is

  pub stop-stopped : (a : ℕ) → slice_get stopped a ≡ Some true → slice_get later a ≡ Some true
  stop-stopped a is = stands-stopped later a (stop-stands a (stopped-stands stopped a is))

  pub stop-tied : {on : List Packet} {midst : Midst} {n : Net} → IsTied stopped on midst n
      → IsTied later on midst (stopped_net processor n)
  stop-tied {on = on} {midst = midst} {n = n} t = record {
    shape = t.shape;
    names = t.names;
    whole = whole-goes (stops processor) t.whole;
    stood = λ a. by a (a == processor) refl;
    ends = λ a b d r is. t.ends a b d (stop-running a r) is;
    flight = t.flight;
    out = t.out;
    down = λ a b is. stop-stands b (t.down a b is);
  }
    where
      by : (a : ℕ) (test : Bool) → (a == processor) ≡ test
          → (if test then true else n.stopped a) ≡ not (is_running later a)
      by a true e = subst (λ c. true ≡ not (is_running later c)) (sym (eqb-true a processor e))
          (ap not (sym (gone-rests later processor now)))
      by a false e =
          t.stood a ∙ ap (λ o. not (runs_by a o))
          (sym (set-other stopped processor a true
          (λ s. let here : (a == processor) ≡ true = eq-eqb a processor (sym s) in absurd cc)))

-- One end is thrown away

module _ {stopped : List Bool} {on : List Packet} {midst : Midst} {n : Net} (t : IsTied stopped on midst n) (x y : ℕ)
    (node : Node) (e0 : End)
    (at : slice_get midst.nodes x ≡ Some node) (has : slice_get node.ends y ≡ Some e0)
    (runs : is_running stopped x ≡ true) (gone : slice_get stopped y ≡ Some true) where
  abbrev e : End
  e = after_down e0

  pub down-tied : IsTied stopped on (end_changed x y node (after_down e0) midst) (marked_net x y n)
  down-tied = record {
    shape = shape;
    names = names-set n.reloads midst.nodes x y node e0 e at has t.names
        (let was = t.names x y e0 (end-was midst.nodes x y node e0 e at has) in
        record { here = was.here; there = was.there; incarnation = was.incarnation });
    whole = whole-goes (marks x y (t.stood y ∙ ap not (gone-rests stopped y gone))) t.whole;
    stood = t.stood;
    ends = has_end;
    flight = t.flight;
    out = t.out;
    down = downs;
  }
    where
      shape : (a b : ℕ) → a ≤ 16 → b ≤ 16 → (d : End) × (end_at (with_end x y node e midst.nodes) a b ≡ Some d)
      shape a b low few = by (place x y a b)
        where
          by : Place x y a b → (d : End) × (end_at (with_end x y node e midst.nodes) a b ≡ Some d)
          by (here s u) = (
            e,
            subst (λ c. end_at (with_end x y node e midst.nodes) c b ≡ Some e) (sym s)
                (subst (λ c. end_at (with_end x y node e midst.nodes) x c ≡ Some e) (sym u)
                (end-new midst.nodes x y node e0 e at has)),
          )
          by (there m) =
              let was = t.shape a b low few in (was.0, end-other midst.nodes x y node e0 e at has a b m ∙ was.1)

      is_net : after_down (n.ends x y) ≡ e
      is_net = ap after_down (t.ends x y e0 runs (end-was midst.nodes x y node e0 e at has))

      has_end : (a b : ℕ) (d : End) → is_running stopped a ≡ true
          → end_at (with_end x y node e midst.nodes) a b ≡ Some d → put x y (after_down (n.ends x y)) n.ends a b ≡ d
      has_end a b d r is = by (place x y a b)
        where
          by : Place x y a b → put x y (after_down (n.ends x y)) n.ends a b ≡ d
          by (here s u) =
              let one : end_at (with_end x y node e midst.nodes) x y ≡ Some d =
              subst (λ c. end_at (with_end x y node e midst.nodes) x c ≡ Some d) u
              (subst (λ c. end_at (with_end x y node e midst.nodes) c b ≡ Some d) s is) in
              let same : Some e ≡ Some d = sym (end-new midst.nodes x y node e0 e at has) ∙ one in
              subst (λ c. put x y (after_down (n.ends x y)) n.ends c b ≡ d) (sym s)
              (subst (λ c. put x y (after_down (n.ends x y)) n.ends x c ≡ d) (sym u)
              (put-same x y (after_down (n.ends x y)) n.ends ∙ is_net ∙ ap (λ o. unwrap_or o e) same))
          by (there m) = put-other x y (after_down (n.ends x y)) n.ends a b m
              ∙ t.ends a b d r (sym (end-other midst.nodes x y node e0 e at has a b m) ∙ is)

      downs : (a b : ℕ) → (put x y (after_down (n.ends x y)) n.ends a b).down ≡ true → stands stopped b ≡ true
      downs a b is = by (place x y a b)
        where
          by : Place x y a b → stands stopped b ≡ true
          by (here s u) = subst (λ c. stands stopped c ≡ true) (sym u) (stopped-stands stopped y gone)
          by (there m) =
              t.down a b (sym (ap (λ (d : End). d.down) (put-other x y (after_down (n.ends x y)) n.ends a b m)) ∙ is)
