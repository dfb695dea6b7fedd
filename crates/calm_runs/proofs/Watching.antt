-- What deliveries and marks do to what nodes know of processors that run.
use Rattle.std.proofs.Common.{◌≡◌, ℕ, ◌∙◌, Bool, true, false, ℤ, List, ◌++◌, slice_get, slice_set, Option, Some}
use Rattle.std.proofs.Common.{None, option_map, refl, ap, sym, subst}
use Rattle.std.specs.Option.{unwrap_or}
use Rattle.gd_words.specs.Members.{IsAmong}
use Rattle.schedule.specs.declared.bus_name.BusName.{BusName}
use Rattle.packet_words.specs.declared.packet.Packet.{Packet}
use Rattle.packet_words.specs.declared.packet.PacketKind.{PacketKind}
use Rattle.packet_words.specs.declared.packet.PacketKind.TheVariants as kind
use Rattle.alive_regroup.specs.declared.neighbour.Neighbour.{Neighbour}
use Rattle.alive_regroup.specs.Watching.{Watching, changed_at, neighbour_after_alive, neighbour_after_report}
use Rattle.alive_regroup.specs.Watching.{neighbour_after_down}
use Rattle.world_semantics.specs.Messages.{Checkpointing}
use Rattle.world_semantics.specs.World.{is_running, runs_by}
use Rattle.world_semantics.specs.Running.{Done}
use Rattle.world_semantics.proofs.Lists.{set-there, set-other}
use Rattle.computed_changes.specs.Changed.{change_done}
use Rattle.computed_changes.specs.Handed.{handed_done}
use Rattle.computed_changes.proofs.Changed.{change-each}
use Rattle.computed_changes.specs.Stopped.{may_mark, marked_where, mark_where, world_at_down}
use Rattle.letters.specs.Routes.{letters_of}
use Rattle.letters.specs.Again.{sent_again}
use Rattle.single_stops.specs.message_wires_laws.proofs.Stopping.{StopsNone, handed-none}
use Rattle.message_layout.specs.Messages.{NodeMessage, Carrying, Changing, Reporting, Declaring}
use Rattle.packet_wires.specs.Parcels.{parcels_of}
use Rattle.message_layout.specs.Reading.{understood}
use Rattle.packet_wires.specs.Nodes.{Node, end_at}
use Rattle.packet_wires.specs.Wires.{Midst, Outgoing, arrive_at, midst_after_arrival, at_end, at_node, cut_off, down_at}
use Rattle.packet_wires.specs.Wires.{heard_of}
use Rattle.packet_wires.specs.Wires.{learns, watch_changed}
use Rattle.packet_wires.specs.Play.{Underway, after_any, message_at_end, handed, handed_any, handed_words}
use Rattle.packet_wires.specs.Play.{marked_by, marks, marks_and_declares, received}
use Rattle.packet_rounds.specs.packet_nets.proofs.Nodes.{Same, are, differ, same}
use Rattle.alive_rounds.specs.Watched.{IsThere, WasHeard}
use Rattle.calm_runs.specs.Sights.{watch_at, known_of, checks_of, alive_packet}
use Rattle.calm_runs.proofs.Sending.{IsStill, still-none, all-posted-still, declares-still, arrive-still, down-still}

-- of one processor: who was there is there, and who was heard of is heard of
abbrev IsKept : Option Neighbour → Option Neighbour → Type 0
IsKept before after = (IsThere before → IsThere after) × (WasHeard before → WasHeard after)

-- a node has its number, checks when it did, and forgets none of those who run
pub record Keeps (stopped : List Bool) (before after : Option Watching) : Type 0 where
  pub me : option_map (λ (w : Watching). w.me) after ≡ option_map (λ (w : Watching). w.me) before
  pub checks : checks_of after ≡ checks_of before
  pub kept : (p : ℕ) → is_running stopped p ≡ true → IsKept (known_of before p) (known_of after p)

pub keeps-same : (stopped : List Bool) (before after : Option Watching) → after ≡ before → Keeps stopped before after
keeps-same stopped before after is = subst (Keeps stopped before) (sym is)
    (record { me = refl; checks = refl; kept = λ p runs. (λ there. there, λ heard. heard) })

pub keeps-on : (stopped : List Bool) (one other last : Option Watching) → Keeps stopped one other
    → Keeps stopped other last → Keeps stopped one last
keeps-on stopped one other last k l = record {
  me = l.me ∙ k.me;
  checks = l.checks ∙ k.checks;
  kept = λ p runs. (
    λ there. (l.kept p runs).0 ((k.kept p runs).0 there),
    λ heard. (l.kept p runs).1 ((k.kept p runs).1 heard),
  );
}

-- all nodes do, and nothing that was sent is taken back
pub record AllKeep (stopped : List Bool) (before after : Midst) : Type 0 where
  pub keeps : (q : ℕ) → Keeps stopped (watch_at before.nodes q) (watch_at after.nodes q)
  pub out : (one : Outgoing) → IsAmong one before.out → IsAmong one after.out

pub still-keeps : (stopped : List Bool) (before after : Midst) → IsStill before after → AllKeep stopped before after
still-keeps stopped before after still = record {
  keeps = λ q. keeps-same stopped (watch_at before.nodes q) (watch_at after.nodes q) (still.watch q);
  out = still.out;
}

pub all-on : (stopped : List Bool) (one other last : Midst) → AllKeep stopped one other → AllKeep stopped other last
    → AllKeep stopped one last
all-on stopped one other last k l = record {
  keeps = λ q. keeps-on stopped (watch_at one.nodes q) (watch_at other.nodes q) (watch_at last.nodes q) (k.keeps q)
      (l.keeps q);
  out = λ packet among. l.out packet (k.out packet among);
}

-- A node learns something

pub learns-own : (x : ℕ) (change : Watching → Watching) (m : Midst)
    → watch_at (learns x change m).nodes x ≡ option_map change (watch_at m.nodes x)
learns-own x change m = by (slice_get m.nodes x) refl
  where
    by : (node : Option Node) → slice_get m.nodes x ≡ node
        → watch_at (at_node (watch_changed x change) node m).nodes x ≡ option_map change (watch_at m.nodes x)
    by None there = ap (option_map (λ (n : Node). n.watch)) there
        ∙ sym (ap (λ o. option_map change (option_map (λ (n : Node). n.watch) o)) there)
    by (Some node) there = ap (option_map (λ (n : Node). n.watch))
        (set-there m.nodes x node (record node { watch = change node.watch }) there)
        ∙ sym (ap (λ o. option_map change (option_map (λ (n : Node). n.watch) o)) there)

pub learns-other : (x : ℕ) (change : Watching → Watching) (m : Midst) (q : ℕ) → (x ≡ q → ⊥)
    → watch_at (learns x change m).nodes q ≡ watch_at m.nodes q
learns-other x change m q apart = by (slice_get m.nodes x)
  where
    by : (node : Option Node) → watch_at (at_node (watch_changed x change) node m).nodes q ≡ watch_at m.nodes q
    by None = refl
    by (Some node) = ap (option_map (λ (n : Node). n.watch))
        (set-other m.nodes x q (record node { watch = change node.watch }) apart)

pub learns-out : (x : ℕ) (change : Watching → Watching) (m : Midst) → (learns x change m).out ≡ m.out
learns-out x change m = by (slice_get m.nodes x)
  where
    by : (node : Option Node) → (at_node (watch_changed x change) node m).out ≡ m.out
    by None = refl
    by (Some node) = refl

learns-keep : (stopped : List Bool) (x : ℕ) (change : Watching → Watching) (m : Midst)
    → ((o : Option Watching) → Keeps stopped o (option_map change o)) → AllKeep stopped m (learns x change m)
learns-keep stopped x change m good = record {
  keeps = λ q. by q (same x q);
  out = λ one among. subst (IsAmong one) (sym (learns-out x change m)) among;
}
  where
    by : (q : ℕ) → Same x q → Keeps stopped (watch_at m.nodes q) (watch_at (learns x change m).nodes q)
    by q (are is) = subst (λ k. Keeps stopped (watch_at m.nodes k) (watch_at (learns x change m).nodes k)) is
        (subst (Keeps stopped (watch_at m.nodes x)) (sym (learns-own x change m)) (good (watch_at m.nodes x)))
    by q (differ apart) = keeps-same stopped (watch_at m.nodes q) (watch_at (learns x change m).nodes q)
        (learns-other x change m q apart)

changed-own : (k : ℕ) (change : Neighbour → Neighbour) (w : Watching)
    → slice_get (changed_at k change w).neighbours k ≡ option_map change (slice_get w.neighbours k)
changed-own k change w = by (slice_get w.neighbours k) refl
  where
    by : (o : Option Neighbour) → slice_get w.neighbours k ≡ o
        → slice_get (unwrap_or (option_map (λ one. slice_set w.neighbours k (change one)) o) w.neighbours) k
        ≡ option_map change o
    by None is = is
    by (Some one) is = set-there w.neighbours k one (change one) is

changed-other : (k : ℕ) (change : Neighbour → Neighbour) (w : Watching) (p : ℕ) → (k ≡ p → ⊥)
    → slice_get (changed_at k change w).neighbours p ≡ slice_get w.neighbours p
changed-other k change w p apart = by (slice_get w.neighbours k)
  where
    by : (o : Option Neighbour)
        → slice_get (unwrap_or (option_map (λ one. slice_set w.neighbours k (change one)) o) w.neighbours) p
        ≡ slice_get w.neighbours p
    by None = refl
    by (Some one) = set-other w.neighbours k p (change one) apart

changed-keeps : (stopped : List Bool) (k : ℕ) (change : Neighbour → Neighbour)
    → (is_running stopped k ≡ true → (o : Option Neighbour) → IsKept o (option_map change o))
    → (o : Option Watching) → Keeps stopped o (option_map (changed_at k change) o)
changed-keeps stopped k change good None = keeps-same stopped None None refl
changed-keeps stopped k change good (Some w) =
    record { me = refl; checks = refl; kept = λ p runs. by p runs (same k p) }
  where
    by : (p : ℕ) → is_running stopped p ≡ true → Same k p
        → IsKept (slice_get w.neighbours p) (slice_get (changed_at k change w).neighbours p)
    by p runs (are is) = subst (λ j. IsKept (slice_get w.neighbours j) (slice_get (changed_at k change w).neighbours j))
        is
        (subst (IsKept (slice_get w.neighbours k)) (sym (changed-own k change w))
        (good (subst (λ j. is_running stopped j ≡ true) (sym is) runs) (slice_get w.neighbours k)))
    by p runs (differ apart) = subst (IsKept (slice_get w.neighbours p)) (sym (changed-other k change w p apart))
        (λ there. there, λ heard. heard)

heard-keeps : (stopped : List Bool) (sender : ℕ) (what : PacketKind) (o : Option Watching)
    → Keeps stopped o (option_map (heard_of sender what) o)
heard-keeps stopped sender kind.Alive o = changed-keeps stopped sender neighbour_after_alive (λ runs known. (
  λ there. (true, there.1, ap (option_map neighbour_after_alive) there.2),
  λ heard. (heard.0, heard.1, ap (option_map neighbour_after_alive) heard.2),
)) o
heard-keeps stopped sender (kind.Piece number piece) None = keeps-same stopped None None refl
heard-keeps stopped sender (kind.Piece number piece) (Some w) = keeps-same stopped (Some w) (Some w) refl
heard-keeps stopped sender (kind.Acknowledgement number) None = keeps-same stopped None None refl
heard-keeps stopped sender (kind.Acknowledgement number) (Some w) = keeps-same stopped (Some w) (Some w) refl

-- States in the midst of an event, in which the same processors have stopped

pub record StateKeeps (s next : Underway) : Type 0 where
  pub stopped : next.world.stopped ≡ s.world.stopped
  pub keep : AllKeep s.world.stopped s.wires next.wires

pub state-on : (one other last : Underway) → StateKeeps one other → StateKeeps other last → StateKeeps one last
state-on one other last k l = record {
  stopped = l.stopped ∙ k.stopped;
  keep = all-on one.world.stopped one.wires other.wires last.wires k.keep
      (subst (λ stopped. AllKeep stopped other.wires last.wires) k.stopped l.keep);
}

pub state-none : (s : Underway) → StateKeeps s s
state-none s =
    record { stopped = refl; keep = still-keeps s.world.stopped s.wires s.wires (still-none s.wires) }

pub any-keeps : (s : Underway) (done : Option Done) → StopsNone s.world done → StateKeeps s (after_any s done)
any-keeps s None none = state-none s
any-keeps s (Some done) none = record {
  stopped = none;
  keep = still-keeps s.world.stopped s.wires _
      (all-posted-still done.world.stopped (parcels_of done.world (letters_of s.site done.world done.sendings))
      s.wires);
}

gone : (stopped : List Bool) (k : ℕ) → slice_get stopped k ≡ Some true → is_running stopped k ≡ true → ⊥
gone stopped k there runs = absurd (let bad : false ≡ true = ap (runs_by k) (sym there) ∙ runs in cc)

-- only what has stopped is marked
pub marks-keep : (node k : ℕ) (s : Underway) → StateKeeps s (marks node k s)
marks-keep node k s = by (slice_get s.world.stopped k) refl
  where
    allowed : slice_get s.world.stopped k ≡ Some true → (may : Bool)
        → StateKeeps s (marked_by node k s (marked_where node k s.world may))
    allowed there false = state-none s
    allowed there true = let done : Done = world_at_down node k s.world in record {
      stopped = refl;
      keep = all-on s.world.stopped s.wires (cut_off node k s.wires) _
          (all-on s.world.stopped s.wires (at_end node k (down_at node k) s.wires) (cut_off node k s.wires)
          (still-keeps s.world.stopped s.wires _ (down-still node k s.wires))
          (learns-keep s.world.stopped node (changed_at k neighbour_after_down) (at_end node k (down_at node k) s.wires)
          (changed-keeps s.world.stopped k neighbour_after_down
          (λ runs. absurd (gone s.world.stopped k there runs)))))
          (still-keeps s.world.stopped (cut_off node k s.wires) _ (all-posted-still done.world.stopped
          (parcels_of done.world
          (letters_of s.site done.world (done.sendings ++ sent_again s.site s.world done.world node k)))
          (cut_off node k s.wires)));
    }

    by : (o : Option Bool) → slice_get s.world.stopped k ≡ o
        → StateKeeps s (marked_by node k s (mark_where node k s.world o))
    by None there = state-none s
    by (Some false) there = state-none s
    by (Some true) there = allowed there (may_mark node k s.world)

handed-keeps : (node : ℕ) (message : NodeMessage) (s : Underway) → StateKeeps s (handed node message s)
handed-keeps node (Carrying message) s =
    any-keeps s (handed_done s.site node message s.world) (handed-none s.site s.world node message)
handed-keeps node (Changing change) s =
    any-keeps s (change_done s.site node change s.world)
    (change-each s.site node change s.world (StopsNone s.world) tt
    (λ message. handed-none s.site s.world node (Checkpointing message)))
handed-keeps node (Reporting from silent) s = record {
  stopped = refl;
  keep = learns-keep s.world.stopped node (changed_at from (neighbour_after_report silent)) s.wires
      (changed-keeps s.world.stopped from (neighbour_after_report silent) (λ runs known. (
        λ there. (there.0, silent, ap (option_map (neighbour_after_report silent)) there.2),
        λ heard. (heard.0, silent, ap (option_map (neighbour_after_report silent)) heard.2),
      )));
}
handed-keeps node (Declaring processor) s = marks-keep node processor s

words-keep : (node : ℕ) (words : Option (List ℤ)) (s : Underway) → StateKeeps s (handed_words node words s)
words-keep node None s = state-none s
words-keep node (Some words) s = by (understood s.site words)
  where
    by : (message : Option NodeMessage) → StateKeeps s (handed_any node message s)
    by None = state-none s
    by (Some message) = handed-keeps node message s

arrived-keeps : (name : BusName) (packet : Packet) (s : Underway)
    → StateKeeps s (record s { wires = midst_after_arrival name packet s.wires })
arrived-keeps name packet s = record {
  stopped = refl;
  keep = all-on s.world.stopped s.wires (at_end packet.receiver packet.sender (arrive_at name packet) s.wires) _
      (still-keeps s.world.stopped s.wires _ (arrive-still name packet s.wires))
      (learns-keep s.world.stopped packet.receiver (heard_of packet.sender packet.kind)
      (at_end packet.receiver packet.sender (arrive_at name packet) s.wires)
      (heard-keeps s.world.stopped packet.sender packet.kind));
}

pub received-keeps : (name : BusName) (packet : Packet) (s : Underway) → StateKeeps s (received name packet s)
received-keeps name packet s =
    state-on s (record s { wires = midst_after_arrival name packet s.wires }) (received name packet s)
    (arrived-keeps name packet s)
    (words-keep packet.receiver (message_at_end packet (end_at s.wires.nodes packet.receiver packet.sender))
    (record s { wires = midst_after_arrival name packet s.wires }))

heard-after : (p : ℕ) (o : Option Watching) → IsThere (known_of o p)
    → WasHeard (known_of (option_map (changed_at p neighbour_after_alive) o) p)
heard-after p None there = absurd (let bad : None ≡ Some _ = there.2 in cc)
heard-after p (Some w) there = subst WasHeard (sym (changed-own p neighbour_after_alive w))
    (_, there.1, ap (option_map neighbour_after_alive) there.2)

-- an I'm-alive packet is heard
pub alive-heard : (name : BusName) (p q : ℕ) (s : Underway) → is_running s.world.stopped p ≡ true
    → IsThere (known_of (watch_at s.wires.nodes q) p)
    → WasHeard (known_of (watch_at (received name (alive_packet p q) s).wires.nodes q) p)
alive-heard name p q s runs there =
    (((words-keep q (message_at_end (alive_packet p q) (end_at s.wires.nodes q p)) middle).keep.keeps q).kept p runs).1
    (subst (λ o. WasHeard (known_of o p))
    (sym (learns-own q (changed_at p neighbour_after_alive) (at_end q p (arrive_at name (alive_packet p q)) s.wires)))
    (heard-after p (watch_at (at_end q p (arrive_at name (alive_packet p q)) s.wires).nodes q)
    (subst (λ o. IsThere (known_of o p)) (sym ((arrive-still name (alive_packet p q) s.wires).watch q)) there)))
  where
    middle : Underway
    middle = record s { wires = midst_after_arrival name (alive_packet p q) s.wires }

-- a node marks the processor whose line it pulled, and tells the others
pub declares-keep : (node k : ℕ) (s : Underway) → StateKeeps s (marks_and_declares node k s)
declares-keep node k s = state-on s (marks node k s) (marks_and_declares node k s) (marks-keep node k s) (record {
  stopped = refl;
  keep = still-keeps (marks node k s).world.stopped (marks node k s).wires _
      (declares-still (marks node k s).site.processors node k (marks node k s).wires);
})
