-- Ticks, declarations and the beginning.
use Rattle.std.proofs.Common.{◌≡◌, ◌≢◌, ◌≤◌, ◌<◌, ℕ, zero, suc, ◌+◌, Bool, true, false, not, if◌then◌else◌, ◌&&◌, ◌==◌}
use Rattle.std.proofs.Common.{nat_lt, List, [], ◌∷◌, ◌++◌, length, map, drop, replicate, Option, Some, None, slice_get}
use Rattle.std.proofs.Common.{refl, ap, sym, subst, ◌∙◌, arith, inl}
use Rattle.std.specs.List.{list_all}
use Rattle.std.specs.Option.{option_and_then}
use Rattle.std.specs.Cmp.Lexicographic.{pointwise}
use Rattle.std.specs.Bool.{beq}
use Rattle.std.proofs.lemmas.Bool.{leb-true, le-leb, eqb-true, eq-eqb}
use Rattle.std.proofs.lemmas.List.{append-nil}
use Rattle.std.proofs.lemmas.Option.{slice_get_within}
use Rattle.tal_tree.specs.declared.site.Site.{Site}
use Rattle.packet_words.specs.declared.packet.Packet.{Packet}
use Rattle.link_control.specs.Ends.{End, new_end}
use Rattle.channel_laws.specs.Net.{Net, IsNamed, IsWhole, quiet_net}
use Rattle.channel_laws.proofs.Nets.{whole-quiet}
use Rattle.alive_regroup.specs.declared.neighbour.Neighbour.{Neighbour}
use Rattle.alive_regroup.specs.declared.neighbour.Neighbour.TheVariants.{Absent}
use Rattle.alive_regroup.specs.declared.set.ProcessorSet.{ProcessorSet}
use Rattle.alive_regroup.specs.Watching.{Watching, neighbour_after_check, is_silent, silent_set, set_to_tell}
use Rattle.alive_regroup.specs.Watching.{told_by_tick, does_check, after_tick, is_held, at_first, new_watch}
use Rattle.world_semantics.specs.World.{is_running, runs_by, terminal_node}
use Rattle.world_semantics.proofs.Lists.{some-same}
use Rattle.packet_wires.specs.Parcels.{Parcel}
use Rattle.message_layout.specs.Messages.{NodeMessage, Reporting, Declaring}
use Rattle.packet_wires.specs.Nodes.{Node, end_at, numbers, all_nodes, others, never_reloaded, node_at_boot}
use Rattle.packet_wires.specs.Nodes.{nodes_at_boot}
use Rattle.packet_wires.specs.Lines.{first_held, line_pulled}
use Rattle.packet_wires.specs.Wires.{Midst, wires_at_boot, at_node, at_end, watch_changed, for_each, sends, sends_all}
use Rattle.packet_wires.specs.Wires.{alive_at, tells_alive, reports, check_at, checks, tick_at, midst_after_tick}
use Rattle.packet_wires.specs.Wires.{declares}
use Rattle.message_layout.specs.Layout.{Fits}
use Rattle.packet_nets.specs.Tied.{IsWatch}
use Rattle.packet_nets.specs.Owing.{Ties, TiesAtRest}
use Rattle.packet_nets.specs.Passing.{IsNet}
use Rattle.packet_nets.proofs.Sending.{sends-ties, tick-ties, live-ties, each-ties, watched-ties}
use Rattle.packet_nets.proofs.Watches.{ticked-watch, size-map}

-- whoever stands in the list of stops is a processor of the site
pub place-within : (site : Site) (stopped : List Bool) (x : ℕ) (one : Bool) → length stopped ≡ site.processors
    → slice_get stopped x ≡ Some one → nat_lt x site.processors ≡ true
place-within site stopped x one places at =
    le-leb (suc x) site.processors (let low = slice_get_within stopped x one at in omega (arith, low, places))

-- What is reported

none-past : (processors : ℕ) (all : List Neighbour)
    → ((k : ℕ) (one : Neighbour) → slice_get all k ≡ Some one → processors ≤ k → one ≡ Absent)
    → list_all not (drop processors (map is_silent (map neighbour_after_check all))) ≡ true
none-past zero [] past = refl
none-past (suc processors) [] past = refl
none-past zero (one ∷ all) past =
    subst (λ (n : Neighbour). (not (is_silent (neighbour_after_check n))
    && list_all not (map is_silent (map neighbour_after_check all))) ≡ true) (sym (past 0 one refl (omega arith)))
    (none-past zero all (λ k other there far. past (suc k) other there (omega arith)))
none-past (suc processors) (one ∷ all) past =
    none-past processors all (λ k other there far. past (suc k) other there (omega (arith, far)))

running-place : (stopped : List Bool) (x : ℕ) → is_running stopped x ≡ true → x < 16
    → (one : Bool) × (slice_get stopped x ≡ Some one)
running-place stopped x runs low = by (slice_get stopped x) refl runs
  where
    by : (one : Option Bool) → slice_get stopped x ≡ one → runs_by x one ≡ true
        → (one : Bool) × (slice_get stopped x ≡ Some one)
    by (Some one) e r = (one, e)
    by None e r = let same = eqb-true x terminal_node r in absurd (omega (arith, same, low))

report-fits : (site : Site) (stopped : List Bool) (x : ℕ) (watch : Watching) (set : ProcessorSet)
    → length stopped ≡ site.processors → is_running stopped x ≡ true
    → IsWatch site.processors x watch → told_by_tick watch ≡ Some set → Fits site (Reporting x set)
report-fits site stopped x watch set places runs is told = by (does_check watch) refl told
  where
    now : ProcessorSet
    now = silent_set (map neighbour_after_check watch.neighbours)

    known : does_check watch ≡ true → set ≡ silent_set (map neighbour_after_check watch.neighbours)
        → Fits site (Reporting x set)
    known does same =
        let low : watch.me < 16 = leb-true (suc watch.me) 16 (first does) in
        let here : x < 16 = subst (λ c. c < 16) is.me low in
        let at = running-place stopped x runs here in record {
          within = (
            omega (arith, here),
            ap (λ (s : ProcessorSet). length s.members) same
                ∙ size-map is_silent (map neighbour_after_check watch.neighbours)
                ∙ size-map neighbour_after_check watch.neighbours ∙ is.size,
          );
          known = both (place-within site stopped x at.0 places at.1)
              (ap (λ (s : ProcessorSet). list_all not (drop site.processors s.members)) same
              ∙ none-past site.processors watch.neighbours is.past);
        }
      where
        first : does_check watch ≡ true → nat_lt watch.me 16 ≡ true
        first e = by (nat_lt watch.me 16) refl e
          where
            by : (test : Bool) → nat_lt watch.me 16 ≡ test → (test && watch.checks) ≡ true → nat_lt watch.me 16 ≡ true
            by true e h = e
            by false e h = absurd cc

        both : {a b : Bool} → a ≡ true → b ≡ true → (a && b) ≡ true
        both {a = a} {b = b} e h = rw (e, h) refl

    by : (test : Bool) → does_check watch ≡ test
        → (if test then set_to_tell watch.due watch.told (silent_set (map neighbour_after_check watch.neighbours))
        else None)
        ≡ Some set → Fits site (Reporting x set)
    by false e is = absurd cc
    by true e is =
        changed (not watch.due && pointwise beq watch.told.members
        (silent_set (map neighbour_after_check watch.neighbours)).members) is
      where
        changed : (test : Bool) → (if test then None else Some
            (silent_set (map neighbour_after_check watch.neighbours))) ≡ Some set → Fits site (Reporting x set)
        changed true is = absurd cc
        changed false is = known e (sym (some-same is))

module _ {site : Site} {stopped : List Bool} {reloads : List ℕ} {on : List Packet} {owed sent : List Parcel} (x : ℕ)
    (runs : is_running stopped x ≡ true) where
  -- nodes tell each other something that is no letter
  pub other-ties : (told : NodeMessage) (midst : Midst) (ys : List ℕ)
      → ((y : ℕ) (midst : Midst) → Ties site stopped reloads on midst owed sent
      → Ties site stopped reloads on (sends x y told midst) owed sent)
      → Ties site stopped reloads on midst owed sent
      → Ties site stopped reloads on (sends_all x told ys midst) owed sent
  other-ties told midst ys keeps T = each-ties (λ y. sends x y told) keeps ys midst T

  report-ties : (midst : Midst) (set : Option ProcessorSet)
      → ((one : ProcessorSet) → set ≡ Some one → Fits site (Reporting x one))
      → Ties site stopped reloads on midst owed sent
      → Ties site stopped reloads on (reports site.processors x set midst) owed sent
  report-ties midst None fits T = T
  report-ties midst (Some set) fits T =
      other-ties (Reporting x set) midst (others site.processors x)
      (λ y midst T. subst (λ o. Ties site stopped reloads on (sends x y (Reporting x set) midst) o sent)
      (append-nil owed)
      (sends-ties midst x y (Reporting x set) runs (fits set refl) tt T)) T

  pub ticked-ties : (midst : Midst) → Ties site stopped reloads on midst owed sent
      → Ties site stopped reloads on (midst_after_tick site.processors x midst) owed sent
  ticked-ties midst T =
      each-ties (λ y. at_end x y (tick_at x y)) (λ y midst T. tick-ties midst x y runs T) all_nodes
      (checks site.processors x (tells_alive site.processors x midst))
      (checked_too (tells_alive site.processors x midst) (alive (x == terminal_node)))
    where
      alive : (test : Bool) → Ties site stopped reloads on
          (if test then midst else for_each (λ y. at_end x y alive_at) (others site.processors x) midst) owed sent
      alive true = T
      alive false = each-ties (λ y. at_end x y alive_at) (λ y midst T. live-ties midst x y runs T)
          (others site.processors x) midst T

      checked_too : (midst : Midst) → Ties site stopped reloads on midst owed sent
          → Ties site stopped reloads on (checks site.processors x midst) owed sent
      checked_too midst T = by (slice_get midst.nodes x) refl
        where
          by : (one : Option Node) → slice_get midst.nodes x ≡ one
              → Ties site stopped reloads on (at_node (check_at site.processors x) one midst) owed sent
          by None e = T
          by (Some node) e =
              report-ties (watch_changed x after_tick node midst) (told_by_tick node.watch)
              (λ one told. report-fits site stopped x node.watch one T.places runs (T.watches x node e) told)
              (subst (λ (o : Option Node). Ties site stopped reloads on (at_node (watch_changed x after_tick) o midst)
              owed
              sent) e
              (watched-ties midst x after_tick (λ watch is. ticked-watch is) T))

  -- a stopped processor is declared down to all others
  pub down-ties : (midst : Midst) (processor : ℕ) → processor < 16 → slice_get stopped processor ≡ Some true
      → Ties site stopped reloads on midst owed sent
      → Ties site stopped reloads on (declares site.processors x processor midst) owed sent
  down-ties midst processor few gone T =
      other-ties (Declaring processor) midst (others site.processors x ++ terminal_node ∷ [])
      (λ y midst T. subst (λ o. Ties site stopped reloads on (sends x y (Declaring processor) midst) o sent)
      (append-nil owed)
      (sends-ties midst x y (Declaring processor) runs
      (record { within = few; known = place-within site stopped processor true T.places gone }) (inl gone) T)) T

-- no node pulls its own line, and each line is a processor's
pub held-other : (node : ℕ) (watch : Watching) (from more processor : ℕ) → from + more ≤ 16
    → first_held node watch from more ≡ Some processor → (processor ≢ node) × (processor < 16)
held-other node watch from zero processor few is = absurd cc
held-other node watch from (suc more) processor few is =
    by (from == node) (is_held from watch) refl is
    (held-other node watch (from + 1) more processor (omega (arith, few)))
  where
    by : (here held : Bool) → (from == node) ≡ here
        → (if here then first_held node watch (from + 1) more else if held then Some from else first_held node watch
        (from + 1) more) ≡ Some processor
        → (first_held node watch (from + 1) more ≡ Some processor → (processor ≢ node) × (processor < 16))
        → (processor ≢ node) × (processor < 16)
    by true held e is rest = rest is
    by false true e is rest =
        let same : from ≡ processor = some-same is in
        (λ s. let here : (from == node) ≡ true = eq-eqb from node (same ∙ s) in absurd cc, omega (arith, few, same))
    by false false e is rest = rest is

-- At boot

numbered : {A : Type 0} (f : ℕ → A) (from many k : ℕ) → k < many
    → slice_get (map f (numbers from many)) k ≡ Some (f (from + k))
numbered f from zero k low = absurd (omega (arith, low))
numbered f from (suc many) zero low = ap (λ n. Some (f n)) (omega arith)
numbered f from (suc many) (suc k) low =
    numbered f (from + 1) many k (omega (arith, low)) ∙ ap (λ n. Some (f n)) (omega arith)

numbered-is : {A : Type 0} (f : ℕ → A) (from many k : ℕ) (v : A) → slice_get (map f (numbers from many)) k ≡ Some v
    → v ≡ f (from + k)
numbered-is f from zero k v e = absurd cc
numbered-is f from (suc many) zero v e = sym (some-same e) ∙ ap f (omega arith)
numbered-is f from (suc many) (suc k) v e = numbered-is f (from + 1) many k v e ∙ ap f (omega arith)

first-is : {A : Type 0} (f : ℕ → A) (many k : ℕ) (v : A) → slice_get (map f (numbers 0 many)) k ≡ Some v → v ≡ f k
first-is f many k v e = numbered-is f 0 many k v e ∙ ap f (omega arith)

size-numbers : (b : Bool) (n : ℕ) → length (replicate n b) ≡ n
size-numbers b zero = refl
size-numbers b (suc n) = ap suc (size-numbers b n)

-- each node watches the processors of its site
pub begun-watch : (processors x : ℕ) → IsWatch processors x (new_watch x processors)
begun-watch processors x = record {
  me = refl;
  size = refl;
  past = λ k one at far. first-is (at_first x processors) 16 k one at ∙ first k (nat_lt k processors) refl far;
}
  where
    first : (k : ℕ) (test : Bool) → nat_lt k processors ≡ test → processors ≤ k → at_first x processors k ≡ Absent
    first k true e far = let low = leb-true (suc k) processors e in absurd (omega (arith, low, far))
    first k false e far = rw e refl

pub begins : (site : Site) → TiesAtRest site (replicate site.processors false) (replicate site.processors 0)
    (wires_at_boot site.processors) [] []
begins site = record {
  net = record (quiet_net (λ x. 0)) { stopped = λ x. not (is_running (replicate site.processors false) x) };
  tied = record {
    shape = λ x y low few. (
      new_end x y never_reloaded,
      ap (option_and_then (λ (node : Node). slice_get node.ends y))
          (numbered (node_at_boot site.processors) 0 17 x (omega (arith, low))
          ∙ ap (λ k. Some (node_at_boot site.processors k)) (omega arith))
          ∙ numbered (λ other. new_end x other never_reloaded) 0 17 y (omega (arith, few))
          ∙ ap (λ k. Some (new_end x k never_reloaded)) (omega arith),
    );
    names = λ x y e is. subst (IsNamed (λ x. 0) x y) (has_end x y e is)
        (record { here = refl; there = refl; incarnation = refl });
    whole = record {
      joint = quiet.joint;
      named = quiet.named;
      tied = λ a b live. record { sending = refl; receiving = refl };
      flight = quiet.flight;
    };
    stood = λ x. refl;
    ends = λ x y e runs is. has_end x y e is;
    flight = λ p among. among;
    out = λ one among. among;
    down = λ x y is. absurd cc;
  };
  owes = record { pushed = λ x y words among. absurd among; owes = λ x y open_too. refl };
  watches = λ x node at. subst (λ (w : Watching). IsWatch site.processors x w)
      (sym (ap (λ (m : Node). m.watch) (first-is (node_at_boot site.processors) 17 x node at)))
      (begun-watch site.processors x);
  places = size-numbers false site.processors;
}
  where
    quiet : IsWhole (quiet_net (λ x. 0))
    quiet = whole-quiet (λ x. 0)

    has_end : (x y : ℕ) (e : End) → end_at (nodes_at_boot site.processors) x y ≡ Some e → new_end x y never_reloaded ≡ e
    has_end x y e is = by (slice_get (nodes_at_boot site.processors) x) refl is
      where
        by : (one : Option Node) → slice_get (nodes_at_boot site.processors) x ≡ one
            → option_and_then (λ (node : Node). slice_get node.ends y) one ≡ Some e → new_end x y never_reloaded ≡ e
        by None at is = absurd cc
        by (Some node) at is =
            sym (first-is (λ other. new_end x other never_reloaded) 17 y e
            (sym (ap (λ (m : Node). slice_get m.ends y) (first-is (node_at_boot site.processors) 17 x node at)) ∙ is))

pub begins-net : (site : Site) → (n : Net) × IsNet (replicate site.processors false) (wires_at_boot site.processors) n
unfolding begins
begins-net site = (
  (begins site).net,
  record
      { tied = (begins site).tied; held = λ p among. among; senders = λ p among. absurd among },
)

-- the line that a node pulls is that of another processor
pub pulled-other : (node : ℕ) (nodes : List Node) (processor : ℕ)
    → option_and_then (line_pulled node) (slice_get nodes node) ≡ Some processor → (processor ≢ node) × (processor < 16)
pulled-other node nodes processor is = by (slice_get nodes node) is
  where
    by : (one : Option Node) → option_and_then (line_pulled node) one ≡ Some processor
        → (processor ≢ node) × (processor < 16)
    by None is = absurd cc
    by (Some knows) is = held-other node knows.watch 0 16 processor (omega arith) is
