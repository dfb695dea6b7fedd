-- A processor is loaded again.
use Rattle.std.proofs.Common.{◌≡◌, ℕ, zero, suc, ◌+◌, ◌==◌, ◌||◌, not, Bool, true, false, if◌then◌else◌, ℤ, List, []}
use Rattle.std.proofs.Common.{◌∷◌, ◌++◌}
use Rattle.std.proofs.Common.{inl, inr, map, Option, Some, None, slice_get, slice_set, refl, ap, ap₂, sym, subst, ◌∙◌}
use Rattle.std.specs.Option.{option_map, option_and_then, unwrap_or}
use Rattle.std.proofs.lemmas.Bool.{eqb-true}
use Rattle.gd_words.specs.Members.{IsAmong}
use Rattle.tal_tree.specs.declared.site.Site.{Site}
use Rattle.packet_words.specs.declared.packet.Packet.{Packet}
use Rattle.link_control.specs.Ends.{End, end_after_reload, incarnation_after, new_end, next_end}
use Rattle.channel_laws.specs.Net.{Net, IsNamed, incarnation_of, is_of, loads, more_reloads, reloaded_net}
use Rattle.channel_laws.specs.Way.{quiet_way}
use Rattle.channel_laws.proofs.Nets.{whole-goes}
use Rattle.alive_regroup.specs.Watching as watching
use Rattle.alive_regroup.specs.Watching.{Watching, after_up, new_watch}
use Rattle.world_semantics.specs.World.{is_running, runs_by}
use Rattle.world_semantics.proofs.Lists.{mapped, set-other, set-there, some-same}
use Rattle.world_semantics.proofs.Roles.{apart-of}
use Rattle.message_layout.specs.Messages.{NodeMessage, Carrying, Changing, Reporting, Declaring}
use Rattle.packet_wires.specs.Nodes.{Node, end_at, node_after_reload}
use Rattle.packet_wires.specs.Parcels.{Parcel}
use Rattle.packet_wires.specs.Wires.{Midst, Wires, loaded_again, nothing_sent, with_sent}
use Rattle.packet_nets.specs.Owing.{IsOpen, IsPushed, IsTrueOf, Owes, Ties, between, carried, is_from_or_to}
use Rattle.packet_nets.specs.Owing.{without_those_of}
use Rattle.packet_nets.specs.Passing.{IsNet}
use Rattle.packet_nets.specs.Tied.{AreWatches, IsTied, IsWatch, stands}
use Rattle.packet_nets.proofs.Between.{between-cons, between-no, goes-elsewhere}
use Rattle.packet_nets.proofs.Nodes.{Same, are, differ, same}
use Rattle.packet_nets.proofs.Ticking.{begun-watch}
use Rattle.packet_nets.proofs.Tied.{gone-rests}
use Rattle.packet_nets.proofs.Watches.{changed-watch, size-map, size-set}

-- A pair of nodes has the node x in it, or it doesn't

data Of (x a b : ℕ) : Type 0 where
  with_it : is_of x a b ≡ true → Of x a b
  apart : (a == x) ≡ false → (b == x) ≡ false → Of x a b

of : (x a b : ℕ) → Of x a b
of x a b = by (a == x) (b == x) refl refl
  where
    by : (s t : Bool) → (a == x) ≡ s → (b == x) ≡ t → Of x a b
    by true t e h = with_it (rw e refl)
    by false true e h = with_it (rw (e, h) refl)
    by false false e h = apart e h

neither : (x a b : ℕ) → (a == x) ≡ false → (b == x) ≡ false → is_of x a b ≡ false
neither x a b e h = rw (e, h) refl

-- Ends

get-map : {A B : Type 0} (f : A → B) (xs : List A) (k : ℕ) → slice_get (map f xs) k ≡ option_map f (slice_get xs k)
get-map f [] k = refl
get-map f (x ∷ xs) zero = refl
get-map f (x ∷ xs) (suc k) = get-map f xs k

end-loaded : (processors x : ℕ) (nodes : List Node) (a b : ℕ)
    → end_at (map (node_after_reload processors x) nodes) a b ≡ option_map (end_after_reload x) (end_at nodes a b)
end-loaded processors x nodes a b =
    ap (option_and_then (λ (node : Node). slice_get node.ends b)) (get-map (node_after_reload processors x) nodes a)
    ∙ by (slice_get nodes a)
  where
    by : (one : Option Node) → option_and_then (λ (node : Node). slice_get node.ends b)
        (option_map (node_after_reload processors x) one)
        ≡ option_map (end_after_reload x) (option_and_then (λ (node : Node). slice_get node.ends b) one)
    by None = refl
    by (Some node) = get-map (end_after_reload x) node.ends b

was-there : (processors x : ℕ) (nodes : List Node) (a b : ℕ) (d : End)
    → end_at (map (node_after_reload processors x) nodes) a b ≡ Some d
    → (e : End) × (end_at nodes a b ≡ Some e) × (d ≡ end_after_reload x e)
was-there processors x nodes a b d is = by (end_at nodes a b) refl (sym (end-loaded processors x nodes a b) ∙ is)
  where
    by : (one : Option End) → end_at nodes a b ≡ one → option_map (end_after_reload x) one ≡ Some d
        → (e : End) × (end_at nodes a b ≡ Some e) × (d ≡ end_after_reload x e)
    by None at is = absurd cc
    by (Some e) at is = (e, at, sym (some-same is))

counted : (x : ℕ) (reloads : ℕ → ℕ) (a : ℕ) → incarnation_after x a (reloads a) ≡ more_reloads x reloads a
counted x reloads a = by (a == x) refl
  where
    by : (test : Bool) → (a == x) ≡ test
        → (if test then reloads a + 1 else reloads a) ≡ (if test then reloads x + 1 else reloads a)
    by true e = ap (λ k. reloads k + 1) (eqb-true a x e)
    by false e = refl

-- the new end of two nodes
abbrev fresh : ℕ → (ℕ → ℕ) → ℕ → ℕ → End
fresh x reloads a b = new_end a b (incarnation_of (more_reloads x reloads) a b)

module _ (x : ℕ) (reloads : ℕ → ℕ) (a b : ℕ) (e : End) (named : IsNamed reloads a b e) where
  next-is : next_end x e ≡ fresh x reloads a b
  next-is =
      (λ i. new_end (named.here i) (named.there i) (record {
        sender = incarnation_after x (named.here i) (named.incarnation i).sender;
        receiver = incarnation_after x (named.there i) (named.incarnation i).receiver;
      }))
      ∙ (λ i. new_end a b (record { sender = counted x reloads a i; receiver = counted x reloads b i }))

  -- an end that bears its names is the new one, or stays
  loaded-is : end_after_reload x e ≡ (if is_of x a b then fresh x reloads a b else e)
  loaded-is =
      ap (λ (test : Bool). if test then next_end x e else e)
      (ap₂ (λ (here there : ℕ). (here == x) || (there == x)) named.here named.there)
      ∙ ap (λ (d : End). if is_of x a b then d else e) next-is

-- The tie

runs-now : (stopped : List Bool) (x : ℕ) → slice_get stopped x ≡ Some true
    → is_running (slice_set stopped x false) x ≡ true
runs-now stopped x gone = ap (runs_by x) (set-there stopped x true false gone)

others-run : (stopped : List Bool) (x a : ℕ) → (a == x) ≡ false
    → is_running (slice_set stopped x false) a ≡ is_running stopped a
others-run stopped x a e = ap (runs_by a) (set-other stopped x a false (λ s. apart-of a x e (sym s)))

module _ {stopped : List Bool} {on : List Packet} {midst : Midst} {n : Net} (t : IsTied stopped on midst n)
    (processors x : ℕ) where
  known : (a b : ℕ) (d : End) → end_at (loaded_again processors x midst).nodes a b ≡ Some d
      → (e : End) × (end_at midst.nodes a b ≡ Some e)
      × (d ≡ (if is_of x a b then fresh x n.reloads a b else e))
  known a b d is =
      let was = was-there processors x midst.nodes a b d is in
      (was.0, was.1, was.2 ∙ loaded-is x n.reloads a b was.0 (t.names a b was.0 was.1))

  names : (a b : ℕ) (d : End) → end_at (loaded_again processors x midst).nodes a b ≡ Some d
      → IsNamed (more_reloads x n.reloads) a b d
  names a b d is = by (known a b d is) (of x a b)
    where
      still : (c : ℕ) → (c == x) ≡ false → n.reloads c ≡ more_reloads x n.reloads c
      still c e = ap (λ (test : Bool). if test then n.reloads x + 1 else n.reloads c) (sym e)

      by : (e : End) × (end_at midst.nodes a b ≡ Some e)
          × (d ≡ (if is_of x a b then fresh x n.reloads a b else e))
          → Of x a b → IsNamed (more_reloads x n.reloads) a b d
      by (e, at, same) (with_it i) =
          let is_new : d ≡ fresh x n.reloads a b =
          same ∙ ap (λ (test : Bool). if test then fresh x n.reloads a b else e) i in
          subst (IsNamed (more_reloads x n.reloads) a b) (sym is_new)
          (record { here = refl; there = refl; incarnation = refl })
      by (e, at, same) (apart p q) =
          let is_old : d ≡ e =
          same ∙ ap (λ (test : Bool). if test then fresh x n.reloads a b else e) (neither x a b p q) in
          let named = t.names a b e at in
          subst (IsNamed (more_reloads x n.reloads) a b) (sym is_old) (record {
            here = named.here;
            there = named.there;
            incarnation = named.incarnation ∙ (λ i. record { sender = still a p i; receiver = still b q i });
          })

  pub reload-tied : slice_get stopped x ≡ Some true
      → IsTied (slice_set stopped x false) on (loaded_again processors x midst) (reloaded_net x n)
  reload-tied gone = record {
    shape = λ a b low few. (let was = t.shape a b low few in (
      end_after_reload x was.0,
      end-loaded processors x midst.nodes a b
          ∙ ap (option_map (end_after_reload x)) was.1,
    ));
    names = names;
    whole = whole-goes (loads x (t.stood x ∙ ap not (gone-rests stopped x gone))) t.whole;
    stood = λ a. stood a (a == x) refl;
    ends = λ a b d r is. ends a b d r (known a b d is) (of x a b);
    flight = t.flight;
    out = t.out;
    down = λ a b is. down a b is (of x a b);
  }
    where
      stood : (a : ℕ) (test : Bool) → (a == x) ≡ test
          → (if test then false else n.stopped a) ≡ not (is_running (slice_set stopped x false) a)
      stood a true e = subst (λ c. false ≡ not (is_running (slice_set stopped x false) c)) (sym (eqb-true a x e))
          (ap not (sym (runs-now stopped x gone)))
      stood a false e = t.stood a ∙ ap not (sym (others-run stopped x a e))

      ends : (a b : ℕ) (d : End) → is_running (slice_set stopped x false) a ≡ true
          → (e : End) × (end_at midst.nodes a b ≡ Some e)
          × (d ≡ (if is_of x a b then fresh x n.reloads a b else e))
          → Of x a b → (if is_of x a b then fresh x n.reloads a b else n.ends a b) ≡ d
      ends a b d r (e, at, same) (with_it i) =
          ap (λ (test : Bool). if test then fresh x n.reloads a b else n.ends a b) i
          ∙ sym (same ∙ ap (λ (test : Bool). if test then fresh x n.reloads a b else e) i)
      ends a b d r (e, at, same) (apart p q) =
          ap (λ (test : Bool). if test then fresh x n.reloads a b else n.ends a b) (neither x a b p q)
          ∙ t.ends a b e (sym (others-run stopped x a p) ∙ r) at
          ∙ sym (same ∙ ap (λ (test : Bool). if test then fresh x n.reloads a b else e) (neither x a b p q))

      down : (a b : ℕ) → (if is_of x a b then fresh x n.reloads a b else n.ends a b).down ≡ true → Of x a b
          → stands (slice_set stopped x false) b ≡ true
      down a b is (with_it i) =
          let bad : false ≡ true =
          sym (ap (λ (test : Bool). (if test then fresh x n.reloads a b else n.ends a b).down) i) ∙ is in absurd cc
      down a b is (apart p q) =
          ap (λ (one : Option Bool). unwrap_or one false) (set-other stopped x b false (λ s. apart-of b x q (sym s)))
          ∙ t.down a b (sym (ap (λ (test : Bool). (if test then fresh x n.reloads a b else n.ends a b).down)
          (neither x a b p q)) ∙ is)

-- between events
pub reload-net : {stopped : List Bool} {wires : Wires} {n : Net} (processors x : ℕ) → slice_get stopped x ≡ Some true
    → IsNet stopped wires n
    → IsNet (slice_set stopped x false) (with_sent (loaded_again processors x (nothing_sent wires.nodes)) wires)
    (reloaded_net x n)
reload-net processors x gone N =
    record { tied = reload-tied N.tied processors x gone; held = N.held; senders = N.senders }

-- What is owed

module _ (x a b : ℕ) where
  same-of : (parcel : Parcel) → a ≡ parcel.sender → b ≡ parcel.receiver → is_of x a b ≡ is_from_or_to x parcel
  same-of parcel s u = ap₂ (λ (p q : ℕ). (p == x) || (q == x)) s u

  none-between : is_of x a b ≡ true → (owed : List Parcel) → between a b (without_those_of x owed) ≡ []
  none-between i [] = refl
  none-between i (parcel ∷ owed) = by (is_from_or_to x parcel) refl (none-between i owed)
    where
      by : (test : Bool) → is_from_or_to x parcel ≡ test → between a b (without_those_of x owed) ≡ []
          → between a b (if not test then parcel ∷ without_those_of x owed else without_those_of x owed) ≡ []
      by true e rest = rest
      by false e rest =
          between-no a b parcel (without_those_of x owed) (goes-elsewhere a b parcel (λ s u.
          (let bad : true ≡ false = sym i ∙ same-of parcel s u ∙ e in cc))) ∙ rest

  still-between : is_of x a b ≡ false → (owed : List Parcel)
      → between a b (without_those_of x owed) ≡ between a b owed
  still-between i [] = refl
  still-between i (parcel ∷ owed) = by (is_from_or_to x parcel) refl (still-between i owed)
    where
      by : (test : Bool) → is_from_or_to x parcel ≡ test → between a b (without_those_of x owed) ≡ between a b owed
          → between a b (if not test then parcel ∷ without_those_of x owed else without_those_of x owed)
          ≡ between a b (parcel ∷ owed)
      by false e rest = between-cons a b parcel (without_those_of x owed) owed rest
      by true e rest =
          rest ∙ sym (between-no a b parcel owed (goes-elsewhere a b parcel (λ s u.
          (let bad : false ≡ true = sym i ∙ same-of parcel s u ∙ e in cc))))

among-kept : (x : ℕ) (parcel : Parcel) (parcels : List Parcel) → is_from_or_to x parcel ≡ false
    → IsAmong parcel parcels → IsAmong parcel (without_those_of x parcels)
among-kept x parcel [] off among = absurd among
among-kept x parcel (one ∷ parcels) off (inl same) =
    subst (λ (p : Parcel). IsAmong parcel (if not (is_from_or_to x p) then p ∷ without_those_of x parcels
    else without_those_of x parcels)) same (rw off (inl refl))
among-kept x parcel (one ∷ parcels) off (inr among) =
    by (is_from_or_to x one) (among-kept x parcel parcels off among)
  where
    by : (test : Bool) → IsAmong parcel (without_those_of x parcels)
        → IsAmong parcel (if not test then one ∷ without_those_of x parcels else without_those_of x parcels)
    by true rest = rest
    by false rest = inr rest

module _ {site : Site} {stopped : List Bool} {reloads : List ℕ} {owed sent : List Parcel} {n : Net}
    (o : Owes site stopped reloads owed sent n) (x times : ℕ) (gone : slice_get stopped x ≡ Some true)
    (count : slice_get reloads x ≡ Some times) where
  abbrev True : ℕ → ℕ → NodeMessage → Type 0
  True a b told =
      IsTrueOf (slice_set stopped x false) (slice_set reloads x (times + 1)) (without_those_of x sent) a b told

  true-still : (a b : ℕ) → (a == x) ≡ false → (b == x) ≡ false → (told : NodeMessage)
      → IsTrueOf stopped reloads sent a b told → True a b told
  true-still a b e h (Carrying message) is =
      among-kept x (record { sender = a; receiver = b; content = Carrying message }) sent (neither x a b e h) is
  true-still a b e h (Changing change) is =
      among-kept x (record { sender = a; receiver = b; content = Changing change }) sent (neither x a b e h) is
  true-still a b e h (Reporting node set) is = tt
  true-still a b e h (Declaring processor) is = by (same x processor) is
    where
      by : Same x processor → IsTrueOf stopped reloads sent a b (Declaring processor) → True a b (Declaring processor)
      by (are s) is = inr (
        times,
        subst (λ c. slice_get (slice_set reloads x (times + 1)) c ≡ Some (times + 1)) s
            (set-there reloads x times (times + 1) count),
      )
      by (differ m) (inl was) = inl (set-other stopped x processor false m ∙ was)
      by (differ m) (inr (k, was)) = inr (k, set-other reloads x processor (times + 1) m ∙ was)

  pub reload-owes : Owes site (slice_set stopped x false) (slice_set reloads x (times + 1)) (without_those_of x owed)
      (without_those_of x sent) (reloaded_net x n)
  reload-owes = record {
    pushed = λ a b words among. pushed a b words among (of x a b);
    owes = λ a b opened. owes a b opened (of x a b);
  }
    where
      pushed : (a b : ℕ) (words : List ℤ) → IsAmong words (if is_of x a b then quiet_way else n.ways a b).pushes
          → Of x a b
          → IsPushed site (slice_set stopped x false) (slice_set reloads x (times + 1)) (without_those_of x sent) a b
          words
      pushed a b words among (with_it i) =
          absurd (subst (λ (test : Bool). IsAmong words (if test then quiet_way else n.ways a b).pushes) i among)
      pushed a b words among (apart e h) =
          let one = o.pushed a b words (subst
          (λ (test : Bool). IsAmong words (if test then quiet_way else n.ways a b).pushes) (neither x a b e h) among)
          in record {
            message = one.message;
            is = one.is;
            fits = one.fits;
            right = true-still a b e h one.message one.right;
          }

      up : (a b : ℕ) → is_of x a b ≡ false
          → (if is_of x a b then fresh x n.reloads a b else n.ends a b).down ≡ false → (n.ends a b).down ≡ false
      up a b i is =
          sym (ap (λ (test : Bool). (if test then fresh x n.reloads a b else n.ends a b).down) i) ∙ is

      was : (a b : ℕ) → (a == x) ≡ false → (b == x) ≡ false → IsOpen (slice_set stopped x false) (reloaded_net x n) a b
          → IsOpen stopped n a b
      was a b e h opened = record {
        sender = opened.sender;
        receiver = opened.receiver;
        runs = sym (others-run stopped x a e) ∙ opened.runs;
        there = up a b (neither x a b e h) opened.there;
        back = up b a (neither x b a h e) opened.back;
      }

      owes : (a b : ℕ) → IsOpen (slice_set stopped x false) (reloaded_net x n) a b → Of x a b
          → carried (if is_of x a b then quiet_way else n.ways a b).pushes
          ≡ carried (if is_of x a b then quiet_way else n.ways a b).out ++ between a b (without_those_of x owed)
      owes a b opened (with_it i) =
          subst (λ (test : Bool). carried (if test then quiet_way else n.ways a b).pushes
          ≡ carried (if test then quiet_way else n.ways a b).out ++ between a b (without_those_of x owed)) (sym i)
          (sym (none-between x a b i owed))
      owes a b opened (apart e h) =
          subst (λ (test : Bool). carried (if test then quiet_way else n.ways a b).pushes
          ≡ carried (if test then quiet_way else n.ways a b).out ++ between a b (without_those_of x owed))
          (sym (neither x a b e h))
          (o.owes a b (was a b e h opened)
          ∙ ap (λ ms. carried (n.ways a b).out ++ ms) (sym (still-between x a b (neither x a b e h) owed)))

-- What each node knows

up-watch : {processors k : ℕ} {watch : Watching} (x : ℕ) → IsWatch processors k watch
    → IsWatch processors k (after_up x watch)
up-watch {watch = watch} x is = changed-watch x watching.neighbour_after_up refl (record {
  me = is.me;
  size = size-map (watching.neighbour_after_up_of x) watch.neighbours ∙ is.size;
  past = λ j one there far. (let was = mapped (watching.neighbour_after_up_of x) watch.neighbours j one there in
      was.2 ∙ ap (watching.neighbour_after_up_of x) (is.past j was.0 was.1 far));
})

loaded-watches : {processors : ℕ} (x : ℕ) (nodes : List Node) → AreWatches processors nodes
    → AreWatches processors (map (node_after_reload processors x) nodes)
loaded-watches {processors = processors} x nodes all k one there =
    let was = mapped (node_after_reload processors x) nodes k one there in
    subst (λ (node : Node). IsWatch processors k node.watch) (sym was.2)
    (by was.0 (all k was.0 was.1) (was.0.watch.me == x) refl)
  where
    by : (node : Node) → IsWatch processors k node.watch → (test : Bool) → (node.watch.me == x) ≡ test
        → IsWatch processors k (if test then new_watch x processors else after_up x node.watch)
    by node is true e =
        subst (λ c. IsWatch processors k (new_watch c processors)) (sym is.me ∙ eqb-true node.watch.me x e)
        (begun-watch processors k)
    by node is false e = up-watch x is

-- All of it

pub reload-ties : {site : Site} {stopped : List Bool} {reloads : List ℕ} {on : List Packet} {owed sent : List Parcel}
    (midst : Midst) (x times : ℕ) → slice_get stopped x ≡ Some true → slice_get reloads x ≡ Some times
    → Ties site stopped reloads on midst owed sent
    → Ties site (slice_set stopped x false) (slice_set reloads x (times + 1)) on (loaded_again site.processors x midst)
    (without_those_of x owed) (without_those_of x sent)
reload-ties {site = site} {stopped = stopped} midst x times gone count T = record {
  net = reloaded_net x T.net;
  tied = reload-tied T.tied site.processors x gone;
  owes = reload-owes T.owes x times gone count;
  watches = loaded-watches x midst.nodes T.watches;
  places = size-set stopped x false ∙ T.places;
}
