-- Idle over packets, and idle as a post.
use Rattle.std.proofs.Common.{◌≡◌, ◌≤◌, ◌<◌, inl, inr, ℕ, zero, suc, ◌+◌, ℤ, Bool, true, false, not, ◌||◌, List, []}
use Rattle.std.proofs.Common.{◌∷◌, ◌++◌, Some, refl, sym, ap, subst, ◌∙◌, arith}
use Rattle.std.specs.List.{list_all}
use Rattle.std.specs.Cmp.Derive.{both_true}
use Rattle.std.proofs.lemmas.List.{append-nil, append_cancel_left}
use Rattle.gd_words.specs.Members.{IsAmong}
use Rattle.channel_laws.specs.Net.{Runs}
use Rattle.channel_laws.specs.Way.{Way, IsJoint, total}
use Rattle.channel_laws.proofs.Places.{total-append, none-left}
use Rattle.link_control.specs.Ends.{End, Sending, is_none, is_empty}
use Rattle.world_semantics.proofs.Roles.{both-true}
use Rattle.world_semantics.specs.World.{is_running}
use Rattle.letters.specs.Idle.{IsIdle}
use Rattle.letters.specs.Routes.{Letter}
use Rattle.message_wires_laws.specs.message_wires.specs.Idle as whole
use Rattle.message_wires_laws.specs.message_wires.specs.Play.{MachineState}
use Rattle.message_wires_laws.specs.message_wires.specs.Wires.{wires_at_boot}
use Rattle.message_wires_laws.proofs.Idle.{idle-both}
use Rattle.packet_nets.specs.packet_wires.specs.Idle.{holds_nothing, is_quiet, all_quiet, is_idle}
use Rattle.packet_nets.specs.packet_wires.specs.Nodes.{numbers, all_nodes, end_at}
use Rattle.packet_nets.specs.packet_wires.specs.Play.{Packeted}
use Rattle.packet_nets.specs.packet_wires.specs.Parcels.{Parcel}
use Rattle.packet_nets.specs.Owing.{carried, goes, between, IsOpen, TiesAtRest}
use Rattle.packets_laws.specs.Carried.{AllStandFor}
use Rattle.packets_laws.proofs.Forms.{letter-has}
use Rattle.packet_nets.proofs.Between.{between-yes, between-no, goes-there}
use Rattle.packet_nets.proofs.Tied.{running-low, running-stands}

-- the site and the world of a state, with no wires under them
abbrev bare : Packeted → MachineState
bare s = record { site = s.site; world = s.world; wires = wires_at_boot s.site.processors; drives = s.drives }

-- a way whose sender holds nothing has handed over all that was pushed
all-handed : (w : Way) → IsJoint w → w.sender.queue ≡ [] → w.out ≡ w.pushes
all-handed w j e =
    let r = j.receiving in
    let done : w.pushes ≡ j.sending.done =
    j.sending.sent ∙ ap (λ xs. j.sending.done ++ xs) e ∙ append-nil j.sending.done in
    let none : r.rest ≡ [] =
    none-left r.some r.rest r.in_part (omega (
      arith,
      j.acknowledged_is_kept,
      j.sending.count,
      r.count,
      ap total (sym r.come ∙ done),
      total-append w.out r.rest,
    )) in
    sym (r.come ∙ ap (λ xs. w.out ++ xs) none ∙ append-nil w.out)

none-is : (queue : List (List ℤ)) → is_none queue ≡ true → queue ≡ []
none-is [] e = refl
none-is (q ∷ queue) e = absurd cc

-- a test that all numbers of a row pass is passed by each
all-numbers : (test : ℕ → Bool) (from many : ℕ) → list_all test (numbers from many) ≡ true → (k : ℕ) → k < many
    → test (from + k) ≡ true
all-numbers test from zero all k low = absurd (omega (arith, low))
all-numbers test from (suc many) all zero low = ap test (omega arith) ∙ (both-true (test from) _ all).0
all-numbers test from (suc many) all (suc k) low =
    ap test (omega arith) ∙ all-numbers test (from + 1) many (both-true (test from) _ all).1 k (omega (arith, low))

all-nodes : (test : ℕ → Bool) → list_all test all_nodes ≡ true → (k : ℕ) → k ≤ 16 → test k ≡ true
all-nodes test all k low = ap test (omega arith) ∙ all-numbers test 0 17 all k (omega (arith, low))

-- a parcel that is owed counts among those of its sender and receiver
owed-between : (parcel : Parcel) (owed : List Parcel) → IsAmong parcel owed
    → between parcel.sender parcel.receiver owed ≡ [] → ⊥
owed-between parcel [] among none = among
owed-between parcel (one ∷ owed) (inl same) none =
    let here : goes parcel.sender parcel.receiver one ≡ true =
    subst (λ (p : Parcel). goes parcel.sender parcel.receiver p ≡ true) same
    (goes-there parcel.sender parcel.receiver parcel.content) in
    let bad : one.content ∷ between parcel.sender parcel.receiver owed ≡ [] =
    sym (between-yes parcel.sender parcel.receiver one owed here) ∙ none in absurd cc
owed-between parcel (one ∷ owed) (inr among) none =
    by (goes parcel.sender parcel.receiver one) refl (owed-between parcel owed among)
  where
    by : (test : Bool) → goes parcel.sender parcel.receiver one ≡ test
        → (between parcel.sender parcel.receiver owed ≡ [] → ⊥) → ⊥
    by true g rest = let bad : one.content ∷ between parcel.sender parcel.receiver owed ≡ [] =
        sym (between-yes parcel.sender parcel.receiver one owed g) ∙ none in absurd cc
    by false g rest = rest (sym (between-no parcel.sender parcel.receiver one owed g) ∙ none)

module _ (s : Packeted) (owed sent : List Letter) (parcels posted : List Parcel) (few : s.site.processors ≤ 16)
    (stand : AllStandFor s.world parcels owed)
    (T : TiesAtRest s.site s.world.stopped s.world.reloads s.wires parcels posted) where
  -- quiet channels owe no parcel between nodes that run
  no-parcel : all_quiet s.world.stopped s.wires.nodes ≡ true → (parcel : Parcel) → IsAmong parcel parcels
      → is_running s.world.stopped parcel.sender ≡ true
      → is_running s.world.stopped parcel.receiver ≡ true → ⊥
  no-parcel quiet parcel among sends receives = owed-between parcel parcels among none
    where
      x : ℕ
      x = parcel.sender

      low : parcel.sender ≤ 16
      low = running-low s.world.stopped parcel.sender (omega (arith, few, T.places)) sends

      low_too : parcel.receiver ≤ 16
      low_too = running-low s.world.stopped parcel.receiver (omega (arith, few, T.places)) receives

      -- nobody has cut off a node that runs
      up : (a b : ℕ) → is_running s.world.stopped b ≡ true → (T.net.ends a b).down ≡ false
      up a b runs = by (T.net.ends a b).down refl
        where
          by : (d : Bool) → (T.net.ends a b).down ≡ d → (T.net.ends a b).down ≡ false
          by false e = e
          by true e = let gone : true ≡ false =
              sym (T.tied.down a b e) ∙ running-stands s.world.stopped b runs in absurd cc

      opens : IsOpen s.world.stopped T.net parcel.sender parcel.receiver
      opens = record {
        sender = low;
        receiver = low_too;
        runs = sends;
        there = up parcel.sender parcel.receiver receives;
        back = up parcel.receiver parcel.sender sends;
      }

      live : Runs T.net parcel.sender parcel.receiver
      live = (T.tied.stood parcel.sender ∙ ap not sends, up parcel.sender parcel.receiver receives)

      it : (e : End) × (end_at s.wires.nodes parcel.sender parcel.receiver ≡ Some e)
      it = T.tied.shape parcel.sender parcel.receiver low low_too

      empty : is_empty (T.net.ends parcel.sender parcel.receiver) ≡ true
      empty =
          ap is_empty (T.tied.ends parcel.sender parcel.receiver it.0 sends it.1) ∙ ap holds_nothing (sym it.1)
          ∙ ap (λ b. not b || holds_nothing (end_at s.wires.nodes parcel.sender parcel.receiver))
          (sym (both_true sends receives))
          ∙ all-nodes (is_quiet s.world.stopped s.wires.nodes parcel.sender)
          (all-nodes (λ x. list_all (is_quiet s.world.stopped s.wires.nodes x) all_nodes) quiet parcel.sender low)
          parcel.receiver low_too

      all : (T.net.ways parcel.sender parcel.receiver).out ≡ (T.net.ways parcel.sender parcel.receiver).pushes
      all = all-handed (T.net.ways parcel.sender parcel.receiver) (T.tied.whole.joint parcel.sender parcel.receiver)
          (sym (ap (λ (s : Sending). s.queue) (T.tied.whole.tied parcel.sender parcel.receiver live).sending)
          ∙ none-is (T.net.ends parcel.sender parcel.receiver).sending.queue empty)

      none : between parcel.sender parcel.receiver parcels ≡ []
      none = append_cancel_left (carried (T.net.ways parcel.sender parcel.receiver).out) _ _
          (sym (T.owes.owes parcel.sender parcel.receiver opens) ∙ ap carried (sym all)
          ∙ sym (append-nil (carried (T.net.ways parcel.sender parcel.receiver).out)))

  -- so they owe no letter
  none-owed : all_quiet s.world.stopped s.wires.nodes ≡ true → (letter : Letter) → IsAmong letter owed
      → is_running s.world.stopped letter.sender ≡ true
      → is_running s.world.stopped letter.receiver ≡ true → ⊥
  none-owed quiet letter among sends receives =
      let has = letter-has s.world parcels owed stand letter among in
      no-parcel quiet has.0 has.1 (ap (is_running s.world.stopped) has.2.sender ∙ sends)
      (ap (is_running s.world.stopped) has.2.receiver ∙ receives)

  -- an idle state is idle without its wires, and its channels are quiet
  parts : is_idle s ≡ true → (whole.is_idle (bare s) ≡ true) × (all_quiet s.world.stopped s.wires.nodes ≡ true)
  parts idle =
      let one = both-true (whole.none_enters s.site s.world) _ idle in
      let two = both-true (whole.none_runs s.site s.world) _ one.1 in
      let three = both-true (whole.none_awaits_taking s.world.processes) _ two.1 in
      let four = both-true (all_quiet s.world.stopped s.wires.nodes) _ three.1 in
      (both_true one.0 (both_true two.0 (both_true three.0 four.1)), four.0)

  pub idle-post : is_idle s ≡ true → IsIdle s.site (record { world = s.world; owed = owed; sent = sent })
  idle-post idle =
      let two = parts idle in
      let bare_idle = (idle-both (bare s) sent).0 two.0 in
      record {
        enters = bare_idle.enters;
        runs = bare_idle.runs;
        waits = bare_idle.waits;
        owed = none-owed two.1;
        marked = bare_idle.marked;
      }
