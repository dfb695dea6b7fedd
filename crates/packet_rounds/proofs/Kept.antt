-- What has ended at its sender's end was kept at its receiver's.
use Rattle.std.proofs.Common.{◌≡◌, ◌≤◌, ℕ, true, length, subst, sym, arith}
use Rattle.link_control.specs.Ends.{End, Receiving}
use Rattle.world_semantics.specs.World.{is_running}
use Rattle.channel_laws.specs.Net.{Net, IsWhole, Runs}
use Rattle.channel_laws.specs.Way.{IsEnded, IsJoint, Way}
use Rattle.packets_laws.specs.packet_nets.proofs.Tied.{running-low}
use Rattle.packet_wires.specs.Play.{Packeted}
use Rattle.packets_laws.specs.Passing.{IsNetOf}
use Rattle.packet_rounds.specs.Pieces.{IsAcknowledged}
use Rattle.packet_rounds.proofs.Nets.{both-run}

kept-in : (n : ℕ) (w : Way) → IsJoint w → IsEnded n w.sender → n ≤ w.receiver.kept
kept-in n w j ended = let few = j.acknowledged_is_kept in let all = j.sending.numbered in omega (
  arith,
  few,
  all,
  ended,
)

kept-across : (n a b : ℕ) (m : Net) → IsWhole m → Runs m a b → Runs m b a → IsEnded n (m.ends a b).sending
    → n ≤ (m.ends b a).receiving.kept
kept-across n a b m w here there ended =
    subst (λ (r : Receiving). n ≤ r.kept) (sym (w.tied b a there).receiving)
    (kept-in n (m.ways a b) (w.joint a b) (subst (IsEnded n) (w.tied a b here).sending ended))

-- what has ended in the net of a state, between two nodes that run, is acknowledged
pub acknowledged : (n a b : ℕ) (s : Packeted) (m : Net) → IsNetOf s m → length s.world.stopped ≤ 16
    → is_running s.world.stopped a ≡ true → is_running s.world.stopped b ≡ true → IsEnded n (m.ends a b).sending
    → IsAcknowledged s a b n
acknowledged n a b s m is few here there ended =
    let low = running-low s.world.stopped a few here in
    let other = running-low s.world.stopped b few there in
    let e = is.tied.shape a b low other in
    let f = is.tied.shape b a other low in
    record {
      sender = e.0;
      at_sender = e.1;
      ended = subst (λ (d : End). IsEnded n d.sending) (is.tied.ends a b e.0 here e.1) ended;
      receiver = f.0;
      at_receiver = f.1;
      kept = subst (λ (d : End). n ≤ d.receiving.kept) (is.tied.ends b a f.0 there f.1)
          (kept-across n a b m is.tied.whole (both-run s m is a b here there) (both-run s m is b a there here) ended);
    }
