-- Rounds of a net between two of its nodes, and how they bring a piece to its end.
use Rattle.std.specs.Prelude.{◌≡◌, ◌≢◌, ◌≤◌, ◌<◌, ◌⊎◌, ℕ, ℤ, true, List, [], ◌∷◌, length}
use Rattle.packet_words.specs.declared.piece.Piece.{Piece}
use Rattle.packet_words.specs.declared.packet.Packet.{Packet}
use Rattle.packet_words.specs.declared.packet.PacketKind.{PacketKind}
use Rattle.packet_words.specs.declared.packet.PacketKind.TheVariants as kind
use Rattle.link_control.specs.Ends.{Sending}
use Rattle.channel_laws.specs.Way.{IsEnded}
use Rattle.gd_words.specs.Members.{IsAmong}
use Rattle.channel_laws.specs.Net.{Net, IsCurrent, IsWhole, Runs, pushed_net, arrived_net, ticked_net, alive_net}
use Rattle.channel_laws.specs.Net.{incarnation_of, stopped_net, marked_net}

-- what goes on in a net while the nodes a and b don't stop, no node is loaded again, and no packet is lost that didn't
-- come. The packets that came are listed, the newest first; those that came may leave the buses, be repeated and stand
-- in another order
pub data Passes (a b : ℕ) (n : Net) : List Packet → Net → Type 0 where
  nothing : Passes a b n [] n
  by_push : {came : List Packet} {m : Net} (x y : ℕ) (message : List ℤ) → 0 < length message → Runs m x y
      → Passes a b n came m → Passes a b n came (pushed_net x y message m)
  by_packet : {came : List Packet} {m : Net} (p : Packet) → IsAmong p m.flight → IsCurrent m.reloads p
      → Runs m p.receiver p.sender → Passes a b n came m
      → Passes a b n (p ∷ came) (arrived_net p.receiver p.sender p m)
  -- a packet comes that bears other incarnations than the present ones, or to a node that has stopped or has marked its
  -- sender down
  by_drop : {came : List Packet} {m : Net} (p : Packet) → (IsCurrent m.reloads p → Runs m p.receiver p.sender → ⊥)
      → Passes a b n came m → Passes a b n (p ∷ came) m
  by_tick : {came : List Packet} {m : Net} (x y : ℕ) → Runs m x y → Passes a b n came m
      → Passes a b n came (ticked_net x y m)
  by_alive : {came : List Packet} {m : Net} (x y : ℕ) → Runs m x y → Passes a b n came m
      → Passes a b n came (alive_net x y m)
  by_bus : {came : List Packet} {m : Net} (flight : List Packet)
      → ((p : Packet) → IsAmong p flight → IsAmong p m.flight)
      → ((p : Packet) → IsAmong p m.flight → IsAmong p flight ⊎ IsAmong p came) → Passes a b n came m
      → Passes a b n came (record m { flight = flight })
  by_stop : {came : List Packet} {m : Net} (x : ℕ) → x ≢ a → x ≢ b → Passes a b n came m
      → Passes a b n came (stopped_net x m)
  by_mark : {came : List Packet} {m : Net} (x y : ℕ) → m.stopped y ≡ true → Passes a b n came m
      → Passes a b n came (marked_net x y m)

-- a round from a to b: all that is in flight at its beginning comes, then the end of a with b ticks, and then more may
-- go on
pub record IsRound (a b : ℕ) (n next : Net) : Type 0 where
  pub came : List Packet
  pub middle : Net
  pub first : Passes a b n came middle
  pub all : (p : Packet) → IsAmong p n.flight → IsAmong p came
  pub later : List Packet
  pub rest : Passes a b (ticked_net a b middle) later next

-- How far the piece n has come on its way from a to b

-- a packet from one node to another that bears the present incarnations tells this
abbrev pub IsFlying : (ℕ → ℕ) → ℕ → ℕ → PacketKind → List Packet → Type 0
IsFlying reloads from to told flight = (p : Packet) × IsAmong p flight × (p.kind ≡ told) × (p.sender ≡ from)
    × (p.receiver ≡ to) × (p.incarnation ≡ incarnation_of reloads from to)

-- it has ended, or was outstanding at a tick
abbrev pub HasWaited : ℕ → Sending → Type 0
HasWaited n s = IsEnded n s ⊎ (s.waited ≡ true)

-- it has ended, or its acknowledgement is in flight
abbrev pub IsAnswered : (ℕ → ℕ) → ℕ → ℕ → ℕ → Sending → List Packet → Type 0
IsAnswered reloads n a b s flight = IsEnded n s ⊎ IsFlying reloads b a (kind.Acknowledgement n) flight

-- that, or it is in flight itself
abbrev pub IsSent : (ℕ → ℕ) → ℕ → ℕ → ℕ → Sending → List Packet → Type 0
IsSent reloads n a b s flight =
    IsAnswered reloads n a b s flight ⊎ ((piece : Piece) × IsFlying reloads a b (kind.Piece n piece) flight)

-- a round brings it on: what was numbered has waited, what has waited is sent, what was sent is answered, and what was
-- answered has ended
pub record IsBroughtOn (n a b : ℕ) (l next : Net) : Type 0 where
  pub whole : IsWhole next
  pub here : Runs next a b
  pub there : Runs next b a
  pub numbered : n ≤ (next.ends a b).sending.numbered
  pub waited : HasWaited n (next.ends a b).sending
  pub sent : HasWaited n (l.ends a b).sending → IsSent next.reloads n a b (next.ends a b).sending next.flight
  pub answered : IsSent l.reloads n a b (l.ends a b).sending l.flight
      → IsAnswered next.reloads n a b (next.ends a b).sending next.flight
  pub ended : IsAnswered l.reloads n a b (l.ends a b).sending l.flight → IsEnded n (next.ends a b).sending
