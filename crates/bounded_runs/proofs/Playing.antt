-- What a schedule plays over packets goes on in one way; and what it counts.
use Rattle.std.proofs.Common.{◌≡◌, inl, inr, ◌∙◌, Bool, ℕ, refl, ap, sym}
use Rattle.schedule.specs.declared.event.Event.{Event}
use Rattle.player.specs.declared.player.Player.{Player}
use Rattle.machine_states.specs.States.{Played, Makes, Skips}
use Rattle.packet_lengths.specs.node_copies.specs.ShownCounts.{replies_in, writes_in}
use Rattle.packet_wires.specs.Play.{Packeted, count_on, play}
use Rattle.packet_wires.specs.Wires.{Wires}
use Rattle.schedule.specs.declared.bus_name.BusName.TheVariants as bus
use Rattle.round_laws.specs.Stretches.{CountsBuses}
use Rattle.calm_runs.specs.packet_rounds.specs.Played.{buses_of}
use Rattle.calm_runs.specs.Sights.{CountsOfShown}
use Rattle.schedule_loop.specs.Rules.{IsPlayBy}
use Rattle.packet_lengths.specs.packet_runs.specs.Runs.{concerned, is_alive, packet_rules, sender_of}
use Rattle.bounded_runs.specs.Moments.{counts_in}

-- whether the packet that the next event concerns is an alive one, and who sent it
abbrev pub alive_in : Packeted → Player → Bool
alive_in s player = is_alive (concerned s (count_on s bus.X) (count_on s bus.Y) player)

abbrev pub sender_in : Packeted → Player → ℕ
sender_in s player = sender_of (concerned s (count_on s bus.X) (count_on s bus.Y) player)

pub counted : CountsBuses buses_of counts_in
counted s = (refl, refl)

pub shown : CountsOfShown counts_in
shown s t same = (ap writes_in same, ap replies_in same)

one-made : (made : Played Wires) (x y : Packeted) → made ≡ Makes x → made ≡ Makes y → x ≡ y
one-made made x y one two = cc

not-both : (made : Played Wires) (x : Packeted) → made ≡ Makes x → made ≡ Skips → ⊥
not-both made x one two = absurd (cc)

pub one-next : (s : Packeted) (event : Event) (next after : Packeted) → IsPlayBy packet_rules s event next
    → IsPlayBy packet_rules s event after → next ≡ after
one-next s event next after (inl one) (inl two) = one-made (play s event) next after one two
one-next s event next after (inl one) (inr two) = absurd (not-both (play s event) next one two.0)
one-next s event next after (inr one) (inl two) = absurd (not-both (play s event) after two one.0)
one-next s event next after (inr one) (inr two) = one.1 ∙ sym two.1
