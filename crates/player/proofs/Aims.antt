-- The packet that an event concerns is the aimed one.
use Rattle.std.proofs.Common.{◌≡◌, ℕ, Bool, true, false, ◌==◌, ◌&&◌, Option, Some, None, if◌then◌else◌, refl, ap, sym}
use Rattle.std.proofs.Common.{◌∙◌, option_map}
use Rattle.schedule.specs.declared.bus_name.BusName.{BusName}
use Rattle.schedule.specs.declared.event.Event.{Event}
use Rattle.schedule.specs.declared.event.Event.TheVariants.{Run, Enter, Deliver, Lose, Repeat, Tick, Fail, Reload}
use Rattle.schedule.specs.declared.event.Event.TheVariants.{Drive}
use Rattle.schedule.specs.declared.event.Counts.{Counts}
use Rattle.player.specs.declared.standing.Sizes.{Sizes}
use Rattle.player.specs.declared.standing.Rule.TheVariants.{Drain, Mute, Until}
use Rattle.player.specs.declared.standing.LinePlace.{LinePlace}
use Rattle.player.specs.declared.standing.LinePlace.TheVariants as standing
use Rattle.player.specs.declared.standing.Move.{Move}
use Rattle.player.specs.Lines.{proposed, is_over, event_when_muted, event_when_spared, event_by_counts, decided_move}
use Rattle.player.specs.Lines.{next_event, on_bus, packet_of}
use Rattle.player.specs.Lines.{packet_of_move, packet_aimed_at}

lost-or-delivered : (x y : ℕ) (bus : BusName) (k : ℕ) (lost : Bool)
    → packet_of x y (if lost then Lose bus k else Deliver bus k) ≡ on_bus x y bus k
lost-or-delivered x y bus k true = refl
lost-or-delivered x y bus k false = refl

delivered-or-lost : (x y : ℕ) (bus : BusName) (k : ℕ) (spared : Bool)
    → packet_of x y (if spared then Deliver bus k else Lose bus k) ≡ on_bus x y bus k
delivered-or-lost x y bus k true = refl
delivered-or-lost x y bus k false = refl

muted-concerns : (x y node : ℕ) (counts : Counts) (event : Event)
    → packet_of x y (event_when_muted node counts event) ≡ packet_of x y event
muted-concerns x y node counts (Run process) = refl
muted-concerns x y node counts (Enter terminal) = refl
muted-concerns x y node counts (Deliver bus k) = lost-or-delivered x y bus k (counts.alive && (counts.sender == node))
muted-concerns x y node counts (Lose bus k) = refl
muted-concerns x y node counts (Repeat bus k) = refl
muted-concerns x y node counts (Tick tick) = refl
muted-concerns x y node counts (Fail processor) = refl
muted-concerns x y node counts (Reload processor) = refl
muted-concerns x y node counts (Drive event) = refl

spared-concerns : (x y : ℕ) (counts : Counts) (event : Event)
    → packet_of x y (event_when_spared counts event) ≡ packet_of x y event
spared-concerns x y counts (Run process) = refl
spared-concerns x y counts (Enter terminal) = refl
spared-concerns x y counts (Deliver bus k) = refl
spared-concerns x y counts (Lose bus k) = delivered-or-lost x y bus k counts.alive
spared-concerns x y counts (Repeat bus k) = refl
spared-concerns x y counts (Tick tick) = refl
spared-concerns x y counts (Fail processor) = refl
spared-concerns x y counts (Reload processor) = refl
spared-concerns x y counts (Drive event) = refl

decided-concerns : (x y : ℕ) (standing : LinePlace) (counts : Counts) (event : Event)
    → packet_of x y (event_by_counts standing counts event) ≡ packet_of x y event
decided-concerns x y standing.Ended counts event = refl
decided-concerns x y (standing.Event again left) counts event = refl
decided-concerns x y (standing.Rounds Drain left place) counts event = refl
decided-concerns x y (standing.Rounds (Mute node) left place) counts event = muted-concerns x y node counts event
decided-concerns x y (standing.Rounds (Until writes count) left place) counts event = refl
decided-concerns x y (standing.Mixed left place draws) counts event = spared-concerns x y counts event

pub aimed-concerned : (sizes : Sizes) (standing : LinePlace) (counts : Counts) (move : Move)
    → next_event sizes standing counts ≡ Some move
    → packet_aimed_at sizes counts.x counts.y standing ≡ packet_of counts.x counts.y move.event
aimed-concerned sizes standing counts move is =
    by (is_over standing counts) (proposed sizes counts.x counts.y standing) is
  where
    by : (over : Bool) (next : Option Move)
        → (if over then None else option_map (decided_move standing counts) next) ≡ Some move
        → packet_of_move counts.x counts.y next ≡ packet_of counts.x counts.y move.event
    by true next given = cc
    by false None given = cc
    by false (Some next) given = sym (decided-concerns counts.x counts.y standing counts next.event)
        ∙ ap (packet_of_move counts.x counts.y) given
