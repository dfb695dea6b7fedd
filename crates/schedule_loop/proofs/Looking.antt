-- Lines whose next event doesn't depend on which packet it concerns.
use Rattle.std.proofs.Common.{◌≡◌, ℕ, ◌-◌, Bool, true, false, nat_lt, if◌then◌else◌, Option, Some, None, refl, ap}
use Rattle.std.specs.Option.{option_map}
use Rattle.schedule.specs.declared.event.Counts.{Counts}
use Rattle.schedule.specs.declared.event.Event.{Event}
use Rattle.schedule.specs.declared.event.Event.TheVariants as event
use Rattle.player.specs.declared.standing.LinePlace.{LinePlace}
use Rattle.player.specs.declared.standing.Move.{Move}
use Rattle.player.specs.declared.standing.LinePlace.TheVariants as standing
use Rattle.player.specs.declared.standing.Place.{Place}
use Rattle.player.specs.declared.standing.Rule.{Rule}
use Rattle.player.specs.declared.standing.Rule.TheVariants as rule
use Rattle.player.specs.declared.standing.Sizes.{Sizes}
use Rattle.player.specs.Lines.{decided_move, event_of, is_before, is_mixed, is_over, moved, next_event, proposed}
use Rattle.player.specs.Lines.{event_when_spared, stands_after}
use Rattle.player.specs.Rounds.{next_turn}
use Rattle.schedule_loop.specs.Looks.{asks_packet, loses}

-- it is the same if no packet is looked at
pub same-unlooked : (sizes : Sizes) (at : LinePlace) → asks_packet at ≡ false → (counts : Counts)
    → next_event sizes at (record counts { alive = false; sender = 0 }) ≡ next_event sizes at counts
same-unlooked sizes standing.Ended none counts = refl
same-unlooked sizes (standing.Event event left) none counts = refl
same-unlooked sizes (standing.Rounds rule.Drain left place) none counts = refl
same-unlooked sizes (standing.Rounds (rule.Until true count) left place) none counts = refl
same-unlooked sizes (standing.Rounds (rule.Until false count) left place) none counts = refl
same-unlooked sizes (standing.Rounds (rule.Mute node) left place) none counts = absurd (cc)
same-unlooked sizes (standing.Mixed left place draws) none counts = absurd (cc)

module _ (sizes : Sizes) (counts : Counts) where
  again : (event : Event) (left : ℕ) (some : Bool)
      → asks_packet (stands_after (option_map (decided_move (standing.Event event left) counts)
      (if some then Some (record { event = event; standing = standing.Event event (left - 1) }) else None))) ≡ false
  again event left true = refl
  again event left false = refl

  rounds : (one : Rule) (left : ℕ) (place : Place)
      → ((left : ℕ) (place : Place) → asks_packet (standing.Rounds one left place) ≡ false)
      → (over before some : Bool)
      → asks_packet (stands_after (if over then None else option_map
      (decided_move (standing.Rounds one left place) counts)
      (if before then (if some then Some (moved one (left - 1) (next_turn sizes counts.x counts.y place)) else None)
      else Some (moved one left (next_turn sizes counts.x counts.y place))))) ≡ false
  rounds one left place quiet true before some = refl
  rounds one left place quiet false true true = quiet (left - 1) (next_turn sizes counts.x counts.y place).place
  rounds one left place quiet false true false = refl
  rounds one left place quiet false false some = quiet left (next_turn sizes counts.x counts.y place).place

  -- and so it is where the line stands after it
  pub stays-unlooked : (at : LinePlace) → asks_packet at ≡ false
      → asks_packet (stands_after (next_event sizes at counts)) ≡ false
  stays-unlooked standing.Ended none = refl
  stays-unlooked (standing.Event event left) none = again event left (nat_lt 0 left)
  stays-unlooked (standing.Rounds rule.Drain left place) none =
      rounds rule.Drain left place (λ n p. refl) (is_over (standing.Rounds rule.Drain left place) counts)
      (is_before place) (nat_lt 0 left)
  stays-unlooked (standing.Rounds (rule.Until writes count) left place) none =
      rounds (rule.Until writes count) left place (λ n p. refl)
      (is_over (standing.Rounds (rule.Until writes count) left place) counts) (is_before place) (nat_lt 0 left)
  stays-unlooked (standing.Rounds (rule.Mute node) left place) none = absurd (cc)
  stays-unlooked (standing.Mixed left place draws) none = absurd (cc)

-- A line of mixed rounds: which packet its next event concerns is looked at only if it would lose that

abbrev loses_any : Option Event → Bool
loses_any None = false
loses_any (Some one) = loses one

-- an event that it doesn't lose is the next one, whatever is counted of its packet
module _ (told seen : Counts) (unseen : told.alive ≡ false) where
  kept : (one found : Event) → loses one ≡ false → Some one ≡ Some (event_when_spared told found)
      → Some one ≡ Some (event_when_spared seen found)
  kept one (event.Lose bus k) none is =
      let same : loses one ≡ loses (event_when_spared told (event.Lose bus k)) =
      ap (λ (found : Option Event). loses_any found) is in
      let lost : loses (event_when_spared told (event.Lose bus k)) ≡ true =
      ap (λ (alive : Bool). loses (if alive then event.Deliver bus k else event.Lose bus k)) unseen in
      absurd (cc)
  kept one (event.Deliver bus k) none is = is
  kept one (event.Repeat bus k) none is = is
  kept one (event.Run process) none is = is
  kept one (event.Enter terminal) none is = is
  kept one (event.Tick node) none is = is
  kept one (event.Fail processor) none is = is
  kept one (event.Reload processor) none is = is
  kept one (event.Drive turn) none is = is

pub kept-mixed : (sizes : Sizes) (at : LinePlace) (counts : Counts) (idle : Bool) (one : Event)
    → is_mixed at ≡ true → loses one ≡ false
    → Some one ≡ event_of (next_event sizes at (record counts { alive = false; sender = 0; idle = false }))
    → Some one ≡ event_of (next_event sizes at (record counts { idle = idle }))
kept-mixed sizes standing.Ended counts idle one mixes none is = absurd (cc)
kept-mixed sizes (standing.Event event left) counts idle one mixes none is = absurd (cc)
kept-mixed sizes (standing.Rounds rule left place) counts idle one mixes none is = absurd (cc)
kept-mixed sizes (standing.Mixed left place draws) counts idle one mixes none is =
    by (proposed sizes counts.x counts.y (standing.Mixed left place draws)) is
  where
    told : Counts
    told = record counts { alive = false; sender = 0; idle = false }

    seen : Counts
    seen = record counts { idle = idle }

    by : (found : Option Move)
        → Some one ≡ event_of (option_map (decided_move (standing.Mixed left place draws) told) found)
        → Some one ≡ event_of (option_map (decided_move (standing.Mixed left place draws) seen) found)
    by None same = absurd (cc)
    by (Some move) same = kept told seen refl one move.event none same

-- and an event that it would lose is, with the kind of its packet looked at, the next one
lost : (counts : Counts) (idle : Bool) (one found : Event) → loses one ≡ true
    → Some one ≡ Some (event_when_spared (record counts { alive = false; sender = 0; idle = false }) found)
    → Some (event_when_spared (record counts { idle = false }) one)
    ≡ Some (event_when_spared (record counts { idle = idle }) found)
lost counts idle one (event.Lose bus k) loss is =
    ap (option_map (event_when_spared (record counts { idle = false }))) is
lost counts idle one (event.Deliver bus k) loss is = let none : loses one ≡ false = ap loses_any is in absurd (cc)
lost counts idle one (event.Repeat bus k) loss is = let none : loses one ≡ false = ap loses_any is in absurd (cc)
lost counts idle one (event.Run process) loss is = let none : loses one ≡ false = ap loses_any is in absurd (cc)
lost counts idle one (event.Enter terminal) loss is = let none : loses one ≡ false = ap loses_any is in absurd (cc)
lost counts idle one (event.Tick node) loss is = let none : loses one ≡ false = ap loses_any is in absurd (cc)
lost counts idle one (event.Fail processor) loss is = let none : loses one ≡ false = ap loses_any is in absurd (cc)
lost counts idle one (event.Reload processor) loss is = let none : loses one ≡ false = ap loses_any is in absurd (cc)
lost counts idle one (event.Drive turn) loss is = let none : loses one ≡ false = ap loses_any is in absurd (cc)

pub lost-mixed : (sizes : Sizes) (at : LinePlace) (counts : Counts) (idle : Bool) (one : Event)
    → is_mixed at ≡ true → loses one ≡ true
    → Some one ≡ event_of (next_event sizes at (record counts { alive = false; sender = 0; idle = false }))
    → Some (event_when_spared (record counts { idle = false }) one)
    ≡ event_of (next_event sizes at (record counts { idle = idle }))
lost-mixed sizes standing.Ended counts idle one mixes loss is = absurd (cc)
lost-mixed sizes (standing.Event event left) counts idle one mixes loss is = absurd (cc)
lost-mixed sizes (standing.Rounds rule left place) counts idle one mixes loss is = absurd (cc)
lost-mixed sizes (standing.Mixed left place draws) counts idle one mixes loss is =
    by (proposed sizes counts.x counts.y (standing.Mixed left place draws)) is
  where
    told : Counts
    told = record counts { alive = false; sender = 0; idle = false }

    by : (found : Option Move)
        → Some one ≡ event_of (option_map (decided_move (standing.Mixed left place draws) told) found)
        → Some (event_when_spared (record counts { idle = false }) one)
        ≡ event_of (option_map (decided_move (standing.Mixed left place draws) (record counts { idle = idle })) found)
    by None same = absurd (cc)
    by (Some move) same = lost counts idle one move.event loss same
