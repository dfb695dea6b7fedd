-- Why a round delivers what was on the buses as it began.
use Rattle.std.proofs.Common.{◌≡◌, ℕ, suc, ◌∙◌, false, List, [], ◌∷◌, ◌++◌, length, slice_get, refl}
use Rattle.std.proofs.Common.{ap, sym, subst, arith}
use Rattle.std.specs.List.{remove}
use Rattle.std.specs.Option.{option_to_list}
use Rattle.std.proofs.lemmas.List.{append_assoc, append-nil}
use Rattle.schedule.specs.declared.bus_name.BusName.TheVariants as bus
use Rattle.schedule.specs.declared.bus_name.BusName.{BusName}
use Rattle.schedule.specs.declared.event.Event.{Event}
use Rattle.schedule.specs.declared.event.Event.TheVariants.{Tick, Fail}
use Rattle.player.specs.declared.standing.Sizes.{Sizes}
use Rattle.player.specs.declared.standing.Place.{Place}
use Rattle.player.specs.declared.standing.Place.TheVariants as place
use Rattle.player.specs.Lines.{is_before}
use Rattle.round_laws.specs.Buses.{IsGrown, delivered_of, Leaves, HasBuses}
use Rattle.round_laws.specs.Due.{IsDue}
use Rattle.round_laws.specs.Rounds.{InRound, begins, goes_on, stops, IsWholeRound}
use Rattle.round_laws.specs.Turns.{Turns, AllCame, due, enters, runs, delivers_x, delivers_y, ticks, ends}

-- all that is there is due
all-due : {P : Type 0} (start came packets after : List P) (count : ℕ) → IsGrown packets after
    → IsDue start came count packets → IsDue start came (length after) after
all-due start came packets after count g d = record {
  first = after;
  behind = [];
  size = refl;
  are = sym (append-nil after);
  more = d.more ++ (d.behind ++ g.0);
  covers = ap (λ l. came ++ l) (g.1 ∙ ap (λ l. l ++ g.0) d.are ∙ append_assoc d.first d.behind g.0)
      ∙ sym (append_assoc came d.first (d.behind ++ g.0))
      ∙ ap (λ l. l ++ (d.behind ++ g.0)) d.covers ∙ append_assoc start d.more (d.behind ++ g.0);
}

-- what comes behind what is there isn't due
as-due : {P : Type 0} (start came packets after : List P) (count : ℕ) → IsGrown packets after
    → IsDue start came count packets → IsDue start came count after
as-due start came packets after count g d = record {
  first = d.first;
  behind = d.behind ++ g.0;
  size = d.size;
  are = g.1 ∙ ap (λ l. l ++ g.0) d.are ∙ append_assoc d.first d.behind g.0;
  more = d.more;
  covers = d.covers;
}

-- and where nothing comes
with-none : {P : Type 0} (start came : List P) (count : ℕ) (packets : List P) → IsDue start came count packets
    → IsDue start (came ++ []) count packets
with-none start came count packets d = subst (λ l. IsDue start l count packets) (sym (append-nil came)) d

recounted : {P : Type 0} (start came packets : List P) (one other : ℕ) → one ≡ other → IsDue start came one packets
    → IsDue start came other packets
recounted start came packets one other same d = subst (λ n. IsDue start came n packets) same d

-- the first of those that are due comes
comes : {P : Type 0} (start came packets after : List P) (count left : ℕ) → count ≡ suc left
    → IsGrown (remove packets 0) after → IsDue start came count packets
    → IsDue start (came ++ option_to_list (slice_get packets 0)) left after
comes {P} start came packets after count left some g d = by d.first d.are d.size d.covers
  where
    by : (first : List P) → packets ≡ first ++ d.behind → length first ≡ count → came ++ first ≡ start ++ d.more
        → IsDue start (came ++ option_to_list (slice_get packets 0)) left after
    by [] are size covers = absurd (let none : 0 ≡ suc left = size ∙ some in omega (arith, none))
    by (p ∷ first) are size covers = record {
      first = first;
      behind = d.behind ++ g.0;
      size = let long : suc (length first) ≡ suc left = size ∙ some in omega (arith, long);
      are = g.1 ∙ ap (λ l. remove l 0 ++ g.0) are ∙ append_assoc first d.behind g.0;
      more = d.more;
      covers = ap (λ l. (came ++ option_to_list (slice_get l 0)) ++ first) are
          ∙ append_assoc came (p ∷ []) first ∙ covers;
    }

-- a turn of a round that goes on, seen on one bus
turned : {P : Type 0} (name : BusName) (sizes : Sizes) (on : BusName → List P) (from to : Place) (event : Event)
    (start came after : List P)
    → Turns sizes (length (on bus.X)) (length (on bus.Y)) from event to → is_before to ≡ false
    → Leaves name event (on name) after → IsDue start came (due from name (length (on name))) (on name)
    → IsDue start (came ++ delivered_of name event (on name)) (due to name (length after)) after
turned name sizes on from _ _ start came after (enters terminal early low) more leaves d =
    with-none start came _ after (all-due start came (on name) after _ leaves d)
turned name sizes on from _ _ start came after (runs process early low) more leaves d =
    with-none start came _ after (all-due start came (on name) after _ leaves d)
turned bus.X sizes on from _ _ start came after (delivers_x left some at) more leaves d =
    comes start came (on bus.X) after _ left some leaves d
turned bus.Y sizes on from _ _ start came after (delivers_x left some at) more leaves d =
    with-none start came _ after (all-due start came (on bus.Y) after _ leaves d)
turned bus.X sizes on from _ _ start came after (delivers_y left empty some at) more leaves d =
    with-none start came _ after
    (recounted start came after _ 0 empty (as-due start came (on bus.X) after _ leaves d))
turned bus.Y sizes on from _ _ start came after (delivers_y left empty some at) more leaves d =
    comes start came (on bus.Y) after _ left some leaves d
turned bus.X sizes on from _ _ start came after (ticks node low all at) more leaves d =
    with-none start came _ after
    (recounted start came after _ 0 all.0 (as-due start came (on bus.X) after _ leaves d))
turned bus.Y sizes on from _ _ start came after (ticks node low all at) more leaves d =
    with-none start came _ after
    (recounted start came after _ 0 all.1 (as-due start came (on bus.Y) after _ leaves d))
turned name sizes on from _ _ start came after (ends all past) more leaves d = absurd (cc)

-- in the midst of a round
pub still-due : {S P : Type 0} (sizes : Sizes) (buses : S → BusName → List P) (goes : S → Event → S → Type 0)
    → HasBuses buses goes → (start : S) (came : BusName → List P) (place : Place) (s : S)
    → InRound sizes buses goes start came place s
    → (bus : BusName) → IsDue (buses start bus) (came bus) (due place bus (length (buses s bus))) (buses s bus)
still-due sizes buses goes has start _ _ _ begins bus = record {
  first = buses start bus;
  behind = [];
  size = refl;
  are = sym (append-nil (buses start bus));
  more = [];
  covers = sym (append-nil (buses start bus));
}
still-due sizes buses goes has start _ _ _
    (goes_on {came = came} {from = from} {s = s} {next = next} event to before turn on g) bus =
    turned bus sizes (buses s) from to event (buses start bus) (came bus) (buses next bus) turn on
    (has s event next g bus) (still-due sizes buses goes has start came from s before bus)
still-due sizes buses goes has start _ _ _
    (stops {came = came} {from = from} {s = s} {next = next} processor before g) bus =
    subst (λ l. IsDue (buses start bus) (came bus) (due from bus (length l)) l)
    (sym (has s (Fail processor) next g bus)) (still-due sizes buses goes has start came from s before bus)

pub all-came : {P : Type 0} (start came packets : List P) (count : ℕ) → count ≡ 0 → IsDue start came count packets
    → IsGrown start came
all-came {P} start came packets count none d = by d.first d.size d.covers
  where
    by : (first : List P) → length first ≡ count → came ++ first ≡ start ++ d.more → IsGrown start came
    by [] size covers = (d.more, sym (append-nil came) ∙ covers)
    by (p ∷ first) size covers = absurd (let some : suc (length first) ≡ 0 = size ∙ none in omega (arith, some))

-- at the last tick of a round nothing is due
pub none-due : {sizes : Sizes} {x y : ℕ} {from : Place} → Turns sizes x y from (Tick 16) place.Before
    → AllCame x y from
none-due (ends all past) = all

none-left : {P : Type 0} (on : BusName → List P) (from : Place)
    → AllCame (length (on bus.X)) (length (on bus.Y)) from → (name : BusName) → due from name (length (on name)) ≡ 0
none-left on from all bus.X = all.0
none-left on from all bus.Y = all.1

-- a whole round delivers what was there
pub all-delivered : {S P : Type 0} (sizes : Sizes) (buses : S → BusName → List P) (goes : S → Event → S → Type 0)
    → HasBuses buses goes → (start next : S) (r : IsWholeRound sizes buses goes start next) → (bus : BusName)
    → IsGrown (buses start bus) (r.came bus)
all-delivered sizes buses goes has start next r bus =
    all-came (buses start bus) (r.came bus) (buses r.last bus) _ (none-left (buses r.last) r.from (none-due r.turn) bus)
    (still-due sizes buses goes has start r.came r.from r.last r.made bus)
