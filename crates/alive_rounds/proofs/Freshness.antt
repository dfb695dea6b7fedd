-- Why alive packets stay fresh in rounds.
use Rattle.std.proofs.Common.{◌≡◌, ◌≢◌, ◌≤◌, ◌<◌, ◌⊎◌, inl, inr, ℕ, zero, suc, ◌+◌, ◌∙◌, ◌==◌, not, Bool, true, false}
use Rattle.std.proofs.Common.{List, [], ◌∷◌, ◌++◌, length, take, drop, Option, Some, option_map, refl, ap, sym, subst}
use Rattle.std.proofs.Common.{arith}
use Rattle.std.proofs.lemmas.Bool.{eqb-true, eqb-false}
use Rattle.std.proofs.lemmas.List.{take_all, length-append}
use Rattle.gd_words.specs.Members.{IsAmong}
use Rattle.gd_words.proofs.Among.{among-left}
use Rattle.schedule.specs.declared.bus_name.BusName.TheVariants as bus
use Rattle.schedule.specs.declared.event.Event.{Event}
use Rattle.schedule.specs.declared.event.Event.TheVariants.{Run, Enter, Deliver, Tick, Fail}
use Rattle.player.specs.declared.standing.Sizes.{Sizes}
use Rattle.player.specs.declared.standing.Place.{Place}
use Rattle.player.specs.declared.standing.Place.TheVariants as place
use Rattle.alive_regroup.specs.declared.neighbour.Neighbour.{Neighbour}
use Rattle.alive_regroup.specs.Watching.{neighbour_after_check, is_silent}
use Rattle.round_laws.specs.Buses.{IsGrown, HasBuses}
use Rattle.round_laws.specs.Rounds.{TurnsIn}
use Rattle.round_laws.specs.Turns.{is_early, due, ticked, enters, runs, delivers_x, delivers_y, ticks, ends}
use Rattle.alive_rounds.specs.Watched.{Sight, IsThere, WasHeard, after_tick_of, KeepsWatch, TicksWatch, IsWatched}
use Rattle.alive_rounds.specs.Fresh.{TwoRun, WillBeHeard, IsFresh}

-- Packets on bus X

front-among : {P : Type 0} (x : P) (n : ℕ) (xs : List P) → IsAmong x (take n xs) → IsAmong x xs
front-among x zero xs among = absurd among
front-among x (suc n) [] among = absurd among
front-among x (suc n) (y ∷ xs) (inl same) = inl same
front-among x (suc n) (y ∷ xs) (inr among) = inr (front-among x n xs among)

front-grown : {P : Type 0} (x : P) (n : ℕ) (xs more : List P) → IsAmong x (take n xs) → IsAmong x (take n (xs ++ more))
front-grown x zero xs more among = absurd among
front-grown x (suc n) [] more among = absurd among
front-grown x (suc n) (y ∷ xs) more (inl same) = inl same
front-grown x (suc n) (y ∷ xs) more (inr among) = inr (front-grown x n xs more among)

grown-among : {P : Type 0} (x : P) (xs ys : List P) → IsGrown xs ys → IsAmong x xs → IsAmong x ys
grown-among x xs ys g among = subst (IsAmong x) (sym g.1) (among-left x xs g.0 among)

all-front : {P : Type 0} (x : P) (xs : List P) → IsAmong x xs → IsAmong x (take (length xs) xs)
all-front x xs among = subst (IsAmong x) (sym (take_all (length xs) xs (omega arith))) among

grown-longer : {P : Type 0} (xs ys : List P) → IsGrown xs ys → length xs ≤ length ys
grown-longer xs ys g =
    let long : length ys ≡ length xs + length g.0 = ap length g.1 ∙ length-append xs g.0 in omega (arith, long)

-- Whatever happens but a tick

one-ran : {S P : Type 0} (n : ℕ) (w : Sight S P) (goes : S → Event → S → Type 0) → IsWatched n w goes → (s : S)
    (event : Event) (next : S) → goes s event next → ((k : ℕ) → k < n → event ≢ Tick k) → (q p : ℕ)
    → TwoRun n w next q p → TwoRun n w s q p
one-ran n w goes watched s event next g no_tick q p two = record {
  one = two.one;
  other = two.other;
  apart = two.apart;
  here = (watched.keeps s event next q g two.one (no_tick q two.one) two.here).ran;
  there = (watched.keeps s event next p g two.other (no_tick p two.other) two.there).ran;
}

-- from one place to another: what was due of bus X has come or is due, and what was sent is still there
fresh-on : {S P : Type 0} (n : ℕ) (w : Sight S P) (goes : S → Event → S → Type 0) → IsWatched n w goes → (s : S)
    (event : Event) (next : S) (from to : Place) → goes s event next → ((k : ℕ) → k < n → event ≢ Tick k)
    → ticked to ≡ ticked from → due to bus.X (length (w.buses next bus.X)) ≤ length (w.buses next bus.X)
    → ((q p : ℕ) → TwoRun n w next q p → IsThere (w.knows s q p)
    → IsAmong (w.alive p q) (take (due from bus.X (length (w.buses s bus.X))) (w.buses s bus.X))
    → WillBeHeard w to next q p)
    → ((x : P) → 0 < ticked to → IsAmong x (w.buses s bus.X) → IsAmong x (w.buses next bus.X))
    → IsFresh n w from s → IsFresh n w to next
fresh-on {S} {P} n w goes watched s event next from to g no_tick at low due_on stays h = record {
  low = low;
  there = λ q p two. (kept q p two).there p two.there (h.there q p (back q p two));
  heard = λ q p two turn check. by q p two
      (h.heard q p (back q p two) (omega (arith, turn, at)) (sym (kept q p two).checks ∙ check));
  sent = λ q p two turn. stays (w.alive p q) (omega (arith, turn)) (h.sent q p (back q p two) (omega (
    arith,
    turn,
    at,
  )));
}
  where
    back : (q p : ℕ) → TwoRun n w next q p → TwoRun n w s q p
    back = one-ran n w goes watched s event next g no_tick

    kept : (q p : ℕ) → TwoRun n w next q p → KeepsWatch w s next q
    kept q p two = watched.keeps s event next q g two.one (no_tick q two.one) two.here

    by : (q p : ℕ) → TwoRun n w next q p → WillBeHeard w from s q p → WillBeHeard w to next q p
    by q p two (inl heard) = inl ((kept q p two).heard p two.there heard)
    by q p two (inr among) = due_on q p two (h.there q p (back q p two)) among

early-ticks : (from : Place) → is_early from ≡ true → ticked from ≡ 0
early-ticks place.Before early = refl
early-ticks (place.Enters terminal) early = refl
early-ticks (place.Runs process) early = refl
early-ticks (place.Delivers bus left) early = refl
early-ticks (place.Ticks node) early = absurd (cc)

-- terminals enter and processes run
fresh-early : {S P : Type 0} (n : ℕ) (w : Sight S P) (goes : S → Event → S → Type 0) → IsWatched n w goes → (s : S)
    (event : Event) (next : S) (from to : Place) → goes s event next → ((k : ℕ) → k < n → event ≢ Tick k)
    → is_early from ≡ true → ticked to ≡ 0
    → due to bus.X (length (w.buses next bus.X)) ≡ length (w.buses next bus.X)
    → IsGrown (w.buses s bus.X) (w.buses next bus.X) → IsFresh n w from s → IsFresh n w to next
fresh-early n w goes watched s event next from to g no_tick early none all grown h =
    fresh-on n w goes watched s event next from to g no_tick (none ∙ sym (early-ticks from early)) (omega (arith, all))
    (λ q p two there among. inr (subst (λ k. IsAmong (w.alive p q) (take k (w.buses next bus.X))) (sym all)
    (all-front (w.alive p q) (w.buses next bus.X)
    (grown-among (w.alive p q) (w.buses s bus.X) (w.buses next bus.X) grown (front-among (w.alive p q) _ _
    among)))))
    (λ x some among. grown-among x (w.buses s bus.X) (w.buses next bus.X) grown among) h

-- a processor stops
pub fresh-stopped : {S P : Type 0} (n : ℕ) (w : Sight S P) (goes : S → Event → S → Type 0) → IsWatched n w goes
    → HasBuses w.buses goes → (s : S) (processor : ℕ) (next : S) (at : Place) → goes s (Fail processor) next
    → IsFresh n w at s → IsFresh n w at next
fresh-stopped {S} {P} n w goes watched has s processor next at g h =
    fresh-on n w goes watched s (Fail processor) next at at g (λ k low is. absurd (cc)) refl
    (subst (λ l. due at bus.X (length l) ≤ length l) (sym same) h.low)
    (λ q p two there among. inr (subst (λ l. IsAmong (w.alive p q) (take (due at bus.X (length l)) l)) (sym same)
    among))
    (λ x some among. subst (IsAmong x) (sym same) among) h
  where
    same : w.buses next bus.X ≡ w.buses s bus.X
    same = has s (Fail processor) next g bus.X

-- bus X delivers its first packet
fresh-x : {S P : Type 0} (n : ℕ) (w : Sight S P) (goes : S → Event → S → Type 0) → IsWatched n w goes
    → HasBuses w.buses goes → (s next : S) (from : Place) (left : ℕ) → goes s (Deliver bus.X 0) next
    → due from bus.X (length (w.buses s bus.X)) ≡ suc left → ticked from ≡ 0
    → IsFresh n w from s → IsFresh n w (place.Delivers bus.X left) next
fresh-x {S} {P} n w goes watched has s next from left g some at h =
    fresh-on n w goes watched s (Deliver bus.X 0) next from (place.Delivers bus.X left) g (λ k low is. absurd (cc)) (sym
    at)
    (low (w.buses s bus.X) refl)
    (λ q p two there among. by q p two there (w.buses s bus.X) refl
    (subst (λ k. IsAmong (w.alive p q) (take k (w.buses s bus.X))) some among))
    (λ x none among. absurd (let bad : 0 < 0 = none in omega (arith, bad))) h
  where
    off : (p : P) (rest : List P) → p ∷ rest ≡ w.buses s bus.X → IsGrown rest (w.buses next bus.X)
    off p rest is = let grown = has s (Deliver bus.X 0) next g bus.X in
        (grown.0, grown.1 ∙ ap (λ l. drop 1 l ++ grown.0) (sym is))

    low : (on : List P) → on ≡ w.buses s bus.X → left ≤ length (w.buses next bus.X)
    low [] is = absurd (let most = h.low in let none = ap length is in
        let bad : suc left ≤ 0 = omega (arith, most, some, none) in omega (arith, bad))
    low (p ∷ rest) is = let most = h.low in let long : suc (length rest) ≡ length (w.buses s bus.X) = ap length is in
        let more = grown-longer rest (w.buses next bus.X) (off p rest is) in omega (arith, most, some, long, more)

    by : (q p : ℕ) → TwoRun n w next q p → IsThere (w.knows s q p) → (on : List P) → on ≡ w.buses s bus.X
        → IsAmong (w.alive p q) (take (suc left) on) → WillBeHeard w (place.Delivers bus.X left) next q p
    by q p two there [] is among = absurd among
    by q p two there (x ∷ rest) is (inl same) = inl (watched.hears s next p q rest g two.one
        (sym is ∙ ap (λ y. y ∷ rest) (sym same)) two.there two.here there)
    by q p two there (x ∷ rest) is (inr among) = let grown = off x rest is in
        inr (subst (λ l. IsAmong (w.alive p q) (take left l)) (sym grown.1)
        (front-grown (w.alive p q) left rest grown.0 among))

-- bus Y delivers its first packet, when bus X has no more to deliver
fresh-y : {S P : Type 0} (n : ℕ) (w : Sight S P) (goes : S → Event → S → Type 0) → IsWatched n w goes → (s next : S)
    (from : Place) (left : ℕ) → goes s (Deliver bus.Y 0) next → due from bus.X (length (w.buses s bus.X)) ≡ 0
    → ticked from ≡ 0 → IsFresh n w from s → IsFresh n w (place.Delivers bus.Y left) next
fresh-y n w goes watched s next from left g empty at h =
    fresh-on n w goes watched s (Deliver bus.Y 0) next from (place.Delivers bus.Y left) g (λ k low is. absurd (cc)) (sym
    at)
    (omega arith)
    (λ q p two there among. absurd (subst (λ k. IsAmong (w.alive p q) (take k (w.buses s bus.X))) empty among))
    (λ x none among. absurd (let bad : 0 < 0 = none in omega (arith, bad))) h

-- Ticks

pub which : (q node : ℕ) → (q ≡ node) ⊎ (q ≢ node)
which q node = by (q == node) refl
  where
    by : (test : Bool) → (q == node) ≡ test → (q ≡ node) ⊎ (q ≢ node)
    by true is = inl (eqb-true q node is)
    by false is = inr (eqb-false q node is)

-- a check misses nobody that was heard of
there-checked : (check : Bool) (known : Option Neighbour) → IsThere known → (check ≡ true → WasHeard known)
    → IsThere (after_tick_of check known)
there-checked false known there heard = there
there-checked true known there heard =
    let h = heard refl in (false, h.1, ap (option_map neighbour_after_check) h.2)

there-speaks : (known : Option Neighbour) → IsThere known → option_map is_silent known ≡ Some true → ⊥
there-speaks known there silent =
    absurd (let bad : Some false ≡ Some true = ap (option_map is_silent) (sym there.2) ∙ silent in cc)

heard-now : {S P : Type 0} (w : Sight S P) (at : Place) (s : S) (q p : ℕ)
    → due at bus.X (length (w.buses s bus.X)) ≡ 0 → WillBeHeard w at s q p → WasHeard (w.knows s q p)
heard-now w at s q p empty (inl heard) = heard
heard-now w at s q p empty (inr among) =
    absurd (subst (λ k. IsAmong (w.alive p q) (take k (w.buses s bus.X))) empty among)

-- what a node knows at its own tick of another one that runs
at-tick : {S P : Type 0} (n : ℕ) (w : Sight S P) (s : S) (from : Place) (node p : ℕ) → TwoRun n w s node p
    → due from bus.X (length (w.buses s bus.X)) ≡ 0 → ticked from ≡ node → IsFresh n w from s
    → IsThere (after_tick_of (w.checks s node) (w.knows s node p))
at-tick n w s from node p two empty at h = there-checked (w.checks s node) (w.knows s node p) (h.there node p two)
    (λ check. heard-now w from s node p empty (h.heard node p two (omega (arith, at)) check))

-- a processor that ticks finds nobody silent that runs
pub none-silent : {S P : Type 0} (n : ℕ) (w : Sight S P) (s : S) (from : Place) (node p : ℕ) → TwoRun n w s node p
    → due from bus.X (length (w.buses s bus.X)) ≡ 0 → ticked from ≡ node → IsFresh n w from s
    → option_map is_silent (after_tick_of (w.checks s node) (w.knows s node p)) ≡ Some true → ⊥
none-silent n w s from node p two empty at h silent = there-speaks _ (at-tick n w s from node p two empty at h) silent

turned-true : (before after : Bool) → after ≡ not before → after ≡ true → before ≡ false
turned-true true after is on = absurd (let bad : false ≡ true = sym is ∙ on in cc)
turned-true false after is on = refl

other-tick : (a b : ℕ) → a ≢ b → Tick b ≢ Tick a
other-tick a b apart is = apart (let same : a ≡ b = cc in same)

fresh-tick : {S P : Type 0} (n : ℕ) (w : Sight S P) (goes : S → Event → S → Type 0) → IsWatched n w goes
    → HasBuses w.buses goes → (s next : S) (from : Place) (node : ℕ) → goes s (Tick node) next → node < n
    → due from bus.X (length (w.buses s bus.X)) ≡ 0 → ticked from ≡ node
    → IsFresh n w from s → IsFresh n w (place.Ticks (node + 1)) next
fresh-tick {S} {P} n w goes watched has s next from node g low empty at h = record {
  low = omega arith;
  there = λ q p two. there q p two (which q node);
  heard = λ q p two turn check. inl (heard q p two turn check (which q node));
  sent = λ q p two turn. sent q p two turn (which p node);
}
  where
    grown : IsGrown (w.buses s bus.X) (w.buses next bus.X)
    grown = has s (Tick node) next g bus.X

    own : w.runs next node ≡ true → TicksWatch n w s next node
    own still = watched.ticks s next node g low still

    kept : (q : ℕ) → q < n → q ≢ node → w.runs next q ≡ true → KeepsWatch w s next q
    kept q in_site apart still = watched.keeps s (Tick node) next q g in_site (other-tick q node apart) still

    ran : (q : ℕ) → q < n → w.runs next q ≡ true → (q ≡ node) ⊎ (q ≢ node) → w.runs s q ≡ true
    ran q in_site still (inl same) =
        subst (λ k. w.runs s k ≡ true) (sym same) (own (subst (λ k. w.runs next k ≡ true) same still)).ran
    ran q in_site still (inr apart) = (kept q in_site apart still).ran

    back : (q p : ℕ) → TwoRun n w next q p → TwoRun n w s q p
    back q p two = record {
      one = two.one;
      other = two.other;
      apart = two.apart;
      here = ran q two.one two.here (which q node);
      there = ran p two.other two.there (which p node);
    }

    own-there : (p : ℕ) → TwoRun n w next node p → IsThere (w.knows next node p)
    own-there p two = (own two.here).there p two.there (at-tick n w s from node p (back node p two) empty at h)

    there : (q p : ℕ) → TwoRun n w next q p → (q ≡ node) ⊎ (q ≢ node) → IsThere (w.knows next q p)
    there q p two (inl same) = subst (λ k. IsThere (w.knows next k p)) (sym same)
        (own-there p (subst (λ k. TwoRun n w next k p) same two))
    there q p two (inr apart) = (kept q two.one apart two.here).there p two.there (h.there q p (back q p two))

    heard : (q p : ℕ) → TwoRun n w next q p → node + 1 ≤ q → w.checks next q ≡ true → (q ≡ node) ⊎ (q ≢ node)
        → WasHeard (w.knows next q p)
    heard q p two turn check (inl same) = absurd (omega (arith, turn, same))
    heard q p two turn check (inr apart) = (kept q two.one apart two.here).heard p two.there
        (heard-now w from s q p empty (h.heard q p (back q p two) (omega (arith, turn, at))
        (sym (kept q two.one apart two.here).checks ∙ check)))

    tells : (q : ℕ) → TwoRun n w next q node → IsAmong (w.alive node q) (w.buses next bus.X)
    tells q two = let b = back q node two in
        (own two.there).sends q two.one two.apart two.here
        (h.there node q (record {
          one = b.other;
          other = b.one;
          apart = λ is. b.apart (sym is);
          here = b.there;
          there =
              b.here;
        }))

    sent : (q p : ℕ) → TwoRun n w next q p → p < node + 1 → (p ≡ node) ⊎ (p ≢ node)
        → IsAmong (w.alive p q) (w.buses next bus.X)
    sent q p two turn (inl same) = subst (λ k. IsAmong (w.alive k q) (w.buses next bus.X)) (sym same)
        (tells q (subst (λ k. TwoRun n w next q k) same two))
    sent q p two turn (inr apart) = grown-among (w.alive p q) (w.buses s bus.X) (w.buses next bus.X) grown
        (h.sent q p (back q p two) (omega (arith, turn, at, apart)))

-- the tick of node 16 ends a round in which all processors have ticked
fresh-end : {S P : Type 0} (n : ℕ) (w : Sight S P) (goes : S → Event → S → Type 0) → IsWatched n w goes → n ≤ 16
    → HasBuses w.buses goes → (s next : S) (from : Place) → goes s (Tick 16) next → n ≤ ticked from
    → IsFresh n w from s → IsFresh n w place.Before next
fresh-end {S} {P} n w goes watched few has s next from g all h = record {
  low = omega arith;
  there = λ q p two. (kept q p two).there p two.there (h.there q p (back q p two));
  heard = λ q p two turn check. inr (all-front (w.alive p q) (w.buses next bus.X) (grown-among (w.alive p q)
      (w.buses s bus.X) (w.buses next bus.X) grown
      (h.sent q p (back q p two) (let other = two.other in omega (arith, other, all)))));
  sent = λ q p two turn. absurd (let bad : p < 0 = turn in omega (arith, bad));
}
  where
    no_tick : (k : ℕ) → k < n → Tick 16 ≢ Tick k
    no_tick k low is = absurd (let same : 16 ≡ k = cc in let bad : 16 < 16 = omega (arith, low, few, same) in omega
        (arith, bad))

    grown : IsGrown (w.buses s bus.X) (w.buses next bus.X)
    grown = has s (Tick 16) next g bus.X

    back : (q p : ℕ) → TwoRun n w next q p → TwoRun n w s q p
    back = one-ran n w goes watched s (Tick 16) next g no_tick

    kept : (q p : ℕ) → TwoRun n w next q p → KeepsWatch w s next q
    kept q p two = watched.keeps s (Tick 16) next q g two.one (no_tick q two.one) two.here

-- every turn of a round keeps them fresh
pub fresh-turn : {S P : Type 0} (sizes : Sizes) (w : Sight S P) (goes : S → Event → S → Type 0)
    → IsWatched sizes.processors w goes → sizes.processors ≤ 16 → HasBuses w.buses goes → (s : S) (event : Event)
    (next : S) (from to : Place) → TurnsIn sizes w.buses s from event to → goes s event next
    → IsFresh sizes.processors w from s → IsFresh sizes.processors w to next
fresh-turn sizes w goes watched few has s _ next from _ (enters terminal early low) g h =
    fresh-early sizes.processors w goes watched s (Enter terminal) next from (place.Enters (terminal + 1)) g
    (λ k low is. absurd (cc)) early refl refl (has s (Enter terminal) next g bus.X) h
fresh-turn sizes w goes watched few has s _ next from _ (runs process early low) g h =
    fresh-early sizes.processors w goes watched s (Run process) next from (place.Runs (process + 1)) g
    (λ k low is. absurd (cc)) early refl refl (has s (Run process) next g bus.X) h
fresh-turn sizes w goes watched few has s _ next from _ (delivers_x left some at) g h =
    fresh-x sizes.processors w goes watched has s next from left g some at h
fresh-turn sizes w goes watched few has s _ next from _ (delivers_y left empty some at) g h =
    fresh-y sizes.processors w goes watched s next from left g empty at h
fresh-turn sizes w goes watched few has s _ next from _ (ticks node low came at) g h =
    fresh-tick sizes.processors w goes watched has s next from node g low came.0 at h
fresh-turn sizes w goes watched few has s _ next from _ (ends came all) g h =
    fresh-end sizes.processors w goes watched few has s next from g all h

-- a line breaks off in mid-round, before anybody ticked
pub fresh-broken : {S P : Type 0} (n : ℕ) (w : Sight S P) (s : S) (from : Place) → ticked from ≡ 0
    → IsFresh n w from s → IsFresh n w place.Before s
fresh-broken {S} {P} n w s from at h = record {
  low = omega arith;
  there = h.there;
  heard = λ q p two turn check. by q p (h.heard q p two (omega (arith, at)) check);
  sent = λ q p two turn. absurd (let bad : p < 0 = turn in omega (arith, bad));
}
  where
    by : (q p : ℕ) → WillBeHeard w from s q p → WillBeHeard w place.Before s q p
    by q p (inl heard) = inl heard
    by q p (inr among) = inr (all-front (w.alive p q) (w.buses s bus.X) (front-among (w.alive p q) _ _ among))
