-- An act leads from an orderly state to one.
use Rattle.std.proofs.Common.{◌≡◌, ◌⊎◌, ℕ, zero, suc, ◌+◌, true, false, List, [], ◌∷◌, map, Option, Some, None}
use Rattle.std.proofs.Common.{inl, inr, refl}
use Rattle.std.proofs.Common.{ap, sym, ◌∙◌, slice_get, subst}
use Rattle.std.specs.Option.{option_and_then, option_map}
use Rattle.tal_tree.specs.declared.act.Act.{Act}
use Rattle.tal_tree.specs.declared.site.Kind.{Kind}
use Rattle.tal_tree.specs.declared.site.Kind.TheVariants as kind
use Rattle.tal_tree.specs.declared.site.OpenerSpec.{OpenerSpec}
use Rattle.tal_tree.specs.declared.site.ProcessSpec.{ProcessSpec}
use Rattle.tal_tree.specs.declared.site.Site.{Site}
use Rattle.tal_tree.specs.declared.site.Who.TheVariants as who
use Rattle.plain_semantics.specs.process_semantics.specs.declared.point.Point.TheVariants as point
use Rattle.plain_semantics.specs.process_semantics.specs.Process as process
use Rattle.plain_semantics.specs.declared.slot.Opener.{Opener}
use Rattle.plain_semantics.specs.declared.slot.Slot.{Slot}
use Rattle.plain_semantics.specs.declared.slot.Slot.TheVariants.{Empty, Taken}
use Rattle.plain_semantics.specs.Openers.{opener_of, openers_of}
use Rattle.plain_semantics.specs.Machine.{Plain, PlainProcess, plain_start, processes_at_first, slot_of}
use Rattle.plain_histories.proofs.Openers.{opener-one}
use Rattle.order_laws.proofs.Asking.{NeverAsks}
use Rattle.order_laws.proofs.Deeds.{Actor, Core, Deed, OfProcess, OfTerminal, Process, actor_of, carried, deed_in, did}
use Rattle.order_laws.proofs.Deeds.{own, own_of, touched_in}
use Rattle.order_laws.proofs.Frames.{own-apart, own-put, slot-apart, slot-put}
use Rattle.order_laws.proofs.Orderly.{IsClient, IsOrderly, IsServer, Waits, no-terminal, none-some, number-same}
use Rattle.order_laws.proofs.Orderly.{process-same, call-side, serves, side, some-same, true-false, unfree-used}
use Rattle.order_laws.proofs.Views.{Answers, Asks, Gets, IsCall, IsEntry, IsOf, IsService, Takes, View, is_free}
use Rattle.order_laws.proofs.Views.{is_used, view}

-- Whether two are one

same-number : (n m : ℕ) → (n ≡ m) ⊎ (n ≡ m → ⊥)
same-number zero zero = inl refl
same-number zero (suc m) = inr (λ e. cc)
same-number (suc n) zero = inr (λ e. cc)
same-number (suc n) (suc m) = elim (same-number n m) [
  | inl same ↦ inl (ap suc same)
  | inr apart ↦ inr (λ e. apart (below e))
]
  where
    below : {n m : ℕ} → suc n ≡ suc m → n ≡ m
    below e = cc

same-process : (actor : Actor) (number : ℕ) → (actor ≡ OfProcess number) ⊎ (actor ≡ OfProcess number → ⊥)
same-process (OfTerminal terminal) number = inr (λ e. no-terminal (sym e))
same-process (OfProcess n) number = elim (same-number n number) [
  | inl same ↦ inl (ap OfProcess same)
  | inr apart ↦ inr (λ e. apart (number-same e))
]

opener-same : (one other : Opener) → one.server ≡ other.server → one.place ≡ other.place → one ≡ other
opener-same one other server place =
    ap (λ (n : ℕ). record { server = n; place = one.place }) server
    ∙ ap (λ (n : ℕ). record { server = other.server; place = n }) place

same-opener : (one : Option Opener) (other : Opener) → (one ≡ Some other) ⊎ (one ≡ Some other → ⊥)
same-opener None other = inr (λ e. none-some e)
same-opener (Some one) other = by (same-number one.server other.server) (same-number one.place other.place)
  where
    by : (one.server ≡ other.server) ⊎ (one.server ≡ other.server → ⊥)
        → (one.place ≡ other.place) ⊎ (one.place ≡ other.place → ⊥)
        → (◌≡◌ {A = Option Opener} (Some one) (Some other)) ⊎ (◌≡◌ {A = Option Opener} (Some one) (Some other) → ⊥)
    by (inl server) (inl place) = inl (ap Some (opener-same one other server place))
    by (inr apart) place = inr (λ e. apart (ap (λ (o : Opener). o.server) (some-same e)))
    by (inl server) (inr apart) = inr (λ e. apart (ap (λ (o : Opener). o.place) (some-same e)))

file-same : {n m f g : ℕ} → who.File n f ≡ who.File m g → (n ≡ m) × (f ≡ g)
file-same e = (cc, cc)

file-terminal : {n f t : ℕ} → who.File n f ≡ who.Terminal t → ⊥
file-terminal e = cc

emptied : (slot : Option Slot) → is_used (option_map (λ (was : Slot). Empty) slot) ≡ false
emptied None = refl
emptied (Some slot) = refl

module _ (site : Site) (plain : Plain) (orderly : IsOrderly site plain) (act : Act) (one : Deed)
    (came : deed_in site plain act ≡ Some one) where
  abbrev pub after : Plain
  after = carried (touched_in site plain act) (actor_of act) one plain

  abbrev seen : View site plain act one
  seen = view site plain one act came

  -- Another process has what it had

  kept : (number : ℕ) → (actor_of act ≡ OfProcess number → ⊥)
      → own after (OfProcess number) ≡ own plain (OfProcess number)
  kept number apart = own-apart (touched_in site plain act) (actor_of act) (OfProcess number) one plain apart

  put : (is : IsOf site plain act one) → own after (OfProcess is.number) ≡ Process is.next
  put is =
      subst (λ (actor : Actor). own (carried (touched_in site plain act) actor one plain) (OfProcess is.number)
      ≡ Process is.next) (sym is.actor)
      (own-put (touched_in site plain act) is.number one plain is.next is.core is.after is.has)

  slot-kept : (opener : Opener) → (touched_in site plain act ≡ Some opener → ⊥)
      → slot_of after (Some opener) ≡ slot_of plain (Some opener)
  slot-kept opener apart = slot-apart (touched_in site plain act) (actor_of act) one plain opener apart

  slot-now : (opener : Opener) → touched_in site plain act ≡ Some opener
      → slot_of after (Some opener) ≡ option_map (λ (was : Slot). one.slot) (slot_of plain (Some opener))
  slot-now opener touches =
      subst (λ (o : Option Opener). slot_of (carried o (actor_of act) one plain) (Some opener)
      ≡ option_map (λ (was : Slot). one.slot) (slot_of plain (Some opener))) (sym touches)
      (slot-put opener (actor_of act) one plain)

  still-waits : (number file : ℕ) → (actor_of act ≡ OfProcess number → ⊥) → Waits plain number file
      → Waits after number file
  still-waits number file apart waits = record {
    core = waits.core;
    has = kept number apart ∙ waits.has;
    stands = waits.stands;
    asked = waits.asked;
  }

  -- what its process has before is what another says of it
  core-at : (is : IsOf site plain act one) (number : ℕ) (core : Core) → is.number ≡ number
      → own plain (OfProcess number) ≡ Process core → is.core ≡ core
  core-at is number core same has =
      process-same (sym is.has ∙ ap (λ (n : ℕ). own plain (OfProcess n)) same ∙ has)

  -- and after it
  next-at : (is : IsOf site plain act one) (number : ℕ) (core : Core) → is.number ≡ number
      → own after (OfProcess number) ≡ Process core → is.next ≡ core
  next-at is number core same has =
      process-same (sym (put is) ∙ ap (λ (n : ℕ). own after (OfProcess n)) same ∙ has)

  number-at : (is : IsOf site plain act one) (number : ℕ) → actor_of act ≡ OfProcess number → is.number ≡ number
  number-at is number actor = number-same (sym is.actor ∙ actor)

  no-entry : IsEntry site plain act → (number : ℕ) → actor_of act ≡ OfProcess number → ⊥
  no-entry is number actor = no-terminal (sym actor ∙ is.actor)

  of-view : View site plain act one → (number : ℕ) → actor_of act ≡ OfProcess number → IsOf site plain act one
  of-view (inl (inl inside)) number actor = inside.by
  of-view (inl (inr call)) number actor = call.by
  of-view (inr (inl service)) number actor = service.by
  of-view (inr (inr entry)) number actor = absurd (no-entry entry number actor)

  -- Discs

  never-after : (number : ℕ) (core : Core) → own after (OfProcess number) ≡ Process core → NeverAsks core.state
  never-after number core has = elim (same-process (actor_of act) number) [
    | inl actor ↦ (
        let is = of-view seen number actor in
        subst (λ (next : Core). NeverAsks next.state) (next-at is number core (number-at is number actor) has)
        (is.never (orderly.never is.number is.core is.has)))
    | inr apart ↦ orderly.never number core (sym (kept number apart) ∙ has)
  ]

  -- Files

  stands-at : (is : IsOf site plain act one) (number file : ℕ) → is.number ≡ number → Waits plain number file
      → process.point is.core.state ≡ point.Await
  stands-at is number file same waits =
      ap (λ (core : Core). process.point core.state) (core-at is number waits.core same waits.has) ∙ waits.stands

  not-serving : (is : IsService site plain act one)
      → Answers is.by.number is.by.core is.by.next (touched_in site plain act)
      ⊎ Takes is.by.number plain is.by.core is.by.next (touched_in site plain act) one
      → process.point is.by.core.state ≡ point.Await → ⊥
  not-serving is (inl answers) at = away (sym answers.stands ∙ at)
    where
      away : point.Answer ≡ point.Await → ⊥
      away e = cc
  not-serving is (inr takes) at = away (sym takes.stands ∙ at)
    where
      away : point.Take ≡ point.Await → ⊥
      away e = cc

  -- a process that awaits the reply of a file does nothing else
  gets-it : (number file : ℕ) (opener : Opener) → opener_of site (who.File number file) ≡ Some opener
      → Waits plain number file → actor_of act ≡ OfProcess number → View site plain act one
      → touched_in site plain act ≡ Some opener
  gets-it number file opener opens waits actor (inl (inl inside)) =
      absurd (inside.stands (stands-at inside.by number file (number-at inside.by number actor) waits))
  gets-it number file opener opens waits actor (inl (inr call)) =
      let same = number-at call.by number actor in
      let core = core-at call.by number waits.core same waits.has in
      call.slot
      ∙ ap (λ (n : ℕ). opener_of site (who.File n (process.asked_file call.by.core.state))) same
      ∙ ap (λ (f : ℕ). opener_of site (who.File number f))
      (ap (λ (core : Core). process.asked_file core.state) core ∙ waits.asked)
      ∙ opens
  gets-it number file opener opens waits actor (inr (inl service)) =
      absurd (not-serving service service.how
      (stands-at service.by number file (number-at service.by number actor) waits))
  gets-it number file opener opens waits actor (inr (inr entry)) = absurd (no-entry entry number actor)

  waits-untouched : (number file : ℕ) (opener : Opener) → opener_of site (who.File number file) ≡ Some opener
      → (touched_in site plain act ≡ Some opener → ⊥) → Waits plain number file → Waits after number file
  waits-untouched number file opener opens apart waits = elim (same-process (actor_of act) number) [
    | inl actor ↦ absurd (apart (gets-it number file opener opens waits actor seen))
    | inr other ↦ still-waits number file other waits
  ]

  asked-now : (number file : ℕ) (opener : Opener) → opener_of site (who.File number file) ≡ Some opener
      → (call : IsCall site plain act one) → touched_in site plain act ≡ Some opener
      → Asks call.by.core call.by.next ⊎ Gets plain (touched_in site plain act) call.by.core one
      → is_used (slot_of after (Some opener)) ≡ true → Waits after number file
  asked-now number file opener opens call touches (inl asks) used =
      let same = file-same (opener-one site (who.File call.by.number (process.asked_file call.by.core.state))
      (who.File number file) opener (sym call.slot ∙ touches) opens) in
      record {
        core = call.by.next;
        has = ap (λ (n : ℕ). own after (OfProcess n)) (sym same.0) ∙ put call.by;
        stands = asks.awaits (orderly.never call.by.number call.by.core call.by.has);
        asked = asks.same ∙ same.1;
      }
  asked-now number file opener opens call touches (inr gets) used =
      absurd (true-false (sym used ∙ ap is_used (slot-now opener touches)
      ∙ ap (λ (slot : Slot). is_used (option_map (λ (was : Slot). slot) (slot_of plain (Some opener)))) gets.leaves
      ∙ emptied (slot_of plain (Some opener))))

  served-now : (number file : ℕ) (opener : Opener) → opener_of site (who.File number file) ≡ Some opener
      → (service : IsService site plain act one) → IsServer plain act opener → Waits after number file
  served-now number file opener opens service server =
      let waits = orderly.waits number file opener opens (unfree-used (slot_of plain (Some opener)) server.unfree) in
      still-waits number file
      (λ actor. not-serving service service.how
      (stands-at service.by number file (number-at service.by number actor) waits)) waits

  waits-touched : (number file : ℕ) (opener : Opener) → opener_of site (who.File number file) ≡ Some opener
      → touched_in site plain act ≡ Some opener → is_used (slot_of after (Some opener)) ≡ true
      → View site plain act one → Waits after number file
  waits-touched number file opener opens touches used (inl (inl inside)) =
      absurd (none-some (sym inside.alone ∙ touches))
  waits-touched number file opener opens touches used (inl (inr call)) =
      asked-now number file opener opens call touches call.how used
  waits-touched number file opener opens touches used (inr (inl service)) =
      served-now number file opener opens service (serves site plain orderly act one opener touches service service.how)
  waits-touched number file opener opens touches used (inr (inr entry)) =
      absurd (file-terminal (opener-one site (who.File number file) (who.Terminal entry.terminal) opener opens
      (sym entry.slot ∙ touches)))

  waits-after : (number file : ℕ) (opener : Opener) → opener_of site (who.File number file) ≡ Some opener
      → is_used (slot_of after (Some opener)) ≡ true → Waits after number file
  waits-after number file opener opens used = elim (same-opener (touched_in site plain act) opener) [
    | inl touches ↦ waits-touched number file opener opens touches used seen
    | inr apart ↦
        waits-untouched number file opener opens apart
        (orderly.waits number file opener opens (ap is_used (sym (slot-kept opener apart)) ∙ used))
  ]

  -- Requests in hand

  abbrev place_of : ℕ → ℕ → Opener
  place_of number place = record { server = number; place = place }

  -- a taken slot is touched by its server alone
  taken-free : (number place : ℕ) → slot_of plain (Some (place_of number place)) ≡ Some Taken
      → IsClient site plain act (place_of number place) → ⊥
  taken-free number place taken client = true-false (sym client.free ∙ ap is_free taken)

  holds-apart : (number place : ℕ) (core : Core) → (actor_of act ≡ OfProcess number → ⊥)
      → own after (OfProcess number) ≡ Process core → core.hand ≡ Some place
      → slot_of after (Some (place_of number place)) ≡ Some Taken
  holds-apart number place core apart has hand =
      let taken = orderly.holds number place core (sym (kept number apart) ∙ has) hand in
      slot-kept (place_of number place) (λ touches. elim
      (side site plain orderly act one (place_of number place) touches seen) [
        | inl client ↦ taken-free number place taken client
        | inr server ↦ apart (sym server.actor)
      ]) ∙ taken

  -- the hand is as it was
  holds-same : (is : IsOf site plain act one) (number place : ℕ) (core : Core) → is.number ≡ number
      → own after (OfProcess number) ≡ Process core → core.hand ≡ Some place → is.next.hand ≡ is.core.hand
      → ((opener : Opener) → touched_in site plain act ≡ Some opener → IsClient site plain act opener)
      → slot_of after (Some (place_of number place)) ≡ Some Taken
  holds-same is number place core same has hand kept_hand client =
      let next = next-at is number core same has in
      let taken = orderly.holds number place is.core (ap (λ (n : ℕ). own plain (OfProcess n)) (sym same) ∙ is.has)
      (sym kept_hand ∙ ap (λ (c : Core). c.hand) next ∙ hand) in
      slot-kept (place_of number place)
      (λ touches. taken-free number place taken (client (place_of number place) touches)) ∙ taken

  takes-now : (service : IsService site plain act one) (number place : ℕ) (core : Core) → service.by.number ≡ number
      → own after (OfProcess number) ≡ Process core → core.hand ≡ Some place
      → Answers service.by.number service.by.core service.by.next (touched_in site plain act)
      ⊎ Takes service.by.number plain service.by.core service.by.next (touched_in site plain act) one
      → slot_of after (Some (place_of number place)) ≡ Some Taken
  takes-now service number place core same has hand (inl answers) =
      absurd (none-some (sym answers.hand ∙ ap (λ (c : Core). c.hand) (next-at service.by number core same has) ∙ hand))
  takes-now service number place core same has hand (inr takes) =
      let next = next-at service.by number core same has in
      let placed : takes.place ≡ place = some-same (sym takes.hand ∙ ap (λ (c : Core). c.hand) next ∙ hand) in
      let opener : touched_in site plain act ≡ Some (place_of number place) =
      takes.slot ∙ ap Some (opener-same (place_of service.by.number takes.place) (place_of number place) same placed) in
      slot-now (place_of number place) opener
      ∙ ap (option_map (λ (was : Slot). one.slot)) (ap (slot_of plain) (sym opener) ∙ takes.waits)
      ∙ ap Some takes.leaves

  holds-own : (number place : ℕ) (core : Core) → actor_of act ≡ OfProcess number
      → own after (OfProcess number) ≡ Process core → core.hand ≡ Some place → View site plain act one
      → slot_of after (Some (place_of number place)) ≡ Some Taken
  holds-own number place core actor has hand (inl (inl inside)) =
      holds-same inside.by number place core (number-at inside.by number actor) has hand inside.hand
      (λ opener touches. absurd (none-some (sym inside.alone ∙ touches)))
  holds-own number place core actor has hand (inl (inr call)) =
      holds-same call.by number place core (number-at call.by number actor) has hand call.hand
      (λ opener touches. call-side site plain orderly act one opener touches call)
  holds-own number place core actor has hand (inr (inl service)) =
      takes-now service number place core (number-at service.by number actor) has hand service.how
  holds-own number place core actor has hand (inr (inr entry)) = absurd (no-entry entry number actor)

  holds-after : (number place : ℕ) (core : Core) → own after (OfProcess number) ≡ Process core
      → core.hand ≡ Some place → slot_of after (Some (place_of number place)) ≡ Some Taken
  holds-after number place core has hand = elim (same-process (actor_of act) number) [
    | inl actor ↦ holds-own number place core actor has hand seen
    | inr apart ↦ holds-apart number place core apart has hand
  ]

  pub orderly-after : IsOrderly site (did site plain act one).plain
  orderly-after = record { never = never-after; waits = waits-after; holds = holds-after }

-- At the beginning

start-never : (what : Kind) → NeverAsks (process.start_of what)
start-never (kind.Disc sectors mirrored) = λ e. cc
start-never (kind.Pair code) = tt

empties : (openers : List OpenerSpec) (place : ℕ)
    → is_used (slice_get (map (λ (opener : OpenerSpec). Empty) openers) place) ≡ false
empties [] place = refl
empties (opener ∷ openers) zero = refl
empties (opener ∷ openers) (suc place) = empties openers place

first-slot : (site : Site) (from : ℕ) (specs : List ProcessSpec) (number place : ℕ)
    → is_used (option_and_then (λ (server : PlainProcess). slice_get server.slots place)
    (slice_get (processes_at_first site from specs) number)) ≡ false
first-slot site from [] number place = refl
first-slot site from (spec ∷ specs) zero place = empties (openers_of site from) place
first-slot site from (spec ∷ specs) (suc number) place = first-slot site (from + 1) specs number place

first-own : (site : Site) (from : ℕ) (specs : List ProcessSpec) (number : ℕ) (core : Core)
    → own_of (slice_get (processes_at_first site from specs) number) ≡ Process core
    → NeverAsks core.state × (core.hand ≡ None)
first-own site from [] number core has = absurd (cc)
first-own site from (spec ∷ specs) zero core has =
    let same = process-same has in (
      subst (λ (c : Core). NeverAsks c.state) same (start-never spec.what),
      ap (λ (c : Core). c.hand) (sym same),
    )
first-own site from (spec ∷ specs) (suc number) core has = first-own site (from + 1) specs number core has

pub orderly-start : (site : Site) → IsOrderly site (plain_start site)
orderly-start site = record {
  never = λ number core has. (first-own site 0 site.processes number core has).0;
  waits = λ number file opener opens used. absurd (true-false (sym used
      ∙ first-slot site 0 site.processes opener.server opener.place));
  holds = λ number place core has hand. absurd (none-some (sym (first-own site 0 site.processes number core has).1
      ∙ hand));
}
