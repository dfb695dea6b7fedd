-- What an act shows names its actor.
use Rattle.std.proofs.Common.{◌≡◌, ◌⊎◌, ℕ, ℤ, List, [], ◌∷◌, ◌++◌, Option, Some, None, inl, inr, refl, ap, sym, ◌∙◌}
use Rattle.tal_tree.specs.declared.act.Act.{Act}
use Rattle.tal_tree.specs.declared.act.Act.TheVariants.{Step, Take, Enter, Print}
use Rattle.tal_tree.specs.declared.act.Shown.{Shown}
use Rattle.tal_tree.specs.declared.act.Shown.TheVariants.{Write, Reply}
use Rattle.tal_tree.specs.declared.site.Site.{Site}
use Rattle.plain_semantics.specs.process_semantics.specs.gd_words.specs.declared.device.DeviceCall.{DeviceCall}
use Rattle.plain_semantics.specs.process_semantics.specs.gd_words.specs.declared.device.DeviceCall.TheVariants as call
use Rattle.plain_semantics.specs.process_semantics.specs.declared.point.Point.{Point}
use Rattle.plain_semantics.specs.process_semantics.specs.declared.point.Point.TheVariants as point
use Rattle.plain_semantics.specs.process_semantics.specs.Process as process
use Rattle.plain_semantics.specs.declared.slot.Slot.{Slot}
use Rattle.plain_semantics.specs.declared.slot.Slot.TheVariants.{Empty, Waiting, Taken, Answered}
use Rattle.plain_semantics.specs.Machine.{Made, Plain, made, next_request, shown_by_device, slot_of}
use Rattle.order_laws.proofs.Commuting.{done}
use Rattle.order_laws.proofs.Deeds.{Actor, Core, Deed, Entered, Nothing, OfProcess, OfTerminal, Own, Process}
use Rattle.order_laws.proofs.Deeds.{actor_of, deed}
use Rattle.order_laws.proofs.Deeds.{enter_deed, got_deed, own, print_deed, request_deed, step_deed, take_deed}
use Rattle.order_laws.proofs.Deeds.{took_deed}
use Rattle.order_laws.proofs.Deeds.{touched_in}

abbrev shown_actor : Shown → Actor
shown_actor (Write number sector words) = OfProcess number
shown_actor (Reply terminal number words) = OfTerminal terminal

-- nothing is shown, or first something of this actor
pub record Tells (actor : Actor) (shown : List Shown) : Type 0 where
  pub first : Shown
  pub rest : List Shown
  pub there : shown ≡ first ∷ rest
  pub of : shown_actor first ≡ actor

some-is : {x y : Deed} → ◌≡◌ {A = Option Deed} (Some x) (Some y) → x ≡ y
some-is e = cc

module _ (one : Deed) where
  abbrev TellsIt : Actor → Type 0
  TellsIt actor = (one.shown ≡ []) ⊎ Tells actor one.shown

  silent : (actor : Actor) (after : Own) (slot : Slot)
      → ◌≡◌ {A = Option Deed} (Some (record { after = after; slot = slot; shown = [] })) (Some one) → TellsIt actor
  silent actor after slot came = inl (ap (λ (d : Deed). d.shown) (sym (some-is came)))

  device-tells : (number : ℕ) (asked : DeviceCall) → one.shown ≡ shown_by_device number asked
      → TellsIt (OfProcess number)
  device-tells number (call.Write sector words written) is =
      inr (record { first = Write number sector words; rest = []; there = is; of = refl })
  device-tells number (call.Read sector) is = inl is
  device-tells number call.Nothing is = inl is

  got-tells : (actor : Actor) (core : Core) (slot : Option Slot) → got_deed core slot ≡ Some one → TellsIt actor
  got-tells actor core None came = absurd (cc)
  got-tells actor core (Some Empty) came = absurd (cc)
  got-tells actor core (Some (Waiting words)) came = absurd (cc)
  got-tells actor core (Some Taken) came = absurd (cc)
  got-tells actor core (Some (Answered words)) came = silent actor _ Empty came

  step-tells : (number : ℕ) (core : Core) (slot : Option Slot) (stands : Point)
      → step_deed number core slot stands ≡ Some one → TellsIt (OfProcess number)
  step-tells number core slot point.Inner came = silent (OfProcess number) _ Empty came
  step-tells number core slot point.Ask came = silent (OfProcess number) _ _ came
  step-tells number core slot point.Await came = got-tells (OfProcess number) core slot came
  step-tells number core slot point.Answer came = silent (OfProcess number) _ _ came
  step-tells number core slot point.AtCheckpoint came = silent (OfProcess number) _ Empty came
  step-tells number core slot point.Device came =
      device-tells number (process.call_of core.state) (ap (λ (d : Deed). d.shown) (sym (some-is came)))
  step-tells number core slot point.Take came = absurd (cc)
  step-tells number core slot point.Ended came = absurd (cc)

  took-tells : (actor : Actor) (place : ℕ) (core : Core) (slot : Option Slot) → took_deed place core slot ≡ Some one
      → TellsIt actor
  took-tells actor place core None came = absurd (cc)
  took-tells actor place core (Some Empty) came = absurd (cc)
  took-tells actor place core (Some Taken) came = absurd (cc)
  took-tells actor place core (Some (Answered words)) came = absurd (cc)
  took-tells actor place core (Some (Waiting words)) came = silent actor _ Taken came

  take-tells : (actor : Actor) (place : ℕ) (core : Core) (slot : Option Slot) (stands : Point)
      → take_deed place core slot stands ≡ Some one → TellsIt actor
  take-tells actor place core slot point.Take came = took-tells actor place core slot came
  take-tells actor place core slot point.Inner came = absurd (cc)
  take-tells actor place core slot point.Ask came = absurd (cc)
  take-tells actor place core slot point.Await came = absurd (cc)
  take-tells actor place core slot point.Answer came = absurd (cc)
  take-tells actor place core slot point.AtCheckpoint came = absurd (cc)
  take-tells actor place core slot point.Device came = absurd (cc)
  take-tells actor place core slot point.Ended came = absurd (cc)

  request-tells : (actor : Actor) (count : ℕ) (request : Option (List ℤ)) → request_deed count request ≡ Some one
      → TellsIt actor
  request-tells actor count None came = absurd (cc)
  request-tells actor count (Some words) came = silent actor _ _ came

  enter-tells : (site : Site) (terminal count : ℕ) (slot : Option Slot) → enter_deed site terminal count slot ≡ Some one
      → TellsIt (OfTerminal terminal)
  enter-tells site terminal count None came = absurd (cc)
  enter-tells site terminal count (Some Empty) came =
      request-tells (OfTerminal terminal) count (next_request site terminal count) came
  enter-tells site terminal count (Some (Waiting words)) came = absurd (cc)
  enter-tells site terminal count (Some Taken) came = absurd (cc)
  enter-tells site terminal count (Some (Answered words)) came = absurd (cc)

  print-tells : (terminal count : ℕ) (slot : Option Slot) → print_deed terminal count slot ≡ Some one
      → TellsIt (OfTerminal terminal)
  print-tells terminal count None came = absurd (cc)
  print-tells terminal count (Some Empty) came = absurd (cc)
  print-tells terminal count (Some (Waiting words)) came = absurd (cc)
  print-tells terminal count (Some Taken) came = absurd (cc)
  print-tells terminal count (Some (Answered words)) came = inr (record {
    first = Reply terminal count words;
    rest = [];
    there = ap (λ (d : Deed). d.shown) (sym (some-is came));
    of = refl;
  })

  deed-tells : (site : Site) (has : Own) (slot : Option Slot) (act : Act) → deed site has slot act ≡ Some one
      → TellsIt (actor_of act)
  deed-tells site (Process core) slot (Step number) came =
      step-tells number core slot (process.point core.state) came
  deed-tells site (Process core) slot (Take number place) came =
      take-tells (OfProcess number) place core slot (process.point core.state) came
  deed-tells site (Process core) slot (Enter terminal) came = absurd (cc)
  deed-tells site (Process core) slot (Print terminal) came = absurd (cc)
  deed-tells site (Entered count) slot (Step number) came = absurd (cc)
  deed-tells site (Entered count) slot (Take number place) came = absurd (cc)
  deed-tells site (Entered count) slot (Enter terminal) came = enter-tells site terminal count slot came
  deed-tells site (Entered count) slot (Print terminal) came = print-tells terminal count slot came
  deed-tells site Nothing slot (Step number) came = absurd (cc)
  deed-tells site Nothing slot (Take number place) came = absurd (cc)
  deed-tells site Nothing slot (Enter terminal) came = absurd (cc)
  deed-tells site Nothing slot (Print terminal) came = absurd (cc)

made-tells : (site : Site) (plain : Plain) (act : Act) (m : Made) → made site plain act ≡ Some m
    → (m.shown ≡ []) ⊎ Tells (actor_of act) m.shown
made-tells site plain act m is =
    let by = done site plain act m is in
    let same = ap (λ (m : Made). m.shown) by.made_so in
    elim (deed-tells by.one site (own plain (actor_of act)) (slot_of plain (touched_in site plain act)) act by.came) [
      | inl none ↦ inl (sym same ∙ none)
      | inr tells ↦
          inr (record { first = tells.first; rest = tells.rest; there = sym same ∙ tells.there; of = tells.of })
    ]

head-is : {x y : Shown} {xs ys : List Shown} → x ∷ xs ≡ y ∷ ys → x ≡ y
head-is e = cc

-- of two acts of different actors that show what is due next one shows nothing
pub one-silent : (site : Site) (plain : Plain) (act other : Act) (first second : Made) (rest due : List Shown)
    → made site plain act ≡ Some first → made site plain other ≡ Some second
    → (actor_of act ≡ actor_of other → ⊥) → second.shown ++ rest ≡ first.shown ++ due
    → (first.shown ≡ []) ⊎ (second.shown ≡ [])
one-silent site plain act other first second rest due is that apart same =
    by (made-tells site plain act first is) (made-tells site plain other second that)
  where
    by : (first.shown ≡ []) ⊎ Tells (actor_of act) first.shown
        → (second.shown ≡ []) ⊎ Tells (actor_of other) second.shown
        → (first.shown ≡ []) ⊎ (second.shown ≡ [])
    by (inl none) tells = inl none
    by (inr tells) (inl none) = inr none
    by (inr tells) (inr says) =
        let heads = head-is (ap (λ (xs : List Shown). xs ++ rest) (sym says.there) ∙ same
        ∙ ap (λ (xs : List Shown). xs ++ due) tells.there) in
        absurd (apart (sym tells.of ∙ ap shown_actor (sym heads) ∙ says.of))
