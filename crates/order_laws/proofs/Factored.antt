-- An act does its deed.
use Rattle.std.proofs.Common.{◌≡◌, ℕ, ℤ, List, [], ◌∷◌, Option, Some, None, slice_get, refl, ap, sym, ◌∙◌}
use Rattle.std.specs.Option.{option_and_then, option_map}
use Rattle.tal_tree.specs.declared.act.Act.{Act}
use Rattle.tal_tree.specs.declared.act.Act.TheVariants.{Step, Take, Enter, Print}
use Rattle.tal_tree.specs.declared.act.Shown.TheVariants.{Reply}
use Rattle.tal_tree.specs.declared.site.Site.{Site}
use Rattle.tal_tree.specs.declared.site.Who.TheVariants as who
use Rattle.plain_semantics.specs.process_semantics.specs.declared.point.Point.{Point}
use Rattle.plain_semantics.specs.process_semantics.specs.declared.point.Point.TheVariants as point
use Rattle.plain_semantics.specs.process_semantics.specs.Process as process
use Rattle.plain_semantics.specs.declared.slot.Opener.{Opener}
use Rattle.plain_semantics.specs.declared.slot.Slot.{Slot}
use Rattle.plain_semantics.specs.declared.slot.Slot.TheVariants.{Empty, Waiting, Taken, Answered}
use Rattle.plain_semantics.specs.Openers.{opener_of}
use Rattle.plain_semantics.specs.Machine.{Made, Plain, PlainProcess, answered_by, enter_made, enter_request, entered_at}
use Rattle.plain_semantics.specs.Machine.{found_by, got_made, made, next_request, print_made, quiet}
use Rattle.plain_semantics.specs.Machine.{shown_by_device, slot_of, step_at}
use Rattle.plain_semantics.specs.Machine.{step_made, take_at, take_made, take_slot, with_process, with_slot, with_state}
use Rattle.plain_semantics.specs.Machine.{written_by}
use Rattle.order_laws.proofs.Deeds.{Actor, Core, Deed, OfProcess, OfTerminal, alter-twice, altered}
use Rattle.order_laws.proofs.Deeds.{carried, core_of, deed, deed_in, did, enter_deed, got_deed, own_of, print_deed}
use Rattle.order_laws.proofs.Deeds.{put-same, put_slot, request_deed, set-alter, slot_into, step_deed}
use Rattle.order_laws.proofs.Deeds.{take_deed, took_deed, touched}
use Rattle.order_laws.proofs.Deeds.{touched_at, with_core}

abbrev by_deed : Option Opener → Actor → Plain → Deed → Made
by_deed opener actor plain one = record { plain = carried opener actor one plain; shown = one.shown }

process-is : (change : PlainProcess → PlainProcess) (number : ℕ) (plain : Plain) (one : PlainProcess)
    → slice_get plain.processes number ≡ Some one → with_process number (change one) plain ≡ altered number change plain
process-is change number plain one there =
    ap (λ (all : List PlainProcess). record plain { processes = all })
    (set-alter change plain.processes number one there)

module _ (site : Site) (number : ℕ) (plain : Plain) (one : PlainProcess)
    (there : slice_get plain.processes number ≡ Some one) where
  state-is : (state : process.ProcessState)
      → with_state number one state plain
      ≡ altered number (with_core (record { state = state; hand = one.hand; sectors = one.sectors })) plain
  state-is state =
      process-is (with_core (record { state = state; hand = one.hand; sectors = one.sectors })) number plain one there

  slot-then : (opener : Option Opener) (slot : Slot) (first second : Plain) → first ≡ second
      → ◌≡◌ {A = Option Made} (Some (quiet (with_slot opener slot first)))
      (Some (record { plain = put_slot opener slot second; shown = [] }))
  slot-then opener slot first second same =
      ap (λ (p : Plain). Some (quiet (with_slot opener slot p))) same
      ∙ ap (λ (p : Plain). Some (quiet p)) (put-same opener slot second)

  got-is : (opener : Option Opener) (slot : Option Slot)
      → got_made number one opener plain slot
      ≡ option_map (by_deed opener (OfProcess number) plain) (got_deed (core_of one) slot)
  got-is opener None = refl
  got-is opener (Some Empty) = refl
  got-is opener (Some (Waiting words)) = refl
  got-is opener (Some Taken) = refl
  got-is opener (Some (Answered words)) =
      slot-then opener Empty (with_state number one (process.after_got one.state words) plain) _
      (state-is (process.after_got one.state words))

  at-point : (stands : Point)
      → step_at site number one plain stands
      ≡ option_map (by_deed (touched_at site number (core_of one) stands) (OfProcess number) plain)
      (step_deed number (core_of one) (slot_of plain (touched_at site number (core_of one) stands)) stands)
  at-point point.Inner = ap (λ (p : Plain). Some (quiet p)) (state-is (process.after_inner one.state))
  at-point point.Ask =
      slot-then (opener_of site (who.File number (process.asked_file one.state)))
      (Waiting (process.asked_words one.state)) (with_state number one (process.after_asked one.state) plain) _
      (state-is (process.after_asked one.state))
  at-point point.Await =
      got-is (opener_of site (who.File number (process.asked_file one.state)))
      (slot_of plain (opener_of site (who.File number (process.asked_file one.state))))
  at-point point.Answer =
      slot-then (answered_by number one.hand) (Answered (process.answer_of one.state))
      (with_process number (record one { state = process.after_answered one.state; hand = None }) plain) _
      (process-is (with_core (record {
        state = process.after_answered one.state;
        hand = None;
        sectors = one.sectors;
      })) number plain one there)
  at-point point.AtCheckpoint = ap (λ (p : Plain). Some (quiet p)) (state-is (process.after_checkpoint one.state))
  at-point point.Device =
      ap (λ (p : Plain). Some (record {
        plain = p;
        shown = shown_by_device number (process.call_of one.state);
      }))
      (process-is (with_core (record {
        state = process.after_device one.state (found_by one.sectors (process.call_of one.state));
        hand = one.hand;
        sectors = written_by one.sectors (process.call_of one.state);
      })) number plain one there)
  at-point point.Take = refl
  at-point point.Ended = refl

  abbrev place_in : ℕ → Option Opener
  place_in place = Some (record { server = number; place = place })

  took-is : (place : ℕ) (slot : Option Slot)
      → take_slot number place one plain slot
      ≡ option_map (by_deed (place_in place) (OfProcess number) plain) (took_deed place (core_of one) slot)
  took-is place None = refl
  took-is place (Some Empty) = refl
  took-is place (Some Taken) = refl
  took-is place (Some (Answered words)) = refl
  took-is place (Some (Waiting words)) =
      let core : Core = record {
        state = process.after_took one.state words;
        hand = Some place;
        sectors = one.sectors;
      } in
      ap (λ (p : Plain). Some (quiet p))
      (process-is (λ (x : PlainProcess). slot_into place Taken (with_core core x)) number plain one there
      ∙ ap (λ (all : List PlainProcess). record plain { processes = all })
      (sym (alter-twice (with_core core) (slot_into place Taken) plain.processes number)))

  slot-is : (place : ℕ) → slot_of plain (place_in place) ≡ slice_get one.slots place
  slot-is place =
      ap (λ (found : Option PlainProcess).
      option_and_then (λ (server : PlainProcess). slice_get server.slots place) found) there

  take-at : (place : ℕ) (stands : Point)
      → take_at number place one plain stands
      ≡ option_map (by_deed (place_in place) (OfProcess number) plain)
      (take_deed place (core_of one) (slot_of plain (place_in place)) stands)
  take-at place point.Take =
      took-is place (slice_get one.slots place)
      ∙ ap (λ (slot : Option Slot).
      option_map (by_deed (place_in place) (OfProcess number) plain) (took_deed place (core_of one) slot))
      (sym (slot-is place))
  take-at place point.Inner = refl
  take-at place point.Ask = refl
  take-at place point.Await = refl
  take-at place point.Answer = refl
  take-at place point.AtCheckpoint = refl
  take-at place point.Device = refl
  take-at place point.Ended = refl

module _ (site : Site) (plain : Plain) where
  step-is : (number : ℕ) (found : Option PlainProcess) → slice_get plain.processes number ≡ found
      → step_made site number plain found
      ≡ option_map (by_deed (touched site (own_of found) (Step number)) (OfProcess number) plain)
      (deed site (own_of found) (slot_of plain (touched site (own_of found) (Step number))) (Step number))
  step-is number None there = refl
  step-is number (Some one) there = at-point site number plain one there (process.point one.state)

  take-is : (number place : ℕ) (found : Option PlainProcess) → slice_get plain.processes number ≡ found
      → take_made number place plain found
      ≡ option_map (by_deed (touched site (own_of found) (Take number place)) (OfProcess number) plain)
      (deed site (own_of found) (slot_of plain (touched site (own_of found) (Take number place))) (Take number place))
  take-is number place None there = refl
  take-is number place (Some one) there = take-at site number plain one there place (process.point one.state)

  module _ (terminal : ℕ) (opener : Option Opener) where
    request-is : (request : Option (List ℤ))
        → enter_request terminal opener plain request
        ≡ option_map (by_deed opener (OfTerminal terminal) plain) (request_deed (entered_at plain terminal) request)
    request-is None = refl
    request-is (Some words) = ap (λ (p : Plain). Some (quiet p)) (put-same opener (Waiting words) _)

    enter-is : (slot : Option Slot)
        → enter_made site terminal opener plain slot
        ≡ option_map (by_deed opener (OfTerminal terminal) plain)
        (enter_deed site terminal (entered_at plain terminal) slot)
    enter-is None = refl
    enter-is (Some Empty) = request-is (next_request site terminal (entered_at plain terminal))
    enter-is (Some (Waiting words)) = refl
    enter-is (Some Taken) = refl
    enter-is (Some (Answered words)) = refl

    print-is : (slot : Option Slot)
        → print_made terminal opener plain slot
        ≡ option_map (by_deed opener (OfTerminal terminal) plain) (print_deed terminal (entered_at plain terminal) slot)
    print-is None = refl
    print-is (Some Empty) = refl
    print-is (Some (Waiting words)) = refl
    print-is (Some Taken) = refl
    print-is (Some (Answered words)) =
        ap (λ (p : Plain). Some (record {
          plain = p;
          shown = Reply terminal (entered_at plain terminal) words ∷ [];
        })) (put-same opener Empty plain)

  pub made-is : (act : Act) → made site plain act ≡ option_map (did site plain act) (deed_in site plain act)
  made-is (Step number) = step-is number (slice_get plain.processes number) refl
  made-is (Take number place) = take-is number place (slice_get plain.processes number) refl
  made-is (Enter terminal) =
      enter-is terminal (opener_of site (who.Terminal terminal))
      (slot_of plain (opener_of site (who.Terminal terminal)))
  made-is (Print terminal) =
      print-is terminal (opener_of site (who.Terminal terminal))
      (slot_of plain (opener_of site (who.Terminal terminal)))
