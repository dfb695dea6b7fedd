-- The machine of single processes, of which all words are words, and what an act of it shows and names.
use Rattle.std.proofs.Common.{◌≡◌, ℕ, zero, suc, ◌+◌, ◌<◌, ℤ, pos, true, List, [], ◌∷◌, length}
use Rattle.std.proofs.Common.{map, slice_get, slice_set, Option, Some, None, ◌⊎◌, inl, inr, refl, sym, ap, ◌∙◌, subst}
use Rattle.std.proofs.Common.{arith, length-set}
use Rattle.std.specs.Prelude.{replicate}
use Rattle.std.specs.Option.{option_and_then, option_map, unwrap_or}
use Rattle.std.proofs.lemmas.Bool.{ltb-true}
use Rattle.std.proofs.lemmas.List.{length-replicate}
use Rattle.std.proofs.lemmas.Option.{slice_get_within}
use Rattle.gd_words.specs.declared.device.DeviceCall.{DeviceCall}
use Rattle.gd_words.specs.declared.device.DeviceCall.TheVariants as call
use Rattle.tal_tree.specs.declared.act.Act.{Act}
use Rattle.tal_tree.specs.declared.act.Act.TheVariants.{Step, Take, Enter, Print}
use Rattle.tal_tree.specs.declared.site.Kind.{Kind}
use Rattle.tal_tree.specs.declared.site.Kind.TheVariants as kind
use Rattle.tal_tree.specs.declared.site.OpenerSpec.{OpenerSpec}
use Rattle.tal_tree.specs.declared.site.ProcessSpec.{ProcessSpec}
use Rattle.tal_tree.specs.declared.site.Site.{Site}
use Rattle.tal_tree.specs.declared.site.TerminalSpec.{TerminalSpec}
use Rattle.tal_tree.specs.declared.site.Who.TheVariants as who
use Rattle.process_semantics.specs.Process as process
use Rattle.process_semantics.specs.Process.{ProcessState}
use Rattle.process_semantics.specs.State.{zeros}
use Rattle.process_semantics.specs.declared.point.Point.{Point}
use Rattle.process_semantics.specs.declared.point.Point.TheVariants as point
use Rattle.plain_semantics.specs.Machine.{Made, Plain, PlainProcess, answer_made, answered_by, device_made, enter_made}
use Rattle.plain_semantics.specs.Machine.{enter_request, entered_at, found_by, got_made, made, next_request, own_opener}
use Rattle.plain_semantics.specs.Machine.{plain_start, print_made, process_at_first, processes_at_first}
use Rattle.plain_semantics.specs.Machine.{sectors_at_first, shown_by_device, slot_of, slot_put, step_at, step_made}
use Rattle.plain_semantics.specs.Machine.{take_at, take_made, take_slot, with_process, with_slot, with_state}
use Rattle.plain_semantics.specs.Machine.{written_by}
use Rattle.plain_semantics.specs.Openers.{opener_of, opener_on, openers_of}
use Rattle.plain_semantics.specs.declared.slot.Opener.{Opener}
use Rattle.plain_semantics.specs.declared.slot.Slot.{Slot}
use Rattle.plain_semantics.specs.declared.slot.Slot.TheVariants.{Empty, Waiting, Taken, Answered}
use Rattle.told_reports.specs.report_reader.specs.Telling.{has_sectors, has_sectors_in}
use Rattle.told_reports.specs.InForm.{AreEach, IsShownOn}
use Rattle.told_reports.specs.NamesApart.{IsNamedAct}
use Rattle.shown_forms.specs.Numbers.{IsMessage}
use Rattle.shown_forms.specs.Sites.{IsTellable, IsTellableKind}
use Rattle.shown_forms.proofs.Discs.{IsSectorWords}
use Rattle.shown_forms.proofs.Kept.{IsCallOf, IsKept, answer-kept, answered-kept, asked-kept, asked-message, call-kept}
use Rattle.shown_forms.proofs.Kept.{device-kept, got-kept, inner-kept, marked-kept, start-kept, took-kept}
use Rattle.shown_forms.proofs.Lists.{IfSo, get-each, set-each, set-either, zero-words}

-- what is asked or answered
abbrev pub IsSlotKept : Slot → Type 0
IsSlotKept (Waiting words) = IsMessage words
IsSlotKept (Answered words) = IsMessage words
IsSlotKept _ = Unit {0}

-- a process of the site
pub record IsProcessKept (site : Site) (number : ℕ) (one : PlainProcess) : Type 0 where
  pub spec : ProcessSpec
  pub there : slice_get site.processes number ≡ Some spec
  pub kept : IsKept spec.what one.state
  pub seats : length one.slots ≡ length (openers_of site number)
  pub slots : AreEach IsSlotKept one.slots
  pub sectors : AreEach IsSectorWords one.sectors

pub record IsPlainKept (site : Site) (plain : Plain) : Type 0 where
  pub each : (number : ℕ) (one : PlainProcess) → slice_get plain.processes number ≡ Some one
      → IsProcessKept site number one
  pub entered : (terminal : ℕ) → entered_at plain terminal < 4294967296

-- what came of an act, if it was possible
abbrev pub IsMadeKept : Site → Act → Option Made → Type 0
IsMadeKept site act None = Unit {0}
IsMadeKept site act (Some m) =
    IsPlainKept site m.plain × AreEach (IsShownOn site) m.shown × IsNamedAct site act

module _ (site : Site) where
  -- Changes

  process-put : (plain : Plain) (number : ℕ) (changed : PlainProcess) → IsPlainKept site plain
      → IsProcessKept site number changed → IsPlainKept site (with_process number changed plain)
  process-put plain number changed is one = record {
    each = λ k other there. by k other (set-either plain.processes number changed k other there);
    entered = is.entered;
  }
    where
      by : (k : ℕ) (other : PlainProcess)
          → ((k ≡ number) × (changed ≡ other)) ⊎ (slice_get plain.processes k ≡ Some other)
          → IsProcessKept site k other
      by k other (inl e) =
          subst (λ (n : ℕ). IsProcessKept site n other) (sym e.0)
          (subst (IsProcessKept site number) e.1 one)
      by k other (inr e) = is.each k other e

  state-put : (plain : Plain) (number : ℕ) (old : PlainProcess) (state : ProcessState) → IsPlainKept site plain
      → (one : IsProcessKept site number old) → IsKept one.spec.what state
      → IsPlainKept site (with_state number old state plain)
  state-put plain number old state is one kept = process-put plain number (record old { state = state }) is (record {
    spec = one.spec;
    there = one.there;
    kept = kept;
    seats = one.seats;
    slots = one.slots;
    sectors = one.sectors;
  })

  slot-put : (plain : Plain) (opener : Opener) (slot : Slot) (o : Option PlainProcess)
      → slice_get plain.processes opener.server ≡ o → IsSlotKept slot → IsPlainKept site plain
      → IsPlainKept site (slot_put opener slot plain o)
  slot-put plain opener slot None there words is = is
  slot-put plain opener slot (Some server) there words is =
      let one = is.each opener.server server there in
      process-put plain opener.server (record server { slots = slice_set server.slots opener.place slot }) is (record {
        spec = one.spec;
        there = one.there;
        kept = one.kept;
        seats = length-set server.slots opener.place slot ∙ one.seats;
        slots = set-each IsSlotKept server.slots opener.place slot one.slots words;
        sectors = one.sectors;
      })

  slot-with : (plain : Plain) (o : Option Opener) (slot : Slot) → IsSlotKept slot → IsPlainKept site plain
      → IsPlainKept site (with_slot o slot plain)
  slot-with plain None slot words is = is
  slot-with plain (Some opener) slot words is =
      slot-put plain opener slot (slice_get plain.processes opener.server) refl words is

  slot-kept : (plain : Plain) (o : Option Opener) → IsPlainKept site plain → IfSo IsSlotKept (slot_of plain o)
  slot-kept plain None is = tt
  slot-kept plain (Some opener) is = by (slice_get plain.processes opener.server) refl
    where
      by : (o : Option PlainProcess) → slice_get plain.processes opener.server ≡ o
          → IfSo IsSlotKept (option_and_then (λ server. slice_get server.slots opener.place) o)
      by None e = tt
      by (Some server) e = get-each IsSlotKept server.slots opener.place (is.each opener.server server e).slots

  -- Steps

  module _ (plain : Plain) (is : IsPlainKept site plain) (number : ℕ) (one : PlainProcess)
      (there : slice_get plain.processes number ≡ Some one) where
    own : IsProcessKept site number one
    own = is.each number one there

    named : number < length site.processes
    named = slice_get_within site.processes number own.spec own.there

    got-is : (o : Option Opener) (slot : Option Slot) → IfSo IsSlotKept slot → process.point one.state ≡ point.Await
        → IsMadeKept site (Step number) (got_made number one o plain slot)
    got-is o None words at = tt
    got-is o (Some Empty) words at = tt
    got-is o (Some (Waiting asked)) words at = tt
    got-is o (Some Taken) words at = tt
    got-is o (Some (Answered reply)) words at = (
      slot-with (with_state number one (process.after_got one.state reply) plain) o Empty tt
          (state-put plain number one (process.after_got one.state reply) is own
          (got-kept own.spec.what one.state reply at words own.kept)),
      tt,
      named,
    )

    answer-is : process.point one.state ≡ point.Answer → IsPlainKept site (answer_made number one plain)
    answer-is at =
        let changed : PlainProcess = record one { state = process.after_answered one.state; hand = None } in
        slot-with (with_process number changed plain) (answered_by number one.hand)
        (Answered (process.answer_of one.state)) (answer-kept own.spec.what one.state own.kept)
        (process-put plain number changed is (record {
          spec = own.spec;
          there = own.there;
          kept = answered-kept own.spec.what one.state at own.kept;
          seats = own.seats;
          slots = own.slots;
          sectors = own.sectors;
        }))

    zero-sector : IsSectorWords (zeros 8)
    zero-sector = (zero-words 8, length-replicate 8 (pos 0))

    found-is : (asked : DeviceCall) → IsSectorWords (found_by one.sectors asked)
    found-is (call.Read sector) =
        by (slice_get one.sectors sector) (get-each IsSectorWords one.sectors sector own.sectors)
      where
        by : (o : Option (List ℤ)) → IfSo IsSectorWords o → IsSectorWords (unwrap_or o (zeros 8))
        by None is = zero-sector
        by (Some words) is = is
    found-is _ = zero-sector

    written-is : (asked : DeviceCall) → IsCallOf own.spec.what asked
        → AreEach IsSectorWords (written_by one.sectors asked)
    written-is (call.Write sector words written) of = set-each IsSectorWords one.sectors sector words own.sectors of.1
    written-is _ of = own.sectors

    sector-below : (what : Kind) (sector : ℕ) → IsTellableKind what → has_sectors what sector ≡ true
        → sector < 4294967296
    sector-below (kind.Disc sectors mirrored) sector tells has =
        let low = ltb-true sector sectors has in omega (arith, low, tells)
    sector-below (kind.Pair program) sector tells has = absurd (cc has)

    shown-is : IsTellable site → (asked : DeviceCall) → IsCallOf own.spec.what asked
        → AreEach (IsShownOn site) (shown_by_device number asked)
    shown-is tells (call.Write sector words written) of = (
      record {
        within = named;
        there = ap (λ (o : Option ProcessSpec). has_sectors_in o sector) own.there ∙ of.0;
        small = sector-below own.spec.what sector (tells.processes number own.spec own.there) of.0;
        words = of.1.0;
        eight = of.1.1;
      },
      tt,
    )
    shown-is tells _ of = tt

    device-is : IsTellable site → process.point one.state ≡ point.Device
        → IsMadeKept site (Step number) (Some (device_made number one plain (process.call_of one.state)))
    device-is tells at =
        let asked = process.call_of one.state in
        let of = call-kept own.spec.what one.state own.kept in (
          process-put plain number (record one {
            state = process.after_device one.state (found_by one.sectors asked);
            sectors = written_by one.sectors asked;
          }) is (record {
            spec = own.spec;
            there = own.there;
            kept = device-kept own.spec.what one.state (found_by one.sectors asked) (found-is asked) own.kept;
            seats = own.seats;
            slots = own.slots;
            sectors = written-is asked of;
          }),
          shown-is tells asked of,
          named,
        )

    step-is : IsTellable site → (p : Point) → process.point one.state ≡ p
        → IsMadeKept site (Step number) (step_at site number one plain p)
    step-is tells point.Inner at = (
      state-put plain number one (process.after_inner one.state) is own (inner-kept own.spec.what one.state own.kept),
      tt,
      named,
    )
    step-is tells point.Ask at = (
      slot-with (with_state number one (process.after_asked one.state) plain) (own_opener site number one)
          (Waiting (process.asked_words one.state)) (asked-message own.spec.what one.state own.kept)
          (state-put plain number one (process.after_asked one.state) is own
          (asked-kept own.spec.what one.state at own.kept)),
      tt,
      named,
    )
    step-is tells point.Await at =
        got-is (own_opener site number one) (slot_of plain (own_opener site number one))
        (slot-kept plain (own_opener site number one) is) at
    step-is tells point.Answer at = (answer-is at, tt, named)
    step-is tells point.AtCheckpoint at = (
      state-put plain number one (process.after_checkpoint one.state) is own
          (marked-kept own.spec.what one.state at own.kept),
      tt,
      named,
    )
    step-is tells point.Device at = device-is tells at
    step-is tells point.Take at = tt
    step-is tells point.Ended at = tt

    take-slot-is : (place : ℕ) (slot : Option Slot) → slice_get one.slots place ≡ slot → IfSo IsSlotKept slot
        → process.point one.state ≡ point.Take
        → IsMadeKept site (Take number place) (take_slot number place one plain slot)
    take-slot-is place None e words at = tt
    take-slot-is place (Some Empty) e words at = tt
    take-slot-is place (Some Taken) e words at = tt
    take-slot-is place (Some (Answered reply)) e words at = tt
    take-slot-is place (Some (Waiting asked)) e words at = (
      process-put plain number (record one {
        state = process.after_took one.state asked;
        hand = Some place;
        slots = slice_set one.slots place Taken;
      }) is (record {
        spec = own.spec;
        there = own.there;
        kept = took-kept own.spec.what one.state asked at words own.kept;
        seats = length-set one.slots place Taken ∙ own.seats;
        slots = set-each IsSlotKept one.slots place Taken own.slots tt;
        sectors = own.sectors;
      }),
      tt,
      (named, seat),
    )
      where
        seat : place < length (openers_of site number)
        seat = let low = slice_get_within one.slots place (Waiting asked) e in omega (arith, low, own.seats)

    take-is : (place : ℕ) (p : Point) → process.point one.state ≡ p
        → IsMadeKept site (Take number place) (take_at number place one plain p)
    take-is place point.Take at =
        take-slot-is place (slice_get one.slots place) refl (get-each IsSlotKept one.slots place own.slots) at
    take-is place point.Inner at = tt
    take-is place point.Ask at = tt
    take-is place point.Await at = tt
    take-is place point.Answer at = tt
    take-is place point.AtCheckpoint at = tt
    take-is place point.Device at = tt
    take-is place point.Ended at = tt

  -- Terminals

  -- a terminal that is an opener is there
  terminal-there : (terminal : ℕ) (opener : Opener) → opener_of site (who.Terminal terminal) ≡ Some opener
      → terminal < length site.terminals
  terminal-there terminal opener e = by (slice_get site.terminals terminal) refl e
    where
      by : (o : Option TerminalSpec) → slice_get site.terminals terminal ≡ o
          → opener_on site (who.Terminal terminal) (option_map (λ spec. spec.target) o) ≡ Some opener
          → terminal < length site.terminals
      by None there e = absurd (cc e)
      by (Some spec) there e = slice_get_within site.terminals terminal spec there

  entered-set : (all : List ℕ) (n k x : ℕ) → unwrap_or (slice_get all k) 0 < 4294967296 → x < 4294967296
      → unwrap_or (slice_get (slice_set all n x) k) 0 < 4294967296
  entered-set [] n k x low small = low
  entered-set (y ∷ all) zero zero x low small = small
  entered-set (y ∷ all) zero (suc k) x low small = low
  entered-set (y ∷ all) (suc n) zero x low small = low
  entered-set (y ∷ all) (suc n) (suc k) x low small = entered-set all n k x low small

  enter-request-is : IsTellable site → (plain : Plain) → IsPlainKept site plain → (terminal : ℕ) (opener : Opener)
      → terminal < length site.terminals → (o : Option (List ℤ))
      → next_request site terminal (entered_at plain terminal) ≡ o
      → IsMadeKept site (Enter terminal) (enter_request terminal (Some opener) plain o)
  enter-request-is tells plain is terminal opener there None e = tt
  enter-request-is tells plain is terminal opener there (Some words) e =
      let request = tells.requests terminal (entered_at plain terminal) words e in (
        slot-with (record plain { entered = slice_set plain.entered terminal (entered_at plain terminal + 1) })
            (Some opener) (Waiting words) request.0 (record {
              each = is.each;
              entered = λ k. entered-set plain.entered terminal k (entered_at plain terminal + 1) (is.entered k)
                  request.1;
            }),
        tt,
        there,
      )

  enter-is : IsTellable site → (plain : Plain) → IsPlainKept site plain → (terminal : ℕ) (opener : Opener)
      → terminal < length site.terminals → (slot : Option Slot)
      → IsMadeKept site (Enter terminal) (enter_made site terminal (Some opener) plain slot)
  enter-is tells plain is terminal opener there None = tt
  enter-is tells plain is terminal opener there (Some Empty) =
      enter-request-is tells plain is terminal opener there (next_request site terminal (entered_at plain terminal))
      refl
  enter-is tells plain is terminal opener there (Some (Waiting words)) = tt
  enter-is tells plain is terminal opener there (Some Taken) = tt
  enter-is tells plain is terminal opener there (Some (Answered words)) = tt

  print-is : (plain : Plain) → IsPlainKept site plain → (terminal : ℕ) (opener : Opener)
      → terminal < length site.terminals → (slot : Option Slot) → IfSo IsSlotKept slot
      → IsMadeKept site (Print terminal) (print_made terminal (Some opener) plain slot)
  print-is plain is terminal opener there None words = tt
  print-is plain is terminal opener there (Some Empty) words = tt
  print-is plain is terminal opener there (Some (Waiting asked)) words = tt
  print-is plain is terminal opener there (Some Taken) words = tt
  print-is plain is terminal opener there (Some (Answered reply)) words = (
    slot-with plain (Some opener) Empty tt is,
    ((there, is.entered terminal, words.0, words.1), tt),
    there,
  )

  -- Acts

  pub made-kept : IsTellable site → (plain : Plain) → IsPlainKept site plain → (act : Act)
      → IsMadeKept site act (made site plain act)
  made-kept tells plain is (Step number) = by (slice_get plain.processes number) refl
    where
      by : (o : Option PlainProcess) → slice_get plain.processes number ≡ o
          → IsMadeKept site (Step number) (step_made site number plain o)
      by None e = tt
      by (Some one) e = step-is plain is number one e tells (process.point one.state) refl
  made-kept tells plain is (Take number place) = by (slice_get plain.processes number) refl
    where
      by : (o : Option PlainProcess) → slice_get plain.processes number ≡ o
          → IsMadeKept site (Take number place) (take_made number place plain o)
      by None e = tt
      by (Some one) e = take-is plain is number one e place (process.point one.state) refl
  made-kept tells plain is (Enter terminal) = by (opener_of site (who.Terminal terminal)) refl
    where
      by : (o : Option Opener) → opener_of site (who.Terminal terminal) ≡ o
          → IsMadeKept site (Enter terminal) (enter_made site terminal o plain (slot_of plain o))
      by None e = tt
      by (Some opener) e =
          enter-is tells plain is terminal opener (terminal-there terminal opener e) (slot_of plain (Some opener))
  made-kept tells plain is (Print terminal) = by (opener_of site (who.Terminal terminal)) refl
    where
      by : (o : Option Opener) → opener_of site (who.Terminal terminal) ≡ o
          → IsMadeKept site (Print terminal) (print_made terminal o plain (slot_of plain o))
      by None e = tt
      by (Some opener) e =
          print-is plain is terminal opener (terminal-there terminal opener e) (slot_of plain (Some opener))
          (slot-kept plain (Some opener) is)

  -- The beginning

  empty-slots : (openers : List OpenerSpec) → AreEach IsSlotKept (map (λ opener. Empty) openers)
  empty-slots [] = tt
  empty-slots (opener ∷ openers) = (tt, empty-slots openers)

  as-many-slots : (openers : List OpenerSpec)
      → length (map (λ (opener : OpenerSpec). Empty) openers) ≡ length openers
  as-many-slots [] = refl
  as-many-slots (opener ∷ openers) = ap suc (as-many-slots openers)

  zero-sectors : (count : ℕ) → AreEach IsSectorWords (replicate count (zeros 8))
  zero-sectors zero = tt
  zero-sectors (suc count) = ((zero-words 8, length-replicate 8 (pos 0)), zero-sectors count)

  first-sectors : (what : Kind) → AreEach IsSectorWords (sectors_at_first what)
  first-sectors (kind.Disc sectors mirrored) = zero-sectors sectors
  first-sectors (kind.Pair program) = tt

  first-at : (number : ℕ) (specs : List ProcessSpec) (n : ℕ) (one : PlainProcess)
      → ((k : ℕ) (spec : ProcessSpec) → slice_get specs k ≡ Some spec
      → IsProcessKept site (number + k) (process_at_first site (number + k) spec))
      → slice_get (processes_at_first site number specs) n ≡ Some one → IsProcessKept site (number + n) one
  first-at number [] n one each there = absurd (cc there)
  first-at number (spec ∷ specs) zero one each there =
      let same : process_at_first site number spec ≡ one = cc there in
      let e : number + 0 ≡ number = omega arith in
      subst (IsProcessKept site (number + 0))
      (ap (λ (n : ℕ). process_at_first site n spec) e ∙ same) (each 0 spec refl)
  first-at number (spec ∷ specs) (suc n) one each there =
      let e : number + 1 + n ≡ number + suc n = omega arith in
      subst (λ (k : ℕ). IsProcessKept site k one) e
      (first-at (number + 1) specs n one
      (λ k other at. let f : number + suc k ≡ number + 1 + k = omega arith in
      subst (λ (j : ℕ). IsProcessKept site j (process_at_first site j other)) f (each (suc k) other at)) there)

  first-process : IsTellable site → (number : ℕ) (spec : ProcessSpec) → slice_get site.processes number ≡ Some spec
      → IsProcessKept site number (process_at_first site number spec)
  first-process tells number spec there = record {
    spec = spec;
    there = there;
    kept = start-kept spec.what (tells.processes number spec there);
    seats = as-many-slots (openers_of site number);
    slots = empty-slots (openers_of site number);
    sectors = first-sectors spec.what;
  }

  none-entered : (terminals : List TerminalSpec) (k : ℕ)
      → unwrap_or (slice_get (map (λ (terminal : TerminalSpec). 0) terminals) k) 0 < 4294967296
  none-entered [] k = omega arith
  none-entered (terminal ∷ terminals) zero = omega arith
  none-entered (terminal ∷ terminals) (suc k) = none-entered terminals k

  zero-plus : (k : ℕ) → k ≡ 0 + k
  zero-plus k = omega arith

  pub begins-kept : IsTellable site → IsPlainKept site (plain_start site)
  begins-kept tells = record {
    each = λ n one there. subst (λ (k : ℕ). IsProcessKept site k one) (sym (zero-plus n))
        (first-at 0 site.processes n one
        (λ k spec at. subst (λ (j : ℕ). IsProcessKept site j (process_at_first site j spec)) (zero-plus k)
        (first-process tells k spec at)) there);
    entered = none-entered site.terminals;
  }
