-- An act as what it changes: what its actor has beside slots, and one slot.
use Rattle.std.proofs.Common.{◌≡◌, ℕ, zero, suc, ◌+◌, ℤ, List, [], ◌∷◌, Option, Some, None, slice_get}
use Rattle.std.proofs.Common.{slice_set, refl, ap}
use Rattle.std.proofs.Common.{sym}
use Rattle.tal_tree.specs.declared.act.Act.{Act}
use Rattle.tal_tree.specs.declared.act.Act.TheVariants.{Step, Take, Enter, Print}
use Rattle.tal_tree.specs.declared.act.Shown.{Shown}
use Rattle.tal_tree.specs.declared.act.Shown.TheVariants.{Reply}
use Rattle.tal_tree.specs.declared.site.Site.{Site}
use Rattle.tal_tree.specs.declared.site.Who.TheVariants as who
use Rattle.plain_semantics.specs.process_semantics.specs.declared.point.Point.{Point}
use Rattle.plain_semantics.specs.process_semantics.specs.declared.point.Point.TheVariants as point
use Rattle.plain_semantics.specs.process_semantics.specs.Process as process
use Rattle.plain_semantics.specs.declared.slot.Opener.{Opener}
use Rattle.plain_semantics.specs.declared.slot.Slot.{Slot}
use Rattle.plain_semantics.specs.declared.slot.Slot.TheVariants.{Empty, Waiting, Taken, Answered}
use Rattle.plain_semantics.specs.Openers.{opener_of}
use Rattle.plain_semantics.specs.Machine.{Made, Plain, PlainProcess, answered_by}
use Rattle.plain_semantics.specs.Machine.{entered_at, found_by, next_request}
use Rattle.plain_semantics.specs.Machine.{shown_by_device, slot_of, slot_put}
use Rattle.plain_semantics.specs.Machine.{with_slot, written_by}

-- Lists of processes

abbrev pub alter : ℕ → (PlainProcess → PlainProcess) → List PlainProcess → List PlainProcess
alter number change [] = []
alter zero change (one ∷ rest) = change one ∷ rest
alter (suc number) change (one ∷ rest) = one ∷ alter number change rest

pub set-alter : (change : PlainProcess → PlainProcess) (all : List PlainProcess) (number : ℕ) (one : PlainProcess)
    → slice_get all number ≡ Some one → slice_set all number (change one) ≡ alter number change all
set-alter change [] number one there = absurd (cc)
set-alter change (x ∷ all) zero one there = ap (λ (y : PlainProcess). change y ∷ all) (same x one there)
  where
    same : (x one : PlainProcess) → ◌≡◌ {A = Option PlainProcess} (Some x) (Some one) → one ≡ x
    same x one e = cc
set-alter change (x ∷ all) (suc number) one there =
    ap (λ (rest : List PlainProcess). x ∷ rest) (set-alter change all number one there)

alter-none : (change : PlainProcess → PlainProcess) (all : List PlainProcess) (number : ℕ)
    → slice_get all number ≡ None → alter number change all ≡ all
alter-none change [] number none = refl
alter-none change (x ∷ all) zero none = absurd (cc)
alter-none change (x ∷ all) (suc number) none =
    ap (λ (rest : List PlainProcess). x ∷ rest) (alter-none change all number none)

pub alter-twice : (first second : PlainProcess → PlainProcess) (all : List PlainProcess) (number : ℕ)
    → alter number second (alter number first all) ≡ alter number (λ one. second (first one)) all
alter-twice first second [] number = refl
alter-twice first second (x ∷ all) zero = refl
alter-twice first second (x ∷ all) (suc number) =
    ap (λ (rest : List PlainProcess). x ∷ rest) (alter-twice first second all number)

-- in either order, if each leaves what the other changes
pub alter-both : (first second : PlainProcess → PlainProcess) (one other : ℕ) (all : List PlainProcess)
    → (one ≡ other → (x : PlainProcess) → second (first x) ≡ first (second x))
    → alter other second (alter one first all) ≡ alter one first (alter other second all)
alter-both first second one other [] leaves = refl
alter-both first second zero zero (x ∷ all) leaves = ap (λ (y : PlainProcess). y ∷ all) (leaves refl x)
alter-both first second zero (suc other) (x ∷ all) leaves = refl
alter-both first second (suc one) zero (x ∷ all) leaves = refl
alter-both first second (suc one) (suc other) (x ∷ all) leaves =
    ap (λ (rest : List PlainProcess). x ∷ rest) (alter-both first second one other all (λ e. leaves (ap suc e)))

-- What an actor has

-- what a process has beside its slots
pub record Core : Type 0 where
  pub state : process.ProcessState
  pub hand : Option ℕ
  pub sectors : List (List ℤ)

abbrev pub core_of : PlainProcess → Core
core_of one = record { state = one.state; hand = one.hand; sectors = one.sectors }

abbrev pub with_core : Core → PlainProcess → PlainProcess
with_core core one = record one { state = core.state; hand = core.hand; sectors = core.sectors }

pub data Actor : Type 0 where
  OfProcess : ℕ → Actor
  OfTerminal : ℕ → Actor

abbrev pub actor_of : Act → Actor
actor_of (Step number) = OfProcess number
actor_of (Take number place) = OfProcess number
actor_of (Enter terminal) = OfTerminal terminal
actor_of (Print terminal) = OfTerminal terminal

pub data Own : Type 0 where
  Nothing : Own
  Process : Core → Own
  Entered : ℕ → Own

abbrev pub own_of : Option PlainProcess → Own
own_of None = Nothing
own_of (Some one) = Process (core_of one)

abbrev pub own : Plain → Actor → Own
own plain (OfProcess number) = own_of (slice_get plain.processes number)
own plain (OfTerminal terminal) = Entered (entered_at plain terminal)

abbrev pub altered : ℕ → (PlainProcess → PlainProcess) → Plain → Plain
altered number change plain = record plain { processes = alter number change plain.processes }

abbrev pub put_own : Actor → Own → Plain → Plain
put_own (OfProcess number) (Process core) plain = altered number (with_core core) plain
put_own (OfProcess number) Nothing plain = plain
put_own (OfProcess number) (Entered count) plain = plain
put_own (OfTerminal terminal) (Entered count) plain =
    record plain { entered = slice_set plain.entered terminal count }
put_own (OfTerminal terminal) Nothing plain = plain
put_own (OfTerminal terminal) (Process core) plain = plain

-- The slot that an act reads or changes

abbrev pub slot_into : ℕ → Slot → PlainProcess → PlainProcess
slot_into place slot one = record one { slots = slice_set one.slots place slot }

abbrev pub put_slot : Option Opener → Slot → Plain → Plain
put_slot None slot plain = plain
put_slot (Some opener) slot plain = altered opener.server (slot_into opener.place slot) plain

abbrev pub touched_at : Site → ℕ → Core → Point → Option Opener
touched_at site number core point.Inner = None
touched_at site number core point.Ask = opener_of site (who.File number (process.asked_file core.state))
touched_at site number core point.Await = opener_of site (who.File number (process.asked_file core.state))
touched_at site number core point.Answer = answered_by number core.hand
touched_at site number core point.AtCheckpoint = None
touched_at site number core point.Device = None
touched_at site number core point.Take = None
touched_at site number core point.Ended = None

abbrev pub touched_by : Site → ℕ → Own → Option Opener
touched_by site number (Process core) = touched_at site number core (process.point core.state)
touched_by site number Nothing = None
touched_by site number (Entered count) = None

abbrev pub touched : Site → Own → Act → Option Opener
touched site has (Step number) = touched_by site number has
touched site has (Take number place) = Some (record { server = number; place = place })
touched site has (Enter terminal) = opener_of site (who.Terminal terminal)
touched site has (Print terminal) = opener_of site (who.Terminal terminal)

-- What an act does

-- what its actor has after it, what stands in its slot, and what it shows
pub record Deed : Type 0 where
  pub after : Own
  pub slot : Slot
  pub shown : List Shown

abbrev pub with_state_of : Core → process.ProcessState → Own
with_state_of core state = Process (record core { state = state })

abbrev pub inner_deed : Own → Option Deed
inner_deed after = Some (record { after = after; slot = Empty; shown = [] })

abbrev pub got_deed : Core → Option Slot → Option Deed
got_deed core (Some (Answered words)) = inner_deed (with_state_of core (process.after_got core.state words))
got_deed core (Some Empty) = None
got_deed core (Some (Waiting words)) = None
got_deed core (Some Taken) = None
got_deed core None = None

abbrev pub step_deed : ℕ → Core → Option Slot → Point → Option Deed
step_deed number core slot point.Inner = inner_deed (with_state_of core (process.after_inner core.state))
step_deed number core slot point.Ask = Some (record {
  after = with_state_of core (process.after_asked core.state);
  slot = Waiting (process.asked_words core.state);
  shown = [];
})
step_deed number core slot point.Await = got_deed core slot
step_deed number core slot point.Answer = Some (record {
  after = Process (record core { state = process.after_answered core.state; hand = None });
  slot = Answered (process.answer_of core.state);
  shown = [];
})
step_deed number core slot point.AtCheckpoint = inner_deed (with_state_of core (process.after_checkpoint core.state))
step_deed number core slot point.Device = Some (record {
  after = Process (record core {
    state = process.after_device core.state (found_by core.sectors (process.call_of core.state));
    sectors = written_by core.sectors (process.call_of core.state);
  });
  slot = Empty;
  shown = shown_by_device number (process.call_of core.state);
})
step_deed number core slot point.Take = None
step_deed number core slot point.Ended = None

abbrev pub took_deed : ℕ → Core → Option Slot → Option Deed
took_deed place core (Some (Waiting words)) = Some (record {
  after = Process (record core { state = process.after_took core.state words; hand = Some place });
  slot = Taken;
  shown = [];
})
took_deed place core (Some Empty) = None
took_deed place core (Some Taken) = None
took_deed place core (Some (Answered words)) = None
took_deed place core None = None

abbrev pub take_deed : ℕ → Core → Option Slot → Point → Option Deed
take_deed place core slot point.Take = took_deed place core slot
take_deed place core slot point.Inner = None
take_deed place core slot point.Ask = None
take_deed place core slot point.Await = None
take_deed place core slot point.Answer = None
take_deed place core slot point.AtCheckpoint = None
take_deed place core slot point.Device = None
take_deed place core slot point.Ended = None

abbrev pub request_deed : ℕ → Option (List ℤ) → Option Deed
request_deed count None = None
request_deed count (Some words) = Some (record { after = Entered (count + 1); slot = Waiting words; shown = [] })

abbrev pub enter_deed : Site → ℕ → ℕ → Option Slot → Option Deed
enter_deed site terminal count (Some Empty) = request_deed count (next_request site terminal count)
enter_deed site terminal count (Some (Waiting words)) = None
enter_deed site terminal count (Some Taken) = None
enter_deed site terminal count (Some (Answered words)) = None
enter_deed site terminal count None = None

abbrev pub print_deed : ℕ → ℕ → Option Slot → Option Deed
print_deed terminal count (Some (Answered words)) =
    Some (record { after = Nothing; slot = Empty; shown = Reply terminal count words ∷ [] })
print_deed terminal count (Some Empty) = None
print_deed terminal count (Some (Waiting words)) = None
print_deed terminal count (Some Taken) = None
print_deed terminal count None = None

-- by what its actor has, and what stands in its slot
abbrev pub deed : Site → Own → Option Slot → Act → Option Deed
deed site (Process core) slot (Step number) = step_deed number core slot (process.point core.state)
deed site (Process core) slot (Take number place) = take_deed place core slot (process.point core.state)
deed site (Entered count) slot (Enter terminal) = enter_deed site terminal count slot
deed site (Entered count) slot (Print terminal) = print_deed terminal count slot
deed site _ slot act = None

-- in a state of the machine
abbrev pub touched_in : Site → Plain → Act → Option Opener
touched_in site plain act = touched site (own plain (actor_of act)) act

abbrev pub deed_in : Site → Plain → Act → Option Deed
deed_in site plain act = deed site (own plain (actor_of act)) (slot_of plain (touched_in site plain act)) act

abbrev pub carried : Option Opener → Actor → Deed → Plain → Plain
carried opener actor one plain = put_slot opener one.slot (put_own actor one.after plain)

abbrev pub did : Site → Plain → Act → Deed → Made
did site plain act one =
    record { plain = carried (touched_in site plain act) (actor_of act) one plain; shown = one.shown }

-- An act does its deed

pub put-same : (opener : Option Opener) (slot : Slot) (plain : Plain)
    → with_slot opener slot plain ≡ put_slot opener slot plain
put-same None slot plain = refl
put-same (Some opener) slot plain = by (slice_get plain.processes opener.server) refl
  where
    by : (server : Option PlainProcess) → slice_get plain.processes opener.server ≡ server
        → slot_put opener slot plain server ≡ put_slot (Some opener) slot plain
    by None there =
        ap (λ (all : List PlainProcess). record plain { processes = all })
        (sym (alter-none (slot_into opener.place slot) plain.processes opener.server there))
    by (Some server) there =
        ap (λ (all : List PlainProcess). record plain { processes = all })
        (set-alter (slot_into opener.place slot) plain.processes opener.server server there)
