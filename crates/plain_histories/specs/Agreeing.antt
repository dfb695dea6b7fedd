-- The machine of single processes as a ledger says it is.
use Rattle.std.specs.Prelude.{◌≡◌, ℕ, List, length, map, slice_get, Some}
use Rattle.tal_tree.specs.declared.site.ProcessSpec.{ProcessSpec}
use Rattle.tal_tree.specs.declared.site.Site.{Site}
use Rattle.tal_tree.specs.declared.site.TerminalSpec.{TerminalSpec}
use Rattle.tal_tree.specs.declared.site.Who.{Who}
use Rattle.plain_semantics.specs.declared.slot.Opener.{Opener}
use Rattle.plain_semantics.specs.declared.slot.Slot.{Slot}
use Rattle.plain_semantics.specs.Machine.{Plain, PlainProcess, slot_at}
use Rattle.plain_semantics.specs.Openers.{opener_of}
use Rattle.process_histories.specs.whole_states.specs.Processes.{IsRegularKind}
use Rattle.process_histories.specs.world_semantics.specs.Core.{Core, Deed}
use Rattle.process_histories.specs.Devices.{sectors_after, FoundWhatStood}
use Rattle.process_histories.specs.Histories.{HasDone}
use Rattle.plain_histories.specs.Ledgers.{Ledger, requests_of, taken_of, answered_of, replies_of}
use Rattle.plain_histories.specs.Slots.{IsSlot}

-- the program of each process of a site is regular
abbrev pub AreRegular : Site → Type 0
AreRegular site =
    (number : ℕ) (spec : ProcessSpec) → slice_get site.processes number ≡ Some spec → IsRegularKind spec.what

-- a process is as these deeds leave it
pub record StandsFor (site : Site) (number : ℕ) (spec : ProcessSpec) (deeds : List Deed) (one : PlainProcess) :
    Type 0 where
  pub core : Core
  pub done : HasDone site number spec deeds core
  pub state : one.state ≡ core.state
  pub hand : one.hand ≡ core.receive.in_hand
  pub sectors : one.sectors ≡ map (λ stored. stored.words) (sectors_after spec.what deeds)
  pub found : FoundWhatStood spec.what deeds

-- the slot that a ledger leaves to an opener
abbrev pub HasSlotOf : Ledger → Who → Opener → Slot → Type 0
HasSlotOf ledger one opener slot =
    IsSlot (requests_of ledger one) (taken_of ledger opener) (answered_of ledger opener) (replies_of ledger one) slot

-- each process is as its deeds leave it, each slot as the ledger leaves it, and each terminal has entered as often
pub record Agrees (site : Site) (plain : Plain) (ledger : Ledger) : Type 0 where
  pub processes : (number : ℕ) (spec : ProcessSpec) → slice_get site.processes number ≡ Some spec
      → (one : PlainProcess) × (slice_get plain.processes number ≡ Some one)
      × StandsFor site number spec (ledger.deeds number) one
  pub slots : (one : Who) (opener : Opener) → opener_of site one ≡ Some opener
      → (slot : Slot) × (slot_at plain opener ≡ Some slot) × HasSlotOf ledger one opener slot
  pub entered : (terminal : ℕ) (spec : TerminalSpec) → slice_get site.terminals terminal ≡ Some spec
      → slice_get plain.entered terminal ≡ Some (length (ledger.entered terminal))
