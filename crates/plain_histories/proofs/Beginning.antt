-- At the beginning the machine agrees with the empty ledger.
use Rattle.std.proofs.Common.{◌≡◌, ℕ, zero, suc, ◌+◌, List, [], ◌∷◌, map, replicate, Some, option_and_then, slice_get}
use Rattle.std.proofs.Common.{refl, ap, ◌∙◌, arith}
use Rattle.tal_tree.specs.declared.site.Kind.{Kind}
use Rattle.tal_tree.specs.declared.site.Kind.TheVariants as kind
use Rattle.tal_tree.specs.declared.site.OpenerSpec.{OpenerSpec}
use Rattle.tal_tree.specs.declared.site.ProcessSpec.{ProcessSpec}
use Rattle.tal_tree.specs.declared.site.Site.{Site}
use Rattle.tal_tree.specs.declared.site.TerminalSpec.{TerminalSpec}
use Rattle.tal_tree.specs.declared.site.Who.{Who}
use Rattle.tal_tree.specs.declared.site.Who.TheVariants as who
use Rattle.plain_semantics.specs.process_semantics.specs.State.{zeros}
use Rattle.plain_semantics.specs.Machine.{PlainProcess, process_at_first, processes_at_first, plain_start}
use Rattle.plain_semantics.specs.Machine.{sectors_at_first, slot_at}
use Rattle.plain_semantics.specs.Openers.{openers_of}
use Rattle.plain_semantics.specs.declared.slot.Opener.{Opener}
use Rattle.plain_semantics.specs.declared.slot.Slot.TheVariants.{Empty}
use Rattle.process_histories.specs.disc_device.specs.Sectors.{Stored, blank}
use Rattle.process_histories.specs.world_semantics.specs.Core.{core_at_boot}
use Rattle.process_histories.specs.world_semantics.specs.World.{device_at_boot}
use Rattle.process_histories.specs.world_semantics.proofs.Lists.{some-same}
use Rattle.process_histories.specs.Histories.{nothing_done}
use Rattle.plain_histories.specs.Agreeing.{Agrees, HasSlotOf}
use Rattle.plain_histories.specs.Ledgers.{empty_ledger}
use Rattle.plain_histories.specs.Slots.{is_empty}
use Rattle.plain_histories.proofs.Openers.{opener-is}

first-process : (site : Site) (from : ℕ) (specs : List ProcessSpec) (k : ℕ) (spec : ProcessSpec)
    → slice_get specs k ≡ Some spec
    → slice_get (processes_at_first site from specs) k ≡ Some (process_at_first site (from + k) spec)
first-process site from [] k spec there = absurd (cc)
first-process site from (first ∷ specs) zero spec there =
    ap (λ (s : ProcessSpec). Some (process_at_first site from s)) (some-same there)
    ∙ ap (λ n. Some (process_at_first site n spec)) (omega arith)
first-process site from (first ∷ specs) (suc k) spec there =
    first-process site (from + 1) specs k spec there ∙ ap (λ n. Some (process_at_first site n spec)) (omega arith)

blank-words : (n : ℕ) → replicate n (zeros 8) ≡ map (λ (stored : Stored). stored.words) (replicate n blank)
blank-words zero = refl
blank-words (suc n) = ap (λ rest. zeros 8 ∷ rest) (blank-words n)

first-sectors : (what : Kind) → sectors_at_first what ≡ map (λ (stored : Stored). stored.words) (device_at_boot what)
first-sectors (kind.Disc sectors mirrored) = blank-words sectors
first-sectors (kind.Pair program) = refl

first-slot : (openers : List OpenerSpec) (place : ℕ) (spec : OpenerSpec) → slice_get openers place ≡ Some spec
    → slice_get (map (λ (opener : OpenerSpec). Empty) openers) place ≡ Some Empty
first-slot [] place spec there = absurd (cc)
first-slot (first ∷ openers) zero spec there = refl
first-slot (first ∷ openers) (suc place) spec there = first-slot openers place spec there

first-entered : (specs : List TerminalSpec) (terminal : ℕ) (spec : TerminalSpec) → slice_get specs terminal ≡ Some spec
    → slice_get {X = ℕ} (map (λ (t : TerminalSpec). 0) specs) terminal ≡ Some 0
first-entered [] terminal spec there = absurd (cc)
first-entered (first ∷ specs) zero spec there = refl
first-entered (first ∷ specs) (suc terminal) spec there = first-entered specs terminal spec there

empty-slot : (one : Who) (opener : Opener) → HasSlotOf empty_ledger one opener Empty
empty-slot (who.File process file) opener = is_empty refl refl refl
empty-slot (who.Terminal terminal) opener = is_empty refl refl refl

pub beginning-agrees : (site : Site) → Agrees site (plain_start site) empty_ledger
beginning-agrees site = record {
  processes = λ number spec there. (
    process_at_first site number spec,
    first-process site 0 site.processes number spec there ∙ ap (λ n. Some (process_at_first site n spec)) (omega arith),
    record {
      core = core_at_boot site number spec;
      done = nothing_done;
      state = refl;
      hand = refl;
      sectors = first-sectors spec.what;
      found = tt;
    },
  );
  slots = λ one opener is. (
    Empty,
    at opener (opener-is site one opener is).server (opener-is site one opener is).named
        (opener-is site one opener is).spec (opener-is site one opener is).placed,
    empty-slot one opener,
  );
  entered = λ terminal spec there. first-entered site.terminals terminal spec there;
}
  where
    at : (opener : Opener) (server : ProcessSpec) → slice_get site.processes opener.server ≡ Some server
        → (spec : OpenerSpec)
        → slice_get (openers_of site opener.server) opener.place ≡ Some spec
        → slot_at (plain_start site) opener ≡ Some Empty
    at opener server named spec placed =
        let there = first-process site 0 site.processes opener.server server named
        ∙ ap (λ n. Some (process_at_first site n server)) (omega arith) in
        ap (option_and_then (λ (one : PlainProcess). slice_get one.slots opener.place)) there
        ∙ first-slot (openers_of site opener.server) opener.place spec placed
