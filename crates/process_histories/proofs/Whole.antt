-- A process of a regular program that did bounded deeds is in a whole state.
use Rattle.std.proofs.Common.{◌≡◌, ◌≤◌, ℕ, zero, suc, List, [], ◌∷◌, length, map, Some, slice_get, refl, ap, sym, ◌∙◌}
use Rattle.std.proofs.Common.{arith}
use Rattle.std.specs.Option.{unwrap_or}
use Rattle.std.proofs.lemmas.List.Sums.{length-filter, count_by-le-length}
use Rattle.gd_words.specs.declared.device.DeviceCall.{DeviceCall}
use Rattle.gd_words.specs.declared.device.DeviceCall.TheVariants.{Nothing, Read, Write}
use Rattle.tal_tree.specs.declared.site.ProcessSpec.{ProcessSpec}
use Rattle.tal_tree.specs.declared.site.Site.{Site}
use Rattle.world_semantics.specs.process_semantics.specs.State.{zeros}
use Rattle.world_semantics.specs.disc_device.specs.Sectors.{Stored}
use Rattle.world_semantics.specs.checkpoint_image.specs.Behaving.{last_write_of}
use Rattle.world_semantics.specs.whole_states.specs.Processes.{IsRegularKind, IsWholeProcess}
use Rattle.world_semantics.specs.whole_states.proofs.Processes.{stays-whole, start-process, inner-process, took-process}
use Rattle.world_semantics.specs.whole_states.proofs.Processes.{asked-process}
use Rattle.world_semantics.specs.whole_states.proofs.Processes.{got-process, answered-process, checkpointed-process}
use Rattle.world_semantics.specs.whole_states.proofs.Processes.{device-process}
use Rattle.world_semantics.specs.Core.{Core, Deed, goes, checkpoints, takes, asks, gets, answers, acts}
use Rattle.world_semantics.specs.Own.{found_on}
use Rattle.process_histories.specs.Bounds.{AreBounded}
use Rattle.process_histories.specs.Devices.{sectors_after, is_write, writes_in}
use Rattle.process_histories.specs.Histories.{HasDone, nothing_done, one_more}
use Rattle.process_histories.proofs.Writes.{last-count, stored-eight}

writes-few : (deeds : List Deed) → writes_in deeds ≤ length deeds
writes-few deeds =
    let same = length-filter is_write deeds in let few = count_by-le-length is_write deeds in omega (arith, same, few)

pub bounded-before : {deed : Deed} {deeds : List Deed} → AreBounded (deed ∷ deeds) → AreBounded deeds
bounded-before is = record { count = let many = is.count in omega (arith, many); short = is.short.1 }

module _ {site : Site} {number : ℕ} {spec : ProcessSpec} where
  pub done-whole : {deeds : List Deed} {core : Core} → IsRegularKind spec.what → HasDone site number spec deeds core
      → AreBounded deeds → IsWholeProcess core.state
  done-whole regular nothing_done is = stays-whole _ (start-process spec.what regular)
  done-whole regular (one_more {before = core} done (goes at)) is =
      stays-whole _ (inner-process core.state (done-whole regular done (bounded-before is)))
  done-whole regular (one_more {before = core} done (checkpoints at)) is =
      stays-whole _ (checkpointed-process core.state at (done-whole regular done (bounded-before is)))
  done-whole regular (one_more {before = core} done (takes {words = words} block at there)) is =
      stays-whole _ (took-process core.state words at is.short.0 (done-whole regular done (bounded-before is)))
  done-whole regular (one_more {before = core} done (asks at file words)) is =
      asked-process core.state at (done-whole regular done (bounded-before is))
  done-whole regular (one_more {before = core} done (gets {words = words} at file)) is =
      stays-whole _ (got-process core.state words at (done-whole regular done (bounded-before is)))
  done-whole regular (one_more {before = core} done (answers opener block at hand known there words)) is =
      stays-whole _ (answered-process core.state at (done-whole regular done (bounded-before is)))
  done-whole regular (one_more {deeds = deeds} {before = core} done (acts {found = found} at call)) is =
      device-process core.state found at is.short.0
      (λ sectors disc same.
      let last : disc.last_write ≡ writes_in deeds = ap last_write_of (sym same) ∙ last-count done in
      let few = writes-few deeds in
      let many = is.count in omega (arith, last, few, many))
      (done-whole regular done (bounded-before is))

  -- a call finds 8 words
  pub found-eight : {deeds : List Deed} {core : Core} (call : DeviceCall) → HasDone site number spec deeds core
      → length (found_on (sectors_after spec.what deeds) call) ≡ 8
  found-eight Nothing done = refl
  found-eight (Write sector words number) done = refl
  found-eight {deeds = deeds} (Read sector) done = by (sectors_after spec.what deeds) sector (stored-eight done sector)
    where
      by : (sectors : List Stored) (sector : ℕ)
          → ((stored : Stored) → slice_get sectors sector ≡ Some stored → length stored.words ≡ 8)
          → length (unwrap_or (slice_get (map (λ (s : Stored). s.words) sectors) sector) (zeros 8)) ≡ 8
      by [] sector all = refl
      by (stored ∷ sectors) zero all = all stored refl
      by (stored ∷ sectors) (suc sector) all = by sectors sector all
