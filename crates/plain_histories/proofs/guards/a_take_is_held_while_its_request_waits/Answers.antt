use Rattle.std.proofs.Common.{refl, ◌≡◌, ℕ, zero, suc, List, [], ◌∷◌}
use Rattle.tal_tree.specs.declared.act.Act.{Act}
use Rattle.tal_tree.specs.declared.act.Act.TheVariants.{Step, Take}
use Rattle.tal_tree.specs.declared.site.Site.{Site}
use Rattle.tal_tree.specs.declared.site.Who.TheVariants as who
use Rattle.process_histories.specs.world_semantics.specs.Core.{Deed}
use Rattle.process_histories.specs.Served.{disc_site}
use Rattle.plain_histories.specs.Booking.{AreHeld, none_held, take_held, step_held}
use Rattle.plain_histories.specs.Ledgers.{Ledger, empty_ledger}
use Rattle.plain_histories.specs.Served.{replied}
use Rattle.plain_histories.proofs.guards.a_take_is_held_while_its_request_waits.Goals as goal

alone : {site : Site} {ledger : Ledger} {number : ℕ} {acts : List Act} {deeds : List Deed}
    → AreHeld site ledger number acts deeds → acts ≡ Step 0 ∷ [] → ⊥
alone none_held same = cc
alone (take_held awaits) same = cc
alone (step_held held) same = cc

none-entered : {acts : List Act} {deeds : List Deed} → AreHeld disc_site empty_ledger 0 acts deeds
    → acts ≡ Take 0 0 ∷ [] → ⊥
none-entered none_held same = cc
none-entered (take_held (who.File process file, is, waits)) same = cc
none-entered (take_held (who.Terminal terminal, is, waits)) same = cc
none-entered (step_held held) same = cc

taken-before : {acts : List Act} {deeds : List Deed} → AreHeld disc_site replied 0 acts deeds → acts ≡ Take 0 0 ∷ [] → ⊥
taken-before none_held same = cc
taken-before (take_held (who.File zero file, is, waits)) same = cc
taken-before (take_held (who.File (suc process) file, is, waits)) same = cc
taken-before (take_held {place = zero} (who.Terminal zero, is, waits)) same = cc
taken-before (take_held {place = suc place} (who.Terminal zero, is, waits)) same = cc
taken-before (take_held (who.Terminal (suc terminal), is, waits)) same = cc
taken-before (step_held held) same = cc

pub returns : goal.returns
returns c = record {
  held = take_held (who.Terminal 0, refl, refl);
  no_take = λ deeds held. alone held refl;
  none_waits = λ deeds held. none-entered held refl;
  taken = λ deeds held. taken-before held refl;
}
