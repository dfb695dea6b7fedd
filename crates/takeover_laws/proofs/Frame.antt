-- What others do leaves a process as it is.
use Rattle.std.proofs.Common.{ℕ, ◌+◌, ◌≤◌, List, length, arith}
use Rattle.tal_tree.specs.declared.act.Act.{Act}
use Rattle.tal_tree.specs.declared.site.Site.{Site}
use Rattle.tal_tree.specs.declared.site.ProcessSpec.{ProcessSpec}
use Rattle.gd_words.specs.declared.message.Request.{Request}
use Rattle.gd_words.specs.declared.message.Reply.{Reply}
use Rattle.world_semantics.specs.Core.{Deed}
use Rattle.world_semantics.specs.World.{Copy, Pair}
use Rattle.world_semantics.specs.Kept.{Enters, holds_on, repeats, begins, keeps}
use Rattle.plain_histories.specs.Ledgers.{Ledger}
use Rattle.plain_histories.proofs.Held.{held-stays}
use Rattle.takeover_laws.specs.Invariant.{Stage, IsLead, is_level, is_applied, is_behind, FirstLeads, with_other, IsLed}
use Rattle.takeover_laws.specs.Invariant.{by_first, by_second, IsAsked, IsAnswered, IsSound}
use Rattle.takeover_laws.proofs.Settled.{IsLeft, Keeps}

module _ {site : Site} {ledger more : Ledger} {number : ℕ} {spec : ProcessSpec}
    (left : IsLeft site ledger more number) where
  lead-frame : {deeds : List Deed} {copy : Copy} {stage : Stage} → IsLead site ledger number spec deeds copy stage
      → IsLead site more number spec deeds copy stage
  lead-frame (is_level is held pos done sent) = is_level is (held-stays left.waits held) pos done sent
  lead-frame (is_applied before is split pos done) = is_applied before is split pos done
  lead-frame (is_behind since next before is split one all pos done unsent) =
      is_behind since next before is split one all pos done unsent

  leads-frame : {deeds : List Deed} {pair : Pair} → FirstLeads site ledger number spec deeds pair
      → FirstLeads site more number spec deeds pair
  leads-frame (with_other role lead other dated) = with_other role (lead-frame lead) other dated

  led-frame : {pair : Pair} → IsLed site ledger number spec (ledger.deeds number) pair
      → IsLed site more number spec (more.deeds number) pair
  led-frame (by_first leads) = rw left.deeds (by_first (leads-frame leads))
  led-frame (by_second leads) = rw left.deeds (by_second (leads-frame leads))

pub asked-more : (site : Site) {ledger more : Ledger} → Keeps ledger more → (request : Request)
    → IsAsked site ledger request → IsAsked site more request
asked-more site stay request asked = (asked.0, asked.1, stay.asked asked.0 request.number request.words asked.2)

pub answered-more : {ledger more : Ledger} → Keeps ledger more → (reply : Reply) → IsAnswered ledger reply
    → IsAnswered more reply
answered-more stay reply answered =
    stay.answered (record { server = reply.process; place = reply.opener }) reply.number reply.words answered

pub process-frame : {site : Site} {ledger more : Ledger} {events number : ℕ} {spec : ProcessSpec} {pair : Pair}
    (later : ℕ) → events ≤ later
    → IsLeft site ledger more number → Keeps ledger more → IsSound site ledger events number spec pair
    → IsSound site more later number spec pair
process-frame {site = site} later few left stay sound = record {
  led = led-frame left sound.led;
  sectors = rw left.deeds sound.sectors;
  waiting = λ k request among. let was = sound.waiting k request among in (was.0, asked-more site stay request was.1);
  count = rw left.deeds (let count = sound.count in omega (arith, few, count));
}

-- an act that enters the kept acts, or is held
pub enters-held : {number : ℕ} {act : Act} {kept after : List Act} {copy entered : Copy}
    → Enters number act kept copy entered after
    → length entered.held + length after ≤ length copy.held + length kept + 1
enters-held (holds_on e) = omega arith
enters-held (repeats e less) = omega arith
enters-held (begins e most take) = omega arith
enters-held (keeps e most take) = omega arith
