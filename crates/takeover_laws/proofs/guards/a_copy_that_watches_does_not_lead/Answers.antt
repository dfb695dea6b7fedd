use Rattle.std.proofs.Common.{◌≡◌, ℕ, List, ap, true}
use Rattle.tal_tree.specs.declared.site.ProcessSpec.{ProcessSpec}
use Rattle.tal_tree.specs.declared.site.Site.{Site}
use Rattle.world_semantics.specs.Core.{Deed}
use Rattle.world_semantics.specs.World.{Pair, receives}
use Rattle.plain_histories.specs.Ledgers.{Ledger}
use Rattle.takeover_laws.specs.Invariant.{FirstLeads, with_other, IsLed, by_first, by_second, exchanged}
use Rattle.takeover_laws.proofs.guards.a_copy_that_watches_does_not_lead.Goals as goal

module _ {site : Site} {ledger : Ledger} {number : ℕ} {spec : ProcessSpec} {deeds : List Deed} where
  not-first : {pair : Pair} → receives pair.first.role ≡ true → FirstLeads site ledger number spec deeds pair → ⊥
  not-first receiving (with_other role lead other dated) = cc

  neither : {pair : Pair} → receives pair.first.role ≡ true → receives pair.second.role ≡ true
      → IsLed site ledger number spec deeds pair → ⊥
  neither first second (by_first leads) = not-first first leads
  neither first second (by_second leads) = not-first second leads

  either : {pair : Pair} → IsLed site ledger number spec deeds pair
      → IsLed site ledger number spec deeds (exchanged pair)
  either (by_first leads) = by_second leads
  either (by_second leads) = by_first leads

pub returns : goal.returns
returns c = record {
  neither = λ site ledger number spec deeds pair first second led.
      neither (ap receives first) (ap receives second) led;
  blank = λ site ledger number spec deeds pair first second led. neither (ap receives first) (ap receives second) led;
  either = λ site ledger number spec deeds pair led. either led;
}
