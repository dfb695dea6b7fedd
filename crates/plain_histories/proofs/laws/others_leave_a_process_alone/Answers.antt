use Rattle.std.proofs.Common.{◌∷◌}
use Rattle.plain_histories.proofs.Changed.{changed-other}
use Rattle.plain_histories.proofs.Held.{awaits-deed, awaits-entry, awaits-reply, held-stays}
use Rattle.plain_histories.proofs.laws.others_leave_a_process_alone.Goals as goal

pub returns : goal.returns
returns c = record {
  deeds = λ ledger number other deed apart. changed-other other number (deed ∷ ledger.deeds other) ledger.deeds apart;
  deed = λ site kept held shown ledger number other spec deed deeds before after regular booked there done advances
      apart is.
      held-stays (λ place words. awaits-deed other spec deed (record { server = number; place = place }) words regular
      booked there done advances apart) is;
  entry = λ site kept held shown ledger number terminal entered deeds regular booked even is.
      held-stays (λ place words. awaits-entry terminal entered (record { server = number; place = place }) words
      regular booked even) is;
  reply = λ site held ledger number terminal printed deeds is.
      held-stays (λ place words. awaits-reply site ledger terminal printed (record { server = number; place = place })
      words) is;
}
