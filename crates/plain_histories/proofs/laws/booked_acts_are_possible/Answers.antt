use Rattle.std.proofs.Common.{[], reverse, ap, is_some}
use Rattle.std.specs.Option.{option_map, unwrap_or}
use Rattle.plain_semantics.specs.Machine.{Made}
use Rattle.plain_histories.proofs.Possible.{booked-ran}
use Rattle.plain_histories.proofs.laws.booked_acts_are_possible.Goals as goal

pub returns : goal.returns
returns c = record {
  possible = λ site acts shown ledger regular booked. ap is_some (booked-ran regular booked).ran;
  shown = λ site acts shown ledger regular booked.
      ap (λ m. unwrap_or (option_map (λ (m : Made). m.shown) m) []) (booked-ran regular booked).ran;
  machine = λ site acts shown ledger regular booked. let run =
      booked-ran regular booked in (record { plain = run.plain; shown = reverse shown }, run.ran, run.agrees);
}
