use Rattle.std.proofs.Common.{List, ℕ, Option, subst}
use Rattle.command_dues.specs.Decided.{IsDue}
use Rattle.command_laws.proofs.Verifies.{verify-ends}
use Rattle.command_laws.proofs.laws.no_report_of_a_deck_is_rejected.Goals as goal

pub returns : goal.returns
returns g c = λ words source source_now sink sink_now outcome ends bytes deck reading asked told sure is.
    let before = g.S.Source.faults source in
    let now = g.S.Source.faults source_now in
    verify-ends words bytes before now deck reading ends.decided ends.is_written.result outcome asked is
    (subst (λ (left : Option (List ℕ)). IsDue words left before now ends.decided) told ends.is_due) ends.is_written.is
    (ends.no_read_fault sure)
