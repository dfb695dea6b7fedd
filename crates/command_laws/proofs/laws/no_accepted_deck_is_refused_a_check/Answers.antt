use Rattle.std.proofs.Common.{List, ℕ, Option, subst}
use Rattle.command_dues.specs.Decided.{IsDue}
use Rattle.command_laws.proofs.Commands.{check-ends}
use Rattle.command_laws.proofs.laws.no_accepted_deck_is_refused_a_check.Goals as goal

pub returns : goal.returns
returns g c = λ words source source_now sink sink_now outcome ends bytes deck asked told sure spelt accepted.
    let before = g.S.Source.faults source in
    let now = g.S.Source.faults source_now in
    check-ends words bytes before now deck ends.decided ends.is_written.result outcome asked spelt accepted
    (subst (λ (left : Option (List ℕ)). IsDue words left before now ends.decided) told ends.is_due) ends.is_written.is
    (ends.no_read_fault sure)
