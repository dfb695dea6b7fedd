use Rattle.std.proofs.Common.{List, ℕ, Option, subst}
use Rattle.command_laws.specs.command_dues.specs.Decided.{IsDue}
use Rattle.calm_commands.proofs.Ended.{calm-ends}
use Rattle.calm_commands.proofs.laws.a_calm_run_is_not_ended_by_a_second_stop.Goals as goal

pub returns : goal.returns
returns g c =
    λ words source source_now sink sink_now outcome ends bytes acts stop deck asked told sure spelt able accepted calm.
    let before = g.S.Source.faults source in
    let now = g.S.Source.faults source_now in
    calm-ends words bytes before now acts stop deck ends.decided ends.is_written.result outcome asked spelt able
    accepted
    (subst (λ (left : Option (List ℕ)). IsDue words left before now ends.decided) told ends.is_due) ends.is_written.is
    (ends.no_read_fault sure) (c.a_deck_keeps_the_limits.ensures bytes deck spelt).site.most_processors calm
