use Rattle.std.proofs.Common.{List, ℕ, Option, subst}
use Rattle.command_laws.specs.command_dues.specs.Decided.{IsDue}
use Rattle.command_laws.proofs.Faults.{reading-failed, writing-failed}
use Rattle.calm_commands.proofs.Ended.{calm-ends, without-fault}
use Rattle.calm_commands.proofs.laws.a_calm_run_without_faults_is_idle_or_cut.Goals as goal

pub returns : goal.returns
returns g c =
    λ words source source_now sink sink_now outcome ends bytes acts stop deck asked told spelt able accepted calm read
    written.
    let before = g.S.Source.faults source in
    let now = g.S.Source.faults source_now in
    let due = subst (λ (left : Option (List ℕ)). IsDue words left before now ends.decided) told ends.is_due in
    without-fault outcome.status
    (calm-ends words bytes before now acts stop deck ends.decided ends.is_written.result outcome asked spelt able
    accepted due ends.is_written.is
    (λ fault. read (reading-failed words (g.S.Source.left source) before now ends.decided ends.is_written.result outcome
    ends.is_due ends.is_written.is fault))
    (c.a_deck_keeps_the_limits.ensures bytes deck spelt).site.most_processors calm)
    (λ fault. written (writing-failed g.K.Sink.held g.K.Sink.faults g.K.Sink.sure sink sink_now ends.decided outcome
    ends.is_written fault))
