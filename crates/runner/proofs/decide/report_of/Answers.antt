use Rattle.std.proofs.Common.{◌≤◌, ◌∙◌, length, ap, subst, sym}
use Rattle.command_dues.specs.packet_runs.specs.Ends.{IsRunOf}
use Rattle.command_dues.specs.packet_runs.specs.Runs.{course_on, packet_rules}
use Rattle.schedule_loop.specs.Ends.{CanBePlayed}
use Rattle.shown_sectors.specs.Sectors.{sectors_after}
use Rattle.command_dues.specs.site_machine.specs.Needs.{IsReady}
use Rattle.tal_tree.specs.declared.site.Site.{Site}
use Rattle.command_dues.specs.Mirrors.{mirrors_from}
use Rattle.runner.proofs.Reported.{reported}
use Rattle.runner.proofs.decide.report_of.Goals as goal

pub returns-clause-run : goal.returns-clause-run
returns-clause-run c =
    let meets = c.an_accepted_deck_meets_the_premises.ensures in
    let accepted = meets.accepted c.requires.spelt.0 c.args.deck c.requires.spelt.1 c.requires.accepted in
    let limits = meets.limits c.requires.spelt.0 c.args.deck c.requires.spelt.1 in
    let laid_out = meets.laid_out c.requires.spelt.0 c.args.deck c.requires.spelt.1 in
    let run : IsRunOf c.args.deck.site c.args.deck.lines c.args.stop c.in_ok-run.field-0 =
    subst (λ site. IsRunOf site c.args.deck.lines c.args.stop c.in_ok-run.field-0) c.in_ok-site.ensures
    (subst (λ lines. IsRunOf c.in_ok-site.site lines c.args.stop c.in_ok-run.field-0) c.as_slice.ensures
    c.in_ok-run.ensures) in
    reported c.args.deck c.args.stop _ c.in_ok-site.ensures run
    (c.a_run_of_an_accepted_site_keeps_possible_acts.ensures c.args.deck.site c.args.deck.lines c.args.stop
    c.in_ok-run.field-0 accepted limits laid_out run)
    (c.in_ok-sectors.ensures ∙ ap (λ site. sectors_after site c.shown.result.now) (c.get.ensures ∙ c.in_ok-site.ensures)
    ∙ ap (sectors_after c.args.deck.site) c.shown.ensures)
    (c.in_ok-mirrors.ensures
    ∙ ap (λ (site : Site). mirrors_from 0 site.processes c.in_ok-run.field-0.machine.state.drives)
    (c.get-2.ensures ∙ c.in_ok-site.ensures))
    c.in_ok-stopped.ensures

pub run-requires-clause-can : goal.run-requires-clause-can
run-requires-clause-can c =
    subst (λ lines. CanBePlayed packet_rules IsReady (course_on c.in_ok-site.site lines c.args.stop))
    (sym c.as_slice.ensures)
    (subst (λ site. CanBePlayed packet_rules IsReady (course_on site c.args.deck.lines c.args.stop))
    (sym c.in_ok-site.ensures)
    (c.an_accepted_deck_meets_the_premises.ensures.can c.requires.spelt.0 c.args.deck c.args.stop c.requires.spelt.1
    c.requires.accepted))

pub mirrors_of-requires : goal.mirrors_of-requires
mirrors_of-requires c =
    let limits =
    c.an_accepted_deck_meets_the_premises.ensures.limits c.requires.spelt.0 c.args.deck c.requires.spelt.1 in
    subst (λ (site : Site). length site.processes ≤ 16) (sym (c.get-2.ensures ∙ c.in_ok-site.ensures)) limits.processes
