use Rattle.std.proofs.Common.{◌≤◌, subst, sym}
use Rattle.std.specs.Prelude.{Some}
use Rattle.command_dues.specs.packet_runs.specs.Runs.{course_on, packet_rules}
use Rattle.schedule_loop.specs.Ends.{CanBePlayed}
use Rattle.command_dues.specs.site_machine.specs.Needs.{IsReady}
use Rattle.tal_tree.specs.declared.site.Site.{Site}
use Rattle.runner.proofs.sweep.swept.Goals as goal

pub sweep-requires-clause-few : goal.sweep-requires-clause-few
sweep-requires-clause-few c =
    subst (λ (site : Site). site.processors ≤ 16) (sym c.in_ok-site.ensures)
    ((c.an_accepted_deck_meets_the_premises.ensures.laid_out c.requires.spelt.0 c.args.deck c.requires.spelt.1).few)

pub sweep-requires-clause-can : goal.sweep-requires-clause-can
sweep-requires-clause-can c = λ stop.
    subst (λ lines. CanBePlayed packet_rules IsReady (course_on c.in_ok-site.site lines (Some stop)))
    (sym c.as_slice.ensures)
    (subst (λ site. CanBePlayed packet_rules IsReady (course_on site c.args.deck.lines (Some stop)))
    (sym c.in_ok-site.ensures)
    (c.an_accepted_deck_meets_the_premises.ensures.can c.requires.spelt.0 c.args.deck (Some stop) c.requires.spelt.1
    c.requires.accepted))
