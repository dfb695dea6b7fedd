use Rattle.std.proofs.Common.{Option, ◌∙◌, subst, sym}
use Rattle.traced_runs.specs.packet_runs.specs.Runs.{packet_rules}
use Rattle.schedule_loop.specs.Ends.{IsTriedBy}
use Rattle.schedule_loop.specs.declared.ran.Ending.{Ending}
use Rattle.traced_runs.proofs.Tried.{tried_by}
use Rattle.charted_runs.proofs.Drawn.{drawn_is}
use Rattle.charted_runs.proofs.events.drawn.Goals as goal

pub returns-clause-tried : goal.returns-clause-tried
returns-clause-tried c =
    subst (λ (ending : Option Ending). IsTriedBy packet_rules c.args.machine.now.state c.args.event
    c.event.new.self.state ending)
    (sym c.ending_of.ensures)
    (tried_by c.args.machine.now.state c.event.new.self.state c.args.event c.in_ok-effect.effect
    c.in_ok-effect.ensures.done)

pub returns-clause-drawn : goal.returns-clause-drawn
returns-clause-drawn c =
    let site = c.args.site.now in
    let before = c.args.machine.now.state in
    let after = c.event.new.self.state in
    let law = c.what_is_found_is_told.ensures in
    c.in_ok-tell_chart.ensures
    ∙ drawn_is site c.args.places.now c.args.number c.in_ok-noted.noted before after c.args.event
    c.in_ok-effect.effect c.args.chart.now c.in_ok-noted.ensures
    (law.findings site before after c.args.event c.in_ok-effect.effect c.in_ok-effect.ensures.done)
    (law.shown before after c.args.event c.in_ok-effect.effect c.in_ok-effect.ensures.done)
