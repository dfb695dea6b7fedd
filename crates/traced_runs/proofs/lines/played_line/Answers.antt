use Rattle.std.proofs.Common.{Option, ◌∙◌, subst, sym}
use Rattle.packet_runs.specs.Runs.{packet_rules}
use Rattle.schedule_loop.specs.Ends.{IsTriedBy}
use Rattle.schedule_loop.specs.declared.ran.Ending.{Ending}
use Rattle.traced_runs.proofs.Tried.{line_is, tried_by}
use Rattle.traced_runs.proofs.lines.played_line.Goals as goal

pub returns-clause-tried : goal.returns-clause-tried
returns-clause-tried c =
    subst (λ (ending : Option Ending). IsTriedBy packet_rules c.args.machine.now.state c.args.asked.event
    c.event.new.self.state ending)
    (sym c.ending_of.ensures)
    (tried_by c.args.machine.now.state c.event.new.self.state c.args.asked.event c.in_ok-effect.effect
    c.in_ok-effect.ensures.done)

pub returns-clause-line : goal.returns-clause-line
returns-clause-line c =
    let site = c.args.site.now in
    let before = c.args.machine.now.state in
    let after = c.event.new.self.state in
    let law = c.what_is_found_is_told.ensures in
    c.in_ok-line.ensures
    ∙ line_is c.args.form site c.args.places.now c.args.asked.number c.in_ok-noted.noted before after c.args.asked.event
    c.in_ok-effect.effect c.in_ok-noted.ensures
    (law.findings site before after c.args.asked.event c.in_ok-effect.effect c.in_ok-effect.ensures.done)
    (law.shown before after c.args.asked.event c.in_ok-effect.effect c.in_ok-effect.ensures.done)
