use Rattle.std.proofs.Common.{rules, ◌≡◌, ◌∙◌, Bool, false, ap, refl}
use Rattle.player.specs.Lines.{next_event}
use Rattle.schedule_loop.specs.Seen.{player_at}
use Rattle.schedule_loop.proofs.Planning.{asked, unasked}
use Rattle.schedule_loop.proofs.agenda.Schedule.looked.Goals as goal

pub returns-then-asks_idle : goal.returns-then-asks_idle
returns-then-asks_idle g c =
    let here : c.self.inside.player ≡ record
    { sizes = c.args.self.now.sizes; standing = c.args.self.now.agenda.standing } = search rules in
    asked c.args.self.now.sizes c.args.self.now.agenda.standing c.self.inside.player
    (g.M.ScheduleMachine.rules.counts (g.M.ScheduleMachine.state c.args.machine.now)) c.counts.result
    c.is_idle.result here c.counts.ensures
    ∙ ap (λ (idle : Bool). next_event c.args.self.now.sizes c.args.self.now.agenda.standing
    (record (g.M.ScheduleMachine.rules.counts (g.M.ScheduleMachine.state c.args.machine.now)
    (player_at c.args.self.now)) { idle = idle })) c.is_idle.ensures

pub returns-else-asks_idle : goal.returns-else-asks_idle
returns-else-asks_idle g c =
    let here : c.self.inside.player ≡ record
    { sizes = c.args.self.now.sizes; standing = c.args.self.now.agenda.standing } = search rules in
    asked c.args.self.now.sizes c.args.self.now.agenda.standing c.self.inside.player
    (g.M.ScheduleMachine.rules.counts (g.M.ScheduleMachine.state c.args.machine.now)) c.counts-else-asks_idle.result
    false here c.counts-else-asks_idle.ensures
    ∙ unasked c.args.self.now.sizes c.args.self.now.agenda.standing c.self.inside.player
    (g.M.ScheduleMachine.rules.counts (g.M.ScheduleMachine.state c.args.machine.now) (player_at c.args.self.now))
    (g.M.ScheduleMachine.rules.is_idle (g.M.ScheduleMachine.state c.args.machine.now)) here
    (c.if-asks_idle.ensures.same refl)
