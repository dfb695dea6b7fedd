use Rattle.std.proofs.Common.{rules, ◌≡◌, ◌∙◌, Some, false, ap, sym}
use Rattle.schedule.specs.declared.event.Counts.{Counts}
use Rattle.player.specs.declared.player.Player.{Player}
use Rattle.player.specs.Lines.{event_of, event_when_spared, next_event}
use Rattle.schedule_loop.specs.Seen.{player_at}
use Rattle.schedule_loop.proofs.Looking.{kept-mixed, lost-mixed}
use Rattle.schedule_loop.proofs.agenda.Schedule.next_mixed.Goals as goal

pub returns-then-loses-clause-event : goal.returns-then-loses-clause-event
returns-then-loses-clause-event g c =
    let here : c.self.inside.player ≡ record
    { sizes = c.args.self.now.sizes; standing = c.args.self.now.agenda.standing } = search rules in
    ap Some (c.spared.ensures
    ∙ ap (λ (counts : Counts). event_when_spared counts c.in_ok-event.event) (c.counts-counts.ensures
    ∙ ap (λ (player : Player). record
    (g.M.ScheduleMachine.rules.counts (g.M.ScheduleMachine.state c.args.machine.now) player) { idle = false }) here))
    ∙ lost-mixed c.args.self.now.sizes c.args.self.now.agenda.standing
    (g.M.ScheduleMachine.rules.counts (g.M.ScheduleMachine.state c.args.machine.now) (player_at c.args.self.now))
    (g.M.ScheduleMachine.rules.is_idle (g.M.ScheduleMachine.state c.args.machine.now)) c.in_ok-event.event c.requires
    (sym c.loses.ensures ∙ c.if-loses.true)
    (c.in_ok-event.ensures.event
    ∙ ap (λ (player : Player). event_of (next_event player.sizes player.standing c.tally-counts.result)) here
    ∙ ap (λ (counts : Counts). event_of (next_event c.args.self.now.sizes c.args.self.now.agenda.standing counts))
    (c.tally-counts.ensures (player_at c.args.self.now)))

pub returns-clause-event : goal.returns-clause-event
returns-clause-event g c =
    let here : c.self.inside.player ≡ record
    { sizes = c.args.self.now.sizes; standing = c.args.self.now.agenda.standing } = search rules in
    kept-mixed c.args.self.now.sizes c.args.self.now.agenda.standing
    (g.M.ScheduleMachine.rules.counts (g.M.ScheduleMachine.state c.args.machine.now) (player_at c.args.self.now))
    (g.M.ScheduleMachine.rules.is_idle (g.M.ScheduleMachine.state c.args.machine.now)) c.in_ok-event.event c.requires
    (sym c.loses.ensures ∙ c.if-loses.false)
    (c.in_ok-event.ensures.event
    ∙ ap (λ (player : Player). event_of (next_event player.sizes player.standing c.tally-counts.result)) here
    ∙ ap (λ (counts : Counts). event_of (next_event c.args.self.now.sizes c.args.self.now.agenda.standing counts))
    (c.tally-counts.ensures (player_at c.args.self.now)))
