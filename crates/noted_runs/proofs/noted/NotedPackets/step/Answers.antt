use Rattle.std.proofs.Common.{Some, ap, subst, sym, ◌∙◌}
use Rattle.machine_states.specs.States.{Settles}
use Rattle.machine_states.specs.declared.effect.Effect.{Effect}
use Rattle.noted_rules.specs.packet_runs.specs.site_machine.specs.Seen.{MachineStanding}
use Rattle.noted_rules.specs.packet_runs.specs.site_machine.specs.packet_wires.specs.Play.{play}
use Rattle.noted_runs.specs.Steps.{stood_by}
use Rattle.noted_runs.proofs.Booted.{ends_with}
use Rattle.noted_runs.proofs.Settled.{done-settled, step-noted}
use Rattle.noted_runs.proofs.noted.NotedPackets.step.Goals as goal

pub returns-in_ok-note-in-Done-clause-done : goal.returns-in_ok-note-in-Done-clause-done
returns-in_ok-note-in-Done-clause-done c =
    done-settled c.args.self.now.packets.machine.state c.event.new.self.state c.note.new.self.packets.machine.state
    (ends_with c.args.self.now.site.now c.args.self.now.steps)
    (ends_with c.note.new.self.site.now c.note.new.self.steps) c.args.event
    (play c.args.self.now.packets.machine.state c.args.event)
    (subst (λ (effect : Effect). Settles (play c.args.self.now.packets.machine.state c.args.event)
    c.args.self.now.packets.machine.state effect c.event.new.self.state) c.in-Done.is c.in_ok-effect.ensures.done)
    (ap (λ (m : MachineStanding). m.state) c.in_ok-note-in-Done.ensures.machine)
    (step-noted c.from-process.result c.args.event c.args.self.now.packets.machine.state c.event.new.self.state
    c.args.self.now.site.now c.note.new.self.site.now c.args.self.now.steps c.note.new.self.steps c.in_ok-stood.stood
    (c.requires.stepped ∙ ap Some (sym c.from-process.ensures))
    (c.in_ok-stood.ensures ∙ ap stood_by c.acting.ensures)
    (ap (λ site. site.now) c.in_ok-note-in-Done.ensures.site)
    c.in_ok-note-in-Done.ensures.steps)
