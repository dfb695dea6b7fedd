use Rattle.std.proofs.Common.{Bool, Option, refl, subst}
use Rattle.node.specs.machine_states.specs.States.{Settles}
use Rattle.node.specs.machine_states.specs.declared.effect.Effect.TheVariants as effect
use Rattle.node.specs.packet_wires.specs.Play.{ended, pulled}
use Rattle.site_machine.specs.Told.{in_tick}
use Rattle.site_machine.proofs.whole.MachineParts.tick_and_pull.Goals as goal

pub returns-in_ok-tick_wires-in-None : goal.returns-in_ok-tick_wires-in-None
returns-in_ok-tick_wires-in-None c =
    subst (λ (found : Option Bool). Settles (ended c.args.self.now.wires
    (pulled c.args.node c.args.processor (in_tick c.args.node c.args.self.now) found)) c.args.self.now
    effect.Done c.tick_wires.new.self) c.in-None.ensures (refl, c.in_ok-tick_wires-in-None.ensures)

pub returns-in_ok-effect-in-Some : goal.returns-in_ok-effect-in-Some
returns-in_ok-effect-in-Some c =
    subst (λ (found : Option Bool). Settles (ended c.args.self.now.wires
    (pulled c.args.node c.args.processor (in_tick c.args.node c.args.self.now) found)) c.args.self.now
    c.in_ok-effect-in-Some.effect c.tick_and_mark.new.self) c.in-Some.ensures c.in_ok-effect-in-Some.ensures
