use Rattle.std.proofs.Common.{◌≡◌, Bool, Some, true, false, [], ◌∙◌, refl, ap, slice_get, subst, sym}
use Rattle.node.specs.world_semantics.specs.World.{is_whole}
use Rattle.node.specs.computed_changes.specs.Stopped.{stopped_world}
use Rattle.node.specs.machine_states.specs.States.{Settles}
use Rattle.node.specs.machine_states.specs.declared.effect.Effect.TheVariants as effect
use Rattle.node.specs.packet_wires.specs.Play.{Packeted, ended, pulled}
use Rattle.node.specs.event_parts.specs.Numbers.{CanPush}
use Rattle.open_links.specs.world_copies.specs.Room.{AllWatchersHaveRoom}
use Rattle.site_machine.specs.Needs.{DownsWithin}
use Rattle.site_machine.specs.Told.{in_tick}
use Rattle.site_machine.proofs.Stops.{stop-by}
use Rattle.site_machine.proofs.Ticks.{first-settles, none-settles, ready-watching, running-pulled, stopped-pulled}
use Rattle.site_machine.proofs.Ticks.{stopped-watching, ticked-can}
use Rattle.site_machine.proofs.whole.MachineParts.tick_and_mark.Goals as goal

pub mark_and_declare-requires-clause-watching : goal.mark_and_declare-requires-clause-watching
mark_and_declare-requires-clause-watching c =
    subst (λ (s : Packeted). AllWatchersHaveRoom s.world.processes) (sym c.in_ok-tick_wires.ensures)
    (ready-watching c.args.self.now c.requires.ready)

pub mark_and_declare-requires-clause-numbered : goal.mark_and_declare-requires-clause-numbered
mark_and_declare-requires-clause-numbered c =
    ticked-can c.args.self.now _ c.args.node c.requires.ready c.in_ok-tick_wires.ensures

pub returns-then-stopped : goal.returns-then-stopped
returns-then-stopped c =
    subst (λ (stopped : Bool). Settles (ended c.args.self.now.wires
    (pulled c.args.node c.args.processor (in_tick c.args.node c.args.self.now) (Some stopped))) c.args.self.now
    effect.Done c.mark_and_declare.new.self) (sym c.if-stopped.true) (
      refl,
      stopped-pulled c.args.self.now _ _ c.args.node c.args.processor c.in_ok-tick_wires.ensures
          c.in_ok-mark_and_declare.ensures,
    )

pub returns-then-not-is_whole : goal.returns-then-not-is_whole
returns-then-not-is_whole c =
    let runs : slice_get c.args.self.now.world.stopped c.args.processor ≡ Some false =
    c.requires.stopped ∙ ap (λ (b : Bool). Some b) c.if-stopped.false in
    let broken : is_whole c.args.self.now.world ≡ false =
    sym (ap (λ (s : Packeted). is_whole s.world) c.self.view_is) ∙ sym c.is_whole.ensures ∙ c.if-not-is_whole.true in
    subst (λ (stopped : Bool). Settles (ended c.args.self.now.wires
    (pulled c.args.node c.args.processor (in_tick c.args.node c.args.self.now) (Some stopped))) c.args.self.now
    (effect.WouldStopSecond c.args.processor) c.args.self.now) (sym c.if-stopped.false)
    (none-settles c.args.self.now _ c.args.node c.args.processor runs broken refl)

pub mark_and_declare-requires-2-clause-watching : goal.mark_and_declare-requires-2-clause-watching
mark_and_declare-requires-2-clause-watching c =
    subst (λ (s : Packeted). AllWatchersHaveRoom s.world.processes)
    (sym (c.stop.ensures ∙ ap (λ (s : Packeted). record s { world = stopped_world c.args.processor s.world })
    c.in_ok-tick_wires-2.ensures))
    (stopped-watching c.args.processor c.args.self.now.world.processes
    (ready-watching c.args.self.now c.requires.ready))

pub mark_and_declare-requires-2-clause-numbered : goal.mark_and_declare-requires-2-clause-numbered
mark_and_declare-requires-2-clause-numbered c =
    subst (λ (s : Packeted). CanPush s.wires.nodes) (sym c.stop.ensures)
    (ticked-can c.args.self.now c.tick_wires-2.new.self c.args.node c.requires.ready c.in_ok-tick_wires-2.ensures)

pub mark_and_declare-requires-2-clause-within : goal.mark_and_declare-requires-2-clause-within
mark_and_declare-requires-2-clause-within c =
    let runs : slice_get c.args.self.now.world.stopped c.args.processor ≡ Some false =
    c.requires.stopped ∙ ap (λ (b : Bool). Some b) c.if-stopped.false in
    let whole : is_whole c.args.self.now.world ≡ true =
    sym (ap (λ (s : Packeted). is_whole s.world) c.self.view_is) ∙ sym c.is_whole.ensures ∙ c.if-not-is_whole.false in
    subst (λ (s : Packeted). DownsWithin s.site s.world)
    (sym (c.stop.ensures ∙ ap (λ (s : Packeted). record s { world = stopped_world c.args.processor s.world })
    c.in_ok-tick_wires-2.ensures))
    (c.requires.ready.messages.pulled c.args.processor
    (record { world = stopped_world c.args.processor c.args.self.now.world; sendings = [] })
    (stop-by c.args.processor c.args.self.now.world true runs whole))

pub returns : goal.returns
returns c =
    let runs : slice_get c.args.self.now.world.stopped c.args.processor ≡ Some false =
    c.requires.stopped ∙ ap (λ (b : Bool). Some b) c.if-stopped.false in
    let whole : is_whole c.args.self.now.world ≡ true =
    sym (ap (λ (s : Packeted). is_whole s.world) c.self.view_is) ∙ sym c.is_whole.ensures ∙ c.if-not-is_whole.false in
    subst (λ (stopped : Bool). Settles (ended c.args.self.now.wires
    (pulled c.args.node c.args.processor (in_tick c.args.node c.args.self.now) (Some stopped))) c.args.self.now
    effect.Done c.mark_and_declare-2.new.self) (sym c.if-stopped.false)
    (first-settles c.args.self.now _ c.args.node c.args.processor runs whole
    (running-pulled c.args.self.now _ _ _ c.args.node c.args.processor c.in_ok-tick_wires-2.ensures c.stop.ensures
    c.in_ok-mark_and_declare-2.ensures))
