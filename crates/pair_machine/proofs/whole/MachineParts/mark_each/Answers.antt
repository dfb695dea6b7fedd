use Rattle.std.proofs.Common.{◌≡◌, ◌<◌, ◌∙◌, ap, length, subst, sym, arith}
use Rattle.message_wires.specs.Play.{MachineState, marks_from}
use Rattle.world_copies.specs.Room.{AllWatchersHaveRoom}
use Rattle.pair_machine.proofs.Marks.{downs-step}
use Rattle.pair_machine.proofs.Room.{mark-counted, mark-room}
use Rattle.pair_machine.proofs.whole.MachineParts.mark_each.Goals as goal

pub mark-requires-clause-watching : goal.mark-requires-clause-watching
mark-requires-clause-watching c = c.loop-processor.invariant.watching

pub mark-requires-clause-letters : goal.mark-requires-clause-letters
mark-requires-clause-letters c =
    let count = length c.args.self.now.world.stopped in
    let same : length c.self.inside.world.world.stopped ≡ count =
    ap (λ (s : MachineState). length s.world.stopped) c.self.view_is in
    let within : c.loop-processor.processor < count =
    omega (arith, same, c.processors-processor-end.ensures, c.loop-processor-test.true) in
    mark-counted c.args.node c.loop-processor.processor count c.loop-processor.self
    (marks_from c.args.node 0 count c.args.self.now) within
    c.loop-processor.invariant.left c.requires.letters

pub loop-processor-preserved : goal.loop-processor-preserved
loop-processor-preserved c =
    let count = length c.args.self.now.world.stopped in
    let same : length c.self.inside.world.world.stopped ≡ count =
    ap (λ (s : MachineState). length s.world.stopped) c.self.view_is in
    let within : c.loop-processor.processor < count =
    omega (arith, same, c.processors-processor-end.ensures, c.loop-processor-test.true) in
    record {
      left =
          downs-step c.args.node c.loop-processor.processor count c.loop-processor.self c.mark.new.self within
          c.in_ok-mark.ensures
          ∙ c.loop-processor.invariant.left;
      watching =
          subst (λ (s : MachineState). AllWatchersHaveRoom s.world.processes) (sym c.in_ok-mark.ensures)
          (mark-room c.args.node c.loop-processor.processor c.loop-processor.self c.loop-processor.invariant.watching);
    }
