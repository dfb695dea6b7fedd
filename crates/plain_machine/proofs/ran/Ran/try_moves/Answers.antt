use Rattle.std.proofs.Common.{◌+◌, ◌-◌, ◌<◌, ◌∙◌, ap, sym, length, arith}
use Rattle.plain_machine.specs.Rounds.{Ran, swept, next_move}
use Rattle.plain_machine.specs.Writes.{most_write}
use Rattle.plain_machine.proofs.Sweeps.{swept-more}
use Rattle.plain_machine.proofs.Writes.{tried-within}
use Rattle.plain_machine.proofs.ran.Ran.try_moves.Goals as goal

pub loop-process-preserved : goal.loop-process-preserved
loop-process-preserved c =
    let within : c.loop-process.process < length c.args.wires.now.processes =
    omega (arith, c.loop-process-test.true, c.process_count-process-end.ensures) in (
      c.loop-process.invariant.0
          ∙ swept-more c.args.wires.now next_move c.loop-process.process (length c.args.wires.now.processes)
          c.loop-process.self within
          ∙ ap (swept c.args.wires.now next_move (c.loop-process.process + 1)
          (length c.args.wires.now.processes - (c.loop-process.process + 1)))
          (sym c.in_ok-try_move.ensures),
      omega (
        arith,
        c.loop-process.invariant.1,
        tried-within c.args.wires.now (next_move c.loop-process.self.plain c.loop-process.process) c.loop-process.self,
        ap (λ (ran : Ran). most_write ran.plain.processes) c.in_ok-try_move.ensures,
      ),
    )

pub try_move-requires : goal.try_move-requires
try_move-requires c =
    omega (arith, c.requires, c.loop-process.invariant.1, c.loop-process-test.true, c.process_count-process-end.ensures)
