use Rattle.std.proofs.Common.{ap, length, arith}
use Rattle.plain_machine.specs.Rounds.{Ran, enter_of, next_move}
use Rattle.plain_machine.specs.Writes.{most_write}
use Rattle.plain_machine.proofs.Writes.{swept-within}
use Rattle.plain_machine.proofs.ran.Ran.play_round.Goals as goal

pub try_enters-requires : goal.try_enters-requires
try_enters-requires c = omega (arith, c.requires)

pub try_moves-requires : goal.try_moves-requires
try_moves-requires c =
    omega (
      arith,
      c.requires,
      swept-within c.args.wires.now enter_of 0 (length c.args.wires.now.terminals) c.args.self.now,
      ap (λ (ran : Ran). most_write ran.plain.processes) c.in_ok-try_enters.ensures,
    )

pub try_prints-requires : goal.try_prints-requires
try_prints-requires c =
    omega (
      arith,
      c.requires,
      swept-within c.args.wires.now enter_of 0 (length c.args.wires.now.terminals) c.args.self.now,
      ap (λ (ran : Ran). most_write ran.plain.processes) c.in_ok-try_enters.ensures,
      swept-within c.args.wires.now next_move 0 (length c.args.wires.now.processes) c.try_enters.new.self,
      ap (λ (ran : Ran). most_write ran.plain.processes) c.in_ok-try_moves.ensures,
    )
