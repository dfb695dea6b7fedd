use Rattle.std.proofs.Common.{◌+◌, ◌-◌, ◌<◌, ◌∙◌, ap, sym, length, arith}
use Rattle.plain_machine.specs.Rounds.{Ran, swept, print_of}
use Rattle.plain_machine.specs.Writes.{most_write}
use Rattle.plain_machine.proofs.Sweeps.{swept-more}
use Rattle.plain_machine.proofs.Writes.{tried-within}
use Rattle.plain_machine.proofs.ran.Ran.try_prints.Goals as goal

pub loop-terminal-preserved : goal.loop-terminal-preserved
loop-terminal-preserved c =
    let within : c.loop-terminal.terminal < length c.args.wires.now.terminals =
    omega (arith, c.loop-terminal-test.true, c.terminal_count-terminal-end.ensures) in (
      c.loop-terminal.invariant.0
          ∙ swept-more c.args.wires.now print_of c.loop-terminal.terminal (length c.args.wires.now.terminals)
          c.loop-terminal.self within
          ∙ ap (swept c.args.wires.now print_of (c.loop-terminal.terminal + 1)
          (length c.args.wires.now.terminals - (c.loop-terminal.terminal + 1))) (sym c.in_ok-try_act.ensures),
      omega (
        arith,
        c.loop-terminal.invariant.1,
        tried-within c.args.wires.now (print_of c.loop-terminal.self.plain c.loop-terminal.terminal)
            c.loop-terminal.self,
        ap (λ (ran : Ran). most_write ran.plain.processes) c.in_ok-try_act.ensures,
      ),
    )

pub try_act-requires : goal.try_act-requires
try_act-requires c = omega (
  arith,
  c.requires,
  c.loop-terminal.invariant.1,
  c.loop-terminal-test.true,
  c.terminal_count-terminal-end.ensures,
)
