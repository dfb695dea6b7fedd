use Rattle.std.proofs.Common.{ap, arith}
use Rattle.plain_machine.specs.Machines.{Machine}
use Rattle.plain_machine.specs.Writes.{most_write}
use Rattle.plain_machine.proofs.Writes.{settled-within}
use Rattle.plain_machine.proofs.plain.Plain.act.Goals as goal

pub returns-clause-writes : goal.returns-clause-writes
returns-clause-writes c =
    omega (
      arith,
      settled-within c.self.inside.wires c.self.inside.state c.args.act c.made.new.self c.made.ensures.1,
      ap (λ (m : Machine). most_write m.state.processes) c.self.view_is,
    )
