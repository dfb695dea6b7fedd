use Rattle.std.proofs.Common.{arith}
use Rattle.tal_table.proofs.Waits.{waits-each}
use Rattle.tal_table.proofs.works.codes_of.Goals as goal

pub code_of-requires : goal.code_of-requires
code_of-requires c =
    omega (
      arith,
      c.requires,
      waits-each c.args.arguments.now c.loop-argument.argument-index c.argument-item.result
          c.argument-item.is c.loop-argument-test.true,
    )
