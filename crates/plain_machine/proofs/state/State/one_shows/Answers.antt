use Rattle.std.proofs.Common.{◌∙◌, sym, arith}
use Rattle.plain_machine.proofs.Shows.{step-shows}
use Rattle.plain_machine.proofs.Writes.{write-at}
use Rattle.plain_machine.proofs.state.State.one_shows.Goals as goal

pub shown_there-requires : goal.shown_there-requires
shown_there-requires c =
    omega (
      arith,
      c.requires.room,
      write-at c.args.self.now.processes c.args.number c.args.one.now c.requires.there,
    )

pub returns : goal.returns
returns c =
    c.shown_there.ensures
    ∙ sym (step-shows c.args._wires.now c.args.number c.args.one.now c.args.self.now c.requires.there)
