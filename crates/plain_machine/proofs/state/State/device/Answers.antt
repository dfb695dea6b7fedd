use Rattle.std.proofs.Common.{◌≡◌, Some, slice_get, refl, ap, sym, ◌∙◌, arith}
use Rattle.std.proofs.lemmas.Option.{slice_get_read}
use Rattle.plain_semantics.specs.Machine.{Plain}
use Rattle.plain_machine.proofs.Writes.{write-at}
use Rattle.plain_machine.proofs.state.State.device.Goals as goal

pub device-call-requires-clause-room : goal.device-call-requires-clause-room
device-call-requires-clause-room c =
    let there : slice_get c.args.self.now.processes c.from-number.result ≡ Some c.index_mut.result.now =
    ap (λ (plain : Plain). slice_get plain.processes c.from-number.result) (sym c.self.view_is)
    ∙ slice_get_read c.self.inside.processes.items _ _ _ refl (omega (arith, c.self.inside.processes.ok.0))
    c.index_mut.ensures.value in
    omega (arith, c.requires.room, write-at c.args.self.now.processes c.from-number.result c.index_mut.result.now there)
