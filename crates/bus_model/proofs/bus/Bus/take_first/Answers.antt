use Rattle.std.proofs.Common.{ap, drop, sym, ◌∙◌}
use Rattle.std.proofs.Math.Seq.{drop-drop}
use Rattle.bus_model.proofs.bus.Bus.take_first.Goals as goal

pub returns-clause-after : goal.returns-clause-after
returns-clause-after c =
    sym (drop-drop 1 c.self.inside.taken c.self.inside.packets.items) ∙ ap (λ xs. drop 1 xs) c.self.view_is
