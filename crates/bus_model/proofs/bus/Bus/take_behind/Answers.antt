use Rattle.std.proofs.Common.{rules, ap, drop, length, ◌<◌, ◌∙◌}
use Rattle.std.specs.List.{remove}
use Rattle.bus_model.proofs.Taken.{drop-removed}
use Rattle.bus_model.proofs.bus.Bus.take_behind.Goals as goal

pub returns-then-there-position-2-clause-after : goal.returns-then-there-position-2-clause-after
returns-then-there-position-2-clause-after c =
    let less : c.args.position < length (drop c.self.inside.taken c.self.inside.packets.items) = search rules in
    ap (λ xs. drop c.self.inside.taken xs) c.remove.ensures.items
    ∙ drop-removed c.self.inside.taken c.args.position c.self.inside.packets.items less
    ∙ ap (λ xs. remove xs c.args.position) c.self.view_is
