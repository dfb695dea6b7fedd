use Rattle.std.proofs.Common.{rules, ◌<◌, ◌≤◌, None, length, drop, ap, ◌∙◌}
use Rattle.tal_code.specs.Words.{WordStack}
use Rattle.tal_code.proofs.Places.{take-less}
use Rattle.tal_code.proofs.stack.Stack.take_below.Goals as goal

pub returns-clause-rest : goal.returns-clause-rest
returns-clause-rest c =
    let within : c.self.inside.count ≤ length c.self.inside.slots = search rules in
    let some : 0 < c.self.inside.count = search rules in
    ap (λ below. record { top = c.self.inside.top; below = below })
    (take-less c.self.inside.slots c.self.inside.count None some within)
    ∙ ap (λ (words : WordStack). record { top = words.top; below = drop 1 words.below }) c.self.view_is
