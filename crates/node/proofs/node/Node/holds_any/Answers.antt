use Rattle.std.proofs.Common.{◌≡◌, ℕ, true, nat_lt, slice_get, subst, arith}
use Rattle.std.proofs.lemmas.Bool.{OnFalse_from, ltb-false}
use Rattle.event_parts.specs.packet_wires.specs.Idle.{holds_nothing}
use Rattle.event_parts.specs.packet_wires.specs.Nodes.{Node}
use Rattle.node.proofs.Holding.{none-holding}
use Rattle.node.proofs.node.Node.holds_any.Goals as goal

pub returns : goal.returns
returns c =
    OnFalse_from (nat_lt 0 c.self.inside.holding)
    ((other : ℕ) → holds_nothing (slice_get c.args.self.now.ends other) ≡ true)
    (λ no. subst (λ (node : Node). (other : ℕ) → holds_nothing (slice_get node.ends other) ≡ true) c.self.view_is
    (none-holding c.self.inside.ends.items
    (let counts = c.self.invariant in let least = ltb-false 0 c.self.inside.holding no in
    omega (arith, least, counts))))
