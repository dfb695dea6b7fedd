use Rattle.std.proofs.Common.{◌≡◌, ◌-◌, ◌+◌, suc, List, ◌∙◌, ap₂, arith}
use Rattle.alive_regroup.specs.Watching.{Watching}
use Rattle.link_control.specs.Ends.{End, new_end}
use Rattle.event_parts.specs.packet_wires.specs.Nodes.{Node, never_reloaded}
use Rattle.node.proofs.Loops.{pushed-all, pushed-turn}
use Rattle.node.proofs.node.Node.boot.Goals as goal

pub loop-other-preserved : goal.loop-other-preserved
loop-other-preserved c =
    let count : 17 - c.loop-other.other ≡ suc (17 - (c.loop-other.other + 1)) = omega (arith, c.loop-other-test.true) in
    pushed-turn (λ other. new_end c.args.me other never_reloaded) c.loop-other.ends.items c.push.new.self.items
    c.new.result c.loop-other.other _ _
    c.in_ok-push.ensures.items c.new.ensures count
    ∙ c.loop-other.invariant

pub returns : goal.returns
returns c =
    ap₂ the_node
    (pushed-all (λ other. new_end c.args.me other never_reloaded) c.loop-other.ends.items _ c.loop-other.other
    (17 - c.loop-other.other)
    (omega (arith, c.loop-other-test.false)) c.loop-other.invariant)
    c.new-2.ensures
  where
    the_node : List End → Watching → Node
    the_node ends watch = record { ends = ends; watch = watch }
