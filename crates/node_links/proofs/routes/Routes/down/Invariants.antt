use Rattle.std.proofs.Common.{◌≡◌, ◌++◌, take, drop, map}
use Rattle.node_links.specs.Routing.{route_after_down}
use Rattle.node_links.proofs.routes.Routes.down.Given as goal

abbrev pub invariant-loop-route : goal.invariant-loop-route
invariant-loop-route l = l.route-items ≡ map (route_after_down l.processor) (take l.route-index l.initial.route-items)
    ++ drop l.route-index l.initial.route-items
