use Rattle.std.proofs.Common.{◌≡◌, take, map}
use Rattle.node_links.specs.Routing.{first_route}
use Rattle.node_links.proofs.routes.Routes.new.Given as goal

abbrev pub invariant-loop-process : goal.invariant-loop-process
invariant-loop-process l = l.routes.items ≡ map first_route (take l.process-index l.site.processes)
