-- To which processor the requests of each process go.
use Rattle.std.specs.Prelude.{ℕ, ◌==◌, if◌then◌else◌}
use Rattle.tal_tree.specs.declared.site.ProcessSpec.{ProcessSpec}
use Rattle.node_links.specs.declared.routes.Route.{Route}

-- at the beginning they go to the primary processor
abbrev pub first_route : ProcessSpec → Route
first_route process = record { primary = process.primary; backup = process.backup; goes_to = process.primary }

-- the processor of the process to which they don't go
abbrev pub other_processor : Route → ℕ
other_processor route = if route.goes_to == route.primary then route.backup else route.primary

-- after it was told to which processor they go from now on
abbrev pub route_set_to : ℕ → Route → Route
route_set_to to route = record route { goes_to = to }

-- after a processor is down: where they went there they go to the other processor
abbrev pub route_after_down : ℕ → Route → Route
route_after_down down route =
    record route { goes_to = if route.goes_to == down then other_processor route else route.goes_to }
