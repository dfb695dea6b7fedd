-- How many processors, processes and terminals there are, of which the lines of a schedule name some.
use Rattle.std.specs.Prelude.{length}
use Rattle.tal_tree.specs.declared.site.Site.{Site}
use Rattle.player.specs.declared.standing.Sizes.{Sizes}

-- those of a site
abbrev pub sizes_of : Site → Sizes
sizes_of site =
    record { processors = site.processors; processes = length site.processes; terminals = length site.terminals }
