use Rattle.std.proofs.Common.{◌∙◌, ap, map}
use Rattle.machine_views.specs.Views.{copy_views, each_at, downs_in, sector_views, terminal_view}
use Rattle.machine_views.proofs.Numbered.{placed-numbered}
use Rattle.machine_views.proofs.Whole.{is-view}
use Rattle.machine_views.proofs.telling.view.Goals as goal

pub copies-requires : goal.copies-requires
copies-requires c =
    placed-numbered c.args.machine.now.state.site c.processes-processes.result.now c.processes-processes.ensures.placed

pub sectors-requires : goal.sectors-requires
sectors-requires c =
    placed-numbered c.args.machine.now.state.site c.processes-processes.result.now c.processes-processes.ensures.placed

pub returns : goal.returns
returns c =
    is-view c.args.machine.now.state.world _ c.in_ok-stopped.ensures c.in_ok-reloads.ensures
    (c.in_ok-down.ensures ∙ ap downs_in c.downs.ensures)
    (c.in_ok-copies.ensures ∙ ap (each_at copy_views 0) c.processes-processes.ensures.processes)
    (c.in_ok-terminals.ensures ∙ ap (map terminal_view) c.terminals.ensures)
    (c.in_ok-sectors.ensures ∙ ap (each_at sector_views 0) c.processes-processes.ensures.processes)
