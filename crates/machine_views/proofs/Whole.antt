-- What is told of a world, part by part.
use Rattle.std.proofs.Common.{◌≡◌, ◌∙◌, map, ap}
use Rattle.world_semantics.specs.World.{World}
use Rattle.machine_views.specs.Views.{copy_views, each_at, downs_in, sector_views, terminal_view, view_of}
use Rattle.site_machine.specs.Stopped.{stopped_from}
use Rattle.machine_views.specs.declared.views.View.{View}

-- a view with the parts of a world's is the world's
pub is-view : (w : World) (view : View) → view.stopped ≡ stopped_from 0 w.stopped → view.reloads ≡ w.reloads
    → view.down ≡ downs_in w.downs
    → view.copies ≡ each_at copy_views 0 w.processes
    → view.terminals ≡ map terminal_view w.terminals → view.sectors ≡ each_at sector_views 0 w.processes
    → view ≡ view_of w
is-view w view stopped reloads down copies terminals sectors =
    ap (λ part. record view { stopped = part }) stopped
    ∙ ap (λ part. record view { stopped = stopped_from 0 w.stopped; reloads = part }) reloads
    ∙ ap (λ part. record view { stopped = stopped_from 0 w.stopped; reloads = w.reloads; down = part }) down
    ∙ ap (λ part. record (view_of w) { copies = part; terminals = view.terminals; sectors = view.sectors }) copies
    ∙ ap (λ part. record (view_of w) { terminals = part; sectors = view.sectors }) terminals
    ∙ ap (λ part. record (view_of w) { sectors = part }) sectors
