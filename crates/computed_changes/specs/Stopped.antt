-- The stop of a processor, its mark by a node, and its reload, computed.
use Rattle.std.specs.Prelude.{ℕ, ◌+◌, ◌&&◌, nat_lt, Bool, true, false, not, [], ◌∷◌, map, slice_get, slice_set, Option}
use Rattle.std.specs.Prelude.{Some, None}
use Rattle.std.specs.List.{flat_map}
use Rattle.tal_tree.specs.declared.site.Site.{Site}
use Rattle.world_semantics.specs.World.{World, is_running, has_marked, is_marked_by_all, is_whole}
use Rattle.world_semantics.specs.Rules.{stopped_pair, pair_at_down, told_at_down, most_reloads, reloaded_from}
use Rattle.world_semantics.specs.Rules.{without_downs}
use Rattle.world_semantics.specs.Running.{Done}

-- the world after a processor stopped
abbrev pub stopped_world : ℕ → World → World
stopped_world processor w =
    record w { stopped = slice_set w.stopped processor true; processes = map (stopped_pair processor) w.processes }

abbrev pub stop_if : ℕ → World → Bool → Option Done
stop_if processor w true = Some (record { world = stopped_world processor w; sendings = [] })
stop_if processor w false = None

abbrev pub stop_where : ℕ → World → Option Bool → Option Done
stop_where processor w (Some false) = stop_if processor w (is_whole w)
stop_where processor w (Some true) = None
stop_where processor w None = None

-- the change that the stop of a processor makes; none where it isn't there or has stopped, or the world isn't whole
abbrev pub stop_done : ℕ → World → Option Done
stop_done processor w = stop_where processor w (slice_get w.stopped processor)

-- the world after a node marked a processor, with what the copies send again that take over
abbrev pub world_at_down : ℕ → ℕ → World → Done
world_at_down node processor w = record {
  world = record w {
    downs = record { node = node; down = processor } ∷ w.downs;
    processes = map (pair_at_down node processor) w.processes;
  };
  sendings = flat_map (told_at_down node processor) w.processes;
}

-- whether a node may mark a processor that has stopped: the node runs, and hasn't marked it
abbrev pub may_mark : ℕ → ℕ → World → Bool
may_mark node processor w = is_running w.stopped node && not (has_marked w.downs node processor)

abbrev pub marked_where : ℕ → ℕ → World → Bool → Option Done
marked_where node processor w true = Some (world_at_down node processor w)
marked_where node processor w false = None

abbrev pub mark_where : ℕ → ℕ → World → Option Bool → Option Done
mark_where node processor w (Some true) = marked_where node processor w (may_mark node processor w)
mark_where node processor w (Some false) = None
mark_where node processor w None = None

-- the change that a mark makes; none where the processor hasn't stopped, the node doesn't run, or it has marked the
-- processor
abbrev pub down_done : ℕ → ℕ → World → Option Done
down_done node processor w = mark_where node processor w (slice_get w.stopped processor)

-- the world after a processor was loaded again that was loaded so often before
abbrev pub reloaded_world : Site → ℕ → ℕ → World → World
reloaded_world site processor times w = record w {
  stopped = slice_set w.stopped processor false;
  reloads = slice_set w.reloads processor (times + 1);
  downs = without_downs processor w.downs;
  processes = reloaded_from site processor 0 w.processes;
}

abbrev pub reload_if : Site → ℕ → ℕ → World → Bool → Option Done
reload_if site processor times w true = Some (record { world = reloaded_world site processor times w; sendings = [] })
reload_if site processor times w false = None

abbrev pub reload_counted : Site → ℕ → World → Option ℕ → Option Done
reload_counted site processor w None = None
reload_counted site processor w (Some times) =
    reload_if site processor times w (is_marked_by_all w processor && nat_lt times most_reloads)

abbrev pub reload_where : Site → ℕ → World → Option Bool → Option Done
reload_where site processor w (Some true) = reload_counted site processor w (slice_get w.reloads processor)
reload_where site processor w (Some false) = None
reload_where site processor w None = None

-- the change that the reload of a processor makes; none where it hasn't stopped, a node that runs hasn't marked it, or
-- it was loaded again too often
abbrev pub reload_done : Site → ℕ → World → Option Done
reload_done site processor w = reload_where site processor w (slice_get w.stopped processor)
