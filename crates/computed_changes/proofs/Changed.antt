-- A checkpoint that comes as what changed does nothing, or what some whole checkpoint does.
use Rattle.std.proofs.Common.{◌≡◌, ℕ, Bool, true, false, Option, Some, None, slice_get, refl, ap, sym, subst, ◌∙◌}
use Rattle.std.specs.Option.{option_and_then, option_map}
use Rattle.tal_tree.specs.declared.site.Site.{Site}
use Rattle.change_layout.specs.Changing.{whole_of, whole_where}
use Rattle.change_layout.specs.declared.message.ChangeMessage.{ChangeMessage}
use Rattle.world_semantics.specs.checkpoint_image.specs.declared.message.ImageMessage.{ImageMessage}
use Rattle.change_layout.specs.sync_ids.specs.Changes.{fits_change}
use Rattle.world_semantics.specs.declared.which.Which.{Which}
use Rattle.world_semantics.specs.Messages.{Checkpointing}
use Rattle.world_semantics.specs.Records.{records_of}
use Rattle.world_semantics.specs.Running.{Done, in_world}
use Rattle.world_semantics.specs.World.{Pair, World, copy_of}
use Rattle.computed_changes.specs.Changed.{change_brought_to, change_done, change_step}
use Rattle.computed_changes.specs.Checkpoints.{checkpoint_step}
use Rattle.computed_changes.specs.Fitting.{depths_of}
use Rattle.computed_changes.specs.Handed.{brought_to, copy_in, handed_done, step_by}

-- it does nothing, or what a whole one does where it is handed over
pub data ComesAs (site : Site) (node : ℕ) (w : World) (done : Option Done) : Type 0 where
  as_none : done ≡ None → ComesAs site node w done
  as_whole : (message : ImageMessage) → done ≡ handed_done site node (Checkpointing message) w
      → ComesAs site node w done

pub change-as : (site : Site) (node : ℕ) (change : ChangeMessage) (w : World)
    → ComesAs site node w (change_done site node change w)
change-as site node change w = by (slice_get w.processes change.process) refl
  where
    whole : Pair → Which → ImageMessage
    whole pair k = whole_of (depths_of site change.process) (copy_of k pair).core.receive change

    made : (pair : Pair) → slice_get w.processes change.process ≡ Some pair → (k : Which) → copy_in node pair ≡ Some k
        → (fit : Bool)
        → ComesAs site node w (option_map (in_world change.process w)
        (option_and_then (λ message. checkpoint_step site change.process k pair (records_of w) message
        (copy_of k pair).role) (whole_where (depths_of site change.process) (copy_of k pair).core.receive change fit)))
    made pair there k here false = as_none refl
    made pair there k here true =
        as_whole (whole pair k) (sym (ap (brought_to site change.process node (Checkpointing (whole pair k)) w) there
        ∙ ap (λ (o : Option Which). option_map (in_world change.process w)
        (option_and_then (step_by site change.process pair (records_of w) (Checkpointing (whole pair k))) o)) here))

    at : (pair : Pair) → slice_get w.processes change.process ≡ Some pair → (k : Option Which) → copy_in node pair ≡ k
        → ComesAs site node w (option_map (in_world change.process w)
        (option_and_then (change_step site change.process pair (records_of w) change) k))
    at pair there None here = as_none refl
    at pair there (Some k) here =
        made pair there k here
        (fits_change (record { table = (copy_of k pair).core.receive; depths = depths_of site change.process })
        change.image.receive)

    by : (found : Option Pair) → slice_get w.processes change.process ≡ found
        → ComesAs site node w (change_brought_to site change.process node change w found)
    by None there = as_none refl
    by (Some pair) there = at pair there (copy_in node pair) refl

-- so what holds of nothing and of all whole checkpoints holds of it
pub change-each : (site : Site) (node : ℕ) (change : ChangeMessage) (w : World) (P : Option Done → Type 0) → P None
    → ((message : ImageMessage) → P (handed_done site node (Checkpointing message) w))
    → P (change_done site node change w)
change-each site node change w P none each = by (change-as site node change w)
  where
    by : ComesAs site node w (change_done site node change w) → P (change_done site node change w)
    by (as_none is) = subst P (sym is) none
    by (as_whole message is) = subst P (sym is) (each message)
