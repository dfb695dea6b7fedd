-- A step of a process that is looked up, makes it and is put back: the world is what its change makes of it.
use Rattle.std.proofs.Common.{◌≡◌, ℕ, List, Option, Some, None, slice_get, slice_set, refl, ap, ap₂, sym, ◌∙◌}
use Rattle.std.specs.Option.{option_map}
use Rattle.world_semantics.specs.World.{World}
use Rattle.world_semantics.specs.Messages.{Message, Sending}
use Rattle.world_semantics.specs.Running.{Done, Stepped, in_world, run_done, run_pair, step_of}
use Rattle.process_copies.specs.change_layout.specs.declared.message.ChangeMessage.{ChangeMessage}
use Rattle.process_copies.specs.computed_changes.specs.Changed.{change_brought, change_brought_to, change_step_on}
use Rattle.process_copies.specs.computed_changes.specs.Handed.{brought, brought_to, step_on}
use Rattle.process_copies.specs.Seen.{Placed, placed_after, records_after, sent_by}
use Rattle.world_semantics.specs.Records.{Records, records_of}
use Rattle.world_copies.specs.Seen.{drives_in, pairs_in}
use Rattle.world_copies.specs.SiteWorld.{SiteWorld, changed_by}
use Rattle.world_copies.specs.Told.{sent_in}
use Rattle.world_copies.proofs.Places.{drives-same, pair-at, pairs-set, set-same}

-- a process that is found in its place in a state
pub record IsFound (s : SiteWorld) (places : List Placed) (k : ℕ) (before : Placed) : Type 0 where
  pub pairs : s.world.processes ≡ pairs_in places
  pub there : slice_get places k ≡ Some before
  pub site : before.site ≡ s.site
  pub number : before.number ≡ k
  pub drives : s.drives ≡ drives_in places

pair-there : {s : SiteWorld} {places : List Placed} {k : ℕ} {before : Placed} → IsFound s places k before
    → slice_get s.world.processes k ≡ Some before.pair
pair-there {places = places} {k = k} found =
    ap (λ pairs. slice_get pairs k) found.pairs ∙ pair-at places k
    ∙ ap (option_map (λ (placed : Placed). placed.pair)) found.there

-- the change where it runs
abbrev pub step_where_run : SiteWorld → Placed → Option Stepped
step_where_run s before = step_of before.site before.number before.pair s.world.downs (records_of s.world)

-- the change where a message comes to it
abbrev pub step_where_told : SiteWorld → ℕ → Placed → Message → Option Stepped
step_where_told s node before message = step_on before.site before.number node before.pair (records_of s.world) message

pub run-found : {s : SiteWorld} {places : List Placed} {k : ℕ} {before : Placed} → IsFound s places k before
    → run_done s.site k s.world ≡ option_map (in_world k s.world) (step_where_run s before)
run-found {s} {places} {k} {before} found =
    ap (run_pair s.site k s.world) (pair-there found)
    ∙ ap₂ (λ site number. option_map (in_world k s.world)
    (step_of site number before.pair s.world.downs (records_of s.world)))
    (sym found.site) (sym found.number)

pub told-found : {s : SiteWorld} {places : List Placed} {k : ℕ} {before : Placed} (node : ℕ) (message : Message)
    → IsFound s places k before
    → brought s.site k node message s.world ≡ option_map (in_world k s.world) (step_where_told s node before message)
told-found {s} {places} {k} {before} node message found =
    ap (brought_to s.site k node message s.world) (pair-there found)
    ∙ ap₂ (λ site number. option_map (in_world k s.world)
    (step_on site number node before.pair (records_of s.world) message))
    (sym found.site) (sym found.number)

-- the change where a checkpoint comes to it as what changed
abbrev pub step_where_changed : SiteWorld → ℕ → Placed → ChangeMessage → Option Stepped
step_where_changed s node before change =
    change_step_on before.site before.number node before.pair (records_of s.world) change

pub change-found : {s : SiteWorld} {places : List Placed} {k : ℕ} {before : Placed} (node : ℕ) (change : ChangeMessage)
    → IsFound s places k before
    → change_brought s.site k node change s.world
    ≡ option_map (in_world k s.world) (step_where_changed s node before change)
change-found {s} {places} {k} {before} node change found =
    ap (change_brought_to s.site k node change s.world) (pair-there found)
    ∙ ap₂ (λ site number. option_map (in_world k s.world)
    (change_step_on site number node before.pair (records_of s.world) change))
    (sym found.site) (sym found.number)

pub sent-step : (k : ℕ) (w : World) (step : Option Stepped) → sent_by step ≡ sent_in (option_map (in_world k w) step)
sent-step k w None = refl
sent-step k w (Some step) = refl

-- a state with a process put into a place, and these records
abbrev pub put_back : SiteWorld → List Placed → ℕ → Placed → Records → SiteWorld
put_back s places k after records = record s {
  world = record s.world {
    requests = records.requests;
    replies = records.replies;
    processes = pairs_in (slice_set places k after);
    shown = records.shown;
    kept = records.kept;
  };
  drives = drives_in (slice_set places k after);
}

put-same : (s : SiteWorld) (places : List Placed) (k : ℕ) (before : Placed) → IsFound s places k before
    → put_back s places k before (records_of s.world) ≡ s
put-same s places k before found =
    ap₂ (λ processes drives. record s { world = record s.world { processes = processes }; drives = drives })
    (ap pairs_in (set-same places k before found.there) ∙ sym found.pairs)
    (ap drives_in (set-same places k before found.there) ∙ sym found.drives)

put-step : (s : SiteWorld) (places : List Placed) (k : ℕ) (before : Placed) (step : Option Stepped)
    → IsFound s places k before
    → put_back s places k (placed_after before step) (records_after (records_of s.world) step)
    ≡ changed_by s (option_map (in_world k s.world) step)
put-step s places k before None found = put-same s places k before found
put-step s places k before (Some step) found =
    ap₂ (λ processes drives. record s {
      world = record s.world {
        requests = step.records.requests;
        replies = step.records.replies;
        processes = processes;
        shown = step.records.shown;
        kept = step.records.kept;
      };
      drives = drives;
    })
    (pairs-set places k (record before { pair = step.pair })
    ∙ ap (λ pairs. slice_set pairs k step.pair) (sym found.pairs))
    (drives-same places k before (record before { pair = step.pair }) found.there refl ∙ sym found.drives)

pub put-found : {s : SiteWorld} {places : List Placed} {k : ℕ} {before after : Placed} {records : Records}
    (step : Option Stepped) → IsFound s places k before
    → after ≡ placed_after before step → records ≡ records_after (records_of s.world) step
    → put_back s places k after records ≡ changed_by s (option_map (in_world k s.world) step)
put-found {s} {places} {k} {before} step found made recorded =
    ap₂ (put_back s places k) made recorded ∙ put-step s places k before step found

-- what a step tells is what the change of the world sends
pub tells : (done : SiteWorld → ℕ → Option Done) {s now : SiteWorld} {k number : ℕ} {told : Option (List Sending)}
    (step : Option Stepped) → s ≡ now → k ≡ number
    → done s k ≡ option_map (in_world k s.world) step → told ≡ sent_by step → told ≡ sent_in (done now number)
tells done {s} {now} {k} {number} step same at does is =
    is ∙ sent-step k s.world step ∙ ap sent_in (sym does) ∙ ap₂ (λ (s : SiteWorld) (k : ℕ). sent_in (done s k)) same at

-- and the world is the one after that change
pub stands : (done : SiteWorld → ℕ → Option Done) {s now : SiteWorld} {k number : ℕ} {places : List Placed}
    {before after : Placed} {records : Records}
    (step : Option Stepped) → s ≡ now → k ≡ number → IsFound s places k before
    → done s k ≡ option_map (in_world k s.world) step
    → after ≡ placed_after before step → records ≡ records_after (records_of s.world) step
    → put_back s places k after records ≡ changed_by now (done now number)
stands done {s} {now} {k} {number} step same at found does made recorded =
    put-found step found made recorded ∙ ap (changed_by s) (sym does)
    ∙ ap₂ (λ (s : SiteWorld) (k : ℕ). changed_by s (done s k)) same at
