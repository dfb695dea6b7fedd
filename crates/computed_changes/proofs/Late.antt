-- A checkpoint that comes as what changed does nothing at a copy that doesn't wait for it, or whose table it doesn't
-- fit; so it does nothing if it comes twice.
use Rattle.std.proofs.Common.{◌≡◌, ℕ, ◌+◌, ◌==◌, ◌&&◌, Bool, true, false, Option, Some, None, slice_get, refl, sym, ap}
use Rattle.std.proofs.Common.{◌∙◌, List, arith, nat_lt}
use Rattle.std.specs.Option.{option_and_then, option_map}
use Rattle.std.proofs.lemmas.Bool.{ne_eqb}
use Rattle.tal_tree.specs.declared.site.Site.{Site}
use Rattle.change_layout.specs.Changing.{whole_of, whole_where}
use Rattle.change_layout.specs.declared.message.ChangeMessage.{ChangeMessage}
use Rattle.change_layout.specs.sync_ids.specs.Changes.{fits_change}
use Rattle.world_semantics.specs.checkpoint_image.specs.declared.message.ImageMessage.{ImageMessage}
use Rattle.world_semantics.specs.declared.role.Role.{Role}
use Rattle.world_semantics.specs.declared.role.Role.TheVariants.{Acting, Blank, Gone, Watching}
use Rattle.world_semantics.specs.declared.which.Which.{Which}
use Rattle.world_semantics.specs.declared.which.Which.TheVariants.{First, Second}
use Rattle.world_semantics.specs.Core.{Core}
use Rattle.world_semantics.specs.Kept.{own_acts}
use Rattle.world_semantics.specs.Records.{records_of}
use Rattle.world_semantics.specs.Running.{Done, Stepped, in_world}
use Rattle.world_semantics.specs.World.{Copy, Pair, World, copy_of, other_of}
use Rattle.world_semantics.proofs.Hands.{map-some}
use Rattle.world_semantics.proofs.Lists.{set-there}
use Rattle.computed_changes.specs.Changed.{change_brought_to, change_done, change_step, change_step_on}
use Rattle.computed_changes.specs.Checkpoints.{applied_step, applied_step_where, checkpoint_step, core_where}
use Rattle.computed_changes.specs.Checkpoints.{is_next_for}
use Rattle.computed_changes.specs.Fitting.{depths_of}
use Rattle.computed_changes.specs.Handed.{copy_in}
use Rattle.computed_changes.specs.Laws.{IsCopyAt}

-- At one copy

module _ (site : Site) (w : World) (node : ℕ) (change : ChangeMessage) (k : Which) (pair : Pair)
    (at : IsCopyAt w node change.process k pair) where
  abbrev copy : Copy
  copy = copy_of k pair

  abbrev depths : List ℕ
  depths = depths_of site change.process

  abbrev step : ImageMessage → Role → Option Stepped
  step one role = checkpoint_step site change.process k pair (records_of w) one role

  abbrev made_by : Option ImageMessage → Option Done
  made_by whole = option_map (in_world change.process w) (option_and_then (λ one. step one copy.role) whole)

  at-copy : change_done site node change w
      ≡ made_by (whole_where depths copy.core.receive change
      (fits_change (record { table = copy.core.receive; depths = depths }) change.image.receive))
  at-copy =
      ap (change_brought_to site change.process node change w) at.there
      ∙ ap (λ (o : Option Which). option_map (in_world change.process w)
      (option_and_then (change_step site change.process pair (records_of w) change) o)) at.here

  pub misfit-late : fits_change (record { table = copy.core.receive; depths = depths }) change.image.receive ≡ false
      → change_done site node change w ≡ None
  misfit-late off = at-copy ∙ ap (λ (b : Bool). made_by (whole_where depths copy.core.receive change b)) off

  -- where nothing comes of any checkpoint of its era and number, nothing comes of it
  nothing : ((one : ImageMessage) → one.era ≡ change.era → one.number ≡ change.number → step one copy.role ≡ None)
      → change_done site node change w ≡ None
  nothing none =
      at-copy ∙ by (fits_change (record { table = copy.core.receive; depths = depths }) change.image.receive)
    where
      by : (b : Bool) → made_by (whole_where depths copy.core.receive change b) ≡ None
      by true = ap (option_map (in_world change.process w)) (none (whole_of depths copy.core.receive change) refl refl)
      by false = refl

  not-next : (one : ImageMessage) → is_next_for copy.era copy.number one ≡ false → (role : Role) → step one role ≡ None
  not-next one off Acting = refl
  not-next one off Gone = refl
  not-next one off Watching =
      ap (λ (b : Bool). option_map (applied_step change.process k pair (records_of w) one)
      (core_where depths copy.core one b)) off
  not-next one off Blank =
      ap (λ (b : Bool). option_map (applied_step change.process k pair (records_of w) one)
      (core_where depths copy.core one b)) off

  pub era-late : (change.era ≡ copy.era → ⊥) → change_done site node change w ≡ None
  era-late other = nothing (λ one era number. not-next one
      (ap (λ (b : Bool). b && one.number == copy.number + 1)
      (ne_eqb one.era copy.era (λ same. other (sym era ∙ same)))) copy.role)

  and-false : (a b : Bool) → b ≡ false → (a && b) ≡ false
  and-false true b off = off
  and-false false b off = refl

  pub number-late : (change.number ≡ copy.number + 1 → ⊥) → change_done site node change w ≡ None
  number-late other = nothing (λ one era number. not-next one
      (and-false (one.era == copy.era) (one.number == copy.number + 1)
      (ne_eqb one.number (copy.number + 1) (λ same. other (sym number ∙ same)))) copy.role)

  pub acting-late : copy.role ≡ Acting → change_done site node change w ≡ None
  acting-late acts = nothing (λ one era number. ap (step one) acts)

  pub gone-late : copy.role ≡ Gone → change_done site node change w ≡ None
  gone-late gone = nothing (λ one era number. ap (step one) gone)

-- Twice

module _ (site : Site) (w : World) (node : ℕ) (change : ChangeMessage) where
  abbrev DoesNothing : World → Type 0
  DoesNothing one = change_done site node change one ≡ None

  -- the process after one of its copies applied a checkpoint of the other one, which is behind the kept acts or not
  abbrev after_step : ImageMessage → Core → Which → Pair → Bool → Pair
  after_step message applied k pair behind =
      (applied_step_where change.process k pair (records_of w) message applied behind).pair

  stays-in : (message : ImageMessage) (applied : Core) (k : Which) (pair : Pair) (behind : Bool)
      → copy_in node (after_step message applied k pair behind) ≡ copy_in node pair
  stays-in message applied First pair true = refl
  stays-in message applied First pair false = refl
  stays-in message applied Second pair true = refl
  stays-in message applied Second pair false = refl

  numbered : (message : ImageMessage) (applied : Core) (k : Which) (pair : Pair) (behind : Bool)
      → (copy_of k (after_step message applied k pair behind)).number ≡ message.number
  numbered message applied First pair true = refl
  numbered message applied First pair false = refl
  numbered message applied Second pair true = refl
  numbered message applied Second pair false = refl

  after : (pair : Pair) → slice_get w.processes change.process ≡ Some pair → (k : Which) → copy_in node pair ≡ Some k
      → (message : ImageMessage) → message.number ≡ change.number → (applied : Core) (behind : Bool)
      → DoesNothing (in_world change.process w
      (applied_step_where change.process k pair (records_of w) message applied behind)).world
  after pair there k here message same applied behind =
      let next : Pair = after_step message applied k pair behind in
      number-late site (in_world change.process w
      (applied_step_where change.process k pair (records_of w) message applied behind)).world node change k next
      (record {
        there = set-there w.processes change.process pair next there;
        here = stays-in message applied k pair behind ∙ here;
      })
      (λ is. let count = numbered message applied k pair behind in omega (arith, is, count, same))

  -- a copy that receives applies it
  receives-late : (pair : Pair) → slice_get w.processes change.process ≡ Some pair → (k : Which)
      → copy_in node pair ≡ Some k
      → (message : ImageMessage) → message.number ≡ change.number → (stepped : Stepped)
      → option_map (applied_step change.process k pair (records_of w) message)
      (core_where (depths_of site change.process) (copy_of k pair).core message
      (is_next_for (copy_of k pair).era (copy_of k pair).number message)) ≡ Some stepped
      → DoesNothing (in_world change.process w stepped).world
  receives-late pair there k here message same stepped is =
      map-some (applied_step change.process k pair (records_of w) message)
      (λ (one : Stepped). DoesNothing (in_world change.process w one).world)
      (core_where (depths_of site change.process) (copy_of k pair).core message
      (is_next_for (copy_of k pair).era (copy_of k pair).number message)) stepped
      (λ applied put. after pair there k here message same applied
      (nat_lt (copy_of (other_of k) pair).position (own_acts change.process w.kept))) is

  roles : (pair : Pair) → slice_get w.processes change.process ≡ Some pair → (k : Which) → copy_in node pair ≡ Some k
      → (message : ImageMessage) → message.number ≡ change.number → (stepped : Stepped) (role : Role)
      → checkpoint_step site change.process k pair (records_of w) message role ≡ Some stepped
      → DoesNothing (in_world change.process w stepped).world
  roles pair there k here message same stepped Acting is = absurd (cc)
  roles pair there k here message same stepped Gone is = absurd (cc)
  roles pair there k here message same stepped Watching is = receives-late pair there k here message same stepped is
  roles pair there k here message same stepped Blank is = receives-late pair there k here message same stepped is

  fitting : (pair : Pair) → slice_get w.processes change.process ≡ Some pair → (k : Which) → copy_in node pair ≡ Some k
      → (stepped : Stepped) (b : Bool)
      → option_and_then (λ one. checkpoint_step site change.process k pair (records_of w) one (copy_of k pair).role)
      (whole_where (depths_of site change.process) (copy_of k pair).core.receive change b) ≡ Some stepped
      → DoesNothing (in_world change.process w stepped).world
  fitting pair there k here stepped false is = absurd (cc)
  fitting pair there k here stepped true is =
      roles pair there k here (whole_of (depths_of site change.process) (copy_of k pair).core.receive change) refl
      stepped (copy_of k pair).role is

  placed : (pair : Pair) → slice_get w.processes change.process ≡ Some pair → (k : Option Which)
      → copy_in node pair ≡ k → (stepped : Stepped)
      → option_and_then (change_step site change.process pair (records_of w) change) k ≡ Some stepped
      → DoesNothing (in_world change.process w stepped).world
  placed pair there None here stepped is = absurd (cc)
  placed pair there (Some k) here stepped is =
      fitting pair there k here stepped
      (fits_change (record { table = (copy_of k pair).core.receive; depths = depths_of site change.process })
      change.image.receive) is

  pub twice-late : (done : Done) → change_done site node change w ≡ Some done → DoesNothing done.world
  twice-late done is = by (slice_get w.processes change.process) refl is
    where
      by : (found : Option Pair) → slice_get w.processes change.process ≡ found
          → change_brought_to site change.process node change w found ≡ Some done → DoesNothing done.world
      by None there made = absurd (cc)
      by (Some pair) there made =
          map-some (in_world change.process w) (λ (one : Done). DoesNothing one.world)
          (change_step_on site change.process node pair (records_of w) change) done
          (λ stepped step. placed pair there (copy_in node pair) refl stepped step) made
