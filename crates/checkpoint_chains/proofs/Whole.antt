-- A checkpoint that comes as what changed does what it does when it comes whole.
use Rattle.std.proofs.Common.{◌≡◌, ◌<◌, ◌⊎◌, inl, inr, ℕ, ◌+◌, ◌==◌, ◌&&◌, Bool, true, false, List, length, Option}
use Rattle.std.proofs.Common.{Some}
use Rattle.std.proofs.Common.{None, slice_get, refl, sym, ap, ap₂, subst, ◌∙◌, arith}
use Rattle.std.specs.Option.{option_and_then, option_map}
use Rattle.std.proofs.lemmas.Bool.{eqb-true}
use Rattle.gd_words.specs.Members.{IsAmong}
use Rattle.tal_tree.specs.declared.site.Site.{Site}
use Rattle.schedule.specs.declared.event.Event.{Event}
use Rattle.letter_laws.specs.change_layout.specs.Changing.{change_of, made_whole, whole_of, whole_where}
use Rattle.letter_laws.specs.change_layout.proofs.Whole.{makes-whole}
use Rattle.checkpoint_image.specs.declared.message.ImageMessage.{ImageMessage}
use Rattle.checkpoint_image.specs.declared.receive.ReceiveBlock.{ReceiveBlock}
use Rattle.receive_changes.specs.sync_ids.specs.Changes.{fits_change}
use Rattle.receive_changes.specs.sync_ids.specs.Tables as tables
use Rattle.receive_changes.specs.sync_ids.proofs.Tables.{and-right}
use Rattle.world_semantics.specs.declared.role.Role.{Role}
use Rattle.world_semantics.specs.declared.role.Role.TheVariants.{Acting, Blank, Gone, Watching}
use Rattle.world_semantics.specs.declared.which.Which.{Which}
use Rattle.world_semantics.specs.declared.which.Which.TheVariants.{First, Second}
use Rattle.world_semantics.specs.Messages.{Checkpointing}
use Rattle.world_semantics.specs.Records.{Records, records_of}
use Rattle.world_semantics.specs.Running.{Stepped, in_world}
use Rattle.world_semantics.specs.World.{Copy, Down, Pair, copy_of, receives}
use Rattle.world_semantics.proofs.Lists.{some-same}
use Rattle.world_semantics.proofs.Roles.{both-true}
use Rattle.letter_laws.specs.computed_changes.specs.Changed.{change_brought_to, change_done, change_step}
use Rattle.letter_laws.specs.computed_changes.specs.Checkpoints.{applied_step, checkpoint_step, core_where, is_next_for}
use Rattle.letter_laws.specs.computed_changes.specs.Fitting.{are_files, depths_of}
use Rattle.letter_laws.specs.computed_changes.specs.Handed.{brought_to, copy_in, handed_done, step_by}
use Rattle.letter_laws.specs.computed_changes.specs.Laws.{IsSent}
use Rattle.letter_laws.specs.letters.specs.Posts.{HasPlayed, Post}
use Rattle.letter_laws.specs.letters.proofs.Worlds.{played-run}
use Rattle.letter_laws.specs.takeover_laws.specs.Fit.{IsFit}
use Rattle.letter_laws.specs.takeover_laws.proofs.Kept.{run-keeps}
use Rattle.letter_laws.proofs.Fitting.{sent-fit}
use Rattle.letter_laws.proofs.Honest.{played-honest}
use Rattle.checkpoint_chains.specs.Chains.{IsChain, IsChained, IsNextTo, IsOfOne, StandsTo}
use Rattle.checkpoint_chains.proofs.Chains.{run-chained}
use Rattle.checkpoint_chains.proofs.Numbered.{next-comes, one-of-number, some-number}

-- whether a table may be that of a process with openers of these depths
abbrev Fits : List ℕ → ReceiveBlock → Type 0
Fits depths table = tables.fits (record { table = table; depths = depths }) table ≡ true

-- At one copy, which has these checkpoints in its chain

module _ (site : Site) (number : ℕ) (pair : Pair) (records : Records) (before message : ImageMessage)
    (chain : IsChain (depths_of site number) pair.checkpoints)
    (was : IsAmong before pair.checkpoints) (is : IsAmong message pair.checkpoints)
    (of : message.era ≡ before.era) (next : message.number ≡ before.number + 1)
    (fit : Fits (depths_of site number) before.image.receive)
    (fits_too : Fits (depths_of site number) message.image.receive) (k : Which)
    (stands : (is_marked : Bool) × StandsTo (depths_of site number) pair.checkpoints is_marked (copy_of k pair).role
    (copy_of k pair).era (copy_of k pair).number (copy_of k pair).core.receive) where
  abbrev copy : Copy
  copy = copy_of k pair

  abbrev depths : List ℕ
  depths = depths_of site number

  abbrev step : ImageMessage → Role → Option Stepped
  step one role = checkpoint_step site number k pair records one role

  -- a copy that gets it next has the table of the one before
  table-is : receives copy.role ≡ true → message.era ≡ copy.era → message.number ≡ copy.number + 1
      → copy.core.receive ≡ before.image.receive
  table-is gets era count = by (stands.1.watches gets)
    where
      low : before.number ≡ copy.number
      low = omega (arith, next, count)

      by : (copy.number ≡ 0) ⊎ IsOfOne pair.checkpoints copy.era copy.number copy.core.receive
          → copy.core.receive ≡ before.image.receive
      by (inl none) =
          let some = some-number depths pair.checkpoints chain before was in absurd (omega (arith, some, none, low))
      by (inr one) =
          let same = one-of-number depths pair.checkpoints chain one.0 before one.1 was (one.2 ∙ sym era ∙ of)
          (one.3 ∙ sym low) in
          sym one.4 ∙ ap (λ (m : ImageMessage). m.image.receive) same

  -- there it is made whole
  made : receives copy.role ≡ true → message.era ≡ copy.era → message.number ≡ copy.number + 1
      → made_whole depths copy.core.receive (change_of before message) ≡ Some message
  made gets era count =
      ap (λ (table : ReceiveBlock). made_whole depths table (change_of before message)) (table-is gets era count)
      ∙ makes-whole depths before message fit
      (next-comes depths pair.checkpoints chain before message was is of next) fits_too

  -- where nothing comes of any checkpoint of its era and number, nothing comes of it in either form
  none-either : ((one : ImageMessage) → one.era ≡ message.era → one.number ≡ message.number
      → step one copy.role ≡ None)
      → change_step site number pair records (change_of before message) k ≡ step message copy.role
  none-either none =
      by (fits_change (record { table = copy.core.receive; depths = depths }) (change_of before message).image.receive)
      ∙ sym (none message refl refl)
    where
      by : (b : Bool) → option_and_then (λ one. step one copy.role)
          (whole_where depths copy.core.receive (change_of before message) b) ≡ None
      by true = none (whole_of depths copy.core.receive (change_of before message)) refl refl
      by false = refl

  unlike : (role : Role) → copy.role ≡ role → ((one : ImageMessage) → step one role ≡ None)
      → change_step site number pair records (change_of before message) k ≡ step message copy.role
  unlike role same none = none-either (λ one era count. ap (step one) same ∙ none one)

  -- a copy that watches or is blank does the same with one
  gets-step : (role : Role) → receives role ≡ true → (one : ImageMessage)
      → step one role ≡ option_map (applied_step number k pair records one)
      (core_where depths copy.core one (is_next_for copy.era copy.number one))
  gets-step Watching gets one = refl
  gets-step Blank gets one = refl
  gets-step Acting gets one = absurd (cc)
  gets-step Gone gets one = absurd (cc)

  got : receives copy.role ≡ true → (b : Bool) → is_next_for copy.era copy.number message ≡ b
      → change_step site number pair records (change_of before message) k ≡ step message copy.role
  got gets true is_next =
      let both = both-true (message.era == copy.era) (message.number == copy.number + 1) is_next in
      ap (option_and_then (λ one. step one copy.role))
      (made gets (eqb-true message.era copy.era both.0) (eqb-true message.number (copy.number + 1) both.1))
  got gets false not_next = none-either (λ one era count.
      gets-step copy.role gets one
      ∙ ap (λ (b : Bool). option_map (applied_step number k pair records one) (core_where depths copy.core one b))
      (ap₂ (λ (e n : ℕ). e == copy.era && n == copy.number + 1) era count ∙ not_next))

  pub step-same : change_step site number pair records (change_of before message) k ≡ step message copy.role
  step-same = by copy.role refl
    where
      by : (role : Role) → copy.role ≡ role
          → change_step site number pair records (change_of before message) k ≡ step message copy.role
      by Acting same = unlike Acting same (λ one. refl)
      by Gone same = unlike Gone same (λ one. refl)
      by Watching same = got (ap receives same) (is_next_for copy.era copy.number message) refl
      by Blank same = got (ap receives same) (is_next_for copy.era copy.number message) refl

-- At a node

copies-stand : (each : List ℕ) (downs : List Down) (pair : Pair) → IsChained each downs pair → (k : Which)
    → (is_marked : Bool) × StandsTo each pair.checkpoints is_marked (copy_of k pair).role (copy_of k pair).era
    (copy_of k pair).number (copy_of k pair).core.receive
copies-stand each downs pair chained First = (_, chained.1.0)
copies-stand each downs pair chained Second = (_, chained.1.1)

-- a checkpoint that was sent fits
sent-table : (site : Site) → IsFit site → (events : List Event) (post : Post) → length events < 4294967296
    → HasPlayed site events post → (message : ImageMessage) (pair : Pair)
    → slice_get post.world.processes message.process ≡ Some pair → IsAmong message pair.checkpoints
    → Fits (depths_of site message.process) message.image.receive
sent-table site fit events post few played message pair there among =
    let honest = played-honest site fit events post few played in
    and-right (are_files pair.first.core.next message.image.files)
    (tables.fits (record { table = pair.first.core.receive; depths = depths_of site message.process })
    message.image.receive)
    (sent-fit site (length events) post.world honest.reached
    (run-keeps site fit events post.world few (played-run played)) honest.files pair.first.processor
    (Checkpointing message) (pair, there, among) pair First there refl)

pub comes-whole : (site : Site) → IsFit site → (events : List Event) (post : Post) → length events < 4294967296
    → HasPlayed site events post → (before message : ImageMessage) (node : ℕ)
    → IsSent post.world (Checkpointing before) → IsSent post.world (Checkpointing message) → IsNextTo before message
    → change_done site node (change_of before message) post.world
    ≡ handed_done site node (Checkpointing message) post.world
comes-whole site fit events post few played before message node (old, at_old, old_among) (pair, there, among) next =
    ap (change_brought_to site message.process node (change_of before message) post.world) there
    ∙ ap (λ (step : Option Stepped). option_map (in_world message.process post.world) step)
    (by_copy (copy_in node pair))
    ∙ sym (ap (brought_to site message.process node (Checkpointing message) post.world) there)
  where
    here : slice_get post.world.processes before.process ≡ Some pair
    here = ap (slice_get post.world.processes) (sym next.process) ∙ there

    was : IsAmong before pair.checkpoints
    was = subst (λ (p : Pair). IsAmong before p.checkpoints) (some-same (sym at_old ∙ here)) old_among

    chained : IsChained (depths_of site message.process) post.world.downs pair
    chained = run-chained site fit.seats events post.world (played-run played) message.process pair there

    fits_before : Fits (depths_of site message.process) before.image.receive
    fits_before =
        subst (λ (n : ℕ). Fits (depths_of site n) before.image.receive) (sym next.process)
        (sent-table site fit events post few played before pair here was)

    by_copy : (k : Option Which)
        → option_and_then (change_step site message.process pair (records_of post.world) (change_of before message)) k
        ≡ option_and_then (step_by site message.process pair (records_of post.world) (Checkpointing message)) k
    by_copy None = refl
    by_copy (Some k) =
        step-same site message.process pair (records_of post.world) before message chained.0 was among next.era
        next.number
        fits_before (sent-table site fit events post few played message pair there among) k
        (copies-stand (depths_of site message.process) post.world.downs pair chained k)
