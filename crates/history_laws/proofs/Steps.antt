-- The step that a process makes where it runs, and the step of its present.
use Rattle.std.proofs.Common.{◌≡◌, ℕ, Bool, true, false, List, [], slice_get, Option, Some, None, refl, ap, sym, ◌∙◌}
use Rattle.std.proofs.Common.{option_map, if◌then◌else◌, not}
use Rattle.checkpoint_image.specs.gd_words.specs.declared.device.DeviceCall.{DeviceCall}
use Rattle.checkpoint_image.specs.gd_words.specs.declared.device.DeviceCall.TheVariants.{Nothing, Read, Write}
use Rattle.checkpoint_image.specs.tal_tree.specs.declared.site.Site.{Site}
use Rattle.checkpoint_image.specs.tal_tree.specs.declared.site.OpenerSpec.{OpenerSpec}
use Rattle.checkpoint_image.specs.declared.receive.OpenerBlock.{OpenerBlock}
use Rattle.checkpoint_image.specs.Receive.{Chosen, choice_among}
use Rattle.schedule_loop.specs.world_semantics.specs.process_semantics.specs.declared.point.Point.{Point}
use Rattle.schedule_loop.specs.world_semantics.specs.process_semantics.specs.declared.point.Point.TheVariants as point
use Rattle.schedule_loop.specs.world_semantics.specs.process_semantics.specs.Process as process
use Rattle.schedule_loop.specs.world_semantics.specs.plain_semantics.specs.Openers.{openers_of}
use Rattle.schedule_loop.specs.world_semantics.specs.declared.role.Role.{Role}
use Rattle.schedule_loop.specs.world_semantics.specs.declared.role.Role.TheVariants.{Acting, Blank, Gone, Watching}
use Rattle.schedule_loop.specs.world_semantics.specs.Core.{Core}
use Rattle.schedule_loop.specs.world_semantics.specs.Own.{Around, around_with, is_new_write}
use Rattle.schedule_loop.specs.world_semantics.specs.Records.{Records}
use Rattle.schedule_loop.specs.world_semantics.specs.Running.{Own, Stepped, after_call, around_write, ending_step}
use Rattle.schedule_loop.specs.world_semantics.specs.Running.{first_step, free_step, own_answer, own_answer_at, own_at}
use Rattle.schedule_loop.specs.world_semantics.specs.Running.{own_device, own_of, own_step, own_take, own_took}
use Rattle.schedule_loop.specs.world_semantics.specs.Running.{passing_step, renewing_step, sending_step, step_as}
use Rattle.schedule_loop.specs.world_semantics.specs.Running.{step_at, step_at_checkpoint, step_if, step_of}
use Rattle.schedule_loop.specs.world_semantics.specs.Running.{step_of_copy}
use Rattle.schedule_loop.specs.world_semantics.specs.declared.which.Which.{Which}
use Rattle.schedule_loop.specs.world_semantics.specs.declared.which.Which.TheVariants.{First, Second}
use Rattle.schedule_loop.specs.world_semantics.specs.World.{Down, Pair, copy_of, has_marked, may_pass, other_of}
use Rattle.history_laws.specs.Present.{present_pair}
use Rattle.history_laws.proofs.Presents.{newest-twice, recent-twice}

abbrev pub present_records : Records → Records
present_records records = record records { requests = []; replies = [] }

abbrev pub present_step : Stepped → Stepped
present_step step = record step { pair = present_pair step.pair; records = present_records step.records }

-- of an option of steps
abbrev pub present_steps : Option Stepped → Option Stepped
present_steps steps = option_map present_step steps

-- Acts of a copy

abbrev present_around : Around → Around
present_around around = record around { requests = []; replies = [] }

abbrev present_own : Own → Own
present_own own = record own { after = present_around own.after }

call-present : (number : ℕ) (before : Around) (call : DeviceCall)
    → present_around (after_call number before call) ≡ present_around (after_call number (present_around before) call)
call-present number before Nothing = refl
call-present number before (Read sector) = refl
call-present number before (Write sector words write) = by (is_new_write before.sectors (Write sector words write))
  where
    by : (new : Bool)
        → present_around (if new then around_write number before (Write sector words write) else before)
        ≡ present_around (if new then around_write number (present_around before) (Write sector words write)
        else present_around before)
    by true = refl
    by false = refl

took-present : (number : ℕ) (core : Core) (before : Around) (found : Option Chosen)
    → option_map present_own (own_take number core before found)
    ≡ option_map present_own (own_take number core (present_around before) found)
took-present number core before None = refl
took-present number core before (Some found) = by (slice_get core.receive.openers found.request.opener)
  where
    by : (block : Option OpenerBlock)
        → option_map present_own (option_map (own_took number core before found) block)
        ≡ option_map present_own (option_map (own_took number core (present_around before) found) block)
    by None = refl
    by (Some block) = refl

answer-present : (site : Site) (number : ℕ) (core : Core) (before : Around) (place : Option ℕ)
    → option_map present_own (own_answer site number core before place)
    ≡ option_map present_own (own_answer site number core (present_around before) place)
answer-present site number core before None = refl
answer-present site number core before (Some place) =
    by (slice_get (openers_of site number) place) (slice_get core.receive.openers place)
  where
    by : (opener : Option OpenerSpec) (block : Option OpenerBlock)
        → option_map present_own (own_answer_at number core before place opener block)
        ≡ option_map present_own (own_answer_at number core (present_around before) place opener block)
    by None block = refl
    by (Some opener) None = refl
    by (Some opener) (Some block) = refl

own-present : (site : Site) (number : ℕ) (core : Core) (before : Around) (stands : Point)
    → option_map present_own (own_at site number core before stands)
    ≡ option_map present_own (own_at site number core (present_around before) stands)
own-present site number core before point.Inner = refl
own-present site number core before point.Take =
    took-present number core before (choice_among core.receive before.waiting)
own-present site number core before point.Ask = refl
own-present site number core before point.Answer = answer-present site number core before core.receive.in_hand
own-present site number core before point.Device =
    ap (λ (after : Around).
    Some (record (own_device number core before (process.call_of core.state)) { after = after }))
    (call-present number before (process.call_of core.state))
own-present site number core before point.Await = refl
own-present site number core before point.AtCheckpoint = refl
own-present site number core before point.Ended = refl

-- Steps of a copy

module _ (site : Site) (number : ℕ) (pair : Pair) (downs : List Down) (records : Records) where
  stepped : (k : Which) (own : Own)
      → present_step (own_step number k pair records own)
      ≡ present_step (own_step number k (present_pair pair) (present_records records) (present_own own))
  stepped First own = rw (recent-twice pair.checkpoints) refl
  stepped Second own = rw (recent-twice pair.checkpoints) refl

  stepped-again : (k : Which) (own : Own)
      → present_step (own_step number k (present_pair pair) (present_records records) own)
      ≡ present_step (own_step number k (present_pair pair) (present_records records) (present_own own))
  stepped-again First own = refl
  stepped-again Second own = refl

  any-stepped : (k : Which) (own : Option Own)
      → present_steps (option_map (own_step number k pair records) own)
      ≡ present_steps (option_map (own_step number k (present_pair pair) (present_records records))
      (option_map present_own own))
  any-stepped k None = refl
  any-stepped k (Some own) = ap (λ (step : Stepped). Some step) (stepped k own)

  any-again : (k : Which) (own : Option Own)
      → present_steps (option_map (own_step number k (present_pair pair) (present_records records)) own)
      ≡ present_steps (option_map (own_step number k (present_pair pair) (present_records records))
      (option_map present_own own))
  any-again k None = refl
  any-again k (Some own) = ap (λ (step : Stepped). Some step) (stepped-again k own)

  copy-kept : (k : Which) → copy_of k (present_pair pair) ≡ copy_of k pair
  copy-kept First = refl
  copy-kept Second = refl

  owns : (k : Which) (stands : Point)
      → option_map present_own (own_of site number k pair records stands)
      ≡ option_map present_own (own_of site number k (present_pair pair) (present_records records) stands)
  owns First stands =
      own-present site number pair.first.core (around_with pair.first.waiting pair.sectors records) stands
  owns Second stands =
      own-present site number pair.second.core (around_with pair.second.waiting pair.sectors records) stands

  own-steps : (k : Which) (stands : Point)
      → present_steps (option_map (own_step number k pair records) (own_of site number k pair records stands))
      ≡ present_steps (option_map (own_step number k (present_pair pair) (present_records records))
      (own_of site number k (present_pair pair) (present_records records) stands))
  own-steps k stands =
      any-stepped k (own_of site number k pair records stands)
      ∙ ap (λ (own : Option Own).
      present_steps (option_map (own_step number k (present_pair pair) (present_records records)) own)) (owns k stands)
      ∙ sym (any-again k (own_of site number k (present_pair pair) (present_records records) stands))

  sends : (k : Which) → present_step (sending_step number k pair records)
      ≡ present_step (sending_step number k (present_pair pair) (present_records records))
  sends First = rw (newest-twice pair.checkpoints) refl
  sends Second = rw (newest-twice pair.checkpoints) refl

  passes : (k : Which) → present_step (passing_step number k pair records)
      ≡ present_step (passing_step number k (present_pair pair) (present_records records))
  passes First = rw (recent-twice pair.checkpoints) refl
  passes Second = rw (recent-twice pair.checkpoints) refl

  ends : (k : Which) → present_step (ending_step number k pair records)
      ≡ present_step (ending_step number k (present_pair pair) (present_records records))
  ends First = rw (recent-twice pair.checkpoints) refl
  ends Second = rw (recent-twice pair.checkpoints) refl

  -- one of two, by the same test
  one-if : (test : Bool) (one other : Stepped) → present_step one ≡ present_step other
      → present_steps (step_if test one) ≡ present_steps (step_if test other)
  one-if true one other same = ap (λ (step : Stepped). Some step) same
  one-if false one other same = refl

  at-checkpoint : (k : Which) (may sent : Bool)
      → present_steps (step_at_checkpoint number k pair records may sent)
      ≡ present_steps (step_at_checkpoint number k (present_pair pair) (present_records records) may sent)
  at-checkpoint k true sent = ap (λ (step : Stepped). Some step) (passes k)
  at-checkpoint k false true = refl
  at-checkpoint k false false = ap (λ (step : Stepped). Some step) (sends k)

  may-same : (k : Which) → may_pass downs k (present_pair pair) ≡ may_pass downs k pair
  may-same First = refl
  may-same Second = refl

  renews-if : (k : Which)
      → present_steps (step_if (not (has_marked downs (copy_of k pair).processor (copy_of (other_of k) pair).processor))
      (sending_step number k pair records))
      ≡ present_steps (step_if
      (not (has_marked downs (copy_of k (present_pair pair)).processor
      (copy_of (other_of k) (present_pair pair)).processor))
      (sending_step number k (present_pair pair) (present_records records)))
  renews-if First = one-if (not (has_marked downs pair.first.processor pair.second.processor)) _ _ (sends First)
  renews-if Second = one-if (not (has_marked downs pair.second.processor pair.first.processor)) _ _ (sends Second)

  renews : (k : Which) (stands : Point)
      → present_steps (renewing_step number k pair downs records stands)
      ≡ present_steps (renewing_step number k (present_pair pair) downs (present_records records) stands)
  renews k point.Await = refl
  renews k point.Inner = renews-if k
  renews k point.Take = renews-if k
  renews k point.Ask = renews-if k
  renews k point.Answer = renews-if k
  renews k point.Device = renews-if k
  renews k point.AtCheckpoint = renews-if k
  renews k point.Ended = renews-if k

  frees : (k : Which) (stands : Point) (sent renewal : Bool)
      → present_steps (free_step site number k pair downs records stands sent renewal)
      ≡ present_steps (free_step site number k (present_pair pair) downs (present_records records) stands sent renewal)
  frees First stands true renewal = one-if (may_pass downs First pair) _ _ (ends First)
  frees Second stands true renewal = one-if (may_pass downs Second pair) _ _ (ends Second)
  frees k stands false true = renews k stands
  frees k stands false false = own-steps k stands

  stands-at : (k : Which) (stands : Point)
      → present_steps (step_at site number k pair downs records stands)
      ≡ present_steps (step_at site number k (present_pair pair) downs (present_records records) stands)
  stands-at First point.AtCheckpoint = at-checkpoint First (may_pass downs First pair) pair.first.sent
  stands-at Second point.AtCheckpoint = at-checkpoint Second (may_pass downs Second pair) pair.second.sent
  stands-at First point.Inner = frees First point.Inner pair.first.sent pair.first.renewal
  stands-at First point.Take = frees First point.Take pair.first.sent pair.first.renewal
  stands-at First point.Ask = frees First point.Ask pair.first.sent pair.first.renewal
  stands-at First point.Await = frees First point.Await pair.first.sent pair.first.renewal
  stands-at First point.Answer = frees First point.Answer pair.first.sent pair.first.renewal
  stands-at First point.Device = frees First point.Device pair.first.sent pair.first.renewal
  stands-at First point.Ended = frees First point.Ended pair.first.sent pair.first.renewal
  stands-at Second point.Inner = frees Second point.Inner pair.second.sent pair.second.renewal
  stands-at Second point.Take = frees Second point.Take pair.second.sent pair.second.renewal
  stands-at Second point.Ask = frees Second point.Ask pair.second.sent pair.second.renewal
  stands-at Second point.Await = frees Second point.Await pair.second.sent pair.second.renewal
  stands-at Second point.Answer = frees Second point.Answer pair.second.sent pair.second.renewal
  stands-at Second point.Device = frees Second point.Device pair.second.sent pair.second.renewal
  stands-at Second point.Ended = frees Second point.Ended pair.second.sent pair.second.renewal

  acts-as : (k : Which) (role : Role)
      → present_steps (step_as site number k pair downs records role)
      ≡ present_steps (step_as site number k (present_pair pair) downs (present_records records) role)
  acts-as First Acting = stands-at First (process.point pair.first.core.state)
  acts-as Second Acting = stands-at Second (process.point pair.second.core.state)
  acts-as k Watching = refl
  acts-as k Blank = refl
  acts-as k Gone = refl

  of-copy : (k : Which)
      → present_steps (step_of_copy site number pair downs records k)
      ≡ present_steps (step_of_copy site number (present_pair pair) downs (present_records records) k)
  of-copy First = acts-as First pair.first.role
  of-copy Second = acts-as Second pair.second.role

  first-of : (a b c d : Option Stepped) → present_steps a ≡ present_steps c → present_steps b ≡ present_steps d
      → present_steps (first_step a b) ≡ present_steps (first_step c d)
  first-of None b None d one two = two
  first-of None b (Some c) d one two = absurd (cc)
  first-of (Some a) b None d one two = absurd (cc)
  first-of (Some a) b (Some c) d one two = one

  pub step-present : present_steps (step_of site number pair downs records)
      ≡ present_steps (step_of site number (present_pair pair) downs (present_records records))
  step-present = first-of _ _ _ _ (of-copy First) (of-copy Second)
