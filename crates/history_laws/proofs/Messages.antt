-- The step that a message makes where it comes to a process, and the step that it makes in its present.
use Rattle.std.proofs.Common.{◌≡◌, ℕ, Bool, true, false, Option, Some, None, refl, ap, option_map, option_and_then}
use Rattle.std.specs.Prelude.{nat_lt}
use Rattle.checkpoint_image.specs.gd_words.specs.declared.message.Reply.{Reply}
use Rattle.checkpoint_image.specs.gd_words.specs.declared.message.Request.{Request}
use Rattle.checkpoint_image.specs.tal_tree.specs.declared.site.Site.{Site}
use Rattle.packet_runs.specs.packet_wires.specs.change_layout.specs.declared.message.ChangeMessage.{ChangeMessage}
use Rattle.checkpoint_image.specs.declared.message.ImageMessage.{ImageMessage}
use Rattle.checkpoint_image.specs.declared.message.TakenMessage.{TakenMessage}
use Rattle.schedule_loop.specs.world_semantics.specs.process_semantics.specs.Process as process
use Rattle.schedule_loop.specs.world_semantics.specs.declared.role.Role.{Role}
use Rattle.schedule_loop.specs.world_semantics.specs.declared.role.Role.TheVariants.{Acting, Blank, Gone, Watching}
use Rattle.schedule_loop.specs.world_semantics.specs.declared.which.Which.{Which}
use Rattle.schedule_loop.specs.world_semantics.specs.declared.which.Which.TheVariants.{First, Second}
use Rattle.schedule_loop.specs.world_semantics.specs.Core.{Core}
use Rattle.schedule_loop.specs.world_semantics.specs.Kept.{own_acts}
use Rattle.schedule_loop.specs.world_semantics.specs.Messages.{Asking, Checkpointing, Message, Replying, Taking}
use Rattle.schedule_loop.specs.world_semantics.specs.Records.{Records}
use Rattle.schedule_loop.specs.world_semantics.specs.Running.{Stepped}
use Rattle.schedule_loop.specs.world_semantics.specs.World.{Pair}
use Rattle.packet_runs.specs.packet_wires.specs.computed_changes.specs.Changed.{change_step, change_step_on, whole_at}
use Rattle.packet_runs.specs.packet_wires.specs.computed_changes.specs.Checkpoints.{applied_step, applied_step_where}
use Rattle.packet_runs.specs.packet_wires.specs.computed_changes.specs.Checkpoints.{checkpoint_step, core_as}
use Rattle.packet_runs.specs.packet_wires.specs.computed_changes.specs.Checkpoints.{is_of_last, taken_step}
use Rattle.packet_runs.specs.packet_wires.specs.computed_changes.specs.Checkpoints.{taken_step_where}
use Rattle.packet_runs.specs.packet_wires.specs.computed_changes.specs.Fitting.{depths_of}
use Rattle.packet_runs.specs.packet_wires.specs.computed_changes.specs.Handed.{copy_in, step_by, step_on}
use Rattle.packet_runs.specs.packet_wires.specs.computed_changes.specs.Replies.{awaits, reply_step, reply_step_where}
use Rattle.packet_runs.specs.packet_wires.specs.computed_changes.specs.Requests.{early_step, request_step}
use Rattle.history_laws.specs.Present.{present_pair}
use Rattle.history_laws.proofs.Presents.{recent-twice}
use Rattle.history_laws.proofs.Steps.{present_records, present_step, present_steps}

module _ (site : Site) (number : ℕ) (pair : Pair) (records : Records) where
  early : (k : Which) (request : Request) → present_step (early_step k pair records request)
      ≡ present_step (early_step k (present_pair pair) (present_records records) request)
  early First request = rw (recent-twice pair.checkpoints) refl
  early Second request = rw (recent-twice pair.checkpoints) refl

  request-at : (k : Which) (request : Request) (role : Role)
      → present_steps (request_step k pair records request role)
      ≡ present_steps (request_step k (present_pair pair) (present_records records) request role)
  request-at First request Acting = rw (recent-twice pair.checkpoints) refl
  request-at Second request Acting = rw (recent-twice pair.checkpoints) refl
  request-at k request Watching = ap (λ (step : Stepped). Some step) (early k request)
  request-at k request Blank = ap (λ (step : Stepped). Some step) (early k request)
  request-at k request Gone = refl

  got : (k : Which) (reply : Reply) (awaited : Bool)
      → present_steps (reply_step_where number k pair records reply awaited)
      ≡ present_steps (reply_step_where number k (present_pair pair) (present_records records) reply awaited)
  got First reply true = rw (recent-twice pair.checkpoints) refl
  got Second reply true = rw (recent-twice pair.checkpoints) refl
  got k reply false = refl

  reply-at : (k : Which) (reply : Reply) (role : Role)
      → present_steps (reply_step site number k pair records reply role)
      ≡ present_steps (reply_step site number k (present_pair pair) (present_records records) reply role)
  reply-at First reply Acting =
      got First reply (awaits site number pair.first.core reply (process.point pair.first.core.state))
  reply-at Second reply Acting =
      got Second reply (awaits site number pair.second.core reply (process.point pair.second.core.state))
  reply-at k reply Watching = refl
  reply-at k reply Blank = refl
  reply-at k reply Gone = refl

  applied-where : (k : Which) (message : ImageMessage) (core : Core) (behind : Bool)
      → present_step (applied_step_where number k pair records message core behind)
      ≡ present_step
      (applied_step_where number k (present_pair pair) (present_records records) message core behind)
  applied-where First message core true = rw (recent-twice pair.checkpoints) refl
  applied-where First message core false = rw (recent-twice pair.checkpoints) refl
  applied-where Second message core true = rw (recent-twice pair.checkpoints) refl
  applied-where Second message core false = rw (recent-twice pair.checkpoints) refl

  applied : (k : Which) (message : ImageMessage) (core : Core)
      → present_step (applied_step number k pair records message core)
      ≡ present_step (applied_step number k (present_pair pair) (present_records records) message core)
  applied First message core =
      applied-where First message core (nat_lt pair.second.position (own_acts number records.kept))
  applied Second message core =
      applied-where Second message core (nat_lt pair.first.position (own_acts number records.kept))

  any-applied : (k : Which) (message : ImageMessage) (core : Option Core)
      → present_steps (option_map (applied_step number k pair records message) core)
      ≡ present_steps (option_map (applied_step number k (present_pair pair) (present_records records) message) core)
  any-applied k message None = refl
  any-applied k message (Some core) = ap (λ (step : Stepped). Some step) (applied k message core)

  pub checkpoint-at : (k : Which) (message : ImageMessage) (role : Role)
      → present_steps (checkpoint_step site number k pair records message role)
      ≡ present_steps (checkpoint_step site number k (present_pair pair) (present_records records) message role)
  checkpoint-at First message role =
      any-applied First message
      (core_as (depths_of site number) pair.first.era pair.first.number pair.first.core message role)
  checkpoint-at Second message role =
      any-applied Second message
      (core_as (depths_of site number) pair.second.era pair.second.number pair.second.core message role)

  told : (k : Which) (last : Bool) → present_steps (taken_step_where k pair records last)
      ≡ present_steps (taken_step_where k (present_pair pair) (present_records records) last)
  told First true = rw (recent-twice pair.checkpoints) refl
  told Second true = rw (recent-twice pair.checkpoints) refl
  told k false = refl

  taken-at : (k : Which) (taken : TakenMessage) (role : Role) → present_steps (taken_step k pair records taken role)
      ≡ present_steps (taken_step k (present_pair pair) (present_records records) taken role)
  taken-at First taken Acting =
      told First (is_of_last pair.first.sent pair.first.era pair.first.number taken)
  taken-at Second taken Acting =
      told Second (is_of_last pair.second.sent pair.second.era pair.second.number taken)
  taken-at k taken Watching = refl
  taken-at k taken Blank = refl
  taken-at k taken Gone = refl

  by-message : (message : Message) (k : Which)
      → present_steps (step_by site number pair records message k)
      ≡ present_steps (step_by site number (present_pair pair) (present_records records) message k)
  by-message (Asking request) First = request-at First request pair.first.role
  by-message (Asking request) Second = request-at Second request pair.second.role
  by-message (Replying reply) First = reply-at First reply pair.first.role
  by-message (Replying reply) Second = reply-at Second reply pair.second.role
  by-message (Checkpointing message) First = checkpoint-at First message pair.first.role
  by-message (Checkpointing message) Second = checkpoint-at Second message pair.second.role
  by-message (Taking taken) First = taken-at First taken pair.first.role
  by-message (Taking taken) Second = taken-at Second taken pair.second.role

  pub message-present : (node : ℕ) (message : Message)
      → present_steps (step_on site number node pair records message)
      ≡ present_steps (step_on site number node (present_pair pair) (present_records records) message)
  message-present node message = by (copy_in node pair)
    where
      by : (k : Option Which)
          → present_steps (option_and_then (step_by site number pair records message) k)
          ≡ present_steps
          (option_and_then (step_by site number (present_pair pair) (present_records records) message) k)
      by None = refl
      by (Some k) = by-message message k

  by-whole : (k : Which) (role : Role) (message : Option ImageMessage)
      → present_steps
      (option_and_then (λ message. checkpoint_step site number k pair records message role) message)
      ≡ present_steps (option_and_then
      (λ message. checkpoint_step site number k (present_pair pair) (present_records records) message role) message)
  by-whole k role None = refl
  by-whole k role (Some message) = checkpoint-at k message role

  by-change : (change : ChangeMessage) (k : Which)
      → present_steps (change_step site number pair records change k)
      ≡ present_steps (change_step site number (present_pair pair) (present_records records) change k)
  by-change change First = by-whole First pair.first.role (whole_at site number pair change First)
  by-change change Second = by-whole Second pair.second.role (whole_at site number pair change Second)

  pub change-present : (node : ℕ) (change : ChangeMessage)
      → present_steps (change_step_on site number node pair records change)
      ≡ present_steps (change_step_on site number node (present_pair pair) (present_records records) change)
  change-present node change = by (copy_in node pair)
    where
      by : (k : Option Which)
          → present_steps (option_and_then (change_step site number pair records change) k)
          ≡ present_steps
          (option_and_then (change_step site number (present_pair pair) (present_records records) change) k)
      by None = refl
      by (Some k) = by-change change k
