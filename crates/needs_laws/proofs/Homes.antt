-- A step of a process leaves its copies in their processors.
use Rattle.std.proofs.Common.{◌∙◌, nat_lt, not}
use Rattle.std.proofs.Common.{◌≡◌, ℕ, Bool, true, false, List, Option, Some, None, option_and_then, option_map, refl}
use Rattle.gd_words.specs.declared.message.Request.{Request}
use Rattle.gd_words.specs.declared.message.Reply.{Reply}
use Rattle.tal_tree.specs.declared.site.Site.{Site}
use Rattle.process_semantics.specs.declared.point.Point.{Point}
use Rattle.process_semantics.specs.declared.point.Point.TheVariants as point
use Rattle.process_semantics.specs.Process as process
use Rattle.checkpoint_image.specs.declared.message.ImageMessage.{ImageMessage}
use Rattle.checkpoint_image.specs.declared.message.TakenMessage.{TakenMessage}
use Rattle.world_semantics.specs.declared.role.Role.{Role}
use Rattle.world_semantics.specs.declared.role.Role.TheVariants.{Acting, Watching, Blank, Gone}
use Rattle.world_semantics.specs.declared.which.Which.{Which}
use Rattle.world_semantics.specs.declared.which.Which.TheVariants.{First, Second}
use Rattle.world_semantics.specs.Core.{Core}
use Rattle.world_semantics.specs.World.{Down, Pair, copy_of, has_marked, may_pass, other_of, with_copy}
use Rattle.world_semantics.specs.Messages.{Message, Asking, Replying, Checkpointing, Taking}
use Rattle.world_semantics.specs.Records.{Records}
use Rattle.world_semantics.specs.Kept.{own_acts}
use Rattle.world_semantics.specs.Passes.{after_told}
use Rattle.world_semantics.specs.Rules.{after_takeover, pair_after_down, pair_at_down, reloaded_by, renewals_ended}
use Rattle.world_semantics.specs.Rules.{taker}
use Rattle.world_semantics.specs.Running.{Own, Stepped, first_step, step_at_checkpoint, own_of, own_step, passing_step}
use Rattle.world_semantics.specs.Running.{ending_step, free_step, renewing_step, sending_step, step_as, step_at}
use Rattle.world_semantics.specs.Running.{step_if, step_of, step_of_copy}
use Rattle.computed_changes.specs.Checkpoints.{applied_step, applied_step_where, core_as, is_of_last, taken_step}
use Rattle.computed_changes.specs.Checkpoints.{taken_step_where}
use Rattle.computed_changes.specs.Fitting.{depths_of}
use Rattle.computed_changes.specs.Handed.{copy_in, step_by, step_on}
use Rattle.computed_changes.specs.Replies.{awaits, got_step, reply_step, reply_step_where}
use Rattle.computed_changes.specs.Requests.{after_early_request, after_request, request_step}

-- both copies stay where they are
abbrev pub AreHome : Pair → Pair → Type 0
AreHome before after = (j : Which) → (copy_of j after).processor ≡ (copy_of j before).processor

abbrev pub StepsHome : Pair → Option Stepped → Type 0
StepsHome pair None = Unit {0}
StepsHome pair (Some step) = AreHome pair step.pair

-- Runs

module _ (site : Site) (number : ℕ) (pair : Pair) (downs : List Down) (records : Records) where
  own-home : (k : Which) (own : Own) (j : Which)
      → (copy_of j (own_step number k pair records own).pair).processor ≡ (copy_of j pair).processor
  own-home First own First = refl
  own-home First own Second = refl
  own-home Second own First = refl
  own-home Second own Second = refl

  own-any : (k : Which) (own : Option Own) → StepsHome pair (option_map (own_step number k pair records) own)
  own-any k None = tt
  own-any k (Some own) = own-home k own

  passed-home : (k j : Which)
      → (copy_of j (passing_step number k pair records).pair).processor ≡ (copy_of j pair).processor
  passed-home First First = refl
  passed-home First Second = refl
  passed-home Second First = refl
  passed-home Second Second = refl

  sent-home : (k j : Which)
      → (copy_of j (sending_step number k pair records).pair).processor ≡ (copy_of j pair).processor
  sent-home First First = refl
  sent-home First Second = refl
  sent-home Second First = refl
  sent-home Second Second = refl

  checkpoint-home : (k : Which) (free sent : Bool) → StepsHome pair (step_at_checkpoint number k pair records free sent)
  checkpoint-home k true sent = passed-home k
  checkpoint-home k false true = tt
  checkpoint-home k false false = sent-home k

  ended-home : (k j : Which)
      → (copy_of j (ending_step number k pair records).pair).processor ≡ (copy_of j pair).processor
  ended-home First First = refl
  ended-home First Second = refl
  ended-home Second First = refl
  ended-home Second Second = refl

  if-home : (test : Bool) (step : Stepped) → AreHome pair step.pair → StepsHome pair (step_if test step)
  if-home true step home = home
  if-home false step home = tt

  everything-home : (k : Which) (is_marked : Bool)
      → StepsHome pair (step_if is_marked (sending_step number k pair records))
  everything-home k is_marked = if-home is_marked (sending_step number k pair records) (sent-home k)

  abbrev unmarked : Which → Bool
  unmarked k = not (has_marked downs (copy_of k pair).processor (copy_of (other_of k) pair).processor)

  renewed-home : (k : Which) (stands : Point) → StepsHome pair (renewing_step number k pair downs records stands)
  renewed-home k point.Await = tt
  renewed-home k point.AtCheckpoint = everything-home k (unmarked k)
  renewed-home k point.Inner = everything-home k (unmarked k)
  renewed-home k point.Take = everything-home k (unmarked k)
  renewed-home k point.Ask = everything-home k (unmarked k)
  renewed-home k point.Answer = everything-home k (unmarked k)
  renewed-home k point.Device = everything-home k (unmarked k)
  renewed-home k point.Ended = everything-home k (unmarked k)

  free-home : (k : Which) (stands : Point) (sent renewal : Bool)
      → StepsHome pair (free_step site number k pair downs records stands sent renewal)
  free-home k stands true renewal =
      if-home (may_pass downs k pair) (ending_step number k pair records) (ended-home k)
  free-home k stands false true = renewed-home k stands
  free-home k stands false false = own-any k (own_of site number k pair records stands)

  at-home : (k : Which) (stands : Point) → StepsHome pair (step_at site number k pair downs records stands)
  at-home k point.AtCheckpoint = checkpoint-home k (may_pass downs k pair) (copy_of k pair).sent
  at-home k point.Inner = free-home k point.Inner (copy_of k pair).sent (copy_of k pair).renewal
  at-home k point.Take = free-home k point.Take (copy_of k pair).sent (copy_of k pair).renewal
  at-home k point.Ask = free-home k point.Ask (copy_of k pair).sent (copy_of k pair).renewal
  at-home k point.Await = free-home k point.Await (copy_of k pair).sent (copy_of k pair).renewal
  at-home k point.Answer = free-home k point.Answer (copy_of k pair).sent (copy_of k pair).renewal
  at-home k point.Device = free-home k point.Device (copy_of k pair).sent (copy_of k pair).renewal
  at-home k point.Ended = free-home k point.Ended (copy_of k pair).sent (copy_of k pair).renewal

  as-home : (k : Which) (role : Role) → StepsHome pair (step_as site number k pair downs records role)
  as-home k Acting = at-home k (process.point (copy_of k pair).core.state)
  as-home k Watching = tt
  as-home k Blank = tt
  as-home k Gone = tt

  first-home : (one other : Option Stepped) → StepsHome pair one → StepsHome pair other
      → StepsHome pair (first_step one other)
  first-home None other at too = too
  first-home (Some step) other at too = at

  pub run-home : StepsHome pair (step_of site number pair downs records)
  run-home =
      first-home (step_of_copy site number pair downs records First)
      (step_of_copy site number pair downs records Second) (as-home First pair.first.role)
      (as-home Second pair.second.role)

-- Messages

module _ (site : Site) (number : ℕ) (pair : Pair) (records : Records) where
  asked-home : (k : Which) (request : Request) (j : Which)
      → (copy_of j (with_copy k (after_request (copy_of k pair) request) pair)).processor ≡ (copy_of j pair).processor
  asked-home First request First = refl
  asked-home First request Second = refl
  asked-home Second request First = refl
  asked-home Second request Second = refl

  early-home : (k : Which) (request : Request) (j : Which)
      → (copy_of j (with_copy k (after_early_request (copy_of k pair) request) pair)).processor
      ≡ (copy_of j pair).processor
  early-home First request First = refl
  early-home First request Second = refl
  early-home Second request First = refl
  early-home Second request Second = refl

  request-home : (k : Which) (request : Request) (role : Role)
      → StepsHome pair (request_step k pair records request role)
  request-home k request Acting = asked-home k request
  request-home k request Watching = early-home k request
  request-home k request Blank = early-home k request
  request-home k request Gone = tt

  answered-home : (k : Which) (reply : Reply) (j : Which)
      → (copy_of j (got_step number k pair records reply).pair).processor ≡ (copy_of j pair).processor
  answered-home First reply First = refl
  answered-home First reply Second = refl
  answered-home Second reply First = refl
  answered-home Second reply Second = refl

  got-home : (k : Which) (reply : Reply) (test : Bool)
      → StepsHome pair (reply_step_where number k pair records reply test)
  got-home k reply true = answered-home k reply
  got-home k reply false = tt

  reply-home : (k : Which) (reply : Reply) (role : Role)
      → StepsHome pair (reply_step site number k pair records reply role)
  reply-home k reply Acting =
      got-home k reply (awaits site number (copy_of k pair).core reply (process.point (copy_of k pair).core.state))
  reply-home k reply Watching = tt
  reply-home k reply Blank = tt
  reply-home k reply Gone = tt

  applied-where : (k : Which) (message : ImageMessage) (core : Core) (behind : Bool) (j : Which)
      → (copy_of j (applied_step_where number k pair records message core behind).pair).processor
      ≡ (copy_of j pair).processor
  applied-where First message core true First = refl
  applied-where First message core true Second = refl
  applied-where Second message core true First = refl
  applied-where Second message core true Second = refl
  applied-where First message core false First = refl
  applied-where First message core false Second = refl
  applied-where Second message core false First = refl
  applied-where Second message core false Second = refl

  applied-home : (k : Which) (message : ImageMessage) (core : Core) (j : Which)
      → (copy_of j (applied_step number k pair records message core).pair).processor ≡ (copy_of j pair).processor
  applied-home k message core =
      applied-where k message core (nat_lt (copy_of (other_of k) pair).position (own_acts number records.kept))

  applied-any : (k : Which) (message : ImageMessage) (core : Option Core)
      → StepsHome pair (option_map (applied_step number k pair records message) core)
  applied-any k message None = tt
  applied-any k message (Some core) = applied-home k message core

  acked-home : (k j : Which)
      → (copy_of j (with_copy k (after_told (copy_of k pair)) pair)).processor
      ≡ (copy_of j pair).processor
  acked-home First First = refl
  acked-home First Second = refl
  acked-home Second First = refl
  acked-home Second Second = refl

  told-home : (k : Which) (last : Bool) → StepsHome pair (taken_step_where k pair records last)
  told-home k true = acked-home k
  told-home k false = tt

  taken-home : (k : Which) (taken : TakenMessage) (role : Role)
      → StepsHome pair (taken_step k pair records taken role)
  taken-home k taken Acting =
      told-home k (is_of_last (copy_of k pair).sent (copy_of k pair).era (copy_of k pair).number taken)
  taken-home k taken Watching = tt
  taken-home k taken Blank = tt
  taken-home k taken Gone = tt

  by-home : (message : Message) (k : Which) → StepsHome pair (step_by site number pair records message k)
  by-home (Asking request) k = request-home k request (copy_of k pair).role
  by-home (Replying reply) k = reply-home k reply (copy_of k pair).role
  by-home (Checkpointing message) k =
      applied-any k message
      (core_as (depths_of site number) (copy_of k pair).era (copy_of k pair).number (copy_of k pair).core message
      (copy_of k pair).role)
  by-home (Taking taken) k = taken-home k taken (copy_of k pair).role

  pub on-home : (node : ℕ) (message : Message) → StepsHome pair (step_on site number node pair records message)
  on-home node message = by (copy_in node pair)
    where
      by : (found : Option Which)
          → StepsHome pair (option_and_then (step_by site number pair records message) found)
      by None = tt
      by (Some k) = by-home message k

-- Marks and stops

taken_over-home : (k : Which) (pair : Pair) (j : Which)
    → (copy_of j (after_takeover k pair)).processor ≡ (copy_of j pair).processor
taken_over-home First pair First = refl
taken_over-home First pair Second = refl
taken_over-home Second pair First = refl
taken_over-home Second pair Second = refl

ended-renewals : (node processor : ℕ) (pair : Pair) → AreHome pair (renewals_ended node processor pair)
ended-renewals node processor pair First = refl
ended-renewals node processor pair Second = refl

pub marked-home : (node processor : ℕ) (pair : Pair) → AreHome pair (pair_at_down node processor pair)
marked-home node processor pair = by (taker node processor pair)
  where
    by : (found : Option Which) → AreHome pair (renewals_ended node processor (pair_after_down found pair))
    by None = ended-renewals node processor pair
    by (Some k) = λ j.
        ended-renewals node processor (after_takeover k pair) j ∙ taken_over-home k pair j

-- Reloads

pub reloaded-home : (core : Core) (pair : Pair) (first second : Bool)
    → AreHome pair (reloaded_by core pair first second)
reloaded-home core pair false false j = refl
reloaded-home core pair true false First = refl
reloaded-home core pair true false Second = refl
reloaded-home core pair false true First = refl
reloaded-home core pair false true Second = refl
reloaded-home core pair true true First = refl
reloaded-home core pair true true Second = refl
