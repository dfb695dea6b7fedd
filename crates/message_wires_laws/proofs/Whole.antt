-- What is played in a whole world leaves it whole, but for a stop.
use Rattle.std.proofs.Common.{◌≡◌, ◌||◌, ◌==◌, ℕ, zero, suc, ◌+◌, Bool, true, false, not, nat_lt, List, [], ◌∷◌}
use Rattle.std.proofs.Common.{Option, Some, None, option_and_then, option_map, slice_get, slice_set, refl, sym, ap, ◌∙◌}
use Rattle.std.specs.Cmp.Derive.{both_true}
use Rattle.std.specs.List.{list_any}
use Rattle.gd_words.specs.declared.message.Reply.{Reply}
use Rattle.gd_words.specs.declared.message.Request.{Request}
use Rattle.tal_tree.specs.declared.site.ProcessSpec.{ProcessSpec}
use Rattle.tal_tree.specs.declared.site.Site.{Site}
use Rattle.tal_tree.specs.declared.site.Who.{Who}
use Rattle.tal_tree.specs.declared.site.Who.TheVariants as who
use Rattle.process_semantics.specs.declared.point.Point.{Point}
use Rattle.process_semantics.specs.declared.point.Point.TheVariants as point
use Rattle.process_semantics.specs.Process as process
use Rattle.plain_semantics.specs.Openers.{opener_of, openers_of}
use Rattle.plain_semantics.specs.Machine.{next_request}
use Rattle.world_semantics.specs.checkpoint_image.specs.declared.message.ImageMessage.{ImageMessage}
use Rattle.world_semantics.specs.checkpoint_image.specs.declared.message.TakenMessage.{TakenMessage}
use Rattle.world_semantics.specs.declared.role.Role.{Role}
use Rattle.world_semantics.specs.declared.role.Role.TheVariants.{Acting, Watching, Blank, Gone}
use Rattle.world_semantics.specs.declared.which.Which.{Which}
use Rattle.world_semantics.specs.declared.which.Which.TheVariants.{First, Second}
use Rattle.world_semantics.specs.Core.{Core}
use Rattle.world_semantics.specs.Kept.{own_acts}
use Rattle.world_semantics.specs.Messages.{Message, Asking, Replying, Checkpointing, Taking}
use Rattle.world_semantics.specs.Records.{Records, records_of}
use Rattle.world_semantics.specs.Running.{Done, Own, Stepped, copy_acted, ending_step, first_step, free_step}
use Rattle.world_semantics.specs.Running.{step_at_checkpoint}
use Rattle.world_semantics.specs.Running.{copy_passed, own_of, own_step, renewing_step, run_done, run_pair}
use Rattle.world_semantics.specs.Running.{sending_step, step_as, step_at, step_if, step_of, step_of_copy}
use Rattle.world_semantics.specs.Passes.{after_sending, after_sent, after_told, checkpoint_of}
use Rattle.world_semantics.specs.World.{Copy, Down, Pair, Terminal, World, boot, copy_of, has_marked, is_pair_of}
use Rattle.world_semantics.specs.World.{is_whole, may_pass, other_of, pairs_at_boot, terminal_node, with_copy}
use Rattle.world_semantics.proofs.Lifted.{lifted}
use Rattle.world_semantics.proofs.Lists.{some-same}
use Rattle.world_semantics.proofs.Roles.{both-true}
use Rattle.computed_changes.specs.Checkpoints.{applied_step, applied_step_where, checkpoint_step, core_where}
use Rattle.computed_changes.specs.Checkpoints.{is_next_for, is_of_last, taken_step, taken_step_where}
use Rattle.computed_changes.specs.Entered.{enter_at, enter_to, enter_where, enter_done, entered_done}
use Rattle.computed_changes.specs.Fitting.{depths_of}
use Rattle.computed_changes.specs.Handed.{brought, brought_to, copy_in, handed_done, replied_done, step_by, step_on}
use Rattle.computed_changes.specs.Replies.{awaits, copy_got, printed_at, printed_done, printed_where, reply_step}
use Rattle.computed_changes.specs.Replies.{reply_step_where}
use Rattle.computed_changes.specs.Requests.{after_early_request, after_request, request_step}
use Rattle.computed_changes.specs.Stopped.{down_done, mark_where, reload_done, reload_where}
use Rattle.message_wires.specs.Play.{MachineState, marked_by, marks_from}
use Rattle.message_wires_laws.proofs.Going.{none-at-boot, none-stopped, whole-runs}

-- Steps of a process

-- of the two copies one acts and the other watches
abbrev IsPaired : Pair → Type 0
IsPaired pair = is_pair_of pair.first.role pair.second.role ≡ true

-- it is so still after a step
abbrev StaysPaired : Pair → Option Stepped → Type 0
StaysPaired pair None = Unit {0}
StaysPaired pair (Some step) = IsPaired pair → IsPaired step.pair

-- a copy changed that has the role that it had
with-role : (k : Which) (copy : Copy) (pair base : Pair) → base.first ≡ pair.first → base.second ≡ pair.second
    → copy.role ≡ (copy_of k pair).role → IsPaired pair → IsPaired (with_copy k copy base)
with-role First copy pair base first second same paired =
    ap (λ r. is_pair_of r base.second.role) same ∙ ap (λ (c : Copy). is_pair_of pair.first.role c.role) second ∙ paired
with-role Second copy pair base first second same paired =
    ap (is_pair_of base.first.role) same ∙ ap (λ (c : Copy). is_pair_of c.role pair.second.role) first ∙ paired

unpaired : (role : Role) → is_pair_of role Blank ≡ true → ⊥
unpaired Acting e = cc
unpaired Watching e = cc
unpaired Blank e = cc
unpaired Gone e = cc

none-blank : (k : Which) (pair : Pair) → (copy_of k pair).role ≡ Blank → IsPaired pair → ⊥
none-blank First pair blank paired =
    let e = sym (ap (λ r. is_pair_of r pair.second.role) blank) ∙ paired in cc
none-blank Second pair blank paired =
    unpaired pair.first.role (sym (ap (is_pair_of pair.first.role) blank) ∙ paired)

module _ (site : Site) (number : ℕ) (pair : Pair) (records : Records) where
  own-paired : (k : Which) (own : Option Own) → StaysPaired pair (option_map (own_step number k pair records) own)
  own-paired k None = tt
  own-paired k (Some own) =
      with-role k (copy_acted number records.kept own (copy_of k pair)) pair
      (record pair { sectors = own.after.sectors }) refl refl refl

  sending-paired : (k : Which) → IsPaired pair → IsPaired (sending_step number k pair records).pair
  sending-paired k =
      with-role k (after_sending (copy_of k pair)) pair
      (record pair { checkpoints = checkpoint_of number (copy_of k pair) ∷ pair.checkpoints }) refl refl refl

  if-paired : (step : Stepped) → (IsPaired pair → IsPaired step.pair) → (may : Bool)
      → StaysPaired pair (step_if may step)
  if-paired step stays true = stays
  if-paired step stays false = tt

  module _ (downs : List Down) (k : Which) where
    at-checkpoint-paired : (free sent : Bool) → StaysPaired pair (step_at_checkpoint number k pair records free sent)
    at-checkpoint-paired true sent = with-role k (copy_passed number records (copy_of k pair)) pair pair refl refl refl
    at-checkpoint-paired false true = tt
    at-checkpoint-paired false false = sending-paired k

    renewing-paired : (stands : Point) → StaysPaired pair (renewing_step number k pair downs records stands)
    renewing-paired stands = by stands
      where
        may : StaysPaired pair (step_if
            (not (has_marked downs (copy_of k pair).processor (copy_of (other_of k) pair).processor))
            (sending_step number k pair records))
        may = if-paired (sending_step number k pair records) (sending-paired k) _

        by : (stands : Point) → StaysPaired pair (renewing_step number k pair downs records stands)
        by point.Await = tt
        by point.AtCheckpoint = may
        by point.Inner = may
        by point.Take = may
        by point.Ask = may
        by point.Answer = may
        by point.Device = may
        by point.Ended = may

    free-paired : (stands : Point) (sent renewal : Bool)
        → StaysPaired pair (free_step site number k pair downs records stands sent renewal)
    free-paired stands true renewal =
        if-paired (ending_step number k pair records)
        (with-role k (after_sent (copy_of k pair)) pair pair refl refl refl) (may_pass downs k pair)
    free-paired stands false true = renewing-paired stands
    free-paired stands false false = own-paired k (own_of site number k pair records stands)

    point-paired : (stands : Point) → StaysPaired pair (step_at site number k pair downs records stands)
    point-paired point.AtCheckpoint = at-checkpoint-paired (may_pass downs k pair) (copy_of k pair).sent
    point-paired point.Inner = free-paired point.Inner _ _
    point-paired point.Take = free-paired point.Take _ _
    point-paired point.Ask = free-paired point.Ask _ _
    point-paired point.Answer = free-paired point.Answer _ _
    point-paired point.Device = free-paired point.Device _ _
    point-paired point.Await = free-paired point.Await _ _
    point-paired point.Ended = free-paired point.Ended _ _

    role-paired : (role : Role) → StaysPaired pair (step_as site number k pair downs records role)
    role-paired Acting = point-paired (process.point (copy_of k pair).core.state)
    role-paired Watching = tt
    role-paired Blank = tt
    role-paired Gone = tt

  step-paired : (downs : List Down) → StaysPaired pair (step_of site number pair downs records)
  step-paired downs =
      either (step_of_copy site number pair downs records First) (step_of_copy site number pair downs records Second)
      (role-paired downs First pair.first.role) (role-paired downs Second pair.second.role)
    where
      either : (one other : Option Stepped) → StaysPaired pair one → StaysPaired pair other
          → StaysPaired pair (first_step one other)
      either None other first second = second
      either (Some step) other first second = first

  -- Messages

  applied-paired : (k : Which) (message : ImageMessage) (core : Core) (behind : Bool) → (copy_of k pair).role ≡ Watching
      → IsPaired pair → IsPaired (applied_step_where number k pair records message core behind).pair
  applied-paired First message core true role paired = ap (λ r. is_pair_of r pair.second.role) (sym role) ∙ paired
  applied-paired First message core false role paired = ap (λ r. is_pair_of r pair.second.role) (sym role) ∙ paired
  applied-paired Second message core true role paired = ap (is_pair_of pair.first.role) (sym role) ∙ paired
  applied-paired Second message core false role paired = ap (is_pair_of pair.first.role) (sym role) ∙ paired

  checkpoint-paired : (k : Which) (message : ImageMessage) (role : Role) → (copy_of k pair).role ≡ role
      → StaysPaired pair (checkpoint_step site number k pair records message role)
  checkpoint-paired k message Acting is = tt
  checkpoint-paired k message Gone is = tt
  checkpoint-paired k message Watching is = by (core_where (depths_of site number) (copy_of k pair).core message
      (is_next_for (copy_of k pair).era (copy_of k pair).number message))
    where
      by : (core : Option Core) → StaysPaired pair (option_map (applied_step number k pair records message) core)
      by None = tt
      by (Some core) = applied-paired k message core
          (nat_lt (copy_of (other_of k) pair).position (own_acts number records.kept)) is
  checkpoint-paired k message Blank is = by (core_where (depths_of site number) (copy_of k pair).core message
      (is_next_for (copy_of k pair).era (copy_of k pair).number message))
    where
      by : (core : Option Core) → StaysPaired pair (option_map (applied_step number k pair records message) core)
      by None = tt
      by (Some core) = λ paired. absurd (none-blank k pair is paired)

  request-paired : (k : Which) (request : Request) (role : Role)
      → StaysPaired pair (request_step k pair records request role)
  request-paired k request Acting = with-role k (after_request (copy_of k pair) request) pair pair refl refl refl
  request-paired k request Watching =
      with-role k (after_early_request (copy_of k pair) request) pair pair refl refl refl
  request-paired k request Blank = with-role k (after_early_request (copy_of k pair) request) pair pair refl refl refl
  request-paired k request Gone = tt

  reply-paired : (k : Which) (reply : Reply) (role : Role)
      → StaysPaired pair (reply_step site number k pair records reply role)
  reply-paired k reply Acting =
      by (awaits site number (copy_of k pair).core reply (process.point (copy_of k pair).core.state))
    where
      by : (test : Bool) → StaysPaired pair (reply_step_where number k pair records reply test)
      by true = with-role k (copy_got number reply.words records.kept (copy_of k pair)) pair pair refl refl refl
      by false = tt
  reply-paired k reply Watching = tt
  reply-paired k reply Blank = tt
  reply-paired k reply Gone = tt

  taken-paired : (k : Which) (taken : TakenMessage) (role : Role)
      → StaysPaired pair (taken_step k pair records taken role)
  taken-paired k taken Acting =
      by (is_of_last (copy_of k pair).sent (copy_of k pair).era (copy_of k pair).number taken)
    where
      by : (test : Bool) → StaysPaired pair (taken_step_where k pair records test)
      by true = with-role k (after_told (copy_of k pair)) pair pair refl refl refl
      by false = tt
  taken-paired k taken Watching = tt
  taken-paired k taken Blank = tt
  taken-paired k taken Gone = tt

  message-paired : (message : Message) (k : Which) → StaysPaired pair (step_by site number pair records message k)
  message-paired (Asking request) k = request-paired k request (copy_of k pair).role
  message-paired (Replying reply) k = reply-paired k reply (copy_of k pair).role
  message-paired (Checkpointing message) k = checkpoint-paired k message (copy_of k pair).role refl
  message-paired (Taking taken) k = taken-paired k taken (copy_of k pair).role

  on-paired : (node : ℕ) (message : Message) → StaysPaired pair (step_on site number node pair records message)
  on-paired node message = by (copy_in node pair)
    where
      by : (k : Option Which) → StaysPaired pair (option_and_then (step_by site number pair records message) k)
      by None = tt
      by (Some k) = message-paired message k

-- Worlds

-- a process of which not one copy acts and the other watches
abbrev is_parted : Pair → Bool
is_parted pair = not (is_pair_of pair.first.role pair.second.role)

not-true : (b : Bool) → not b ≡ true → b ≡ false
not-true true e = absurd (cc)
not-true false e = refl

not-false : (b : Bool) → not b ≡ false → b ≡ true
not-false true e = refl
not-false false e = absurd (cc)

neither : (a b : Bool) → (a || b) ≡ false → (a ≡ false) × (b ≡ false)
neither true b e = absurd (cc)
neither false b e = (refl, e)

nor : (a b : Bool) → a ≡ false → b ≡ false → (a || b) ≡ false
nor true b first second = absurd (cc)
nor false b first second = second

set-paired : (pairs : List Pair) (number : ℕ) (pair next : Pair) → slice_get pairs number ≡ Some pair
    → (IsPaired pair → IsPaired next) → list_any is_parted pairs ≡ false
    → list_any is_parted (slice_set pairs number next) ≡ false
set-paired [] number pair next there stays all = all
set-paired (one ∷ pairs) zero pair next there stays all =
    let parts = neither (is_parted one) (list_any is_parted pairs) all in
    nor (is_parted next) (list_any is_parted pairs)
    (ap not (stays (not-false _ (ap is_parted (sym (some-same there)) ∙ parts.0)))) parts.1
set-paired (one ∷ pairs) (suc number) pair next there stays all =
    let parts = neither (is_parted one) (list_any is_parted pairs) all in
    nor (is_parted one) (list_any is_parted (slice_set pairs number next)) parts.0
    (set-paired pairs number pair next there stays parts.1)

-- a change leaves a whole world whole
abbrev pub StaysWhole : World → Option Done → Type 0
StaysWhole w None = Unit {0}
StaysWhole w (Some done) = is_whole w ≡ true → is_whole done.world ≡ true

module _ (site : Site) (w : World) where
  lifted-whole : (number : ℕ) (pair : Pair) (step : Option Stepped) → slice_get w.processes number ≡ Some pair
      → StaysPaired pair step → StaysWhole w (lifted number w step)
  lifted-whole number pair None there stays = tt
  lifted-whole number pair (Some step) there stays = λ whole.
      (let both = both-true (not (list_any (λ stopped. stopped) w.stopped)) _ whole in
      both_true both.0
      (ap not (set-paired w.processes number pair step.pair there stays
      (not-true (list_any is_parted w.processes) both.1))))

  pub run-whole : (number : ℕ) → StaysWhole w (run_done site number w)
  run-whole number = by (slice_get w.processes number) refl
    where
      by : (pair : Option Pair) → slice_get w.processes number ≡ pair → StaysWhole w (run_pair site number w pair)
      by None there = tt
      by (Some pair) there =
          lifted-whole number pair (step_of site number pair w.downs (records_of w)) there
          (step-paired site number pair (records_of w) w.downs)

  pub enter-whole : (number : ℕ) → StaysWhole w (enter_done site number w)
  enter-whole number = by (slice_get w.terminals number)
    where
      to : (terminal : Terminal) → (test : Bool) → StaysWhole w (enter_where site number terminal w test)
      to terminal false = tt
      to terminal true = opened (opener_of site (who.Terminal number))
        where
          opened : (opener : Option _) → StaysWhole w
              (enter_to number terminal w (next_request site number terminal.entered) opener)
          opened None = tt
          opened (Some opener) = entered (next_request site number terminal.entered)
            where
              entered : (words : Option _) → StaysWhole w (option_map (entered_done number terminal w opener) words)
              entered None = tt
              entered (Some words) = λ whole. whole

      by : (terminal : Option Terminal) → StaysWhole w (enter_at site number w terminal)
      by None = tt
      by (Some terminal) = to terminal _

  brought-whole : (number node : ℕ) (message : Message) → StaysWhole w (brought site number node message w)
  brought-whole number node message = by (slice_get w.processes number) refl
    where
      by : (pair : Option Pair) → slice_get w.processes number ≡ pair
          → StaysWhole w (brought_to site number node message w pair)
      by None there = tt
      by (Some pair) there =
          lifted-whole number pair (step_on site number node pair (records_of w) message) there
          (on-paired site number pair (records_of w) node message)

  printed-whole : (number : ℕ) (reply : Reply) (test : Bool) → StaysWhole w (printed_at site number reply w test)
  printed-whole number reply false = tt
  printed-whole number reply true = by (slice_get w.terminals number)
    where
      printed : (terminal : Terminal) (test : Bool) → StaysWhole w (printed_where number reply terminal w test)
      printed terminal true = λ whole. whole
      printed terminal false = tt

      by : (terminal : Option Terminal) → StaysWhole w (printed_done site number reply w terminal)
      by None = tt
      by (Some terminal) = printed terminal _

  replied-whole : (node : ℕ) (reply : Reply) (opener : Option Who)
      → StaysWhole w (replied_done site node reply w opener)
  replied-whole node reply None = tt
  replied-whole node reply (Some (who.File number file)) = brought-whole number node (Replying reply)
  replied-whole node reply (Some (who.Terminal number)) = printed-whole number reply (node == terminal_node)

  pub handed-whole : (node : ℕ) (message : Message) → StaysWhole w (handed_done site node message w)
  handed-whole node (Asking request) = brought-whole request.process node (Asking request)
  handed-whole node (Replying reply) =
      replied-whole node reply (option_map (λ opener. opener.who)
      (slice_get (openers_of site reply.process) reply.opener))
  handed-whole node (Checkpointing message) = brought-whole message.process node (Checkpointing message)
  handed-whole node (Taking taken) = brought-whole taken.process node (Taking taken)

  -- nobody marks a processor there, and none is loaded again
  pub none-marked : (node processor : ℕ) → is_whole w ≡ true → down_done node processor w ≡ None
  none-marked node processor whole = by (slice_get w.stopped processor) refl
    where
      by : (stopped : Option Bool) → slice_get w.stopped processor ≡ stopped
          → mark_where node processor w stopped ≡ None
      by None e = refl
      by (Some false) e = refl
      by (Some true) e = absurd (none-stopped w.stopped processor (whole-runs w whole) e)

  pub none-reloaded : (processor : ℕ) → is_whole w ≡ true → reload_done site processor w ≡ None
  none-reloaded processor whole = by (slice_get w.stopped processor) refl
    where
      by : (stopped : Option Bool) → slice_get w.stopped processor ≡ stopped
          → reload_where site processor w stopped ≡ None
      by None e = refl
      by (Some false) e = refl
      by (Some true) e = absurd (none-stopped w.stopped processor (whole-runs w whole) e)

pub none-marked-in : (node processor more : ℕ) (s : MachineState) → is_whole s.world ≡ true
    → marks_from node processor more s ≡ s
none-marked-in node processor zero s whole = refl
none-marked-in node processor (suc more) s whole =
    ap (λ done. marks_from node (processor + 1) more (marked_by node processor s done))
    (none-marked s.site s.world node processor whole)
    ∙ none-marked-in node (processor + 1) more s whole

-- a site begins whole
all-paired : (site : Site) (number : ℕ) (specs : List ProcessSpec)
    → list_any is_parted (pairs_at_boot site number specs) ≡ false
all-paired site number [] = refl
all-paired site number (spec ∷ specs) = all-paired site (number + 1) specs

pub begins-whole : (site : Site) → is_whole (boot site) ≡ true
begins-whole site =
    both_true (ap not (none-at-boot site.processors)) (ap not (all-paired site 0 site.processes))
