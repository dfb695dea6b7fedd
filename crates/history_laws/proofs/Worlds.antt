-- What changes a world, and what changes its present.
use Rattle.std.proofs.Common.{◌≡◌, ℕ, ◌+◌, ◌==◌, ◌&&◌, ℤ, Bool, true, false, not, List, [], ◌∷◌, ◌++◌, map, slice_get}
use Rattle.std.proofs.Common.{Option, Some, None, refl, ap, ap₂, sym, ◌∙◌, option_map, flat_map}
use Rattle.std.specs.Prelude.{nat_lt}
use Rattle.std.specs.List.{list_any}
use Rattle.checkpoint_image.specs.gd_words.specs.declared.message.Reply.{Reply}
use Rattle.checkpoint_image.specs.tal_tree.specs.declared.site.Site.{Site}
use Rattle.checkpoint_image.specs.tal_tree.specs.declared.site.ProcessSpec.{ProcessSpec}
use Rattle.checkpoint_image.specs.tal_tree.specs.declared.site.Who.{Who}
use Rattle.checkpoint_image.specs.tal_tree.specs.declared.site.Who.TheVariants as who
use Rattle.packet_runs.specs.packet_wires.specs.change_layout.specs.declared.message.ChangeMessage.{ChangeMessage}
use Rattle.schedule_loop.specs.world_semantics.specs.plain_semantics.specs.declared.slot.Opener.{Opener}
use Rattle.schedule_loop.specs.world_semantics.specs.plain_semantics.specs.Machine.{next_request}
use Rattle.schedule_loop.specs.world_semantics.specs.plain_semantics.specs.Openers.{opener_of, openers_of}
use Rattle.schedule_loop.specs.world_semantics.specs.declared.which.Which.{Which}
use Rattle.schedule_loop.specs.world_semantics.specs.declared.which.Which.TheVariants.{First, Second}
use Rattle.schedule_loop.specs.world_semantics.specs.Core.{Core}
use Rattle.schedule_loop.specs.world_semantics.specs.Messages.{Asking, Checkpointing, Message, Replying, Sending}
use Rattle.schedule_loop.specs.world_semantics.specs.Messages.{Taking}
use Rattle.schedule_loop.specs.world_semantics.specs.Records.{records_of}
use Rattle.schedule_loop.specs.world_semantics.specs.Rules.{most_reloads, new_core, pair_after_down, pair_at_down}
use Rattle.schedule_loop.specs.world_semantics.specs.Rules.{reloaded_at, reloaded_by, reloaded_from, renewals_ended}
use Rattle.schedule_loop.specs.world_semantics.specs.Rules.{stopped_pair, takeover_sendings, taker, told_at_down}
use Rattle.schedule_loop.specs.world_semantics.specs.Running.{Done, Stepped, in_world, run_done, run_pair, step_of}
use Rattle.schedule_loop.specs.world_semantics.specs.World.{Pair, Terminal, World, is_marked_by_all, is_pair_of}
use Rattle.schedule_loop.specs.world_semantics.specs.World.{is_whole, terminal_node}
use Rattle.packet_runs.specs.packet_wires.specs.computed_changes.specs.Changed.{change_brought, change_brought_to}
use Rattle.packet_runs.specs.packet_wires.specs.computed_changes.specs.Changed.{change_done, change_step_on}
use Rattle.packet_runs.specs.packet_wires.specs.computed_changes.specs.Entered.{enter_at, enter_done, enter_to}
use Rattle.packet_runs.specs.packet_wires.specs.computed_changes.specs.Entered.{enter_where}
use Rattle.packet_runs.specs.packet_wires.specs.computed_changes.specs.Handed.{brought, brought_to, handed_done}
use Rattle.packet_runs.specs.packet_wires.specs.computed_changes.specs.Handed.{replied_done, step_on}
use Rattle.packet_runs.specs.packet_wires.specs.computed_changes.specs.Replies.{awaits_at, printed_at, printed_done}
use Rattle.packet_runs.specs.packet_wires.specs.computed_changes.specs.Replies.{printed_where}
use Rattle.packet_runs.specs.packet_wires.specs.computed_changes.specs.Stopped.{down_done, mark_where, marked_where}
use Rattle.packet_runs.specs.packet_wires.specs.computed_changes.specs.Stopped.{may_mark, reload_counted, reload_done}
use Rattle.packet_runs.specs.packet_wires.specs.computed_changes.specs.Stopped.{reload_if, reload_where, stop_done}
use Rattle.packet_runs.specs.packet_wires.specs.computed_changes.specs.Stopped.{stop_if, stop_where}
use Rattle.history_laws.specs.Present.{present, present_pair}
use Rattle.history_laws.proofs.Presents.{get-present, pairs-twice, set-present, world-twice}
use Rattle.history_laws.proofs.Messages.{change-present, message-present}
use Rattle.history_laws.proofs.Steps.{present_records, present_step, present_steps, step-present}

abbrev pub present_done : Done → Done
present_done done = record done { world = present done.world }

abbrev pub present_changes : Option Done → Option Done
present_changes changes = option_map present_done changes

-- Steps

-- the change that a step is, in its present, is that of its present
in-present : (number : ℕ) (w : World) (step : Stepped)
    → present_done (in_world number w step) ≡ in_world number (present w) (present_step step)
in-present number w step = rw (set-present w.processes number step.pair) refl

any-in-present : (number : ℕ) (w : World) (steps : Option Stepped)
    → present_changes (option_map (in_world number w) steps)
    ≡ option_map (in_world number (present w)) (present_steps steps)
any-in-present number w None = refl
any-in-present number w (Some step) = ap (λ (done : Done). Some done) (in-present number w step)

-- steps that have one present are changes that have one
changes-alike : (number : ℕ) (w : World) (one other : Option Stepped) → present_steps one ≡ present_steps other
    → present_changes (option_map (in_world number w) one)
    ≡ present_changes (option_map (in_world number (present w)) other)
changes-alike number w one other same =
    any-in-present number w one
    ∙ ap (λ (steps : Option Stepped). option_map (in_world number (present w)) steps) same
    ∙ ap (λ (v : World). option_map (in_world number v) (present_steps other)) (sym (world-twice w))
    ∙ sym (any-in-present number (present w) other)

pub run-present : (site : Site) (number : ℕ) (w : World)
    → present_changes (run_done site number w) ≡ present_changes (run_done site number (present w))
run-present site number w =
    by (slice_get w.processes number)
    ∙ ap (λ (found : Option Pair). present_changes (run_pair site number (present w) found))
    (sym (get-present w.processes number))
  where
    by : (found : Option Pair)
        → present_changes (run_pair site number w found)
        ≡ present_changes (run_pair site number (present w) (option_map present_pair found))
    by None = refl
    by (Some pair) =
        changes-alike number w (step_of site number pair w.downs (records_of w))
        (step_of site number (present_pair pair) w.downs (present_records (records_of w)))
        (step-present site number pair w.downs (records_of w))

-- Messages

module _ (site : Site) (number node : ℕ) (w : World) where
  brought-present : (message : Message)
      → present_changes (brought site number node message w)
      ≡ present_changes (brought site number node message (present w))
  brought-present message =
      by (slice_get w.processes number)
      ∙ ap (λ (found : Option Pair). present_changes (brought_to site number node message (present w) found))
      (sym (get-present w.processes number))
    where
      by : (found : Option Pair)
          → present_changes (brought_to site number node message w found)
          ≡ present_changes (brought_to site number node message (present w) (option_map present_pair found))
      by None = refl
      by (Some pair) =
          changes-alike number w (step_on site number node pair (records_of w) message)
          (step_on site number node (present_pair pair) (present_records (records_of w)) message)
          (message-present site number pair (records_of w) node message)

  change-brought : (change : ChangeMessage)
      → present_changes (change_brought site number node change w)
      ≡ present_changes (change_brought site number node change (present w))
  change-brought change =
      by (slice_get w.processes number)
      ∙ ap (λ (found : Option Pair). present_changes (change_brought_to site number node change (present w) found))
      (sym (get-present w.processes number))
    where
      by : (found : Option Pair)
          → present_changes (change_brought_to site number node change w found)
          ≡ present_changes (change_brought_to site number node change (present w) (option_map present_pair found))
      by None = refl
      by (Some pair) =
          changes-alike number w (change_step_on site number node pair (records_of w) change)
          (change_step_on site number node (present_pair pair) (present_records (records_of w)) change)
          (change-present site number pair (records_of w) node change)

printed-present : (number : ℕ) (reply : Reply) (terminal : Terminal) (w : World) (awaited : Bool)
    → present_changes (printed_where number reply terminal w awaited)
    ≡ present_changes (printed_where number reply terminal (present w) awaited)
printed-present number reply terminal w true = rw (pairs-twice w.processes) refl
printed-present number reply terminal w false = refl

terminal-present : (site : Site) (number : ℕ) (reply : Reply) (w : World) (here : Bool)
    → present_changes (printed_at site number reply w here)
    ≡ present_changes (printed_at site number reply (present w) here)
terminal-present site number reply w false = refl
terminal-present site number reply w true = by (slice_get w.terminals number)
  where
    by : (terminal : Option Terminal)
        → present_changes (printed_done site number reply w terminal)
        ≡ present_changes (printed_done site number reply (present w) terminal)
    by None = refl
    by (Some terminal) = printed-present number reply terminal w (awaits_at site number terminal reply)

replied-present : (site : Site) (node : ℕ) (reply : Reply) (w : World) (opener : Option Who)
    → present_changes (replied_done site node reply w opener)
    ≡ present_changes (replied_done site node reply (present w) opener)
replied-present site node reply w None = refl
replied-present site node reply w (Some (who.File number file)) = brought-present site number node w (Replying reply)
replied-present site node reply w (Some (who.Terminal number)) =
    terminal-present site number reply w (node == terminal_node)

pub handed-present : (site : Site) (node : ℕ) (message : Message) (w : World)
    → present_changes (handed_done site node message w) ≡ present_changes (handed_done site node message (present w))
handed-present site node (Asking request) w = brought-present site request.process node w (Asking request)
handed-present site node (Replying reply) w =
    replied-present site node reply w (option_map (λ opener. opener.who)
    (slice_get (openers_of site reply.process) reply.opener))
handed-present site node (Checkpointing message) w =
    brought-present site message.process node w (Checkpointing message)
handed-present site node (Taking taken) w = brought-present site taken.process node w (Taking taken)

pub changed-present : (site : Site) (node : ℕ) (change : ChangeMessage) (w : World)
    → present_changes (change_done site node change w) ≡ present_changes (change_done site node change (present w))
changed-present site node change w = change-brought site change.process node w change

-- Terminals

entered-present : (number : ℕ) (terminal : Terminal) (w : World) (words : Option (List ℤ)) (opener : Option Opener)
    → present_changes (enter_to number terminal w words opener)
    ≡ present_changes (enter_to number terminal (present w) words opener)
entered-present number terminal w words None = refl
entered-present number terminal w None (Some opener) = refl
entered-present number terminal w (Some words) (Some opener) = rw (pairs-twice w.processes) refl

pub enter-present : (site : Site) (number : ℕ) (w : World)
    → present_changes (enter_done site number w) ≡ present_changes (enter_done site number (present w))
enter-present site number w = by (slice_get w.terminals number)
  where
    if-free : (terminal : Terminal) (free : Bool)
        → present_changes (enter_where site number terminal w free)
        ≡ present_changes (enter_where site number terminal (present w) free)
    if-free terminal true =
        entered-present number terminal w (next_request site number terminal.entered)
        (opener_of site (who.Terminal number))
    if-free terminal false = refl

    by : (terminal : Option Terminal)
        → present_changes (enter_at site number w terminal)
        ≡ present_changes (enter_at site number (present w) terminal)
    by None = refl
    by (Some terminal) = if-free terminal (terminal.entered == terminal.printed)

-- Stops

-- what changes each process by itself changes its present so
pub each-present : (change : Pair → Pair) → ((pair : Pair) → present_pair (change pair) ≡ change (present_pair pair))
    → (pairs : List Pair) → map present_pair (map change pairs) ≡ map change (map present_pair pairs)
each-present change same [] = refl
each-present change same (pair ∷ pairs) =
    ap₂ (λ (p : Pair) (ps : List Pair). p ∷ ps) (same pair) (each-present change same pairs)

-- and twice
each-twice : (change : Pair → Pair) → ((pair : Pair) → present_pair (change pair) ≡ change (present_pair pair))
    → (pairs : List Pair) → map present_pair (map change pairs) ≡ map present_pair (map change (map present_pair pairs))
each-twice change same pairs =
    each-present change same pairs
    ∙ ap (λ (ps : List Pair). map change ps) (sym (pairs-twice pairs))
    ∙ sym (each-present change same (map present_pair pairs))

pairs-whole : (pairs : List Pair)
    → list_any (λ pair. not (is_pair_of pair.first.role pair.second.role)) (map present_pair pairs)
    ≡ list_any (λ pair. not (is_pair_of pair.first.role pair.second.role)) pairs
pairs-whole [] = refl
pairs-whole (pair ∷ pairs) = rw (pairs-whole pairs) refl

whole-present : (w : World) → is_whole (present w) ≡ is_whole w
whole-present w = rw (pairs-whole w.processes) refl

stop-present-if : (processor : ℕ) (w : World) (whole : Bool)
    → present_changes (stop_if processor w whole) ≡ present_changes (stop_if processor (present w) whole)
stop-present-if processor w false = refl
stop-present-if processor w true = rw (each-twice (stopped_pair processor) (λ pair. refl) w.processes) refl

pub stop-present : (processor : ℕ) (w : World)
    → present_changes (stop_done processor w) ≡ present_changes (stop_done processor (present w))
stop-present processor w = by (slice_get w.stopped processor)
  where
    by : (stopped : Option Bool)
        → present_changes (stop_where processor w stopped) ≡ present_changes (stop_where processor (present w) stopped)
    by None = refl
    by (Some true) = refl
    by (Some false) =
        stop-present-if processor w (is_whole w)
        ∙ ap (λ (whole : Bool). present_changes (stop_if processor (present w) whole)) (sym (whole-present w))

-- Marks

module _ (node processor : ℕ) where
  down-pair : (pair : Pair)
      → present_pair (pair_at_down node processor pair) ≡ pair_at_down node processor (present_pair pair)
  down-pair pair = by (taker node processor pair)
    where
      by : (k : Option Which)
          → present_pair (renewals_ended node processor (pair_after_down k pair))
          ≡ renewals_ended node processor (pair_after_down k (present_pair pair))
      by None = refl
      by (Some First) = refl
      by (Some Second) = refl

  told-pair : (pair : Pair) → told_at_down node processor (present_pair pair) ≡ told_at_down node processor pair
  told-pair pair = by (taker node processor pair)
    where
      by : (k : Option Which) → takeover_sendings k (present_pair pair) ≡ takeover_sendings k pair
      by None = refl
      by (Some First) = refl
      by (Some Second) = refl

  told-all : (pairs : List Pair)
      → flat_map (told_at_down node processor) (map present_pair pairs) ≡ flat_map (told_at_down node processor) pairs
  told-all [] = refl
  told-all (pair ∷ pairs) =
      ap₂ (λ (front rest : List Sending). front ++ rest) (told-pair pair) (told-all pairs)

  marked-present : (w : World) (may : Bool)
      → present_changes (marked_where node processor w may)
      ≡ present_changes (marked_where node processor (present w) may)
  marked-present w false = refl
  marked-present w true =
      rw (each-twice (pair_at_down node processor) down-pair w.processes, told-all w.processes) refl

  pub down-present : (w : World)
      → present_changes (down_done node processor w) ≡ present_changes (down_done node processor (present w))
  down-present w = by (slice_get w.stopped processor)
    where
      by : (stopped : Option Bool)
          → present_changes (mark_where node processor w stopped)
          ≡ present_changes (mark_where node processor (present w) stopped)
      by None = refl
      by (Some true) = marked-present w (may_mark node processor w)
      by (Some false) = refl

-- Reloads

module _ (site : Site) (processor : ℕ) where
  reloaded-pair : (number : ℕ) (spec : Option ProcessSpec) (pair : Pair)
      → present_pair (reloaded_at site processor number spec pair)
      ≡ reloaded_at site processor number spec (present_pair pair)
  reloaded-pair number spec pair =
      by (new_core site number spec pair.first.core) (pair.first.processor == processor)
      (pair.second.processor == processor)
    where
      by : (core : Core) (first second : Bool)
          → present_pair (reloaded_by core pair first second) ≡ reloaded_by core (present_pair pair) first second
      by core false false = refl
      by core true false = refl
      by core false true = refl
      by core true true = refl

  reloaded-pairs : (number : ℕ) (pairs : List Pair)
      → map present_pair (reloaded_from site processor number pairs)
      ≡ reloaded_from site processor number (map present_pair pairs)
  reloaded-pairs number [] = refl
  reloaded-pairs number (pair ∷ pairs) =
      ap₂ (λ (p : Pair) (ps : List Pair). p ∷ ps)
      (reloaded-pair number (slice_get site.processes number) pair) (reloaded-pairs (number + 1) pairs)

  reloaded-twice : (pairs : List Pair)
      → map present_pair (reloaded_from site processor 0 pairs)
      ≡ map present_pair (reloaded_from site processor 0 (map present_pair pairs))
  reloaded-twice pairs =
      reloaded-pairs 0 pairs
      ∙ ap (λ (ps : List Pair). reloaded_from site processor 0 ps) (sym (pairs-twice pairs))
      ∙ sym (reloaded-pairs 0 (map present_pair pairs))

  counted-present : (w : World) (times : ℕ) (may : Bool)
      → present_changes (reload_if site processor times w may)
      ≡ present_changes (reload_if site processor times (present w) may)
  counted-present w times false = refl
  counted-present w times true = rw (reloaded-twice w.processes) refl

  pub reload-present : (w : World)
      → present_changes (reload_done site processor w) ≡ present_changes (reload_done site processor (present w))
  reload-present w = by (slice_get w.stopped processor)
    where
      of-count : (times : Option ℕ)
          → present_changes (reload_counted site processor w times)
          ≡ present_changes (reload_counted site processor (present w) times)
      of-count None = refl
      of-count (Some times) = counted-present w times (is_marked_by_all w processor && nat_lt times most_reloads)

      by : (stopped : Option Bool)
          → present_changes (reload_where site processor w stopped)
          ≡ present_changes (reload_where site processor (present w) stopped)
      by None = refl
      by (Some true) = of-count (slice_get w.reloads processor)
      by (Some false) = refl
