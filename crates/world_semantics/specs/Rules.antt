-- The rules of the world, after Bartlett's account of process pairs: what may change in it, where, and what is sent or
-- sent again. Each rule is one constructor: of `Causes` where a copy does an act of its own (inner, take, ask, answer,
-- device, write, reply), of `Passes` where a checkpoint goes from copy to copy (send, pass, end, apply, acknowledge),
-- and else of `Change` (request, early request, enter, print, stop, mark with the takeovers, and reload).
use Rattle.std.specs.Prelude.{◌≡◌, ℕ, ◌+◌, ◌==◌, ◌&&◌, ℤ, Bool, true, false, if◌then◌else◌, List, [], ◌∷◌, map}
use Rattle.std.specs.Prelude.{slice_get, slice_set, Some, Option, None, not, ◌<◌}
use Rattle.std.specs.List.{flat_map, filter}
use Rattle.checkpoint_image.specs.gd_words.specs.declared.message.Request.{Request}
use Rattle.checkpoint_image.specs.gd_words.specs.declared.message.Reply.{Reply}
use Rattle.checkpoint_image.specs.gd_words.specs.Members.{IsAmong}
use Rattle.checkpoint_image.specs.tal_tree.specs.declared.act.Act.{Act}
use Rattle.checkpoint_image.specs.tal_tree.specs.declared.act.Act.TheVariants as act
use Rattle.checkpoint_image.specs.tal_tree.specs.declared.act.Shown.TheVariants as shown
use Rattle.checkpoint_image.specs.tal_tree.specs.declared.site.Site.{Site}
use Rattle.checkpoint_image.specs.tal_tree.specs.declared.site.Who.TheVariants as who
use Rattle.checkpoint_image.specs.tal_tree.specs.declared.site.ProcessSpec.{ProcessSpec}
use Rattle.plain_semantics.specs.declared.slot.Opener.{Opener}
use Rattle.plain_semantics.specs.Openers.{openers_of, opener_of}
use Rattle.plain_semantics.specs.Machine.{next_request}
use Rattle.world_semantics.specs.declared.role.Role.TheVariants.{Acting, Gone, Blank}
use Rattle.checkpoint_image.specs.Receive.{waits, came, reply_sent_again, still_waiting, all_repeated}
use Rattle.world_semantics.specs.Core.{Core, Deed, Advances, core_at_boot}
use Rattle.world_semantics.specs.World.{Copy, Pair, Terminal, World, terminal_node, is_running, has_marked, Which}
use Rattle.world_semantics.specs.World.{First}
use Rattle.world_semantics.specs.World.{Second, other_of, copy_of, with_copy, with_pair, Down, copy_at_boot}
use Rattle.world_semantics.specs.World.{is_watching, is_whole, receives}
use Rattle.world_semantics.specs.Kept.{Enters}
use Rattle.world_semantics.specs.Messages.{Message, Asking, Replying, Sending, sent_at, Cause, Entering, Handing}
use Rattle.world_semantics.specs.Messages.{Stopping, MarkingDown, Reloading, Running}
use Rattle.world_semantics.specs.Own.{Around, around, Causes}
use Rattle.world_semantics.specs.Passes.{Passes}
use Rattle.world_semantics.specs.Shares.{without_held}
use Rattle.checkpoint_image.specs.gd_words.specs.declared.limits.TheConstants.{MOST_RELOADS}

-- Stops

abbrev pub stopped_copy : ℕ → Copy → Copy
stopped_copy processor copy = record copy { role = if copy.processor == processor then Gone else copy.role }

-- a process after a processor stopped: its copy there is gone, and all else of that copy stays as it was
abbrev pub stopped_pair : ℕ → Pair → Pair
stopped_pair processor pair =
    record pair { first = stopped_copy processor pair.first; second = stopped_copy processor pair.second }

-- Takeovers

-- whether a copy takes over when a node marks a processor: it watches on that node, and the other copy's processor is
-- the one that is marked
abbrev pub takes_over : ℕ → ℕ → Which → Pair → Bool
takes_over node processor k pair =
    is_watching (copy_of k pair).role && (copy_of k pair).processor == node
    && (copy_of (other_of k) pair).processor == processor

-- the copy after it took over: it acts in the next era, from the base on, with no checkpoint sent and nothing held
abbrev pub taken_over : ℕ → Copy → Copy
taken_over base copy =
    record copy {
      role = Acting;
      era = copy.era + 1;
      number = 0;
      position = base;
      held = [];
      waiting = still_waiting copy.core.receive copy.waiting;
    }

-- the process after one of its copies took over: the acts that the lost copy held are dropped
abbrev pub after_takeover : Which → Pair → Pair
after_takeover k pair =
    with_copy k (taken_over pair.base (copy_of k pair))
    (with_copy (other_of k) (without_held (copy_of (other_of k) pair)) pair)

-- which copy of a process takes over when a node marks a processor
abbrev pub taker : ℕ → ℕ → Pair → Option Which
taker node processor pair =
    if takes_over node processor First pair then Some First else if takes_over node processor Second pair then Some
    Second else None

abbrev pub pair_after_down : Option Which → Pair → Pair
pair_after_down None pair = pair
pair_after_down (Some k) pair = after_takeover k pair

-- whether a copy needs to send everything still when a node marks a processor: not where it is on that node and the
-- other copy was in that processor
abbrev pub renewal_after_down : ℕ → ℕ → Copy → Copy → Copy
renewal_after_down node processor other copy =
    record copy { renewal = copy.renewal && not (copy.processor == node && other.processor == processor) }

abbrev pub renewals_ended : ℕ → ℕ → Pair → Pair
renewals_ended node processor pair =
    record pair {
      first = renewal_after_down node processor pair.second pair.first;
      second = renewal_after_down node processor pair.first pair.second;
    }

-- a process after a node marked a processor
abbrev pub pair_at_down : ℕ → ℕ → Pair → Pair
pair_at_down node processor pair = renewals_ended node processor (pair_after_down (taker node processor pair) pair)

-- the replies that a copy sends again when it takes over: those kept to its waiting requests
abbrev pub told_again : Copy → List Sending
told_again copy = sent_at copy.processor (map Replying (all_repeated copy.core.receive copy.waiting))

abbrev pub takeover_sendings : Option Which → Pair → List Sending
takeover_sendings None pair = []
takeover_sendings (Some k) pair = told_again (copy_of k pair)

-- what is sent again when a node marks a processor
abbrev pub told_at_down : ℕ → ℕ → Pair → List Sending
told_at_down node processor pair = takeover_sendings (taker node processor pair) pair

-- Reloads

-- a copy at the beginning that waits for a checkpoint of everything of this era
abbrev pub blank_copy : ℕ → ℕ → Core → Copy
blank_copy processor era core = record (copy_at_boot Blank processor core) { era = era }

-- a copy that has to send everything: it is in the next era, with checkpoint number 0, and nothing counts as sent
abbrev pub copy_with_renewal : Copy → Copy
copy_with_renewal copy =
    record copy { era = copy.era + 1; number = 0; sent = false; acknowledged = false; renewal = true }

-- a process with these blank copies in the places of its own: a copy that stays has to send everything to the other
-- one, and leads
abbrev pub pair_with_blanks : Option Copy → Option Copy → Pair → Pair
pair_with_blanks None None pair = pair
pair_with_blanks (Some first) None pair =
    record pair { first = first; second = copy_with_renewal pair.second; led = Second }
pair_with_blanks None (Some second) pair =
    record pair { first = copy_with_renewal pair.first; second = second; led = First }
pair_with_blanks (Some first) (Some second) pair = record pair { first = first; second = second }

-- a process after a processor was loaded again in which its first copy was, its second one, both or none: the copy
-- there is blank, at the beginning of the program, and the other one has to send everything and leads. Of no process
-- that is in two processors both are there
abbrev pub reloaded_by : Core → Pair → Bool → Bool → Pair
reloaded_by core pair false false = pair
reloaded_by core pair true false =
    pair_with_blanks (Some (blank_copy pair.first.processor (pair.second.era + 1) core)) None pair
reloaded_by core pair false true =
    pair_with_blanks None (Some (blank_copy pair.second.processor (pair.first.era + 1) core)) pair
reloaded_by core pair true true =
    pair_with_blanks (Some (blank_copy pair.first.processor (pair.first.era + 1) core))
    (Some (blank_copy pair.second.processor (pair.second.era + 1) core)) pair

abbrev pub reloaded_pair : ℕ → Core → Pair → Pair
reloaded_pair processor core pair =
    reloaded_by core pair (pair.first.processor == processor) (pair.second.processor == processor)

-- the core of a process at its beginning; a process that a site doesn't have keeps its core
abbrev pub new_core : Site → ℕ → Option ProcessSpec → Core → Core
new_core site number None core = core
new_core site number (Some spec) core = core_at_boot site number spec

abbrev pub reloaded_at : Site → ℕ → ℕ → Option ProcessSpec → Pair → Pair
reloaded_at site processor number spec pair = reloaded_pair processor (new_core site number spec pair.first.core) pair

-- the processes from a number on, after a processor was loaded again
abbrev pub reloaded_from : Site → ℕ → ℕ → List Pair → List Pair
reloaded_from site processor number [] = []
reloaded_from site processor number (pair ∷ pairs) =
    reloaded_at site processor number (slice_get site.processes number) pair
    ∷ reloaded_from site processor (number + 1) pairs

-- the marks without those of a processor
abbrev pub without_downs : ℕ → List Down → List Down
without_downs processor downs = filter (λ mark. not (mark.down == processor)) downs

-- how often a processor can be loaded again
abbrev pub most_reloads : ℕ
most_reloads = MOST_RELOADS

-- Changes

-- whether a copy is free to do an act for this cause: where it runs it must have nothing sent and not have to send
-- everything, and a reply may come all the same
abbrev pub IsFreeFor : Cause → Copy → Type 0
IsFreeFor (Running number) copy = (copy.sent ≡ false) × (copy.renewal ≡ false)
IsFreeFor (Entering terminal) copy = Unit {0}
IsFreeFor (Handing node message) copy = Unit {0}
IsFreeFor (Stopping processor) copy = Unit {0}
IsFreeFor (MarkingDown node processor) copy = Unit {0}
IsFreeFor (Reloading processor) copy = Unit {0}

-- the world after an act of a copy
abbrev pub after_own : ℕ → Which → Pair → Core → Copy → Around → List Act → World → World
after_own number k pair core entered after kept w =
    record (with_pair number (with_copy k (record entered { core = core; waiting = after.waiting })
    (record pair { sectors = after.sectors })) w) {
      requests = after.requests;
      replies = after.replies;
      shown = after.shown;
      kept = kept;
    }

-- the request that a terminal enters: its next one
abbrev pub entered_request : Opener → Terminal → List ℤ → Request
entered_request opener terminal words =
    record { process = opener.server; opener = opener.place; number = terminal.entered + 1; words = words }

-- what may change in the world, for which cause, with what is sent or sent again.
-- A copy that acts does an act of its own. A checkpoint goes from copy to copy. A sent request comes to a copy that
-- acts, where it waits or its kept reply is sent again, or early to one that watches or is blank, where it waits. A
-- terminal that has a request left and awaits no reply enters it. A sent reply that a terminal awaits, to the last
-- request that it entered, is printed. A processor that hasn't stopped stops, in a world that is whole. A node that
-- runs marks a processor that has stopped, if it hasn't marked it, and each copy there that watches one in that
-- processor takes over, in the order of the deck. A processor that has stopped is loaded again, if each node that runs
-- has marked it and it wasn't loaded too often: nobody marks it then, and it has blank copies
pub data Change (site : Site) (w : World) : Cause → List Sending → World → Type 0 where
  by_own : {cause : Cause} {deed : Deed} {done : Act} {messages : List Message} {after : Around} {core : Core}
      {entered : Copy} {kept : List Act}
      → (number : ℕ) (k : Which) (pair : Pair) → slice_get w.processes number ≡ Some pair
      → (copy_of k pair).role ≡ Acting
      → Causes site number (copy_of k pair).processor (copy_of k pair).core (around (copy_of k pair) pair w) cause deed
      done messages after
      → Advances (openers_of site number) (copy_of k pair).core deed core
      → Enters number done w.kept (copy_of k pair) entered kept → IsFreeFor cause (copy_of k pair)
      → Change site w cause (sent_at (copy_of k pair).processor messages)
      (after_own number k pair core entered after kept w)
  by_checkpoint : {cause : Cause} {sendings : List Sending} {next : Pair} {kept : List Act}
      → (number : ℕ) (pair : Pair) → slice_get w.processes number ≡ Some pair
      → Passes number w.downs w.kept pair cause sendings next kept
      → Change site w cause sendings (record (with_pair number next w) { kept = kept })
  by_request : (request : Request) (k : Which) (pair : Pair) → IsAmong request w.requests
      → slice_get w.processes request.process ≡ Some pair
      → (copy_of k pair).role ≡ Acting
      → Change site w (Handing (copy_of k pair).processor (Asking request))
      (sent_at (copy_of k pair).processor (map Replying (reply_sent_again (copy_of k pair).core.receive request)))
      (with_pair request.process
      (with_copy k (record (copy_of k pair) {
        waiting =
            came (copy_of k pair).core.receive (copy_of k pair).waiting request;
      }) pair) w)
  by_early_request : (request : Request) (k : Which) (pair : Pair) → IsAmong request w.requests
      → slice_get w.processes request.process ≡ Some pair
      → receives (copy_of k pair).role ≡ true
      → Change site w (Handing (copy_of k pair).processor (Asking request)) []
      (with_pair request.process (with_copy k
      (record (copy_of k pair) { waiting = waits (copy_of k pair).waiting request }) pair) w)
  by_enter : {words : List ℤ} → (number : ℕ) (terminal : Terminal) (opener : Opener)
      → slice_get w.terminals number ≡ Some terminal
      → terminal.entered ≡ terminal.printed → next_request site number terminal.entered ≡ Some words
      → opener_of site (who.Terminal number) ≡ Some opener
      → Change site w (Entering number) (sent_at terminal_node (Asking (entered_request opener terminal words) ∷ []))
      (record w {
        requests = entered_request opener terminal words ∷ w.requests;
        terminals = slice_set w.terminals number (record terminal { entered = terminal.entered + 1 });
        kept = act.Enter number ∷ w.kept;
      })
  by_print : (number : ℕ) (terminal : Terminal) (reply : Reply) → slice_get w.terminals number ≡ Some terminal
      → terminal.entered ≡ terminal.printed + 1 → IsAmong reply w.replies
      → opener_of site (who.Terminal number) ≡ Some (record { server = reply.process; place = reply.opener })
      → reply.number ≡ terminal.entered
      → Change site w (Handing terminal_node (Replying reply)) []
      (record w {
        terminals = slice_set w.terminals number (record terminal { printed = terminal.printed + 1 });
        shown = shown.Reply number reply.number reply.words ∷ w.shown;
        kept = act.Print number ∷ w.kept;
      })
  by_stop : (processor : ℕ) → slice_get w.stopped processor ≡ Some false → is_whole w ≡ true
      → Change site w (Stopping processor) []
      (record w { stopped = slice_set w.stopped processor true; processes = map (stopped_pair processor) w.processes })
  by_mark : (node processor : ℕ) → slice_get w.stopped processor ≡ Some true → is_running w.stopped node ≡ true
      → has_marked w.downs node processor ≡ false
      → Change site w (MarkingDown node processor) (flat_map (told_at_down node processor) w.processes)
      (record w {
        downs = record { node = node; down = processor } ∷ w.downs;
        processes = map (pair_at_down node processor) w.processes;
      })
  by_reload : {times : ℕ} (processor : ℕ) → slice_get w.stopped processor ≡ Some true
      → ((node : ℕ) → is_running w.stopped node ≡ true → has_marked w.downs node processor ≡ true)
      → slice_get w.reloads processor ≡ Some times → times < most_reloads
      → Change site w (Reloading processor) []
      (record w {
        stopped = slice_set w.stopped processor false;
        reloads = slice_set w.reloads processor (times + 1);
        downs = without_downs processor w.downs;
        processes = reloaded_from site processor 0 w.processes;
      })
