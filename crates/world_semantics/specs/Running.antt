-- What a process does where it runs, computed: told of the process alone, its two copies and the records of what
-- happened, and then of the world in which it stands. `Follows` says what is permitted, and laws relate both.
use Rattle.std.specs.Prelude.{ℕ, ℤ, Bool, true, false, if◌then◌else◌, List, [], ◌∷◌, ◌++◌, map, slice_get, Option, Some}
use Rattle.std.specs.Prelude.{None, not}
use Rattle.std.specs.Option.{option_map}
use Rattle.checkpoint_image.specs.gd_words.specs.declared.device.DeviceCall.{DeviceCall}
use Rattle.checkpoint_image.specs.gd_words.specs.declared.device.DeviceCall.TheVariants.{Write}
use Rattle.checkpoint_image.specs.tal_tree.specs.declared.act.Act.{Act}
use Rattle.checkpoint_image.specs.tal_tree.specs.declared.act.Act.TheVariants as act
use Rattle.checkpoint_image.specs.tal_tree.specs.declared.act.Shown.TheVariants as shown
use Rattle.checkpoint_image.specs.tal_tree.specs.declared.site.Site.{Site}
use Rattle.checkpoint_image.specs.tal_tree.specs.declared.site.OpenerSpec.{OpenerSpec}
use Rattle.plain_semantics.specs.process_semantics.specs.declared.point.Point.{Point}
use Rattle.plain_semantics.specs.process_semantics.specs.declared.point.Point.TheVariants as point
use Rattle.plain_semantics.specs.process_semantics.specs.Process as process
use Rattle.plain_semantics.specs.Openers.{openers_of}
use Rattle.disc_device.specs.Sectors.{stored_after}
use Rattle.checkpoint_image.specs.declared.receive.OpenerBlock.{OpenerBlock}
use Rattle.world_semantics.specs.declared.role.Role.{Role}
use Rattle.world_semantics.specs.declared.role.Role.TheVariants.{Acting, Watching, Gone, Blank}
use Rattle.checkpoint_image.specs.Receive.{Chosen, choice_among}
use Rattle.world_semantics.specs.Core.{Core, core_acting, core_asked, core_going, core_replied, core_taken}
use Rattle.world_semantics.specs.World.{Copy, Down, Pair, World, Which, First, Second, copy_of, with_copy, may_pass}
use Rattle.world_semantics.specs.World.{with_pair, has_marked, other_of}
use Rattle.world_semantics.specs.Messages.{Message, Asking, Replying, Checkpointing, Sending, sent_at}
use Rattle.world_semantics.specs.Own.{Around, around_with, asked_on, is_new_write, found_on}
use Rattle.world_semantics.specs.Passes.{checkpoint_of, after_sending, copy_at_checkpoint, after_sent}
use Rattle.world_semantics.specs.Records.{Records, records_of}
use Rattle.world_semantics.specs.Shares.{after_entering, share_after_act, share_after_pass, share_of, with_share}

-- Changes and steps

-- a change that was made: the world after it, and what was sent or sent again
pub record Done : Type 0 where
  pub world : World
  pub sendings : List Sending

-- the world after a change, and what it sent: those that were before where none was made
abbrev pub world_after : World → Option Done → World
world_after w None = w
world_after w (Some done) = done.world

abbrev pub sendings_of : Option Done → List Sending
sendings_of None = []
sendings_of (Some done) = done.sendings

-- a step that a process made: the process after it, the records, and what was sent or sent again
pub record Stepped : Type 0 where
  pub pair : Pair
  pub records : Records
  pub sendings : List Sending

-- the change of the world that a step of the process of this number is
abbrev pub in_world : ℕ → World → Stepped → Done
in_world number w step = record {
  world = record (with_pair number step.pair w) {
    requests = step.records.requests;
    replies = step.records.replies;
    shown = step.records.shown;
    kept = step.records.kept;
  };
  sendings = step.sendings;
}

-- Acts of a copy

-- an act that a copy can do: what it sends, what it leaves around it, and the core after it
pub record Own : Type 0 where
  pub done : Act
  pub messages : List Message
  pub after : Around
  pub core : Core

abbrev pub own_took : ℕ → Core → Around → Chosen → OpenerBlock → Own
own_took number core before found block = record {
  done = act.Take number found.request.opener;
  messages = [];
  after = record before { waiting = found.rest };
  core = core_taken found.request.opener found.request.words block core;
}

abbrev pub own_take : ℕ → Core → Around → Option Chosen → Option Own
own_take number core before None = None
own_take number core before (Some found) =
    option_map (own_took number core before found) (slice_get core.receive.openers found.request.opener)

abbrev pub own_ask : Site → ℕ → Core → Around → ℕ → List ℤ → Own
own_ask site number core before file words = record {
  done = act.Step number;
  messages = map Asking (asked_on site number core file words);
  after = record before { requests = asked_on site number core file words ++ before.requests };
  core = core_asked file core;
}

abbrev pub own_answered : ℕ → Core → Around → ℕ → List ℤ → OpenerSpec → OpenerBlock → Own
own_answered number core before place words opener block = record {
  done = act.Step number;
  messages = Replying (record { process = number; opener = place; number = block.taken; words = words }) ∷ [];
  after = record before {
    replies = record { process = number; opener = place; number = block.taken; words = words }
        ∷ before.replies;
  };
  core = core_replied opener.depth place block words core;
}

abbrev pub own_answer_at : ℕ → Core → Around → ℕ → Option OpenerSpec → Option OpenerBlock → Option Own
own_answer_at number core before place None block = None
own_answer_at number core before place (Some opener) block =
    option_map (own_answered number core before place (process.answer_of core.state) opener) block

abbrev pub own_answer : Site → ℕ → Core → Around → Option ℕ → Option Own
own_answer site number core before None = None
own_answer site number core before (Some place) =
    own_answer_at number core before place (slice_get (openers_of site number) place)
    (slice_get core.receive.openers place)

abbrev pub around_write : ℕ → Around → DeviceCall → Around
around_write number before (Write sector words write) = record before {
  sectors = stored_after before.sectors sector words write;
  shown = shown.Write number sector words ∷ before.shown;
}
around_write number before call = before

-- what a call of the device leaves around a copy: a new write puts its words and is shown, and any other call changes
-- nothing
abbrev pub after_call : ℕ → Around → DeviceCall → Around
after_call number before call = if is_new_write before.sectors call then around_write number before call else before

abbrev pub own_device : ℕ → Core → Around → DeviceCall → Own
own_device number core before call = record {
  done = act.Step number;
  messages = [];
  after = after_call number before call;
  core = core_acting (found_on before.sectors call) core;
}

-- the act that a copy of a process can do for which it runs, at its point
abbrev pub own_at : Site → ℕ → Core → Around → Point → Option Own
own_at site number core before point.Inner =
    Some (record { done = act.Step number; messages = []; after = before; core = core_going core })
own_at site number core before point.Take = own_take number core before (choice_among core.receive before.waiting)
own_at site number core before point.Ask =
    Some (own_ask site number core before (process.asked_file core.state) (process.asked_words core.state))
own_at site number core before point.Answer = own_answer site number core before core.receive.in_hand
own_at site number core before point.Device = Some (own_device number core before (process.call_of core.state))
own_at site number core before point.Await = None
own_at site number core before point.AtCheckpoint = None
own_at site number core before point.Ended = None

-- a copy of a process after an act of its own
abbrev pub copy_acted : ℕ → List Act → Own → Copy → Copy
copy_acted number kept own copy =
    record (after_entering number own.done kept copy) { core = own.core; waiting = own.after.waiting }

-- and the records after it
abbrev pub records_acted : ℕ → List Act → Own → Copy → Records
records_acted number kept own copy = record {
  requests = own.after.requests;
  replies = own.after.replies;
  shown = own.after.shown;
  kept = (share_after_act number own.done kept (share_of copy)).kept;
}

-- the step that an act of a copy's own is
abbrev pub own_step : ℕ → Which → Pair → Records → Own → Stepped
own_step number k pair records own = record {
  pair = with_copy k (copy_acted number records.kept own (copy_of k pair))
      (record pair { sectors = own.after.sectors });
  records = records_acted number records.kept own (copy_of k pair);
  sendings = sent_at (copy_of k pair).processor own.messages;
}

-- the act of its own that a copy of a process can do at this point
abbrev pub own_of : Site → ℕ → Which → Pair → Records → Point → Option Own
own_of site number k pair records stands =
    own_at site number (copy_of k pair).core (around_with (copy_of k pair).waiting pair.sectors records) stands

-- Checkpoints

-- a copy sends its checkpoint
abbrev pub sending_step : ℕ → Which → Pair → Records → Stepped
sending_step number k pair records = record {
  pair =
      with_copy k (after_sending (copy_of k pair))
      (record pair { checkpoints = checkpoint_of number (copy_of k pair) ∷ pair.checkpoints });
  records = records;
  sendings = sent_at (copy_of k pair).processor (Checkpointing (checkpoint_of number (copy_of k pair)) ∷ []);
}

-- a copy after its checkpoint, which it did already, or which is kept now, and the records then
abbrev pub copy_passed : ℕ → Records → Copy → Copy
copy_passed number records copy =
    with_share (share_after_pass number records.kept (share_of copy)).share (copy_at_checkpoint copy)

abbrev pub records_passed : ℕ → Records → Copy → Records
records_passed number records copy =
    record records { kept = (share_after_pass number records.kept (share_of copy)).kept }

-- a copy passes its checkpoint
abbrev pub passing_step : ℕ → Which → Pair → Records → Stepped
passing_step number k pair records = record {
  pair = with_copy k (copy_passed number records (copy_of k pair)) pair;
  records = records_passed number records (copy_of k pair);
  sendings = [];
}

-- at a checkpoint: it is passed where it may be, and else its checkpoint is sent if it wasn't
abbrev pub step_at_checkpoint : ℕ → Which → Pair → Records → Bool → Bool → Option Stepped
step_at_checkpoint number k pair records true sent = Some (passing_step number k pair records)
step_at_checkpoint number k pair records false true = None
step_at_checkpoint number k pair records false false = Some (sending_step number k pair records)

-- Everything

-- what a copy has sent elsewhere than at a checkpoint comes to its end
abbrev pub ending_step : ℕ → Which → Pair → Records → Stepped
ending_step number k pair records = record {
  pair = with_copy k (after_sent (copy_of k pair)) pair;
  records = records;
  sendings = [];
}

abbrev pub step_if : Bool → Stepped → Option Stepped
step_if true step = Some step
step_if false step = None

-- a copy that has to send everything does so at any point at which it awaits no reply, if its node hasn't marked the
-- other copy's processor
abbrev pub renewing_step : ℕ → Which → Pair → List Down → Records → Point → Option Stepped
renewing_step number k pair downs records point.Await = None
renewing_step number k pair downs records stands =
    step_if (not (has_marked downs (copy_of k pair).processor (copy_of (other_of k) pair).processor))
    (sending_step number k pair records)

-- elsewhere than at a checkpoint: what was sent comes to its end where it may, and else everything is sent if it has to
-- be, and else the copy does an act of its own
abbrev pub free_step : Site → ℕ → Which → Pair → List Down → Records → Point → Bool → Bool → Option Stepped
free_step site number k pair downs records stands true renewal =
    step_if (may_pass downs k pair) (ending_step number k pair records)
free_step site number k pair downs records stands false true = renewing_step number k pair downs records stands
free_step site number k pair downs records stands false false =
    option_map (own_step number k pair records) (own_of site number k pair records stands)

-- Runs

-- the step of a copy that acts and stands at this point; none where it can't go on
abbrev pub step_at : Site → ℕ → Which → Pair → List Down → Records → Point → Option Stepped
step_at site number k pair downs records point.AtCheckpoint =
    step_at_checkpoint number k pair records (may_pass downs k pair) (copy_of k pair).sent
step_at site number k pair downs records stands =
    free_step site number k pair downs records stands (copy_of k pair).sent (copy_of k pair).renewal

abbrev pub step_as : Site → ℕ → Which → Pair → List Down → Records → Role → Option Stepped
step_as site number k pair downs records Acting =
    step_at site number k pair downs records (process.point (copy_of k pair).core.state)
step_as site number k pair downs records Watching = None
step_as site number k pair downs records Blank = None
step_as site number k pair downs records Gone = None

-- the step of one copy; none where it can't make one
abbrev pub step_of_copy : Site → ℕ → Pair → List Down → Records → Which → Option Stepped
step_of_copy site number pair downs records k = step_as site number k pair downs records (copy_of k pair).role

abbrev pub first_step : Option Stepped → Option Stepped → Option Stepped
first_step None other = other
first_step (Some step) other = Some step

-- the step that a process makes where it runs: that of its copy that acts; none where it can't make one
abbrev pub step_of : Site → ℕ → Pair → List Down → Records → Option Stepped
step_of site number pair downs records =
    first_step (step_of_copy site number pair downs records First) (step_of_copy site number pair downs records Second)

abbrev pub run_pair : Site → ℕ → World → Option Pair → Option Done
run_pair site number w None = None
run_pair site number w (Some pair) = option_map (in_world number w) (step_of site number pair w.downs (records_of w))

-- the change that a process makes where it runs; none where it can't make one
abbrev pub run_done : Site → ℕ → World → Option Done
run_done site number w = run_pair site number w (slice_get w.processes number)
