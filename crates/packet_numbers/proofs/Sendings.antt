-- What a world of a run sends next keeps to the layout.
use Rattle.std.proofs.Common.{◌≡◌, ◌<◌, inl, inr, ℕ, ◌==◌, Bool, true, false, List, []}
use Rattle.std.proofs.Common.{◌∷◌, ◌++◌, length, map, Option, Some, None, slice_get, option_map, refl, sym}
use Rattle.std.proofs.Common.{nat_lt, subst, arith, length-append, option_and_then}
use Rattle.std.proofs.lemmas.List.Elements.{All-cons, All-nil}
use Rattle.gd_words.specs.Members.{IsAmong}
use Rattle.gd_words.specs.declared.message.Request.{Request}
use Rattle.gd_words.specs.declared.message.Reply.{Reply}
use Rattle.gd_words.proofs.Among.{among-either}
use Rattle.tal_tree.specs.declared.site.Site.{Site}
use Rattle.tal_tree.specs.declared.site.Who.{Who}
use Rattle.tal_tree.specs.declared.site.Who.TheVariants as who
use Rattle.schedule.specs.declared.bus_name.BusName.TheVariants as bus
use Rattle.schedule.specs.declared.event.Event.{Event}
use Rattle.schedule.specs.declared.event.Event.TheVariants.{Run, Enter, Deliver, Fail}
use Rattle.plain_semantics.specs.Openers.{openers_of}
use Rattle.process_semantics.specs.Process as process
use Rattle.checkpoint_image.specs.declared.message.ImageMessage.{ImageMessage}
use Rattle.checkpoint_image.specs.declared.message.TakenMessage.{TakenMessage}
use Rattle.site_machine.specs.message_layout.specs.change_layout.specs.Changing.{whole_of, whole_where}
use Rattle.site_machine.specs.message_layout.specs.change_layout.specs.declared.message.ChangeMessage.{ChangeMessage}
use Rattle.site_machine.specs.message_layout.specs.change_layout.specs.sync_ids.specs.Changes.{fits_change}
use Rattle.checkpoint_image.specs.Receive.{reply_sent_again}
use Rattle.world_semantics.specs.declared.role.Role.{Role}
use Rattle.world_semantics.specs.declared.role.Role.TheVariants.{Acting, Watching, Blank, Gone}
use Rattle.world_semantics.specs.declared.which.Which.{Which}
use Rattle.world_semantics.specs.Core.{Core}
use Rattle.world_semantics.specs.Kept.{own_acts}
use Rattle.world_semantics.specs.World.{Pair, Terminal, World, copy_of, other_of, terminal_node}
use Rattle.world_semantics.specs.Messages.{Message, Asking, Replying, Checkpointing, Taking, Sending, Cause}
use Rattle.world_semantics.specs.Messages.{Running, Entering, MarkingDown, Stopping, sent_at}
use Rattle.world_semantics.specs.Passes.{taken_of}
use Rattle.world_semantics.specs.Records.{records_of}
use Rattle.world_semantics.specs.Rules.{Change}
use Rattle.world_semantics.specs.Running.{Done, Stepped, in_world, run_done}
use Rattle.world_semantics.specs.Follows.{IsRun}
use Rattle.world_semantics.proofs.Fair.{fair-of, run-fair}
use Rattle.world_semantics.proofs.KeptReplies.{repeated-sent}
use Rattle.world_semantics.proofs.Members.{among-map}
use Rattle.world_semantics.proofs.Ran.{run-may}
use Rattle.world_semantics.proofs.Reached.{run-kept, run-downs, run-roles, run-steady}
use Rattle.world_semantics.proofs.Sendings.{run-sends}
use Rattle.computed_changes.specs.Changed.{change_brought_to, change_done, change_step}
use Rattle.computed_changes.specs.Checkpoints.{applied_step, applied_step_where, checkpoint_step, core_as}
use Rattle.computed_changes.specs.Checkpoints.{is_of_last, taken_step, taken_step_where}
use Rattle.computed_changes.specs.Entered.{enter_done}
use Rattle.computed_changes.specs.Fitting.{depths_of}
use Rattle.computed_changes.specs.Handed.{brought, brought_to, copy_in, handed_done, replied_done, step_by}
use Rattle.computed_changes.specs.Laws.{IsSent}
use Rattle.computed_changes.specs.Replies.{awaits, awaits_at, printed_at, printed_done, printed_where, reply_step}
use Rattle.computed_changes.specs.Replies.{reply_step_where}
use Rattle.computed_changes.specs.Requests.{repeated_at, request_step}
use Rattle.computed_changes.specs.Stopped.{stop_done}
use Rattle.computed_changes.proofs.Entered.{enter-may}
use Rattle.computed_changes.proofs.Reached.{run-sent}
use Rattle.computed_changes.proofs.Stopped.{stop-may, mark-may}
use Rattle.packets_played.specs.takeover_laws.specs.Fit.{IsFit}
use Rattle.packets_played.specs.takeover_laws.proofs.Kept.{IsGood, run-keeps}
use Rattle.packets_played.specs.awaited_requests.specs.Seats.{IsLaidOut}
use Rattle.letters.specs.Again.{sent_again}
use Rattle.letters.specs.Posts.{Post, HasPlayed, PlaysEvent, played_more, plays_run, plays_enter, plays_mark}
use Rattle.letters.specs.Posts.{plays_fail, after_change, post_after_down}
use Rattle.letters.proofs.Worlds.{played-run}
use Rattle.packets_played.specs.letter_laws.specs.Known.{IsHonest}
use Rattle.packets_played.specs.letter_laws.proofs.Again.{IsAgain, by_copy, by_terminal, by_keeping, again-is}
use Rattle.packets_played.specs.letter_laws.proofs.Awaited.{acting-done}
use Rattle.packets_played.specs.letter_laws.proofs.Given.{message-of}
use Rattle.packets_played.specs.letter_laws.proofs.Honest.{played-honest}
use Rattle.packets_played.specs.letter_laws.proofs.Reached.{stop-is}
use Rattle.packets_played.specs.letter_laws.proofs.Replies.{kept-sent}
use Rattle.site_machine.specs.message_layout.specs.Messages.{NodeMessage, Carrying, Changing}
use Rattle.site_machine.specs.message_layout.specs.Layout.{Fits, IsCarriedWithin, IsTakenWithin, IsWithin}
use Rattle.site_machine.specs.packet_wires.specs.Parcels.{form_of}
use Rattle.packets_played.specs.letters_layout.specs.Fitting.{IsSmall}
use Rattle.packets_played.specs.letters_layout.proofs.Checkpoints.{change-fits, checkpoint-fits, taken-fits}
use Rattle.packets_played.specs.letters_layout.proofs.Replies.{reply-fits}
use Rattle.packets_played.specs.letters_layout.proofs.Requests.{request-fits}
use Rattle.packets_played.specs.packets_laws.specs.Carried.{IsFormOf}
use Rattle.packets_played.specs.packets_laws.specs.checkpoint_chains.proofs.Newest.{IsNewestIfOne, change-new}
use Rattle.packets_played.specs.packets_laws.proofs.Forms.{again-new}
use Rattle.packets_played.specs.packets_laws.proofs.Newest.{form-newest}
use Rattle.site_machine.specs.Needs.{AreWithin, IsSentWithin, DownsWithin, SendsWithin}

-- Lists

all-among : (w : World) (sendings : List Sending)
    → ((sending : Sending) → IsAmong sending sendings → IsSentWithin w sending.message) → AreWithin w sendings
all-among w [] holds = All-nil (λ (sending : Sending). IsSentWithin w sending.message)
all-among w (sending ∷ sendings) holds =
    All-cons (λ (one : Sending). IsSentWithin w one.message) sending sendings (holds sending (inl refl))
    (all-among w sendings (λ one among. holds one (inr among)))

none-within : (w : World) → AreWithin w []
none-within w = All-nil (λ (sending : Sending). IsSentWithin w sending.message)

-- Worlds of posts

module _ (site : Site) (fit : IsFit site) (small : IsSmall site) (out : IsLaidOut site) where
  -- a message that was sent keeps to the layout
  sent-within : (events : List Event) (post : Post) → length events < 4294967296 → HasPlayed site events post
      → (message : Message) → IsSent post.world message → IsCarriedWithin message
  sent-within events post few played (Asking request) sent =
      (request-fits site events post request fit small out few played sent).within
  sent-within events post few played (Replying reply) sent =
      (reply-fits site events post.world reply fit small out few (played-run played) sent).within
  sent-within events post few played (Checkpointing message) sent =
      (checkpoint-fits site fit small events post.world few (played-run played) message sent).within
  sent-within events post few played (Taking taken) sent =
      (taken-fits site fit small events post.world few (played-run played) taken sent).within

  -- and so does the form in which it goes, where it was sent last
  goes-within : (events : List Event) (post : Post) → length events < 4294967296 → HasPlayed site events post
      → (message : Message) → IsSent post.world message → IsNewestIfOne post.world message
      → IsSentWithin post.world message
  goes-within events post few played message sent new = (
    sent-within events post few played message sent,
    by (form_of post.world message) (form-newest post.world fit.seats (played-run played) message new),
  )
    where
      by : (content : NodeMessage) → IsFormOf post.world message content → IsWithin content
      by content (inl same) = subst IsWithin (sym same) (sent-within events post few played message sent)
      by content (inr (before, one, is, goes_as, known, next_to)) =
          subst IsWithin (sym goes_as)
          (change-fits site fit small events post.world few (played-run played) before one
          (subst (IsSent post.world) is sent)).within

  module _ (events : List Event) (post : Post) (few : length events < 4294967295)
      (played : HasPlayed site events post) where
    few-more : (event : Event) → length (events ++ event ∷ []) < 4294967296
    few-more event = let one = length-append events (event ∷ []) in omega (arith, one, few)

    -- what a change sends was sent after its event
    new-within : (event : Event) (after : Post) (cause : Cause) (sendings : List Sending)
        → PlaysEvent site post event after → Change site post.world cause sendings after.world
        → (sending : Sending) → IsAmong sending sendings → IsSentWithin after.world sending.message
    new-within event after cause sendings plays change sending among =
        let run : IsRun site (events ++ event ∷ []) after.world = played-run (played_more played plays) in
        goes-within (events ++ event ∷ []) after (few-more event) (played_more played plays) sending.message
        (run-sent after.world sending.message run
        (run-sends (played-run played) after.world cause sendings change sending among))
        (change-new post.world after.world cause sendings change sending among)

    runs-within : (number : ℕ) (done : Done) → run_done site number post.world ≡ Some done
        → AreWithin done.world done.sendings
    runs-within number done e =
        let change = run-may site number post.world done e in
        all-among done.world done.sendings
        (new-within (Run number) (after_change site done.sendings done.world post) (Running number) done.sendings
        (plays_run change) change)

    enters-within : (terminal : ℕ) (done : Done) → enter_done site terminal post.world ≡ Some done
        → AreWithin done.world done.sendings
    enters-within terminal done e =
        let change = enter-may site terminal post.world done e in
        all-among done.world done.sendings
        (new-within (Enter terminal) (after_change site done.sendings done.world post) (Entering terminal)
        done.sendings (plays_enter change) change)

    -- what is sent again was sent
    again-sent : (event : Event) (after : Post) → PlaysEvent site post event after → (message : Message)
        → IsAgain site after.world message → IsSent after.world message
    again-sent event after plays message again = by again
      where
        all : HasPlayed site (events ++ event ∷ []) after
        all = played_more played plays

        run : IsRun site (events ++ event ∷ []) after.world
        run = played-run all

        good : IsGood site (length (events ++ event ∷ [])) after.world
        good = record {
          roles = run-roles run;
          stopped = run-downs run;
          steady = run-steady run;
          seated = (run-kept fit.seats run).seated;
          invariant = run-keeps site fit (events ++ event ∷ []) after.world (few-more event) run;
        }

        honest : IsHonest site after
        honest = played-honest site fit (events ++ event ∷ []) after (few-more event) all

        by : IsAgain site after.world message → IsSent after.world message
        by (by_copy number pair k request there role among is) =
            subst (IsSent after.world) (sym is) (honest.awaited.copies number pair k request there role among)
        by (by_terminal number terminal request there among is) =
            subst (IsSent after.world) (sym is) (honest.awaited.terminals number terminal request there among)
        by (by_keeping number pair k place opener reply there role known among is) =
            let has = acting-done site (length (events ++ event ∷ [])) after.world good number pair k there role in
            let fair = fair-of number after.world.replies k pair (run-fair run number pair there) in
            subst (IsSent after.world) (sym is)
            (kept-sent has.done after.world.replies fair.core.kept place opener known reply among)

    marks-within : DownsWithin site post.world
    marks-within node processor done e =
        all-among done.world (done.sendings ++ sent_again site post.world done.world node processor)
        (λ sending among. elim (among-either sending done.sendings
        (sent_again site post.world done.world node processor) among) [
          | inl new ↦ new-within (Deliver bus.X 0) after (MarkingDown node processor) done.sendings plays change sending
              new
          | inr again ↦ let one = again-is site post.world done.world node processor sending again in
              goes-within (events ++ Deliver bus.X 0 ∷ []) after (few-more (Deliver bus.X 0))
              (played_more played plays) sending.message
              (again-sent (Deliver bus.X 0) after plays sending.message one)
              (again-new site done.world sending.message one)
        ])
      where
        change : Change site post.world (MarkingDown node processor) done.sendings done.world
        change = mark-may site node processor post.world done e

        after : Post
        after = post_after_down site node processor done.sendings done.world post

        plays : PlaysEvent site post (Deliver bus.X 0) after
        plays = plays_mark node processor change

    -- Messages that come

    -- what it sends is no checkpoint, so it keeps to the layout in whatever world
    abbrev AnyStep : Option Stepped → Type 0
    AnyStep None = Unit {0}
    AnyStep (Some step) = (w : World) → AreWithin w step.sendings

    abbrev AnyDone : Option Done → Type 0
    AnyDone None = Unit {0}
    AnyDone (Some done) = (w : World) → AreWithin w done.sendings

    step-done : (number : ℕ) (step : Option Stepped) → AnyStep step
        → AnyDone (option_map (in_world number post.world) step)
    step-done number None within = tt
    step-done number (Some step) within = within

    brought-within : (number node : ℕ) (message : Message)
        → ((k : Which) (pair : Pair) → slice_get post.world.processes number ≡ Some pair
        → AnyStep (step_by site number pair (records_of post.world) message k))
        → AnyDone (brought site number node message post.world)
    brought-within number node message all = by (slice_get post.world.processes number) refl
      where
        by : (there : Option Pair) → slice_get post.world.processes number ≡ there
            → AnyDone (brought_to site number node message post.world there)
        by None there = tt
        by (Some pair) there = here (copy_in node pair)
          where
            here : (k : Option Which)
                → AnyDone (option_map (in_world number post.world)
                (option_and_then (step_by site number pair (records_of post.world) message) k))
            here None = tt
            here (Some k) =
                step-done number (step_by site number pair (records_of post.world) message k) (all k pair there)

    -- a request that comes is answered by a kept reply, which was sent
    request-within : (request : Request) (k : Which) (pair : Pair)
        → slice_get post.world.processes request.process ≡ Some pair → (role : Role)
        → AnyStep (request_step k pair (records_of post.world) request role)
    request-within request k pair there Watching = λ w. none-within w
    request-within request k pair there Blank = λ w. none-within w
    request-within request k pair there Gone = tt
    request-within request k pair there Acting =
        let fair = fair-of request.process post.world.replies k pair
        (run-fair (played-run played) request.process pair there) in
        let kept = reply_sent_again (copy_of k pair).core.receive request in
        λ w. all-among w (repeated_at (copy_of k pair) request) (λ sending among.
        let from = among-map Replying kept sending.message
        (message-of (copy_of k pair).processor (map Replying kept) sending among) in
        let one = sent-within events post (omega (arith, few)) played (Replying from.item)
        (repeated-sent post.world.replies (copy_of k pair).core.receive request from.item fair.core.kept
        from.among) in
        subst (IsSentWithin w) (sym from.same) (one, one))

    reply-within : (reply : Reply) (number : ℕ) (k : Which) (pair : Pair) (role : Role)
        → AnyStep (reply_step site number k pair (records_of post.world) reply role)
    reply-within reply number k pair Watching = tt
    reply-within reply number k pair Blank = tt
    reply-within reply number k pair Gone = tt
    reply-within reply number k pair Acting =
        by (awaits site number (copy_of k pair).core reply (process.point (copy_of k pair).core.state))
      where
        by : (test : Bool) → AnyStep (reply_step_where number k pair (records_of post.world) reply test)
        by true = λ w. none-within w
        by false = tt

    printed-within : (reply : Reply) (number : ℕ) (here : Bool)
        → AnyDone (printed_at site number reply post.world here)
    printed-within reply number false = tt
    printed-within reply number true = by (slice_get post.world.terminals number)
      where
        prints : (terminal : Terminal) (test : Bool)
            → AnyDone (printed_where number reply terminal post.world test)
        prints terminal true = λ w. none-within w
        prints terminal false = tt

        by : (found : Option Terminal) → AnyDone (printed_done site number reply post.world found)
        by None = tt
        by (Some terminal) = prints terminal (awaits_at site number terminal reply)

    replied-within : (node : ℕ) (reply : Reply) (found : Option Who)
        → AnyDone (replied_done site node reply post.world found)
    replied-within node reply None = tt
    replied-within node reply (Some (who.File number file)) =
        brought-within number node (Replying reply)
        (λ k pair there. reply-within reply number k pair (copy_of k pair).role)
    replied-within node reply (Some (who.Terminal number)) = printed-within reply number (node == terminal_node)

    -- a checkpoint that comes is answered by its own numbers
    checkpoint-within : (message : ImageMessage) → IsTakenWithin (taken_of message) → (number : ℕ) (k : Which)
        (pair : Pair) → (role : Role)
        → AnyStep (checkpoint_step site number k pair (records_of post.world) message role)
    checkpoint-within message within number k pair role =
        by (core_as (depths_of site number) (copy_of k pair).era (copy_of k pair).number (copy_of k pair).core message
        role)
      where
        by : (core : Option Core)
            → AnyStep (option_map (applied_step number k pair (records_of post.world) message) core)
        by None = tt
        by (Some core) = tells (nat_lt (copy_of (other_of k) pair).position (own_acts number post.world.kept))
          where
            told : (w : World) → AreWithin w
                (sent_at (copy_of k pair).processor (Taking (taken_of message) ∷ []))
            told w =
                All-cons (λ (one : Sending). IsSentWithin w one.message)
                (record { node = (copy_of k pair).processor; message = Taking (taken_of message) }) []
                (within, within) (none-within w)

            tells : (behind : Bool)
                → AnyStep (Some (applied_step_where number k pair (records_of post.world) message core behind))
            tells true = told
            tells false = told

    -- and so is one that comes as what changed
    change-within : (change : ChangeMessage) → IsWithin (Changing change) → (k : Which) (pair : Pair)
        → AnyStep (change_step site change.process pair (records_of post.world) change k)
    change-within change within k pair =
        by (fits_change (record { table = (copy_of k pair).core.receive; depths = depths_of site change.process })
        change.image.receive)
      where
        by : (test : Bool)
            → AnyStep (option_and_then (λ message. checkpoint_step site change.process k pair
            (records_of post.world) message (copy_of k pair).role)
            (whole_where (depths_of site change.process) (copy_of k pair).core.receive change test))
        by false = tt
        by true =
            checkpoint-within (whole_of (depths_of site change.process) (copy_of k pair).core.receive change)
            (record { process = within.process; era = within.era; number = within.number }) change.process k pair
            (copy_of k pair).role

    taken-within : (taken : TakenMessage) (k : Which) (pair : Pair) (role : Role)
        → AnyStep (taken_step k pair (records_of post.world) taken role)
    taken-within taken k pair Watching = tt
    taken-within taken k pair Blank = tt
    taken-within taken k pair Gone = tt
    taken-within taken k pair Acting =
        by (is_of_last (copy_of k pair).sent (copy_of k pair).era (copy_of k pair).number taken)
      where
        by : (test : Bool) → AnyStep (taken_step_where k pair (records_of post.world) test)
        by true = λ w. none-within w
        by false = tt

    handed-any : (node : ℕ) (message : Message) → Fits site (Carrying message)
        → AnyDone (handed_done site node message post.world)
    handed-any node (Asking request) fits =
        brought-within request.process node (Asking request)
        (λ k pair there. request-within request k pair there (copy_of k pair).role)
    handed-any node (Replying reply) fits =
        replied-within node reply (option_map (λ opener. opener.who)
        (slice_get (openers_of site reply.process) reply.opener))
    handed-any node (Checkpointing message) fits =
        brought-within message.process node (Checkpointing message)
        (λ k pair there. checkpoint-within message
        (let within = fits.within in
        record { process = within.process; era = within.era; number = within.number }) message.process k pair
        (copy_of k pair).role)
    handed-any node (Taking taken) fits =
        brought-within taken.process node (Taking taken)
        (λ k pair there. taken-within taken k pair (copy_of k pair).role)

    handed-within : (node : ℕ) (message : Message) (done : Done) → Fits site (Carrying message)
        → handed_done site node message post.world ≡ Some done → AreWithin done.world done.sendings
    handed-within node message done fits e = subst AnyDone e (handed-any node message fits) done.world

    changed-any : (node : ℕ) (change : ChangeMessage) → Fits site (Changing change)
        → AnyDone (change_done site node change post.world)
    changed-any node change fits = by (slice_get post.world.processes change.process)
      where
        by : (found : Option Pair)
            → AnyDone (change_brought_to site change.process node change post.world found)
        by None = tt
        by (Some pair) = here (copy_in node pair)
          where
            here : (k : Option Which)
                → AnyDone (option_map (in_world change.process post.world)
                (option_and_then (change_step site change.process pair (records_of post.world) change) k))
            here None = tt
            here (Some k) =
                step-done change.process (change_step site change.process pair (records_of post.world) change k)
                (change-within change fits.within k pair)

    changed-within : (node : ℕ) (change : ChangeMessage) (done : Done) → Fits site (Changing change)
        → change_done site node change post.world ≡ Some done → AreWithin done.world done.sendings
    changed-within node change done fits e = subst AnyDone e (changed-any node change fits) done.world

  -- All of it

  module _ (events : List Event) (post : Post) (few : length events < 4294967294)
      (played : HasPlayed site events post) where
    less : length events < 4294967295
    less = omega (arith, few)

    pulled-within : (processor : ℕ) (done : Done) → stop_done processor post.world ≡ Some done
        → DownsWithin site done.world
    pulled-within processor done e =
        let change = stop-may site processor post.world done e in
        let none = (stop-is post.world done.world processor done.sendings change).none in
        let one = length-append events (Fail processor ∷ []) in
        marks-within (events ++ Fail processor ∷ []) (record post { world = done.world }) (omega (arith, one, few))
        (played_more played (plays_fail
        (subst (λ sendings. Change site post.world (Stopping processor) sendings done.world) none change)))

    pub sends-within : SendsWithin site post.world
    sends-within = record {
      runs = runs-within events post less played;
      enters = enters-within events post less played;
      handed = handed-within events post less played;
      changed = changed-within events post less played;
      marked = marks-within events post less played;
      pulled = pulled-within;
    }
