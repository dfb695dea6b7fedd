-- No change but a reload is one after which a processor was loaded again more often.
use Rattle.std.proofs.Common.{◌≡◌, ◌==◌, ℕ, Bool, true, false, Option, Some, None, option_map, slice_get, refl}
use Rattle.gd_words.specs.declared.message.Reply.{Reply}
use Rattle.tal_tree.specs.declared.site.Site.{Site}
use Rattle.tal_tree.specs.declared.site.Who.{Who}
use Rattle.tal_tree.specs.declared.site.Who.TheVariants as who
use Rattle.plain_semantics.specs.Openers.{opener_of, openers_of}
use Rattle.plain_semantics.specs.Machine.{next_request}
use Rattle.world_semantics.specs.Messages.{Message, Asking, Replying, Checkpointing, Taking}
use Rattle.world_semantics.specs.Records.{records_of}
use Rattle.world_semantics.specs.Running.{Done, Stepped, run_pair, run_done, step_of}
use Rattle.world_semantics.specs.World.{Pair, Terminal, World, terminal_node}
use Rattle.computed_changes.specs.Entered.{enter_at, enter_to, enter_where, enter_done, entered_done}
use Rattle.computed_changes.specs.Handed.{brought, brought_to, handed_done, replied_done, step_on}
use Rattle.computed_changes.specs.Replies.{printed_at, printed_done, printed_where}
use Rattle.computed_changes.specs.Stopped.{marked_where, mark_where, down_done}
use Rattle.world_semantics.proofs.Lifted.{lifted}

-- after a change each processor was loaded again as often as before
abbrev pub LoadsNone : World → Option Done → Type 0
LoadsNone w None = Unit {0}
LoadsNone w (Some done) = done.world.reloads ≡ w.reloads

map-none : {A : Type 0} (w : World) (f : A → Done) → ((a : A) → (f a).world.reloads ≡ w.reloads) → (one : Option A)
    → LoadsNone w (option_map f one)
map-none w f all None = tt
map-none w f all (Some a) = all a

-- and so it is after any step of a process
lifted-none : (number : ℕ) (w : World) (step : Option Stepped) → LoadsNone w (lifted number w step)
lifted-none number w None = tt
lifted-none number w (Some step) = refl

module _ (site : Site) (w : World) where
  pub run-none : (number : ℕ) → LoadsNone w (run_done site number w)
  run-none number = by (slice_get w.processes number)
    where
      by : (pair : Option Pair) → LoadsNone w (run_pair site number w pair)
      by None = tt
      by (Some pair) = lifted-none number w (step_of site number pair w.downs (records_of w))

  pub enter-none : (number : ℕ) → LoadsNone w (enter_done site number w)
  enter-none number = by (slice_get w.terminals number)
    where
      to : (terminal : Terminal) → (test : Bool) → LoadsNone w (enter_where site number terminal w test)
      to terminal false = tt
      to terminal true = opened (opener_of site (who.Terminal number))
        where
          opened : (opener : Option _) → LoadsNone w
              (enter_to number terminal w (next_request site number terminal.entered) opener)
          opened None = tt
          opened (Some opener) = map-none w (entered_done number terminal w opener) (λ words. refl)
              (next_request site number terminal.entered)

      by : (terminal : Option Terminal) → LoadsNone w (enter_at site number w terminal)
      by None = tt
      by (Some terminal) = to terminal _

  brought-none : (number node : ℕ) (message : Message) → LoadsNone w (brought site number node message w)
  brought-none number node message = by (slice_get w.processes number)
    where
      by : (pair : Option Pair) → LoadsNone w (brought_to site number node message w pair)
      by None = tt
      by (Some pair) = lifted-none number w (step_on site number node pair (records_of w) message)

  printed-none : (number : ℕ) (reply : Reply) (test : Bool) → LoadsNone w (printed_at site number reply w test)
  printed-none number reply false = tt
  printed-none number reply true = by (slice_get w.terminals number)
    where
      printed : (terminal : Terminal) (test : Bool) → LoadsNone w (printed_where number reply terminal w test)
      printed terminal true = refl
      printed terminal false = tt

      by : (terminal : Option Terminal) → LoadsNone w (printed_done site number reply w terminal)
      by None = tt
      by (Some terminal) = printed terminal _

  replied-none : (node : ℕ) (reply : Reply) (opener : Option Who) → LoadsNone w (replied_done site node reply w opener)
  replied-none node reply None = tt
  replied-none node reply (Some (who.File number file)) = brought-none number node (Replying reply)
  replied-none node reply (Some (who.Terminal number)) = printed-none number reply (node == terminal_node)

  pub handed-none : (node : ℕ) (message : Message) → LoadsNone w (handed_done site node message w)
  handed-none node (Asking request) = brought-none request.process node (Asking request)
  handed-none node (Replying reply) =
      replied-none node reply (option_map (λ opener. opener.who)
      (slice_get (openers_of site reply.process) reply.opener))
  handed-none node (Checkpointing message) = brought-none message.process node (Checkpointing message)
  handed-none node (Taking taken) = brought-none taken.process node (Taking taken)

  pub mark-none : (node processor : ℕ) → LoadsNone w (down_done node processor w)
  mark-none node processor = by (slice_get w.stopped processor)
    where
      where_may : (test : Bool) → LoadsNone w (marked_where node processor w test)
      where_may true = refl
      where_may false = tt

      by : (stopped : Option Bool) → LoadsNone w (mark_where node processor w stopped)
      by None = tt
      by (Some true) = where_may _
      by (Some false) = tt
