-- In which form a checkpoint goes that is the newest of its process.
use Rattle.std.proofs.Common.{◌≡◌, inl, inr, ℕ, ◌==◌, Bool, true, false, if◌then◌else◌, List, [], ◌∷◌, Option, Some}
use Rattle.std.proofs.Common.{None, slice_get, refl, sym, ap, subst, ◌∙◌}
use Rattle.std.proofs.lemmas.Bool.{eqb-true, eqb-false}
use Rattle.gd_words.specs.Members.{IsAmong}
use Rattle.tal_tree.specs.declared.site.Site.{Site}
use Rattle.schedule.specs.declared.event.Event.{Event}
use Rattle.change_layout.specs.Changing.{change_of}
use Rattle.checkpoint_image.specs.declared.message.ImageMessage.{ImageMessage}
use Rattle.world_semantics.specs.Follows.{IsRun}
use Rattle.world_semantics.specs.Laws.{IsPlaced}
use Rattle.world_semantics.specs.Messages.{Message, Asking, Replying, Checkpointing, Taking}
use Rattle.world_semantics.specs.World.{Pair, World}
use Rattle.computed_changes.specs.Changed.{checkpoint_before, last_of, one_before, sent_before}
use Rattle.computed_changes.specs.Fitting.{depths_of}
use Rattle.computed_changes.specs.Laws.{IsSent}
use Rattle.computed_changes.proofs.Reached.{run-named}
use Rattle.checkpoint_chains.specs.Chains.{FollowsOn, IsChain, IsNewest, IsNextTo}
use Rattle.checkpoint_chains.proofs.Chains.{run-chained}
use Rattle.checkpoint_chains.proofs.Newest.{IsNewestIfOne}
use Rattle.letters_layout.specs.message_layout.specs.Messages.{Carrying, Changing}
use Rattle.packet_nets.specs.packet_wires.specs.Parcels.{form_after, form_of}
use Rattle.packets_laws.specs.Carried.{IsFormOf}

module _ {site : Site} {events : List Event} (w : World) (placed : IsPlaced site) (run : IsRun site events w) where
  -- the first of an era goes whole
  pub first-goes : (message : ImageMessage) → message.number ≡ 1
      → form_of w (Checkpointing message) ≡ Carrying (Checkpointing message)
  first-goes message is = by (checkpoint_before w message.process)
    where
      by : (before : Option ImageMessage) → form_after message before ≡ Carrying (Checkpointing message)
      by None = refl
      by (Some before) = ap (λ (number : ℕ). if number == 1 then Carrying (Checkpointing message)
          else Changing (change_of before message)) is

  -- a later one goes as what changed since the one before it
  pub later-goes : (message : ImageMessage) → IsNewest w message → (message.number ≡ 1 → ⊥)
      → (before : ImageMessage) × IsSent w (Checkpointing before) × IsNextTo before message
      × (form_of w (Checkpointing message) ≡ Changing (change_of before message))
  later-goes message newest later =
      let one = by newest.older newest.first in (one.0, one.1, one.2, last ∙ one.3)
    where
      last : form_of w (Checkpointing message) ≡ form_after message (last_of newest.older)
      last = ap (λ (pair : Option Pair). form_after message (sent_before pair)) newest.there
          ∙ ap (λ (sent : List ImageMessage). form_after message (one_before sent)) newest.first

      Before : List ImageMessage → Type 0
      Before older =
          (before : ImageMessage) × IsSent w (Checkpointing before) × IsNextTo before message
          × (form_after message (last_of older) ≡ Changing (change_of before message))

      chain : (older : List ImageMessage) → newest.pair.checkpoints ≡ message ∷ older
          → IsChain (depths_of site message.process) (message ∷ older)
      chain older first = subst (IsChain (depths_of site message.process)) first
          (run-chained site placed events w run message.process newest.pair newest.there).0

      by : (older : List ImageMessage) → newest.pair.checkpoints ≡ message ∷ older → Before older
      by [] first = absurd (later (chain [] first).0)
      by (before ∷ older) first = follows (chain (before ∷ older) first).0
        where
          among : IsAmong before newest.pair.checkpoints
          among = subst (IsAmong before) (sym first) (inr (inl refl))

          named : before.process ≡ message.process
          named = (run-named run message.process newest.pair newest.there).checkpoints before among

          at : (b : Bool) → (message.number == 1) ≡ b
              → (if b then Carrying (Checkpointing message) else Changing (change_of before message))
              ≡ Changing (change_of before message)
          at true is = absurd (later (eqb-true message.number 1 is))
          at false is = refl

          follows : FollowsOn (depths_of site message.process) message (before ∷ older) → Before (before ∷ older)
          follows (inr one) = absurd (later one.1)
          follows (inl next) = (
            before,
            (newest.pair, ap (slice_get w.processes) named ∙ newest.there, among),
            record { process = sym named; era = next.0; number = next.1 },
            at (message.number == 1) refl,
          )

  newest-goes : (message : ImageMessage) → IsNewest w message
      → IsFormOf w (Checkpointing message) (form_of w (Checkpointing message))
  newest-goes message newest = by (message.number == 1) refl
    where
      by : (b : Bool) → (message.number == 1) ≡ b
          → IsFormOf w (Checkpointing message) (form_of w (Checkpointing message))
      by true is = inl (first-goes message (eqb-true message.number 1 is))
      by false is =
          let one = later-goes message newest (eqb-false message.number 1 is) in
          inr (one.0, message, refl, one.3, one.1, one.2)

  -- what was sent last goes as it is, or as what changed
  pub form-newest : (message : Message) → IsNewestIfOne w message → IsFormOf w message (form_of w message)
  form-newest (Asking request) new = inl refl
  form-newest (Replying reply) new = inl refl
  form-newest (Checkpointing message) new = newest-goes message (new message refl)
  form-newest (Taking taken) new = inl refl
