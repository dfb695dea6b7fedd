-- In which form checkpoints go, and the words of one.
use Rattle.std.proofs.Common.{◌≡◌, ℕ, ◌==◌, Bool, true, false, if◌then◌else◌, pos, [], ◌∷◌, Option, Some, None, refl}
use Rattle.std.proofs.Common.{ap}
use Rattle.std.proofs.lemmas.Bool.{eqb-true}
use Rattle.std.specs.Int.{int_wrap}
use Rattle.message_layout.specs.change_layout.specs.Changing.{change_of}
use Rattle.world_semantics.specs.checkpoint_image.specs.declared.message.ImageMessage.{ImageMessage}
use Rattle.world_semantics.specs.Messages.{Checkpointing}
use Rattle.message_layout.specs.Layout.{words_of}
use Rattle.message_layout.specs.Messages.{NodeMessage, Carrying, Changing}
use Rattle.packet_wires.specs.Parcels.{form_after}
use Rattle.packet_guards.specs.Checkpoints.{first_one, second_one}

abbrev either : ImageMessage → ImageMessage → Bool → NodeMessage
either before message first = if first then Carrying (Checkpointing message) else Changing (change_of before message)

pub checkpoints-go-first : (message : ImageMessage) (before : Option ImageMessage) → message.number ≡ 1
    → form_after message before ≡ Carrying (Checkpointing message)
checkpoints-go-first message None is = refl
checkpoints-go-first message (Some before) is = ap (λ (number : ℕ). either before message (number == 1)) is

pub checkpoints-go-later : (message before : ImageMessage) → (message.number ≡ 1 → ⊥)
    → form_after message (Some before) ≡ Changing (change_of before message)
checkpoints-go-later message before later = by (message.number == 1) refl
  where
    by : (first : Bool) → (message.number == 1) ≡ first
        → either before message first ≡ Changing (change_of before message)
    by true is = absurd (later (eqb-true message.number 1 is))
    by false is = refl

pub checkpoints-go-words : words_of (form_after second_one (Some first_one))
    ≡ pos 7 ∷ pos 1 ∷ pos 0 ∷ pos 0 ∷ pos 0 ∷ pos 2 ∷ pos 14 ∷ pos 1 ∷ pos 0 ∷ pos 8 ∷ pos 4 ∷ pos 4 ∷ pos 7 ∷ pos 5
    ∷ pos 0 ∷ pos 0 ∷ pos 5 ∷ pos 1 ∷ pos 1 ∷ pos 0 ∷ pos 12 ∷ pos 1 ∷ pos 1 ∷ pos 0 ∷ pos 2 ∷ pos 1 ∷ pos 1 ∷ pos 0
    ∷ pos 2 ∷ pos 1 ∷ pos 5 ∷ pos 0 ∷ []
unfolding int_wrap
checkpoints-go-words = refl
