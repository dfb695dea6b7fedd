-- What is told of a checkpoint that was read is what its words tell.
use Rattle.std.proofs.Common.{◌≡◌, ℤ, List, Option, Some, None, Result, Ok, Err, refl, ap, sym, ◌∙◌}
use Rattle.std.specs.Option.{IfSome, IfNone}
use Rattle.std.specs.Prelude.{IfOk, ◌≢◌}
use Rattle.message_layout.specs.checkpoint_image.specs.declared.message.ImageMessage.{ImageMessage}
use Rattle.message_layout.specs.checkpoint_image.specs.Layout.{IsWithinLayout, message_words}
use Rattle.message_layout.specs.checkpoint_image.specs.Reading.{message_in}
use Rattle.message_layout.specs.checkpoint_image.proofs.Messages.{read-again, read-exact}

module _ (words : List ℤ) where
  none-read : ((message : ImageMessage) → IsWithinLayout message → message_words message ≢ words)
      → (found : Option ImageMessage) → message_in words ≡ found
      → None ≡ found
  none-read none None is = refl
  none-read none (Some message) is =
      absurd (none message (read-exact words message is).1 (read-exact words message is).0)

  one-read : (read : Option ImageMessage) → IfSome read IsWithinLayout
      → IfSome read (λ message. message_words message ≡ words)
      → IfNone read ((message : ImageMessage) → IsWithinLayout message → message_words message ≢ words)
      → read ≡ message_in words
  one-read None within same none = none-read none (message_in words) refl
  one-read (Some message) within same none = sym (read-again message within) ∙ ap message_in same

  pub is-read : {E : Type 0} (read : Result (Option ImageMessage) E) → IfOk read (λ one. IfSome one IsWithinLayout)
      → IfOk read (λ one. IfSome one (λ message. message_words message ≡ words))
      → IfOk read (λ one. IfNone one ((message : ImageMessage) → IsWithinLayout message
      → message_words message ≢ words))
      → IfOk read (λ one. one ≡ message_in words)
  is-read (Ok read) within same none = one-read read within same none
  is-read (Err e) within same none = tt
