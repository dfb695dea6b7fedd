-- How a command ends.
use Rattle.std.specs.Prelude.{◌≡◌, ◌≢◌, ℕ, true, false, List, Option}
use Rattle.std.specs.Io.KnownBytes.{IsAtEnd}
use Rattle.command_words.specs.Asked.{asked_by}
use Rattle.command_dues.specs.Decided.{IsDue, IsOfWholeDeck, reads_deck}
use Rattle.command_dues.specs.Written.{IsWritten}
use Rattle.command_dues.specs.declared.due.Due.{Due}
use Rattle.command_dues.specs.declared.outcome.Outcome.{Outcome}
use Rattle.command_dues.specs.declared.outcome.Status.TheVariants as status

-- a command of these words, over a source and a sink, ends so: the words, the bytes that are read and the deck decide
-- what is due, which is written whole, or a write fault comes after a part. Words for which no deck is read leave the
-- source as it is, and nothing is left of one that is read and played, is refused for what it says, or hasn't the
-- processor that is to stop. No read fault comes of a source that is sure of itself.
pub record Ends {S K : Type 0} (left : S → Option (List ℕ)) (failed_reads : S → ℕ) (sure_to_read : S → Type 0)
    (held : K → Option (List ℕ)) (failed_writes : K → ℕ) (sure_to_write : K → ℕ → Type 0)
    (words : List (List ℕ)) (source source_now : S) (sink sink_now : K) (outcome : Outcome) : Type 0 where
  pub decided : Due
  pub is_due : IsDue words (left source) (failed_reads source) (failed_reads source_now) decided
  pub is_written : IsWritten held failed_writes sure_to_write sink sink_now decided outcome
  pub unread : reads_deck (asked_by words) ≡ false → source_now ≡ source
  pub read_whole : reads_deck (asked_by words) ≡ true → IsOfWholeDeck decided → IsAtEnd (left source_now)
  pub no_read_fault : sure_to_read source → outcome.status ≢ status.ReadFault
