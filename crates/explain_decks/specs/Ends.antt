-- How a call ends that tells of a deck.
use Rattle.std.specs.Prelude.{◌≢◌, ℕ, List, Option}
use Rattle.std.specs.Io.KnownBytes.{IsAtEnd}
use Rattle.explain_break.specs.break_progress.specs.Progress.{GoesOut}
use Rattle.explain_decks.specs.Decided.{IsDueOfSource, IsOfWholeDeck}
use Rattle.explain_decks.specs.Written.{Comes}
use Rattle.explain_decks.specs.declared.due.Due.{Due}
use Rattle.explain_decks.specs.declared.status.Status.{Status}
use Rattle.explain_decks.specs.declared.status.Status.TheVariants as status
use Rattle.explain_decks.specs.declared.telling.Telling.{Telling}

-- the bytes of the source decide what is due, which is written whole, or a write fault comes after a part; what is told
-- meanwhile goes to a sink of its own; nothing is left of a source whose deck is told; and no read fault comes of a
-- source that is sure of itself
pub record TellEnds {S K P : Type 0} (left : S → Option (List ℕ)) (failed_reads : S → ℕ) (sure_to_read : S → Type 0)
    (held : K → Option (List ℕ)) (failed_writes : K → ℕ) (sure_to_write : K → ℕ → Type 0)
    (shown : P → Option (List ℕ)) (failed_shows : P → ℕ) (sure_to_show : P → ℕ → Type 0) (telling : Telling)
    (source source_now : S) (sink sink_now : K) (progress progress_now : P) (outcome : Status) : Type 0 where
  pub decided : Due
  pub meanwhile : List ℕ
  pub told : GoesOut shown failed_shows sure_to_show progress progress_now meanwhile
  pub is_due : IsDueOfSource telling (left source) (failed_reads source) (failed_reads source_now) meanwhile decided
  pub comes : Comes held failed_writes sure_to_write decided sink sink_now outcome
  pub read_whole : IsOfWholeDeck decided → IsAtEnd (left source_now)
  pub no_read_fault : sure_to_read source → outcome ≢ status.ReadFault
