-- What is told of a deck where it is asked what is left of its run.
use Rattle.std.specs.Prelude.{◌≡◌, ◌⊎◌, ℕ, true, false, List, Option}
use Rattle.explain_why.specs.deck_reader.specs.declared.deck.Deck.{Deck}
use Rattle.explain_why.specs.Judged.{IsJudgedDeck}
use Rattle.explain_why.specs.declared.judged.JudgedDeck.{JudgedDeck}
use Rattle.explain_left.specs.LeftRuns.{IsLeftText}
use Rattle.player.specs.declared.stop.ProcessorStop.{ProcessorStop}
use Rattle.accepted_decks.specs.verdicts.specs.Refused.{AreAccepted}

-- all programs are accepted, and it is told what a run with this stop left
abbrev pub IsOfRun : List ℕ → Deck → Option ProcessorStop → JudgedDeck → Type 0
IsOfRun bytes deck stop judged =
    (judged.refused ≡ false) × AreAccepted deck.site.processes × IsLeftText bytes deck stop judged.told

-- a program is refused, and that is told; or it is told of the run
abbrev pub IsLeftDeck : List ℕ → Deck → Option ProcessorStop → JudgedDeck → Type 0
IsLeftDeck bytes deck stop judged =
    ((judged.refused ≡ true) × IsJudgedDeck bytes deck.site.processes judged) ⊎ IsOfRun bytes deck stop judged
