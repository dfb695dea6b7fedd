-- What is told of a deck where it is asked for a run of it that breaks.
use Rattle.std.specs.Prelude.{◌≡◌, ◌⊎◌, ℕ, true, false, List, [], ◌∷◌, ◌++◌, codes}
use Rattle.break_text.specs.BreakText.{search_text}
use Rattle.break_text.specs.break_runs.specs.Breaks.{IsSearch}
use Rattle.break_text.specs.break_runs.specs.Meanwhile.{search_progress}
use Rattle.break_text.specs.break_runs.specs.declared.found.Search.{Search}
use Rattle.schedule_lengths.specs.deck_reader.specs.declared.deck.Deck.{Deck}
use Rattle.explain_why.specs.Judged.{IsJudgedDeck}
use Rattle.explain_why.specs.declared.judged.JudgedDeck.{JudgedDeck}
use Rattle.accepted_decks.specs.verdicts.specs.Refused.{AreAccepted}

abbrev pub accepted_text : List ℕ
accepted_text = codes "no program is refused: no run of this deck breaks" ++ 10 ∷ []

-- all programs are accepted, and that is told, and nothing meanwhile
abbrev pub IsUnbreakable : Deck → List ℕ → JudgedDeck → Type 0
IsUnbreakable deck meanwhile judged =
    (judged.refused ≡ false) × AreAccepted deck.site.processes × (judged.told ≡ accepted_text) × (meanwhile ≡ [])

-- a program is refused: it is told why, and what came of a search among the runs of the deck's schedule, and meanwhile
-- how far it is
pub record IsOfSearch (bytes : List ℕ) (deck : Deck) (meanwhile : List ℕ) (judged : JudgedDeck) : Type 0 where
  pub whys : JudgedDeck
  pub search : Search
  pub refused : whys.refused ≡ true
  pub judged_is : IsJudgedDeck bytes deck.site.processes whys
  pub searched : IsSearch deck.site deck.lines search
  pub meanwhile_is : meanwhile ≡ search_progress deck.site search
  pub answered : judged.refused ≡ true
  pub told_is : judged.told ≡ whys.told ++ search_text deck.site search

abbrev pub IsBreakDeck : List ℕ → Deck → List ℕ → JudgedDeck → Type 0
IsBreakDeck bytes deck meanwhile judged =
    IsUnbreakable deck meanwhile judged ⊎ IsOfSearch bytes deck meanwhile judged
