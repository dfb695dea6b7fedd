-- What is due of a deck and the report that follows it. Our own rule.
use Rattle.std.specs.Prelude.{◌≡◌, ◌⊎◌, ◌<◌, ◌≤◌, ℕ, List, Ok, Err, length, take, drop}
use Rattle.deck_reader.specs.Decks.{Decks}
use Rattle.deck_reader.specs.Refusals.{IsRefusalOf}
use Rattle.deck_reader.specs.declared.deck.Deck.{Deck}
use Rattle.report_judge.specs.Verdicts.{IsVerdict}
use Rattle.report_judge.specs.declared.judge.VerifyFault.TheVariants as refusal
use Rattle.report_judge.specs.report_reader.specs.DeckEnds.{deck_end}
use Rattle.tal_tree.specs.declared.fault.DeckFault.{DeckFault}
use Rattle.tal_tree.specs.declared.fault.DeckFault.TheVariants.{TooLong}
use Rattle.tal_tree.specs.declared.site.Site.{Site}
use Rattle.report_judge.specs.verdicts.specs.Refused.{AreAccepted, IsFirstRefused}
use Rattle.command_dues.specs.declared.due.Due.{Due}
use Rattle.command_dues.specs.declared.due.Due.TheVariants as due
use Rattle.gd_words.specs.declared.limits.TheConstants.{MOST_INPUT_BYTES}

-- the deck with which bytes begin, and the report that follows it
abbrev pub deck_in : List ℕ → List ℕ
deck_in bytes = take (deck_end bytes) bytes

abbrev pub report_in : List ℕ → List ℕ
report_in bytes = drop (deck_end bytes) bytes

-- what is due of a report of a site: its verdict
abbrev pub IsDueOfReport : Site → List ℕ → Due → Type 0
IsDueOfReport site report (due.Verified acts) = IsVerdict site report (Ok acts)
IsDueOfReport site report (due.Rejected line cause) = IsVerdict site report (Err (refusal.Rejected line cause))
IsDueOfReport site report (due.NoMemory _) = Unit {0}
IsDueOfReport site report _ = ⊥

-- what is due of a deck and its report: the first program that is refused, or else, where all are accepted, what is due
-- of the report
abbrev pub IsDueOfJudged : Deck → List ℕ → Due → Type 0
IsDueOfJudged deck report (due.ProgramRefused refused) =
    (refused.site ≡ deck.site) × IsFirstRefused deck.site.processes refused.found
IsDueOfJudged deck report (due.NoMemory _) = Unit {0}
IsDueOfJudged deck report decided = AreAccepted deck.site.processes × IsDueOfReport deck.site report decided

-- why bytes are refused: there are more than 67,108,864 of them, or else they begin with no deck
abbrev pub IsRefusalOfInput : List ℕ → DeckFault → Type 0
IsRefusalOfInput bytes fault =
    ((MOST_INPUT_BYTES < length bytes) × (fault ≡ TooLong))
    ⊎ ((length bytes ≤ MOST_INPUT_BYTES) × IsRefusalOf (deck_in bytes) fault)

-- what is due of bytes, of which the first are a deck
abbrev pub IsDueOfInput : List ℕ → Due → Type 0
IsDueOfInput bytes (due.DeckRefused fault) = IsRefusalOfInput bytes fault
IsDueOfInput bytes (due.NoMemory _) = Unit {0}
IsDueOfInput bytes decided = (length bytes ≤ MOST_INPUT_BYTES) × (deck : Deck) × Decks (deck_in bytes) deck
    × IsDueOfJudged deck (report_in bytes) decided
