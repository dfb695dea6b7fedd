-- A deck and a report of it.
use Rattle.std.specs.Prelude.{◌≡◌, ◌≤◌, ℕ, List, Ok, length}
use Rattle.deck_reader.specs.Decks.{Decks}
use Rattle.deck_reader.specs.declared.deck.Deck.{Deck}
use Rattle.command_dues.specs.report_judge.specs.Reported.{IsReported}
use Rattle.command_dues.specs.report_reader.specs.Reading.{acts_in, read_report, stops_in}
use Rattle.command_dues.specs.report_reader.specs.declared.reading.Reading.{Reading}
use Rattle.command_dues.specs.Verified.{deck_in, report_in}
use Rattle.verdicts.specs.Refused.{AreAccepted}
use Rattle.gd_words.specs.declared.limits.TheConstants.{MOST_INPUT_BYTES}

-- the bytes begin with this deck, whose programs are accepted; what follows has lines that tell this, each in its form,
-- and is one of the reports that a run of the site could have
pub record IsReportedInput (bytes : List ℕ) (deck : Deck) (reading : Reading) : Type 0 where
  pub few : length bytes ≤ MOST_INPUT_BYTES
  pub spelt : Decks (deck_in bytes) deck
  pub accepted : AreAccepted deck.site.processes
  pub read : read_report deck.site (report_in bytes) ≡ Ok reading
  pub reported : IsReported deck.site (report_in bytes) (acts_in reading.told) (stops_in reading.told) reading.end
