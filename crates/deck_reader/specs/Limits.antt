-- The limits that decks keep.
use Rattle.std.specs.Prelude.{◌≢◌, ◌<◌, ◌≤◌, ℕ, ℤ, List, length}
use Rattle.std.specs.List.{All}
use Rattle.tal_tree.specs.Limits.{IsWithinLimits}
use Rattle.tal_tree.specs.declared.site.Kind.{Kind}
use Rattle.tal_tree.specs.declared.site.Kind.TheVariants as kind
use Rattle.tal_tree.specs.declared.site.ProcessSpec.{ProcessSpec}
use Rattle.tal_tree.specs.declared.site.Site.{Site}
use Rattle.tal_tree.specs.declared.site.TerminalSpec.{TerminalSpec}
use Rattle.deck_reader.specs.Schedules.{IsLineOf, rounds_of, singles_of}
use Rattle.deck_reader.specs.declared.deck.Deck.{Deck}
use Rattle.gd_words.specs.declared.limits.TheConstants.{MOST_MESSAGE_WORDS, MOST_PROCESSES, MOST_PROCESSORS}
use Rattle.gd_words.specs.declared.limits.TheConstants.{MOST_REQUESTS, MOST_ROUNDS, MOST_SECTORS, MOST_SINGLES}
use Rattle.gd_words.specs.declared.limits.TheConstants.{MOST_TERMINALS}

-- a disc has 1 to 64 sectors, and the program of a pair keeps its limits
abbrev pub IsKindWithinLimits : Kind → Type 0
IsKindWithinLimits (kind.Disc sectors mirrored) = (1 ≤ sectors) × (sectors ≤ MOST_SECTORS)
IsKindWithinLimits (kind.Pair program) = IsWithinLimits program

-- a process has its copies in two of so many processors
pub record IsProcessWithinLimits (processors : ℕ) (process : ProcessSpec) : Type 0 where
  pub primary : process.primary < processors
  pub backup : process.backup < processors
  pub apart : process.primary ≢ process.backup
  pub what : IsKindWithinLimits process.what

-- a terminal asks one of so many processes, and has at most 1,000 requests
pub record IsTerminalWithinLimits (processes : ℕ) (terminal : TerminalSpec) : Type 0 where
  pub target : terminal.target < processes
  pub requests : length terminal.requests ≤ MOST_REQUESTS

-- a site has 2 to 16 processors and at most 16 processes and 16 terminals, and each of those keeps its own limits
pub record IsSiteWithinLimits (site : Site) : Type 0 where
  pub fewest_processors : 2 ≤ site.processors
  pub most_processors : site.processors ≤ MOST_PROCESSORS
  pub processes : length site.processes ≤ MOST_PROCESSES
  pub each_process : All (IsProcessWithinLimits site.processors) site.processes
  pub terminals : length site.terminals ≤ MOST_TERMINALS
  pub each_terminal : All (IsTerminalWithinLimits (length site.processes)) site.terminals

-- a deck has at most 1,000,000 single events and 100,000 rounds, and each line asks for events of the site or for
-- rounds
pub record IsWithinDeckLimits (deck : Deck) : Type 0 where
  pub site : IsSiteWithinLimits deck.site
  pub each_line : All (IsLineOf deck.site.processors (length deck.site.processes) (length deck.site.terminals))
      deck.lines
  pub singles : singles_of deck.lines ≤ MOST_SINGLES
  pub rounds : rounds_of deck.lines ≤ MOST_ROUNDS

-- the requests of a terminal have no more words than their limit
abbrev pub HasShortRequests : TerminalSpec → Type 0
HasShortRequests terminal = All (λ (request : List ℤ). length request ≤ MOST_MESSAGE_WORDS) terminal.requests
