-- The text of the load deck is the load deck.
use Rattle.std.proofs.Common.{◌≡◌, ◌≤◌, ℕ, ◌+◌, ◌%◌, Some, None, refl, codes, arith}
use Rattle.std.specs.Fmt.{digits}
use Rattle.load_deck.specs.LoadText.{load_text}
use Rattle.name_table.specs.Entries.{place_of}
use Rattle.deck_reader.specs.Decks.{Decks, IsProcessOf, IsTerminalOf, AreProcessesOf, AreTerminalsOf}
use Rattle.deck_reader.specs.Names.{misnamed_in}
use Rattle.load_laws.specs.LoadDeck.{bank, disc, load_deck, load_site, name_with, terminal}
use Rattle.load_laws.proofs.Below.{AllBelow, each-with, so-below}
use Rattle.load_laws.proofs.Outlines.{bank_lines, disc_lines, load-told, load_outline, named_terminal}
use Rattle.load_laws.proofs.Readings.{IsRead, each-read}
use Rattle.load_laws.proofs.Sizes.{load-short}

disc-told : (number : ℕ) → IsProcessOf (disc_lines number) (disc number)
disc-told number = record { name = refl; primary = refl; backup = refl; what = (refl, refl) }

abbrev IsBankOf : ℕ → Type 0
IsBankOf number = IsProcessOf (bank_lines number) (bank number)

bank-told : (number : ℕ) → IsRead number → IsBankOf number
bank-told number read = record { name = refl; primary = refl; backup = refl; what = read }

processes-told : (count : ℕ) → AreProcessesOf (load_outline count).processes (load_site count).processes
processes-told count = (
  disc-told 0,
  (
    disc-told 1,
    each-with IsProcessOf bank_lines bank 12 (so-below IsRead IsBankOf bank-told 12 each-read),
  ),
)

-- the bank that a terminal asks stands behind the two discs
abbrev IsAsked : ℕ → Type 0
IsAsked number = place_of (load_outline 0).processes (name_with (codes "B") (number % 12)) ≡ Some (2 + number % 12)

each-asked : AllBelow IsAsked 16
unfolding digits
each-asked = (
  (
    (
      (
        ((((((((((((tt, refl), refl), refl), refl), refl), refl), refl), refl), refl), refl), refl), refl),
        refl,
      ),
      refl,
    ),
    refl,
  ),
  refl,
)

terminals-told : (count : ℕ) → AreTerminalsOf (load_outline count).processes (load_outline count).terminals
    (load_site count).terminals
terminals-told count =
    let IsSaid : ℕ → Type 0 =
    λ number. IsTerminalOf (load_outline count).processes (named_terminal count number) (terminal count number) in
    each-with (IsTerminalOf (load_outline count).processes) (named_terminal count) (terminal count) 16
    (so-below IsAsked IsSaid (λ number asked. record { name = refl; target = asked; requests = refl }) 16 each-asked)

all-named : (count : ℕ) → misnamed_in (load_outline count) (load_site count).processes ≡ None
unfolding digits
all-named count = refl

pub load-decks : (count : ℕ) → count ≤ 200 → Decks (load_text count) (load_deck count)
load-decks count few = record {
  short = load-short count few;
  outlined = (
    load_outline count,
    load-told count (omega arith),
    record {
      processors = refl;
      processes = processes-told count;
      terminals = terminals-told count;
      lines = refl;
      named = all-named count;
    },
  );
}
