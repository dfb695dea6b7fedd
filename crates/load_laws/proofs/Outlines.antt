-- What the lines of the load deck say.
use Rattle.std.proofs.Common.{◌≡◌, ◌≤◌, ◌∙◌, ℕ, zero, suc, ◌+◌, ◌*◌, ◌%◌, List, [], ◌++◌, None, false, refl, ap, codes}
use Rattle.std.specs.Fmt.{digits}
use Rattle.load_deck.specs.LoadText.{heading, bank_text, banks, requests, terminal_text, terminals, schedule, load_text}
use Rattle.std.proofs.lemmas.List.{append_assoc}
use Rattle.name_table.specs.Entries.{Named}
use Rattle.deck_lines.specs.Lines.{lines_of}
use Rattle.deck_reader.specs.Outlined.{outline_of, told_after}
use Rattle.deck_reader.specs.declared.outline.Body.TheVariants as body
use Rattle.deck_reader.specs.declared.outline.Outline.{Outline}
use Rattle.deck_reader.specs.declared.outline.ProcessLines.{ProcessLines}
use Rattle.deck_reader.specs.declared.outline.TerminalLines.{TerminalLines}
use Rattle.deck_reader.specs.declared.step.Stage.{Stage}
use Rattle.deck_reader.specs.declared.step.Stage.TheVariants as at
use Rattle.deck_reader.specs.declared.told.Told.TheVariants as told
use Rattle.load_laws.specs.LoadDeck.{each_below, load_schedule, name_with, request}
use Rattle.load_laws.proofs.Below.{AllBelow}
use Rattle.load_laws.proofs.Readings.{program_text}
use Rattle.load_laws.proofs.Sends.{asked_so_far, sent}

-- the lines of a disc, and of a bank
abbrev pub disc_lines : ℕ → Named ProcessLines
disc_lines number =
    (name_with (codes "D") number, record { primary = 2 * number; backup = 2 * number + 1; body = body.Disc 64 false })

abbrev pub bank_lines : ℕ → Named ProcessLines
bank_lines number = (
  name_with (codes "B") number,
  record {
    primary = 4 + number;
    backup = (5 + number) % 16;
    body = body.Pair (record { line = 4 + 23 * number; text = program_text (number % 2) number });
  },
)

-- what the lines of the processors, the discs and so many banks say
abbrev pub site_outline : ℕ → Outline
site_outline banks = record {
  processors = 16;
  processes = each_below disc_lines 2 ++ each_below bank_lines banks;
  terminals = [];
  events = record { lines = []; sums = record { singles = 0; rounds = 0 }; unknown = None };
}

heading-told : (rest : List ℕ) → outline_of (lines_of (heading ++ rest))
    ≡ told_after (at.Blocks (site_outline 0)) 3 (lines_of rest)
unfolding digits
heading-told rest = refl

-- the bank of this number, where those before it are told
abbrev IsBankTold : ℕ → Type 0
IsBankTold number = (rest : List ℕ)
    → told_after (at.Blocks (site_outline number)) (3 + 23 * number) (lines_of (bank_text number ++ rest))
    ≡ told_after (at.Blocks (site_outline (suc number))) (3 + 23 * suc number) (lines_of rest)

each-bank : AllBelow IsBankTold 12
unfolding digits
each-bank = (
  (
    (
      (
        (
          (
            ((((((tt, λ rest. refl), λ rest. refl), λ rest. refl), λ rest. refl), λ rest. refl), λ rest. refl),
            λ rest. refl,
          ),
          λ rest. refl,
        ),
        λ rest. refl,
      ),
      λ rest. refl,
    ),
    λ rest. refl,
  ),
  λ rest. refl,
)

banks-told : (bound : ℕ) → AllBelow IsBankTold bound → (rest : List ℕ)
    → told_after (at.Blocks (site_outline 0)) 3 (lines_of (banks bound ++ rest))
    ≡ told_after (at.Blocks (site_outline bound)) (3 + 23 * bound) (lines_of rest)
banks-told zero all rest = refl
banks-told (suc number) all rest =
    ap (λ (text : List ℕ). told_after (at.Blocks (site_outline 0)) 3 (lines_of text))
    (append_assoc (banks number) (bank_text number) rest)
    ∙ banks-told number all.0 (bank_text number ++ rest)
    ∙ all.1 rest

-- how many lines stand before the terminal of a number
abbrev lines_before : ℕ → ℕ → ℕ
lines_before count zero = 279
lines_before count (suc number) = lines_before count number + 1 + count

-- the lines of the terminal of a number with so many requests, and these under its name
abbrev terminal_lines : ℕ → ℕ → TerminalLines
terminal_lines count number = record {
  line = lines_before count number + 1;
  target = name_with (codes "B") (number % 12);
  requests = each_below (request number) count;
}

abbrev terminal_name : ℕ → List ℕ
terminal_name number = name_with (codes "T") number

abbrev pub named_terminal : ℕ → ℕ → Named TerminalLines
named_terminal count number = (terminal_name number, terminal_lines count number)

abbrev with_terminals : ℕ → ℕ → Outline
with_terminals count number = record (site_outline 12) { terminals = each_below (named_terminal count) number }

-- where the lines of the terminal of a number begin
abbrev stage_before : ℕ → ℕ → Stage
stage_before count zero = at.Blocks (with_terminals count zero)
stage_before count (suc number) =
    at.Requests (with_terminals count number) (terminal_name number) (terminal_lines count number)

-- the line of the terminal itself, with its requests yet to come
abbrev IsOpened : ℕ → Type 0
IsOpened number = (count : ℕ) (rest : List ℕ)
    → told_after (stage_before count number) (lines_before count number) (lines_of (terminal_text count number ++ rest))
    ≡ told_after (at.Requests (with_terminals count number) (terminal_name number)
    (asked_so_far (terminal_lines count number) number 0)) (lines_before count number + 1)
    (lines_of (requests number count ++ rest))

each-opened : AllBelow IsOpened 16
unfolding digits
each-opened = (
  (
    (
      (
        (
          (
            (
              (
                (
                  (
                    (
                      (
                        ((((tt, λ count rest. refl), λ count rest. refl), λ count rest. refl), λ count rest. refl),
                        λ count rest. refl,
                      ),
                      λ count rest. refl,
                    ),
                    λ count rest. refl,
                  ),
                  λ count rest. refl,
                ),
                λ count rest. refl,
              ),
              λ count rest. refl,
            ),
            λ count rest. refl,
          ),
          λ count rest. refl,
        ),
        λ count rest. refl,
      ),
      λ count rest. refl,
    ),
    λ count rest. refl,
  ),
  λ count rest. refl,
)

terminals-told : (count bound : ℕ) → count ≤ 1000 → AllBelow IsOpened bound → (rest : List ℕ)
    → told_after (stage_before count zero) 279 (lines_of (terminals count bound ++ rest))
    ≡ told_after (stage_before count bound) (lines_before count bound) (lines_of rest)
terminals-told count zero few all rest = refl
terminals-told count (suc number) few all rest =
    ap (λ (text : List ℕ). told_after (stage_before count zero) 279 (lines_of text))
    (append_assoc (terminals count number) (terminal_text count number) rest)
    ∙ terminals-told count number few all.0 (terminal_text count number ++ rest)
    ∙ all.1 count rest
    ∙ sent (with_terminals count number) (terminal_name number) (terminal_lines count number) number count
    (lines_before count number + 1) rest few

-- what all lines say
abbrev pub load_outline : ℕ → Outline
load_outline count =
    record (with_terminals count 16) {
      events =
          record { lines = load_schedule; sums = record { singles = 1; rounds = 90500 }; unknown = None };
    }

schedule-told : (count line : ℕ) → told_after (stage_before count 16) line (lines_of schedule)
    ≡ told.Whole (load_outline count)
unfolding digits
schedule-told count line = refl

pub load-told : (count : ℕ) → count ≤ 1000 → outline_of (lines_of (load_text count)) ≡ told.Whole (load_outline count)
unfolding digits
load-told count few =
    heading-told (banks 12 ++ terminals count 16 ++ schedule)
    ∙ banks-told 12 each-bank (terminals count 16 ++ schedule)
    ∙ terminals-told count 16 few each-opened schedule
    ∙ schedule-told count (lines_before count 16)
