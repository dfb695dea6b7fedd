-- How long the text of the load deck is.
use Rattle.std.proofs.Common.{◌≡◌, ◌<◌, ◌≤◌, ℕ, zero, suc, ◌+◌, ◌*◌, ◌%◌, List, [], ◌∷◌, ◌++◌, length, codes, arith}
use Rattle.std.specs.Fmt.{decimal, digits}
use Rattle.std.proofs.lemmas.Fmt.{length-decimal-le}
use Rattle.std.proofs.lemmas.List.{length-append}
use Rattle.load_deck.specs.LoadText.{banks, heading, line, load_text, request_text, requests, schedule, terminal_text}
use Rattle.load_deck.specs.LoadText.{terminals}

two-digits : (number : ℕ) → number < 100 → length (decimal number) ≤ 2
two-digits number few = length-decimal-le 2 number (omega arith) (omega arith) (omega arith)

length-line : (words : List ℕ) → length (line words) ≡ length words + 1
length-line words = length-append words (10 ∷ [])

length-request : (terminal number : ℕ) → length (request_text terminal number) ≤ 8
length-request terminal number =
    let word = (7 * terminal + 3 * number) % 100 in
    omega (
      arith,
      length-append (codes "send ") (line (decimal word)),
      length-line (decimal word),
      two-digits word (omega arith),
    )

length-requests : (terminal count : ℕ) → length (requests terminal count) ≤ 8 * count
length-requests terminal zero = omega arith
length-requests terminal (suc before) =
    omega (
      arith,
      length-append (requests terminal before) (request_text terminal (before + 1)),
      length-requests terminal before,
      length-request terminal (before + 1),
    )

four-parts : (a b c d : List ℕ) → length (a ++ b ++ c ++ d) ≡ length a + length b + length c + length d
four-parts a b c d = omega (arith, length-append (a ++ b ++ c) d, length-append (a ++ b) c, length-append a b)

length-terminal : (count number : ℕ) → number < 100 → length (terminal_text count number) ≤ 20 + 8 * count
length-terminal count number few =
    omega (
      arith,
      length-append (codes "terminal $T" ++ decimal number ++ codes " $B" ++ line (decimal (number % 12)))
          (requests number count),
      four-parts (codes "terminal $T") (decimal number) (codes " $B") (line (decimal (number % 12))),
      length-line (decimal (number % 12)),
      two-digits number few,
      two-digits (number % 12) (omega arith),
      length-requests number count,
    )

-- the length of so many texts that are at most so long
abbrev together : ℕ → ℕ → ℕ
together most zero = 0
together most (suc number) = together most number + most

length-terminals : (count bound : ℕ) → bound ≤ 100 → length (terminals count bound) ≤ together (20 + 8 * count) bound
length-terminals count zero few = omega arith
length-terminals count (suc number) few =
    omega (
      arith,
      length-append (terminals count number) (terminal_text count number),
      length-terminals count number (omega arith),
      length-terminal count number (omega arith),
    )

length-before : length (heading ++ banks 12) ≤ 10000
unfolding digits
length-before = omega arith

pub load-short : (count : ℕ) → count ≤ 200 → length (load_text count) ≤ 1048576
load-short count few =
    let ends : length schedule ≤ 100 = omega arith in
    let whole : length (heading ++ banks 12 ++ terminals count 16 ++ schedule)
    ≤ length (heading ++ banks 12) + length (terminals count 16) + length schedule =
    omega (
      arith,
      length-append (heading ++ banks 12 ++ terminals count 16) schedule,
      length-append (heading ++ banks 12) (terminals count 16),
    ) in
    omega (arith, whole, ends, length-before, length-terminals count 16 (omega arith))
