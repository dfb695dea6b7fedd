-- The syntax of a bank's program: the lines are named by what stands on them. Those behind the number of the sector
-- stand as far on as that is long.
use Rattle.std.proofs.Common.{ℕ, ◌+◌, pos, [], ◌∷◌, length, codes}
use Rattle.std.specs.Fmt.{decimal}
use Rattle.tal_syntax.specs.Grammar as g
use Rattle.accepted_sites.proofs.Syntaxes.{Line, line, alone, digit, item, array, a_name, a_digit, process, call}
use Rattle.accepted_sites.proofs.Syntaxes.{reads_request, adds, puts, total, replies, opens_receive}
use Rattle.load_laws.specs.LoadDeck.{name_with}

-- what stands on a line behind so many spaces
abbrev behind : ℕ → Line → Line
behind spaces at column width = at (spaces + column) width

abbrev items : Line
items = line 1 0

abbrev buffer : Line
buffer = line 2 27

abbrev out : Line
out = line 3 41

abbrev head : Line
head = line 4 55

abbrev start : Line
start = line 5 71

abbrev monitor : Line
monitor = behind 2 (line 6 77)

abbrev receive : Line
receive = behind 2 (line 7 98)

abbrev disc : Line
disc = behind 2 (line 8 131)

abbrev turn : Line
turn = behind 2 (line 9 160)

abbrev round : Line
round = behind 2 (line 10 173)

abbrev take : Line
take = behind 4 (line 11 181)

abbrev add : Line
add = behind 4 (line 12 220)

abbrev keep : Line
keep = behind 4 (line 13 249)

abbrev first_out : Line
first_out = behind 4 (line 14 298)

abbrev second_out : Line
second_out = behind 4 (line 15 315)

abbrev third_out : ℕ → Line
third_out wide = behind 4 (line 16 (331 + wide))

abbrev ask : ℕ → Line
ask wide = behind 4 (line 17 (352 + wide))

abbrev put : ℕ → Line
put wide = behind 4 (line 18 (394 + wide))

abbrev answer : ℕ → Line
answer wide = behind 4 (line 19 (415 + wide))

abbrev round_end : ℕ → Line
round_end wide = behind 2 (line 20 (439 + wide))

abbrev end : ℕ → Line
end wide = line 21 (446 + wide)

abbrev globals : g.Lines
globals =
    g.more_lines
    (g.int_line (items 1 3) (item items 5 (codes "TOTAL"))
    (g.more_items (items 10 1) (item items 12 (codes "GOT"))
    (g.more_items (items 15 1) (item items 17 (codes "RCV"))
    (g.more_items (items 20 1) (item items 22 (codes "DISK")) g.no_items)))
    (items 26 1))
    (g.more_lines (g.int_line (buffer 1 3) (array buffer 5 (codes "BUF") 0) g.no_items (buffer 13 1))
    (g.more_lines (g.int_line (out 1 3) (array out 5 (codes "OUT") 2) g.no_items (out 13 1)) g.no_lines))

-- the statements of a round, where the number of the sector is so wide
abbrev serving : ℕ → ℕ → g.Statement
serving sector wide =
    g.block (round 1 5) (reads_request take)
    (g.more_row (take 34 1) (adds add)
    (g.more_row (add 24 1)
    (call keep 1 (codes "CHECKPOINT") (a_name (codes "BUF") ∷ a_name (codes "OUT") ∷ a_name (codes "GOT")
    ∷ a_name (codes "TOTAL") ∷ a_name (codes "DISK") ∷ []))
    (g.more_row (keep 44 1) (puts first_out (codes "OUT") 0 (λ at column. digit at column 2))
    (g.more_row (first_out 12 1) (puts second_out (codes "OUT") 1 (λ at column. g.number (at column wide) (pos sector)))
    (g.more_row (second_out (11 + wide) 1) (puts (third_out wide) (codes "OUT") 2 total)
    (g.more_row (third_out wide 16 1)
    (call (ask wide) 1 (codes "WRITEREAD") (a_name (codes "DISK") ∷ a_name (codes "OUT") ∷ a_digit 3 ∷ a_digit 1
    ∷ a_name (codes "GOT") ∷ []))
    (g.more_row (ask wide 37 1) (puts (put wide) (codes "BUF") 0 total)
    (g.more_row (put wide 16 1) (replies (answer wide)) (g.more_row (answer wide 19 1) g.nothing g.no_row)))))))))
    (round_end wide 1 3)

abbrev pub syntax_with : ℕ → ℕ → ℕ → g.Text
syntax_with number sector wide =
    g.text globals
    (g.more_procedures
    (g.procedure (g.heading g.gives_nothing (head 1 4) (head 6 4) (codes "BANK") g.no_parameters
    (g.is_main (head 11 4)) (head 15 1)) g.no_locals
    (start 1 5) g.no_locals (call monitor 1 (codes "CHECKMONITOR") [])
    (g.more_row (monitor 18 1) (opens_receive receive)
    (g.more_row (receive 30 1) (call disc 1 (codes "OPEN")
    (process (name_with (codes "D") number) ∷ a_name (codes "DISK") ∷ a_digit 1 ∷ []))
    (g.more_row (disc 26 1) (g.while_do (turn 1 5) (alone (digit turn 7 1)) (turn 9 2) (serving sector wide))
    (g.more_row (round_end wide 4 1) g.nothing g.no_row))))
    (end wide 1 3) (end wide 4 1))
    g.no_procedures)
    (line 22 (451 + wide) 1 0)

-- the syntax of the program that keeps its total on this sector of the disc of this number
abbrev pub program_syntax : ℕ → ℕ → g.Text
program_syntax number sector = syntax_with number sector (length (decimal sector))
