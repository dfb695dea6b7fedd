-- The syntax of the bank's text: the lines are named by what stands on them.
use Rattle.std.proofs.Common.{[], ◌∷◌, codes}
use Rattle.tal_syntax.specs.Grammar as g
use Rattle.accepted_sites.proofs.Syntaxes.{Line, line, alone, digit, item, array, a_name, a_digit, process, call}
use Rattle.accepted_sites.proofs.Syntaxes.{reads_request, adds, puts, total, replies, opens_receive}

abbrev head : Line
head = line 1 0

abbrev receive : Line
receive = line 2 92

abbrev disc : Line
disc = line 3 123

abbrev turn : Line
turn = line 4 152

abbrev take : Line
take = line 5 169

abbrev add : Line
add = line 6 204

abbrev keep : Line
keep = line 7 229

abbrev first_out : Line
first_out = line 8 274

abbrev second_out : Line
second_out = line 9 287

abbrev third_out : Line
third_out = line 10 300

abbrev ask : Line
ask = line 11 317

abbrev put : Line
put = line 12 355

abbrev answer : Line
answer = line 13 372

abbrev globals : g.Lines
globals =
    g.more_lines
    (g.int_line (head 1 3) (item head 5 (codes "TOTAL"))
    (g.more_items (head 10 1) (item head 12 (codes "GOT"))
    (g.more_items (head 15 1) (item head 17 (codes "RCV"))
    (g.more_items (head 20 1) (item head 22 (codes "DISK")) g.no_items)))
    (head 26 1))
    (g.more_lines
    (g.int_line (head 28 3) (array head 32 (codes "BUF") 0)
    (g.more_items (head 40 1) (array head 42 (codes "OUT") 2) g.no_items) (head 50 1))
    g.no_lines)

abbrev serving : g.Statement
serving =
    g.block (turn 12 5) (reads_request take)
    (g.more_row (take 34 1) (adds add)
    (g.more_row (add 24 1)
    (call keep 1 (codes "CHECKPOINT") (a_name (codes "BUF") ∷ a_name (codes "OUT") ∷ a_name (codes "GOT")
    ∷ a_name (codes "TOTAL") ∷ a_name (codes "DISK") ∷ []))
    (g.more_row (keep 44 1) (puts first_out (codes "OUT") 0 (λ at column. digit at column 2))
    (g.more_row (first_out 12 1) (puts second_out (codes "OUT") 1 (λ at column. digit at column 0))
    (g.more_row (second_out 12 1) (puts third_out (codes "OUT") 2 total)
    (g.more_row (third_out 16 1)
    (call ask 1 (codes "WRITEREAD") (a_name (codes "DISK") ∷ a_name (codes "OUT") ∷ a_digit 3 ∷ a_digit 1
    ∷ a_name (codes "GOT") ∷ []))
    (g.more_row (ask 37 1) (puts put (codes "BUF") 0 total)
    (g.more_row (put 16 1) (replies answer) g.no_row))))))))
    (answer 20 3)

abbrev pub bank_syntax : g.Text
bank_syntax =
    g.text globals
    (g.more_procedures
    (g.procedure (g.heading g.gives_nothing (head 52 4) (head 57 4) (codes "BANK") g.no_parameters
    (g.is_main (head 62 4)) (head 66 1)) g.no_locals
    (head 68 5) g.no_locals (call head 74 (codes "CHECKMONITOR") [])
    (g.more_row (head 91 1) (opens_receive receive)
    (g.more_row (receive 30 1) (call disc 1 (codes "OPEN")
    (process (codes "$DATA") ∷ a_name (codes "DISK") ∷ a_digit 1 ∷ []))
    (g.more_row (disc 28 1) (g.while_do (turn 1 5) (alone (digit turn 7 1)) (turn 9 2) serving) g.no_row)))
    (answer 24 3) (answer 27 1))
    g.no_procedures)
    (line 14 400 1 0)
