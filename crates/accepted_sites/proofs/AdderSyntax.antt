-- The syntax of the adder's text: the lines are named by what stands on them.
use Rattle.std.proofs.Common.{[], ◌∷◌, codes}
use Rattle.tal_syntax.specs.Grammar as g
use Rattle.accepted_sites.proofs.Syntaxes.{Line, line, alone, digit, item, array, a_name, call, reads_request, adds}
use Rattle.accepted_sites.proofs.Syntaxes.{puts, total, replies, opens_receive}

abbrev head : Line
head = line 1 0

abbrev receive : Line
receive = line 2 75

abbrev turn : Line
turn = line 3 106

abbrev take : Line
take = line 4 123

abbrev add : Line
add = line 5 158

abbrev put : Line
put = line 6 183

abbrev keep : Line
keep = line 7 200

abbrev answer : Line
answer = line 8 234

abbrev globals : g.Lines
globals =
    g.more_lines
    (g.int_line (head 1 3) (item head 5 (codes "TOTAL"))
    (g.more_items (head 10 1) (item head 12 (codes "GOT"))
    (g.more_items (head 15 1) (item head 17 (codes "RCV")) g.no_items)) (head 20 1))
    (g.more_lines (g.int_line (head 22 3) (array head 26 (codes "BUF") 0) g.no_items (head 34 1)) g.no_lines)

abbrev serving : g.Statement
serving =
    g.block (turn 12 5) (reads_request take)
    (g.more_row (take 34 1) (adds add)
    (g.more_row (add 24 1) (puts put (codes "BUF") 0 total)
    (g.more_row (put 16 1) (call keep 1 (codes "CHECKPOINT")
    (a_name (codes "TOTAL") ∷ a_name (codes "GOT") ∷ a_name (codes "BUF") ∷ []))
    (g.more_row (keep 33 1) (replies answer) g.no_row))))
    (answer 20 3)

abbrev pub adder_syntax : g.Text
adder_syntax =
    g.text globals
    (g.more_procedures
    (g.procedure (g.heading g.gives_nothing (head 36 4) (head 41 3) (codes "ADD") g.no_parameters
    (g.is_main (head 45 4)) (head 49 1)) g.no_locals
    (head 51 5) g.no_locals (call head 57 (codes "CHECKMONITOR") [])
    (g.more_row (head 74 1) (opens_receive receive)
    (g.more_row (receive 30 1) (g.while_do (turn 1 5) (alone (digit turn 7 1)) (turn 9 2) serving) g.no_row))
    (answer 24 3) (answer 27 1))
    g.no_procedures)
    (line 9 262 1 0)
