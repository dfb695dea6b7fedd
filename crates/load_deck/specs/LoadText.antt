-- The text of the load deck: a full ordinary site of 16 processors, with two discs, twelve banks and sixteen terminals,
-- a mixed schedule and one stop. Our own.
use Rattle.std.specs.Prelude.{ℕ, zero, suc, ◌+◌, ◌*◌, ◌%◌, List, [], ◌∷◌, ◌++◌, codes}
use Rattle.std.specs.Fmt.{decimal}

-- a line ends with a line feed
abbrev pub line : List ℕ → List ℕ
line words = words ++ 10 ∷ []

-- the program of a bank up to the name of its disc, from there up to the sector on which it keeps its total, and to its
-- end
abbrev pub program_head : List ℕ
program_head =
    line (codes "INT total, got, rcv, disk;") ++ line (codes "INT buf[0:0];") ++ line (codes "INT out[0:2];")
    ++ line (codes "PROC bank MAIN;")
    ++ line (codes "BEGIN") ++ line (codes "  CALL CHECKMONITOR;") ++ line (codes "  CALL OPEN(\"$RECEIVE\", rcv, 1);")
    ++ codes "  CALL OPEN(\"$D"

abbrev pub program_middle : List ℕ
program_middle =
    line (codes "\", disk, 1);") ++ line (codes "  WHILE 1 DO") ++ line (codes "  BEGIN")
    ++ line (codes "    CALL READUPDATE(rcv, buf, 1, got);")
    ++ line (codes "    total := total + buf[0];") ++ line (codes "    CALL CHECKPOINT(buf, out, got, total, disk);")
    ++ line (codes "    out[0] := 2;") ++ codes "    out[1] := "

abbrev pub program_tail : List ℕ
program_tail =
    line (codes ";") ++ line (codes "    out[2] := total;") ++ line (codes "    CALL WRITEREAD(disk, out, 3, 1, got);")
    ++ line (codes "    buf[0] := total;")
    ++ line (codes "    CALL REPLY(buf, 1);") ++ line (codes "  END;") ++ line (codes "END;") ++ line (codes ".")

-- the bank of a number: its copies are in processors 4 + number and the next one, its disc is the first one where the
-- number is even, and its sector is that of the number
abbrev pub bank_text : ℕ → List ℕ
bank_text number =
    codes "pair $B" ++ decimal number ++ codes " " ++ decimal (4 + number) ++ codes " "
    ++ line (decimal ((5 + number) % 16))
    ++ program_head ++ decimal (number % 2) ++ program_middle ++ decimal number ++ program_tail

-- the first so many banks
abbrev pub banks : ℕ → List ℕ
banks zero = []
banks (suc number) = banks number ++ bank_text number

-- a request of a terminal: one word
abbrev pub request_text : ℕ → ℕ → List ℕ
request_text terminal request = codes "send " ++ line (decimal ((7 * terminal + 3 * request) % 100))

-- the first so many requests of a terminal, numbered from 1
abbrev pub requests : ℕ → ℕ → List ℕ
requests terminal zero = []
requests terminal (suc before) = requests terminal before ++ request_text terminal (before + 1)

-- the terminal of a number with so many requests: it asks one of the twelve banks
abbrev pub terminal_text : ℕ → ℕ → List ℕ
terminal_text count number =
    codes "terminal $T" ++ decimal number ++ codes " $B" ++ line (decimal (number % 12)) ++ requests number count

-- the first so many terminals
abbrev pub terminals : ℕ → ℕ → List ℕ
terminals count zero = []
terminals count (suc number) = terminals count number ++ terminal_text count number

abbrev pub heading : List ℕ
heading = line (codes "processors 16") ++ line (codes "disc $D0 0 1 64") ++ line (codes "disc $D1 2 3 64")

abbrev pub schedule : List ℕ
schedule = line (codes "schedule") ++ line (codes "mix 7 500") ++ line (codes "fail 4") ++ line (codes "drain 90000")
    ++ line (codes "END")

-- the load deck in which each terminal has so many requests
abbrev pub load_text : ℕ → List ℕ
load_text count = heading ++ banks 12 ++ terminals count 16 ++ schedule
