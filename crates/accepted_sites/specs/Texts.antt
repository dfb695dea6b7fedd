-- Texts of the worked programs. A statement stands on the line of its number.
use Rattle.std.specs.Prelude.{ℕ, List, [], ◌∷◌, ◌++◌, codes}
use Rattle.std.specs.List.{flat_map}

abbrev with_feed : List ℕ → List ℕ
with_feed line = line ++ 10 ∷ []

-- a text of these lines
abbrev lines : List (List ℕ) → List ℕ
lines all = flat_map with_feed all

-- OPEN of a file under this name; a quote can't stand in the literals here
abbrev opening : List ℕ → List ℕ → List ℕ
opening name file = codes "CALL OPEN(" ++ 34 ∷ name ++ 34 ∷ codes ", " ++ file ++ codes ", 1);"

abbrev pub adder_text : List ℕ
adder_text =
    lines
    (codes "INT total, got, rcv; INT buf[0:0]; PROC add MAIN; BEGIN CALL CHECKMONITOR;"
    ∷ opening (codes "$RECEIVE") (codes "rcv")
    ∷ codes "WHILE 1 DO BEGIN"
    ∷ codes "CALL READUPDATE(rcv, buf, 1, got);"
    ∷ codes "total := total + buf[0];"
    ∷ codes "buf[0] := total;"
    ∷ codes "CALL CHECKPOINT(total, got, buf);"
    ∷ codes "CALL REPLY(buf, 1) END END;"
    ∷ [])

abbrev pub bank_text : List ℕ
bank_text =
    lines
    (codes "INT total, got, rcv, disk; INT buf[0:0], out[0:2]; PROC bank MAIN; BEGIN CALL CHECKMONITOR;"
    ∷ opening (codes "$RECEIVE") (codes "rcv")
    ∷ opening (codes "$DATA") (codes "disk")
    ∷ codes "WHILE 1 DO BEGIN"
    ∷ codes "CALL READUPDATE(rcv, buf, 1, got);"
    ∷ codes "total := total + buf[0];"
    ∷ codes "CALL CHECKPOINT(buf, out, got, total, disk);"
    ∷ codes "out[0] := 2;"
    ∷ codes "out[1] := 0;"
    ∷ codes "out[2] := total;"
    ∷ codes "CALL WRITEREAD(disk, out, 3, 1, got);"
    ∷ codes "buf[0] := total;"
    ∷ codes "CALL REPLY(buf, 1) END END;"
    ∷ [])
