-- Texts of one procedure, which does CHECKMONITOR and then a loop. I is a global.
use Rattle.std.specs.Prelude.{ℕ, List, ◌∷◌, ◌++◌, codes}

abbrev pub main_text : List ℕ → List ℕ
main_text statement = codes "INT I;PROC P MAIN;BEGIN CALL CHECKMONITOR;" ++ statement ++ codes ";END;"

abbrev pub downward : List ℕ
downward = main_text (codes "FOR I:=5 DOWNTO 1 BY 2 DO CALL STOP")

abbrev pub upward : List ℕ
upward = main_text (codes "FOR I:=1 TO 5 DO")

-- UNTIL stands on the second line
abbrev pub repeated : List ℕ
repeated = main_text (codes "DO CALL STOP" ++ 10 ∷ codes "UNTIL I")

abbrev pub by_zero : List ℕ
by_zero = main_text (codes "FOR I:=1 TO 5 BY 0 DO CALL STOP")

abbrev pub by_less : List ℕ
by_less = main_text (codes "FOR I:=1 TO 5 BY -1 DO CALL STOP")
