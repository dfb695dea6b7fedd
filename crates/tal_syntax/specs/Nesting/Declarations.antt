-- How deep the tokens of declarations stand: they open no level.
use Rattle.std.specs.Prelude.{ℕ, List, ◌∷◌}
use Rattle.tal_syntax.specs.Grammar as g

abbrev pub nest_atom : ℕ → g.Atom → List ℕ → List ℕ
nest_atom n (g.digits at value) ls = n ∷ ls
nest_atom n (g.known at name) ls = n ∷ ls

abbrev pub nest_constant : ℕ → g.Constant → List ℕ → List ℕ
nest_constant n (g.positive a) ls = nest_atom n a ls
nest_constant n (g.negative sign a) ls = n ∷ nest_atom n a ls

abbrev pub nest_bounds : ℕ → g.Bounds → List ℕ → List ℕ
nest_bounds n g.unbounded ls = ls
nest_bounds n (g.bounded start low colon high close) ls = n ∷ nest_constant n low (n ∷ nest_constant n high (n ∷ ls))

abbrev pub nest_item : ℕ → g.Item → List ℕ → List ℕ
nest_item n (g.item at name b) ls = n ∷ nest_bounds n b ls

abbrev pub nest_items : ℕ → g.Items → List ℕ → List ℕ
nest_items n g.no_items ls = ls
nest_items n (g.more_items comma i rest) ls = n ∷ nest_item n i (nest_items n rest ls)

abbrev pub nest_literal : ℕ → g.Literal → List ℕ → List ℕ
nest_literal n (g.literal at name equal c) ls = n ∷ n ∷ nest_constant n c ls

abbrev pub nest_literals : ℕ → g.Literals → List ℕ → List ℕ
nest_literals n g.no_literals ls = ls
nest_literals n (g.more_literals comma l rest) ls = n ∷ nest_literal n l (nest_literals n rest ls)

abbrev pub nest_globals : ℕ → g.Globals → List ℕ → List ℕ
nest_globals n (g.int_line int first more end) ls = n ∷ nest_item n first (nest_items n more (n ∷ ls))
nest_globals n (g.literal_line word first more end) ls = n ∷ nest_literal n first (nest_literals n more (n ∷ ls))

abbrev pub nest_lines : ℕ → g.Lines → List ℕ → List ℕ
nest_lines n g.no_lines ls = ls
nest_lines n (g.more_lines l rest) ls = nest_globals n l (nest_lines n rest ls)

abbrev pub nest_names : ℕ → g.Names → List ℕ → List ℕ
nest_names n g.no_names ls = ls
nest_names n (g.more_names comma at name rest) ls = n ∷ n ∷ nest_names n rest ls

abbrev pub nest_parameters : ℕ → g.Parameters → List ℕ → List ℕ
nest_parameters n g.no_parameters ls = ls
nest_parameters n (g.parameters start at name more close) ls = n ∷ n ∷ nest_names n more (n ∷ ls)

abbrev pub nest_local : ℕ → g.Local → List ℕ → List ℕ
nest_local n (g.local int at name more end) ls = n ∷ n ∷ nest_names n more (n ∷ ls)

abbrev pub nest_locals : ℕ → g.Locals → List ℕ → List ℕ
nest_locals n g.no_locals ls = ls
nest_locals n (g.more_locals l rest) ls = nest_local n l (nest_locals n rest ls)

abbrev pub nest_gives : ℕ → g.Gives → List ℕ → List ℕ
nest_gives n g.gives_nothing ls = ls
nest_gives n (g.gives_int at) ls = n ∷ ls

abbrev pub nest_main : ℕ → g.Main → List ℕ → List ℕ
nest_main n g.not_main ls = ls
nest_main n (g.is_main at) ls = n ∷ ls

abbrev pub nest_heading : ℕ → g.Heading → List ℕ → List ℕ
nest_heading n (g.heading gives proc at name p m end) ls =
    nest_gives n gives (n ∷ n ∷ nest_parameters n p (nest_main n m (n ∷ ls)))
