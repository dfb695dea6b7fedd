-- The ledgers of a disc that a terminal asks once.
use Rattle.std.specs.Prelude.{pos, List, [], ◌∷◌}
use Rattle.tal_tree.specs.declared.act.Act.{Act}
use Rattle.tal_tree.specs.declared.act.Act.TheVariants.{Step, Take, Enter, Print}
use Rattle.process_histories.specs.Served.{one_write}
use Rattle.plain_histories.specs.Ledgers.{Ledger, empty_ledger, with_deeds, with_entered, with_printed}

-- the terminal has entered its request
abbrev pub asked : Ledger
asked = with_entered 0 (pos 2 ∷ pos 1 ∷ pos 5 ∷ []) empty_ledger

-- the disc has served it
abbrev pub served : Ledger
served = with_deeds 0 one_write asked

-- the terminal has printed the reply
abbrev pub replied : Ledger
replied = with_printed 0 (pos 0 ∷ []) served

-- the acts that led there, the newest first
abbrev pub all_acts : List Act
all_acts = Print 0 ∷ Step 0 ∷ Step 0 ∷ Step 0 ∷ Take 0 0 ∷ Enter 0 ∷ []
