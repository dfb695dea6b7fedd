-- Acts in other orders, in which each process and each terminal keeps its own. Our own rule.
use Rattle.std.specs.Prelude.{◌≡◌, ℕ, ◌==◌, Bool, false, List}
use Rattle.std.specs.List.{filter, list_any}
use Rattle.tal_tree.specs.declared.act.Act.{Act}
use Rattle.tal_tree.specs.declared.act.Act.TheVariants.{Step, Take, Enter, Print}

-- whether an act is the Step or the Take of a process
abbrev pub is_of_process : ℕ → Act → Bool
is_of_process process (Step number) = number == process
is_of_process process (Take number place) = number == process
is_of_process process (Enter terminal) = false
is_of_process process (Print terminal) = false

-- whether an act is the Enter or the Print of a terminal
abbrev pub is_of_terminal : ℕ → Act → Bool
is_of_terminal terminal (Step number) = false
is_of_terminal terminal (Take number place) = false
is_of_terminal terminal (Enter number) = number == terminal
is_of_terminal terminal (Print number) = number == terminal

-- whether one process or one terminal does both acts
abbrev pub is_same_actor : Act → Act → Bool
is_same_actor (Step number) other = is_of_process number other
is_same_actor (Take number place) other = is_of_process number other
is_same_actor (Enter terminal) other = is_of_terminal terminal other
is_same_actor (Print terminal) other = is_of_terminal terminal other

-- both have the same acts of each process and each terminal, in the same order
abbrev pub KeepsTurns : List Act → List Act → Type 0
KeepsTurns acts order = (act : Act) → filter (is_same_actor act) acts ≡ filter (is_same_actor act) order

-- its process or terminal does none of the acts before it
abbrev pub HasTurn : List Act → Act → Type 0
HasTurn before act = list_any (is_same_actor act) before ≡ false
