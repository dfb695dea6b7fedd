-- Whether no act is possible, told by the acts that can be tried.
use Rattle.std.specs.Prelude.{ℕ, zero, suc, ◌+◌, Bool, true, false, ◌&&◌, List, [], ◌∷◌, length, Option, Some, is_none}
use Rattle.tal_tree.specs.declared.act.Act.{Act}
use Rattle.tal_tree.specs.declared.site.Site.{Site}
use Rattle.plain_semantics.specs.declared.slot.Slot.{Slot}
use Rattle.plain_semantics.specs.declared.slot.Slot.TheVariants.{Waiting, Answered}
use Rattle.plain_semantics.specs.Machine.{Plain, made}
use Rattle.plain_machine.specs.Rounds.{enter_of, next_move, print_of}

-- whether a request waits in a slot
abbrev pub has_waiting : List Slot → Bool
has_waiting [] = false
has_waiting (Waiting words ∷ slots) = true
has_waiting (_ ∷ slots) = has_waiting slots

-- whether a reply is in a slot
abbrev pub is_answered : Option Slot → Bool
is_answered (Some (Answered words)) = true
is_answered _ = false

-- none of the acts for so many numbers, from a number on, is possible
abbrev pub none_of : Site → Plain → (Plain → ℕ → Act) → ℕ → ℕ → Bool
none_of site plain act number zero = true
none_of site plain act number (suc left) =
    is_none (made site plain (act plain number)) && none_of site plain act (number + 1) left

-- no terminal can enter or print, and no process can take or step
abbrev pub is_still : Site → Plain → Bool
is_still site plain =
    none_of site plain enter_of 0 (length site.terminals) && none_of site plain print_of 0 (length site.terminals)
    && none_of site plain next_move 0 (length plain.processes)
