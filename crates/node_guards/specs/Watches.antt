-- Watches that the guards name.
use Rattle.std.specs.Prelude.{ℕ, zero, suc, false, Bool, ◌∷◌, replicate}
use Rattle.alive_regroup.specs.declared.set.ProcessorSet.{ProcessorSet}
use Rattle.alive_regroup.specs.Watching.{Watching, new_watch, after_tick, changed_at, neighbour_after_report}
use Rattle.alive_regroup.specs.Watching.{neighbour_after_alive, neighbour_after_down}

-- after so many ticks with nothing heard
abbrev pub after_ticks : ℕ → Watching → Watching
after_ticks zero w = w
after_ticks (suc n) w = after_ticks n (after_tick w)

-- the set of one of the first three processors
abbrev pub only : Bool → Bool → Bool → ProcessorSet
only first second third = record { members = first ∷ second ∷ third ∷ replicate 13 false }

-- a node of three processors to which one of the others reported this set, after so many ticks with nothing heard
abbrev pub watch_of_report : ℕ → ProcessorSet → ℕ → ℕ → Watching
watch_of_report from set ticks me = changed_at from (neighbour_after_report set) (after_ticks ticks (new_watch me 3))

-- the node 0 of three processors, which heard of the processor 2 and then marked it, before any tick
abbrev pub heard_and_marked : Watching
heard_and_marked = changed_at 2 neighbour_after_down (changed_at 2 neighbour_after_alive (new_watch 0 3))
