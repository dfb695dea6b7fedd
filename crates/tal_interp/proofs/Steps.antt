-- The step of a program at Inner is what the deed of its node does.
use Rattle.std.proofs.Common.{◌≡◌, ℤ, Bool, List, Option, ap, sym, ◌∙◌}
use Rattle.tal_tree.specs.declared.expression.Cond.{Cond}
use Rattle.tal_tree.specs.declared.expression.Expr.{Expr}
use Rattle.tal_tree.specs.declared.expression.Spot.{Spot}
use Rattle.tal_tree.specs.declared.program.Program.{Program}
use Rattle.process_semantics.specs.tal_values.specs.Value.{value_of, truth_of, cell_of}
use Rattle.process_semantics.specs.tal_values.specs.declared.memory.Cell.{Cell}
use Rattle.process_semantics.specs.State.{Entry, ProgramState, memory_of, rest_of}
use Rattle.process_semantics.specs.Steps.{inner, or_ends}
use Rattle.tal_table.specs.program_deeds.specs.Deed.{Deed, Assigns, Tests, deed_of}
use Rattle.tal_table.specs.program_deeds.specs.Doing.{state_after_test, deed_inner, state_after_store}
use Rattle.tal_table.specs.program_deeds.proofs.Inner.{inner-is}

inner-by : (program : Program) (s : ProgramState) (deed : Deed) → deed ≡ deed_of (rest_of s.frames)
    → or_ends s (deed_inner program s deed) ≡ inner program s
inner-by program s deed told = ap (λ d. or_ends s (deed_inner program s d)) told ∙ sym (inner-is program s)

pub assign-by : (program : Program) (s : ProgramState) (to : Spot) (value : Expr) (rest : List Entry)
    (place : Option Cell) (word : Option ℤ)
    → place ≡ cell_of (memory_of program s) to → word ≡ value_of (memory_of program s) value
    → Assigns to value rest ≡ deed_of (rest_of s.frames)
    → or_ends s (state_after_store rest s place word) ≡ inner program s
assign-by program s to value rest place word at is told =
    ap (λ p. or_ends s (state_after_store rest s p word)) at
    ∙ ap (λ w. or_ends s (state_after_store rest s (cell_of (memory_of program s) to) w)) is
    ∙ inner-by program s (Assigns to value rest) told

pub test-by : (program : Program) (s : ProgramState) (test : Cond) (first second : List Entry) (holds : Option Bool)
    → holds ≡ truth_of (memory_of program s) test → Tests test first second ≡ deed_of (rest_of s.frames)
    → or_ends s (state_after_test first second s holds) ≡ inner program s
test-by program s test first second holds is told =
    ap (λ b. or_ends s (state_after_test first second s b)) is ∙ inner-by program s (Tests test first second) told
