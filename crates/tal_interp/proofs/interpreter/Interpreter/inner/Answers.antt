use Rattle.std.proofs.Common.{ap, sym, ◌∙◌}
use Rattle.process_semantics.specs.tal_values.specs.Value.{cell_of, truth_of, value_of}
use Rattle.process_semantics.specs.State.{ProgramState}
use Rattle.tal_table.specs.Places.{places, rest_at}
use Rattle.tal_table.specs.Seen.{seen}
use Rattle.tal_interp.proofs.Steps.{assign-by, test-by}
use Rattle.tal_interp.proofs.interpreter.Interpreter.inner.Goals as goal

pub returns-in-Assign : goal.returns-in-Assign
returns-in-Assign c =
    let program = c.args.self.now.program in
    let s = c.args.self.now.state in
    c.store.ensures
    ∙ ap (λ (t : ProgramState). record { program = program; state = t })
    (assign-by program s c.in-Assign.to c.in-Assign.value (rest_at (places program) c.in-Assign.next)
    c.cell-cell.result c.value-word.result
    (c.cell-cell.ensures ∙ ap (λ memory. cell_of memory c.in-Assign.to) c.memory-memory.ensures)
    (c.value-word.ensures ∙ ap (λ memory. value_of memory c.in-Assign.value) c.memory-memory.ensures)
    (ap (seen (places program)) (sym c.in-Assign.is) ∙ c.in-Some.ensures.some.deed))

pub returns-in-Test : goal.returns-in-Test
returns-in-Test c =
    let program = c.args.self.now.program in
    let s = c.args.self.now.state in
    c.choose.ensures
    ∙ ap (λ (t : ProgramState). record { program = program; state = t })
    (test-by program s c.in-Test.test (rest_at (places program) c.in-Test.yes) (rest_at (places program) c.in-Test.no)
    c.truth-holds.result
    (c.truth-holds.ensures ∙ ap (λ memory. truth_of memory c.in-Test.test) c.memory.ensures)
    (ap (seen (places program)) (sym c.in-Test.is) ∙ c.in-Some.ensures.some.deed))
