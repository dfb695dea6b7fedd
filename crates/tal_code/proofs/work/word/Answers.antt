use Rattle.std.proofs.Common.{ap, sym, ◌∙◌}
use Rattle.tal_tree.specs.declared.expression.Spot.{Local, Simple}
use Rattle.tal_values.specs.Seen.{memory_now}
use Rattle.tal_values.specs.Value.{value_of}
use Rattle.tal_values.proofs.ValueSteps.{value-read}
use Rattle.tal_code.specs.Words.{operand_expr}
use Rattle.tal_code.proofs.work.word.Goals as goal

pub returns-in-Local : goal.returns-in-Local
returns-in-Local c =
    c.word.ensures ∙ sym (value-read (memory_now c.args.memory) (Local c.in-Local.place))
    ∙ ap (λ operand. value_of (memory_now c.args.memory) (operand_expr operand)) (sym c.in-Local.is)

pub returns-in-Simple : goal.returns-in-Simple
returns-in-Simple c =
    c.word-in-Simple.ensures ∙ sym (value-read (memory_now c.args.memory) (Simple c.in-Simple.item))
    ∙ ap (λ operand. value_of (memory_now c.args.memory) (operand_expr operand)) (sym c.in-Simple.is)
