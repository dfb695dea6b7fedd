-- The lines of a sweep. Our own rule.
use Rattle.std.specs.Prelude.{List, ℕ, [], ◌∷◌, ◌++◌, flat_map, codes}
use Rattle.run_table.specs.declared.table.ProcessorRow.{ProcessorRow}
use Rattle.trace_print.specs.EndLine.{end_line}
use Rattle.trace_print.specs.NumbersText.{numbers_text}
use Rattle.trace_print.specs.declared.closing.End.TheVariants.{Swept}

-- `F processor runs idle cut second`
abbrev pub row_line : ProcessorRow → List ℕ
row_line one = codes "F" ++ numbers_text
    (one.processor ∷ one.row.runs ∷ one.row.idle ∷ one.row.cut ∷ one.row.second ∷ []) ++ 10 ∷ []

-- the lines of rows, in order
abbrev pub row_lines : List ProcessorRow → List ℕ
row_lines rows = flat_map row_line rows

-- the rows, and the end
abbrev pub sweep_text : List ProcessorRow → List ℕ
sweep_text rows = row_lines rows ++ end_line Swept
