-- The lines that end a report.
use Rattle.std.specs.Prelude.{List, [], ◌∷◌, ◌++◌, ℕ, codes}
use Rattle.std.specs.Fmt.{decimal}
use Rattle.tal_tree.specs.declared.site.Site.{Site}
use Rattle.trace_print.specs.ShownLine.{process_name}
use Rattle.trace_print.specs.declared.closing.Closing.{Closing}
use Rattle.trace_print.specs.declared.closing.Closing.TheVariants.{Ended, Lost}
use Rattle.trace_print.specs.declared.closing.End.{End}
use Rattle.trace_print.specs.declared.closing.End.TheVariants.{Idle, Cut, Second, Checked, Refused, Swept}
use Rattle.trace_print.specs.declared.closing.End.TheVariants.{Advised}

-- `END` and the way in which the report ended
abbrev pub end_line : End → List ℕ
end_line Idle = codes "END idle" ++ 10 ∷ []
end_line Cut = codes "END cut" ++ 10 ∷ []
end_line (Second processor) = codes "END second " ++ decimal processor ++ 10 ∷ []
end_line Checked = codes "END checked" ++ 10 ∷ []
end_line Refused = codes "END refused" ++ 10 ∷ []
end_line Swept = codes "END swept" ++ 10 ∷ []
end_line Advised = codes "END advised" ++ 10 ∷ []

-- the line with which the report of a run ends: of a disc that would have been lost, `END lost NAME`
abbrev pub closing_line : Site → Closing → List ℕ
closing_line site (Ended end) = end_line end
closing_line site (Lost process) = codes "END lost " ++ process_name site process ++ 10 ∷ []

-- how the program is called
abbrev pub usage_line : List ℕ
usage_line = codes "USAGE guardian MODE [N] [--acts] [--fail P:K]" ++ 10 ∷ []
