-- What the built procedures and texts stand for in the grammar.
use Rattle.std.specs.Prelude.{List}
use Rattle.tal_syntax.specs.Grammar as g
use Rattle.tal_syntax.specs.Seen.Chained.{chained}
use Rattle.tal_syntax.specs.Seen.Declarations.{seen_heading, seen_locals, seen_lines}
use Rattle.tal_syntax.specs.Seen.Statements.{seen_statement, seen_row}
use Rattle.tal_syntax.specs.declared.text.Procedure.{Procedure}
use Rattle.tal_syntax.specs.declared.text.Text.{Text}

abbrev pub seen_procedure : Procedure → g.Procedure
seen_procedure p =
    g.procedure (seen_heading p.heading) (seen_locals p.outer) p.begin (seen_locals p.inner) (seen_statement p.first)
    (seen_row p.more) p.end p.last

abbrev pub link_procedures : Procedure → g.Procedures → g.Procedures
link_procedures n rest = g.more_procedures (seen_procedure n) rest

abbrev pub seen_procedures : List Procedure → g.Procedures
seen_procedures ns = chained link_procedures ns g.no_procedures

abbrev pub seen_text : Text → g.Text
seen_text t = g.text (seen_lines t.globals) (seen_procedures t.procedures) t.finish
