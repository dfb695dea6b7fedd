use Rattle.std.proofs.Common.{sym, ap, ◌∙◌}
use Rattle.tal_syntax.specs.Seen.{seen_lines, seen_procedures, seen_text}
use Rattle.tal_rules.specs.Texts.{faults}
use Rattle.tal_names.proofs.Order.{least-is, none-least}
use Rattle.tal_meaning.proofs.Built.{program-is}
use Rattle.tal_meaning.proofs.program.tree.Goals as goal

pub returns-in-Some : goal.returns-in-Some
returns-in-Some c = λ other. (
  c.in-Some.fault,
  least-is (faults (seen_text c.args.text.now)) c.in-Some.fault (sym c.in-Ok.ensures.least ∙ c.in-Some.is),
  c.answer_of.ensures,
)

pub returns-in-Ok-program_of : goal.returns-in-Ok-program_of
returns-in-Ok-program_of c = (
  none-least (faults (seen_text c.args.text.now)) (sym c.in-Ok.ensures.least ∙ c.in-None.is),
  program-is (seen_lines c.args.text.now.globals) (seen_procedures c.args.text.now.procedures)
      (seen_procedures c.as_slice.result.now) c.args.text.now.finish
      c.in-Ok.tables.items c.in-Ok.tables.main c.in-Ok.tables.scope.globals c.in-Ok.tables.scope.files
      c.in-Ok.tables.uses c.in-Ok-program_of.program
      c.in-Ok.ensures.items c.in-Ok.ensures.main c.in-Ok.ensures.globals c.in-Ok.ensures.files c.in-Ok.ensures.uses
      (ap seen_procedures c.as_slice.ensures)
      c.in-Ok-program_of.ensures,
)
