use Rattle.std.proofs.Common.{ap, ◌∙◌}
use Rattle.std.specs.Prelude.{codes}
use Rattle.std.specs.Str.{bytes_eq}
use Rattle.trace_print.specs.ActLine.{variable_name}
use Rattle.report_reader.proofs.NameLemmas.{begins-otherwise, begins-with}
use Rattle.report_reader.proofs.names.is_variable_named.Goals as goal

pub returns-in-None : goal.returns-in-None
returns-in-None c =
    begins-otherwise c.args.text.now (codes "/") (variable_name c.args.site.now c.args.process c.args.file)
    c.in-None.ensures

pub returns-in-Some : goal.returns-in-Some
returns-in-Some c =
    c.is_same.ensures
    ∙ ap (bytes_eq c.in-Some.variable.now) c.variable_name.ensures.name
    ∙ begins-with c.args.text.now (codes "/") (variable_name c.args.site.now c.args.process c.args.file)
    c.in-Some.variable.now c.in-Some.ensures
