use Rattle.std.proofs.Common.{ap, append_assoc, ◌++◌, ◌∙◌, sym}
use Rattle.std.specs.Prelude.{codes}
use Rattle.std.specs.Str.{bytes_eq}
use Rattle.trace_print.specs.ActLine.{variable_name}
use Rattle.trace_print.specs.ShownLine.{process_name}
use Rattle.report_reader.specs.Parts.{rest_after}
use Rattle.report_reader.proofs.NameLemmas.{begins-otherwise, begins-with}
use Rattle.report_reader.proofs.names.is_file_named.Goals as goal

pub returns-in-None : goal.returns-in-None
returns-in-None c =
    let process = process_name c.args.site.now c.args.process in
    let variable = variable_name c.args.site.now c.args.process c.args.file in
    begins-otherwise c.args.name.now process (codes "/" ++ variable)
    (c.in-None.ensures ∙ ap (λ p. rest_after p c.args.name.now) c.process_name.ensures.value)
    ∙ ap (bytes_eq c.args.name.now) (sym (append_assoc process (codes "/") variable))

pub returns-in-Some : goal.returns-in-Some
returns-in-Some c =
    let process = process_name c.args.site.now c.args.process in
    let variable = variable_name c.args.site.now c.args.process c.args.file in
    c.is_variable_named.ensures
    ∙ begins-with c.args.name.now process (codes "/" ++ variable) c.in-Some.rest.now
    (c.in-Some.ensures ∙ ap (λ p. rest_after p c.args.name.now) c.process_name.ensures.value)
    ∙ ap (bytes_eq c.args.name.now) (sym (append_assoc process (codes "/") variable))
