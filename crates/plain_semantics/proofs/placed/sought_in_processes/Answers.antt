use Rattle.std.proofs.Common.{ap, sym, ◌∙◌, ◌+◌, drop}
use Rattle.plain_semantics.specs.Openers.{files_from, processes_from}
use Rattle.plain_semantics.specs.Sought.{sought}
use Rattle.plain_semantics.proofs.Soughts.{sought_on, sought-there}
use Rattle.plain_semantics.proofs.placed.sought_in_processes.Goals as goal

pub returns-in-At : goal.returns-in-At
returns-in-At c =
    let rest = processes_from c.args.name.now (c.loop-number.number + 1)
    (drop (c.loop-number.number + 1) c.args.processes.now) in
    sym (
    c.loop-number.invariant
    ∙ sought-there c.args.name.now c.loop-number.number c.loop-number.left c.args.processes.now
    c.index-processes-number.result c.loop-number-test.true
    c.index-processes-number.is
    ∙ ap (λ files. sought_on (sought (files_from c.args.name.now c.loop-number.number 0 files) c.loop-number.left)
    rest) (sym c.files_of.ensures)
    ∙ ap (λ found. sought_on found rest) (sym c.sought_in_files.ensures ∙ c.in-At.is)
    )

pub loop-number-preserved : goal.loop-number-preserved
loop-number-preserved c =
    let rest = processes_from c.args.name.now (c.loop-number.number + 1)
    (drop (c.loop-number.number + 1) c.args.processes.now) in
    c.loop-number.invariant
    ∙ sought-there c.args.name.now c.loop-number.number c.loop-number.left c.args.processes.now
    c.index-processes-number.result c.loop-number-test.true
    c.index-processes-number.is
    ∙ ap (λ files. sought_on (sought (files_from c.args.name.now c.loop-number.number 0 files) c.loop-number.left)
    rest) (sym c.files_of.ensures)
    ∙ ap (λ found. sought_on found rest) (sym c.sought_in_files.ensures ∙ c.in-Past.is)
