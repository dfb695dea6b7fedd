use Rattle.std.proofs.Common.{ap, ◌∙◌}
use Rattle.plain_semantics.specs.Machine.{Plain}
use Rattle.plain_machine.specs.Writes.{most_write}
use Rattle.plain_machine.proofs.Writes.{start-none}
use Rattle.plain_machine.proofs.plain.Plain.start.Goals as goal

pub returns-clause-writes : goal.returns-clause-writes
returns-clause-writes c =
    ap (λ (plain : Plain). most_write plain.processes) c.in_ok-state.ensures ∙ start-none c.args.site.now
