use Rattle.std.proofs.Common.{sym, subst}
use Rattle.tal_tree.specs.declared.site.ProcessSpec.{ProcessSpec}
use Rattle.processes.specs.Seen.{IsLoadableKind}
use Rattle.plain_machine.specs.Standing.{AreLoadable}
use Rattle.program_tests.proofs.Processes.{all-push}
use Rattle.program_tests.proofs.bank.add.Goals as goal

pub returns : goal.returns
returns c =
    subst AreLoadable (sym c.in_ok-push.ensures.ok)
    (all-push (λ (spec : ProcessSpec). IsLoadableKind spec.what) c.args.processes.now _ c.requires.others
    c.requires.one)
