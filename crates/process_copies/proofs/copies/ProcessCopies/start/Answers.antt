use Rattle.std.proofs.Common.{◌≤◌, length}
use Rattle.tal_tree.specs.declared.site.ProcessSpec.{ProcessSpec}
use Rattle.plain_semantics.specs.Openers.{files_of}
use Rattle.node_copies.specs.processes.specs.Seen.{IsLoadableKind}
use Rattle.process_copies.specs.Starting.{HasSectors}
use Rattle.process_copies.proofs.Depths.{all-there, openers-deep}
use Rattle.process_copies.proofs.copies.ProcessCopies.start.Goals as goal

pub start_in-requires-clause-loadable : goal.start_in-requires-clause-loadable
start_in-requires-clause-loadable c =
    all-there (λ (spec : ProcessSpec). IsLoadableKind spec.what) c.args.site.now.processes c.args.number
    c.args.spec.now c.requires.startable.loadable c.requires.there

pub start_in-requires-clause-sectors : goal.start_in-requires-clause-sectors
start_in-requires-clause-sectors c =
    all-there (λ (spec : ProcessSpec). HasSectors spec.what) c.args.site.now.processes c.args.number c.args.spec.now
    c.requires.startable.sectors c.requires.there

pub start_in-requires-clause-few : goal.start_in-requires-clause-few
start_in-requires-clause-few c =
    let limits = c.requires.startable.limits in
    all-there (λ (spec : ProcessSpec). length (files_of spec.what) ≤ 8) c.args.site.now.processes c.args.number
    c.args.spec.now limits.files c.requires.there

pub start_in-requires-clause-depths : goal.start_in-requires-clause-depths
start_in-requires-clause-depths c = openers-deep c.args.site.now c.args.number c.requires.startable.depths
