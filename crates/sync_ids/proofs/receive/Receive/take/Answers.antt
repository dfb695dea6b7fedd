use Rattle.std.proofs.Common.{◌∙◌, ap}
use Rattle.sync_ids.specs.Tables.{Remembered}
use Rattle.sync_ids.proofs.Openers.{depths-same, opener-at, sound-taking, table-taking}
use Rattle.sync_ids.proofs.receive.Receive.take.Goals as goal

pub invariant_of-self : goal.invariant_of-self
invariant_of-self c =
    let old =
    opener-at c.self.inside.openers.items c.self.inside.in_hand c.args.self.now c.from.result c.args.opener
    c.index_mut.result.now c.self.view_is c.from.ensures c.requires.there
    c.index_mut.ensures.value in
    rw (← c.from.ensures)
    (sound-taking c.self.inside.openers.items c.self.inside.in_hand c.from.result c.index_mut.result.now
    c.take.new.self old
    c.take.ensures.block c.take.ensures.depth c.self.invariant)

pub returns-clause-table : goal.returns-clause-table
returns-clause-table c block at =
    let old =
    opener-at c.self.inside.openers.items c.self.inside.in_hand c.args.self.now c.from.result c.args.opener
    c.index_mut.result.now c.self.view_is c.from.ensures c.requires.there
    c.index_mut.ensures.value in
    table-taking c.self.inside.openers.items c.self.inside.in_hand c.args.self.now c.from.result c.args.opener
    c.index_mut.result.now c.take.new.self block
    c.self.view_is c.from.ensures old at c.take.ensures.block

pub returns-clause-depths : goal.returns-clause-depths
returns-clause-depths c =
    let old =
    opener-at c.self.inside.openers.items c.self.inside.in_hand c.args.self.now c.from.result c.args.opener
    c.index_mut.result.now c.self.view_is c.from.ensures c.requires.there
    c.index_mut.ensures.value in
    depths-same c.self.inside.openers.items c.from.result c.index_mut.result.now c.take.new.self old
    c.take.ensures.depth
    ∙ ap (λ (r : Remembered). r.depths) c.self.view_is

pub returns-clause-sound : goal.returns-clause-sound
returns-clause-sound c =
    let old =
    opener-at c.self.inside.openers.items c.self.inside.in_hand c.args.self.now c.from.result c.args.opener
    c.index_mut.result.now c.self.view_is c.from.ensures c.requires.there
    c.index_mut.ensures.value in
    rw (← c.from.ensures)
    (sound-taking c.self.inside.openers.items c.self.inside.in_hand c.from.result c.index_mut.result.now
    c.take.new.self old
    c.take.ensures.block c.take.ensures.depth c.self.invariant)
