use Rattle.std.proofs.Common.{◌∙◌, ap}
use Rattle.sync_ids.specs.Tables.{Remembered}
use Rattle.sync_ids.proofs.Openers.{depths-same, opener-held, sound-answering, table-answering}
use Rattle.sync_ids.proofs.receive.Receive.reply.Goals as goal

pub invariant_of-self : goal.invariant_of-self
invariant_of-self c =
    let held =
    opener-held c.self.inside.openers.items c.self.inside.in_hand c.from.result c.unwrap-opener.result
    c.index_mut.result.now c.unwrap-opener.ensures c.from.ensures
    c.index_mut.ensures.value c.self.invariant in
    sound-answering c.self.inside.openers.items c.from.result c.index_mut.result.now c.keep.new.self c.args.words.now
    held.1
    c.keep.ensures.block c.keep.ensures.depth held.0

pub returns-clause-table : goal.returns-clause-table
returns-clause-table c block depth at of =
    let held =
    opener-held c.self.inside.openers.items c.self.inside.in_hand c.from.result c.unwrap-opener.result
    c.index_mut.result.now c.unwrap-opener.ensures c.from.ensures
    c.index_mut.ensures.value c.self.invariant in
    table-answering c.self.inside.openers.items c.self.inside.in_hand c.args.self.now c.from.result
    c.unwrap-opener.result c.index_mut.result.now c.keep.new.self
    c.args.words.now block depth c.self.view_is c.from.ensures held.1 at of c.keep.ensures.block

pub returns-clause-depths : goal.returns-clause-depths
returns-clause-depths c =
    let held =
    opener-held c.self.inside.openers.items c.self.inside.in_hand c.from.result c.unwrap-opener.result
    c.index_mut.result.now c.unwrap-opener.ensures c.from.ensures
    c.index_mut.ensures.value c.self.invariant in
    depths-same c.self.inside.openers.items c.from.result c.index_mut.result.now c.keep.new.self held.1
    c.keep.ensures.depth
    ∙ ap (λ (r : Remembered). r.depths) c.self.view_is

pub returns-clause-sound : goal.returns-clause-sound
returns-clause-sound c =
    let held =
    opener-held c.self.inside.openers.items c.self.inside.in_hand c.from.result c.unwrap-opener.result
    c.index_mut.result.now c.unwrap-opener.ensures c.from.ensures
    c.index_mut.ensures.value c.self.invariant in
    sound-answering c.self.inside.openers.items c.from.result c.index_mut.result.now c.keep.new.self c.args.words.now
    held.1
    c.keep.ensures.block c.keep.ensures.depth held.0
