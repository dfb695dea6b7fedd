use Rattle.std.proofs.Common.{◌≡◌, ◌∙◌, ap, sym}
use Rattle.std.specs.Prelude.{is_some}
use Rattle.checkpoint_image.specs.declared.receive.ReceiveBlock.{ReceiveBlock}
use Rattle.checkpoint_image.specs.Receive.{choice_among}
use Rattle.node_copies.specs.Acting.{Scene, around_in}
use Rattle.node_copies.specs.Seen.{CopyAndDepths}
use Rattle.node_copies.proofs.Abilities.{takes, wakes}
use Rattle.node_copies.proofs.one.NodeCopy.can_take.Goals as goal

pub returns : goal.returns
returns c = λ site number sectors records.
    let one = c.args.self.now in
    let waiting = c.self.inside.waiting.requests in
    let scene : Scene = record { one = one; sectors = sectors; records = records } in
    let told : c.wakes.result ≡ is_some (choice_among one.copy.core.receive one.copy.waiting) =
    wakes c.wakes.result (choice_among c.receive.result.now.table waiting) c.wakes.ensures
    ∙ ap (λ (table : ReceiveBlock). is_some (choice_among table waiting)) c.receive.ensures.table
    ∙ ap (λ (o : CopyAndDepths). is_some (choice_among o.copy.core.receive o.copy.waiting)) c.self.view_is in
    told ∙ sym (takes number one.copy.core (around_in scene))
