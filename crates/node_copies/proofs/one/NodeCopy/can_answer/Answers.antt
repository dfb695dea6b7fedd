use Rattle.std.proofs.Common.{◌≡◌, ◌∙◌, ℕ, Option, ap, sym, subst}
use Rattle.std.specs.Prelude.{is_some}
use Rattle.checkpoint_image.specs.declared.receive.ReceiveBlock.{ReceiveBlock}
use Rattle.file_calls.specs.sync_ids.specs.Tables.{IsSound}
use Rattle.node_copies.specs.Acting.{Scene, around_in}
use Rattle.node_copies.specs.Seen.{CopyAndDepths}
use Rattle.node_copies.proofs.Abilities.{can-answer, sound-as}
use Rattle.node_copies.proofs.one.NodeCopy.can_answer.Goals as goal

pub returns : goal.returns
returns c = λ site number sectors records here.
    let one = c.args.self.now in
    let control = c.self.inside.control in
    let scene : Scene = record { one = one; sectors = sectors; records = records } in
    let sound : IsSound (record { table = one.copy.core.receive; depths = one.depths }) =
    subst (λ (o : CopyAndDepths). IsSound (record { table = o.copy.core.receive; depths = o.depths })) c.self.view_is
    (sound-as c.receive.result.now control.core.receive control.depths c.in_hand-hand.ensures.sound
    c.receive.ensures.table c.receive.ensures.depths) in
    let hand : c.is_there.result ≡ is_some one.copy.core.receive.in_hand =
    c.is_there.ensures
    ∙ ap (λ (o : Option ℕ). is_some o) (c.in_hand-hand.ensures.value
    ∙ ap (λ (t : ReceiveBlock). t.in_hand) c.receive.ensures.table)
    ∙ ap (λ (o : CopyAndDepths). is_some o.copy.core.receive.in_hand) c.self.view_is in
    hand ∙ sym (can-answer site number one.copy.core (around_in scene) one.depths here sound)
