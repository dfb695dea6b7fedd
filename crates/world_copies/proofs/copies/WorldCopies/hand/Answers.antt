use Rattle.std.proofs.Common.{◌≡◌, ap, sym, ◌∙◌}
use Rattle.world_semantics.specs.checkpoint_image.specs.declared.message.ImageMessage.{ImageMessage}
use Rattle.world_semantics.specs.Messages.{Checkpointing}
use Rattle.process_copies.specs.computed_changes.specs.Handed.{brought, handed_done}
use Rattle.process_copies.specs.sendings.specs.Seen.{message_of}
use Rattle.world_copies.specs.SiteWorld.{SiteWorld, changed_by}
use Rattle.world_copies.specs.Told.{sent_in}
use Rattle.world_copies.proofs.copies.WorldCopies.hand.Goals as goal

same : (c : goal.In_ok-step-in-Checkpointing)
    → brought c.args.self.now.site c.get.result.now.process c.args.node (Checkpointing c.in-Checkpointing.checkpoint)
    c.args.self.now.world
    ≡ handed_done c.args.self.now.site c.args.node (message_of c.args.message) c.args.self.now.world
same c =
    let s : SiteWorld = c.args.self.now in
    let checkpoint : ImageMessage = c.in-Checkpointing.checkpoint in
    ap (λ (one : ImageMessage). brought s.site one.process c.args.node (Checkpointing checkpoint) s.world) c.get.ensures
    ∙ ap (λ one. handed_done s.site c.args.node (message_of one) s.world) (sym c.in-Checkpointing.is)

pub returns-in_ok-step-in-Checkpointing-clause-told : goal.returns-in_ok-step-in-Checkpointing-clause-told
returns-in_ok-step-in-Checkpointing-clause-told c = c.in_ok-step-in-Checkpointing.ensures.told ∙ ap sent_in (same c)

pub returns-in_ok-step-in-Checkpointing-clause-state : goal.returns-in_ok-step-in-Checkpointing-clause-state
returns-in_ok-step-in-Checkpointing-clause-state c =
    c.in_ok-step-in-Checkpointing.ensures.state ∙ ap (changed_by c.args.self.now) (same c)
