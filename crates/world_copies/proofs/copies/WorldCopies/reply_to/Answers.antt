use Rattle.std.proofs.Common.{◌≡◌, ap, sym, ◌∙◌}
use Rattle.world_semantics.specs.Messages.{Replying}
use Rattle.process_copies.specs.computed_changes.specs.Handed.{brought, replied_to}
use Rattle.world_copies.specs.SiteWorld.{SiteWorld, changed_by}
use Rattle.world_copies.specs.Told.{sent_in}
use Rattle.world_copies.proofs.copies.WorldCopies.reply_to.Goals as goal

same : (c : goal.In_ok-step-in-File) → brought c.args.self.now.site c.in-File.process c.args.node
    (Replying c.args.reply) c.args.self.now.world
    ≡ replied_to c.args.self.now.site c.args.node c.args.reply c.args.self.now.world c.args.opener
same c =
    let s : SiteWorld = c.args.self.now in
    ap (replied_to s.site c.args.node c.args.reply s.world) (sym c.in-File.is)

pub returns-in_ok-step-in-File-clause-told : goal.returns-in_ok-step-in-File-clause-told
returns-in_ok-step-in-File-clause-told c = c.in_ok-step-in-File.ensures.told ∙ ap sent_in (same c)

pub returns-in_ok-step-in-File-clause-state : goal.returns-in_ok-step-in-File-clause-state
returns-in_ok-step-in-File-clause-state c =
    c.in_ok-step-in-File.ensures.state ∙ ap (changed_by c.args.self.now) (same c)
