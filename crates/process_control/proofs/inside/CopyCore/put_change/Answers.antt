use Rattle.std.proofs.Common.{◌≡◌, true, is_some, sym, ap, subst, ◌∙◌}
use Rattle.checkpoint_image.specs.declared.receive.ReceiveBlock.{ReceiveBlock}
use Rattle.computed_changes.specs.sync_ids.specs.Changes.{table_with_change, fits_change}
use Rattle.process_control.specs.Cores.{CoreAndDepths}
use Rattle.process_control.proofs.Consistent.{applying}
use Rattle.process_control.proofs.Tables.{put-table}
use Rattle.process_control.proofs.inside.CopyCore.put_change.Goals as goal

pub invariant_of-self-2 : goal.invariant_of-self-2
invariant_of-self-2 g c =
    let table = put-table (fits_change c.self.inside.receive c.args.change.now.image.receive) c.put_change-fits.result
    (table_with_change c.self.inside.receive.depths c.self.inside.receive.table c.args.change.now.image.receive)
    c.self.inside.receive.table c.put_change-fits.new.self.table
    c.put_change-fits.ensures.told
    (subst (λ (one : CoreAndDepths). fits_change (record { table = one.core.receive; depths = one.depths })
    c.args.change.now.image.receive ≡ true) (sym c.self.view_is) c.requires)
    c.put_change-fits.ensures.table in
    applying (g.B.Behaviour.state c.self.inside.behaviour) (g.B.Behaviour.state c.apply.new.self) c.self.inside.asker
    c.self.inside.receive c.self.invariant
    c.is_some-in_hand.result c.as_slice-2.result.now c.as_slice-3.result.now c.put_files.new.asker
    c.put_change-fits.new.self c.if-not-apply.ensures.applied
    (c.is_some-in_hand.ensures ∙ ap (λ (t : ReceiveBlock). is_some t.in_hand) (sym table)) c.put_files.ensures
    c.put_change-fits.ensures.sound
