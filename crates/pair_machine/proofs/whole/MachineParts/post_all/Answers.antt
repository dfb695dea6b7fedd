use Rattle.std.proofs.Common.{rules, ◌≡◌, ◌∷◌, ◌∙◌, ap, sym}
use Rattle.std.specs.Vec.Iter.{into_iter_items}
use Rattle.pair_machine.specs.Told.{sent_all}
use Rattle.pair_machine.proofs.Room.{first-counted}
use Rattle.pair_machine.proofs.whole.MachineParts.post_all.Goals as goal

pub post-requires : goal.post-requires
post-requires c =
    let left : into_iter_items c.loop-sending.sending-iterator ≡ c.in-Some.sending ∷ into_iter_items c.next.new.self =
    search rules in
    first-counted c.in-Some.sending (into_iter_items c.next.new.self) c.loop-sending.self
    (sent_all c.args.sendings c.args.self.now)
    (ap (λ all. sent_all all c.loop-sending.self) (sym left) ∙ c.loop-sending.invariant) c.requires
