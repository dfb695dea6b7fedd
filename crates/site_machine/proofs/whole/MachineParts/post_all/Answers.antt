use Rattle.std.proofs.Common.{rules, ◌≡◌, [], ◌∷◌, List, ◌∙◌, ap, sym, subst}
use Rattle.std.proofs.lemmas.List.Elements.{All-head, All-tail}
use Rattle.std.specs.Vec.Iter.{into_iter_items}
use Rattle.node.specs.world_semantics.specs.Messages.{Sending}
use Rattle.node.specs.packet_wires.specs.Play.{Packeted}
use Rattle.node.specs.event_parts.specs.Numbers.{CanPush}
use Rattle.site_machine.specs.Needs.{AreWithin, IsSentWithin}
use Rattle.site_machine.specs.Told.{sent_all}
use Rattle.site_machine.proofs.Steps.{can-sent, sent-then}
use Rattle.site_machine.proofs.whole.MachineParts.post_all.Goals as goal

pub post-requires-clause-within : goal.post-requires-clause-within
post-requires-clause-within c =
    let rest : List Sending = into_iter_items c.next.new.self in
    let left : into_iter_items c.loop-sending.sending-iterator ≡ c.in-Some.sending ∷ rest = search rules in
    All-head (λ (sending : Sending). IsSentWithin c.loop-sending.self.world sending.message) c.in-Some.sending rest
    (subst (AreWithin c.loop-sending.self.world) left c.loop-sending.invariant.within)

pub post-requires-clause-numbered : goal.post-requires-clause-numbered
post-requires-clause-numbered c = c.loop-sending.invariant.numbered

pub loop-sending-preserved : goal.loop-sending-preserved
loop-sending-preserved c =
    let rest : List Sending = into_iter_items c.next.new.self in
    let left : into_iter_items c.loop-sending.sending-iterator ≡ c.in-Some.sending ∷ rest = search rules in record {
      left =
          ap (sent_all rest) c.in_ok-post.ensures ∙ sent-then c.in-Some.sending rest c.loop-sending.self
          ∙ ap (λ (all : List Sending). sent_all all c.loop-sending.self) (sym left) ∙ c.loop-sending.invariant.left;
      within =
          subst (λ (s : Packeted). AreWithin s.world rest) (sym c.in_ok-post.ensures)
          (All-tail (λ (sending : Sending). IsSentWithin c.loop-sending.self.world sending.message) c.in-Some.sending
          rest (subst (AreWithin c.loop-sending.self.world) left c.loop-sending.invariant.within));
      numbered =
          subst (λ (s : Packeted). CanPush s.wires.nodes) (sym c.in_ok-post.ensures)
          (can-sent (c.in-Some.sending ∷ []) c.loop-sending.self c.loop-sending.invariant.numbered);
    }
