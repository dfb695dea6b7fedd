use Rattle.std.proofs.Common.{◌∙◌, ◌++◌, ◌∷◌, [], List, map, ap, sym}
use Rattle.gd_words.specs.declared.message.Reply.{Reply}
use Rattle.kept_acts.specs.world_semantics.specs.Messages.{Replying, Sending, sent_at}
use Rattle.node_copies.proofs.KeptReplies.{all-settled, fewer-left, more-settled}
use Rattle.node_copies.proofs.settling.settle.Goals as goal

pub loop-reply-smaller : goal.loop-reply-smaller
loop-reply-smaller c =
    fewer-left c.args.receive.now.table c.loop-reply.waiting c.settle.new.self c.in-Some.reply c.in-Some.ensures.reply
    c.settle.ensures.requests

pub loop-reply-preserved : goal.loop-reply-preserved
loop-reply-preserved c =
    more-settled c.args.receive.now.table c.args.node c.args.waiting.now c.loop-reply.waiting c.settle.new.self
    c.args.told.now c.loop-reply.told
    c.push.new.self c.in-Some.reply c.loop-reply.invariant c.in-Some.ensures.reply c.settle.ensures.requests
    c.settle.ensures.openers
    (c.in_ok-push.ensures.ok ∙ ap (λ (sending : Sending). c.loop-reply.told ++ sending ∷ []) c.new.ensures)

pub returns-clause-told : goal.returns-clause-told
returns-clause-told c =
    c.loop-reply.invariant.added
    ∙ ap (λ (replies : List Reply). c.args.told.now ++ sent_at c.args.node (map Replying replies))
    (c.settling_repeats_all_kept_replies.ensures.replies c.args.receive.now.table c.args.waiting.now.requests
    c.settle.new.self.requests
    c.loop-reply.invariant.sent
    (all-settled c.args.receive.now.table c.args.node c.args.waiting.now c.loop-reply.waiting c.settle.new.self
    c.args.told.now c.loop-reply.told
    c.loop-reply.invariant (sym c.in_default.is ∙ c.settle.ensures.reply) c.settle.ensures.requests))

pub returns-clause-requests : goal.returns-clause-requests
returns-clause-requests c =
    c.settling_repeats_all_kept_replies.ensures.rest c.args.receive.now.table c.args.waiting.now.requests
    c.settle.new.self.requests
    c.loop-reply.invariant.sent
    (all-settled c.args.receive.now.table c.args.node c.args.waiting.now c.loop-reply.waiting c.settle.new.self
    c.args.told.now c.loop-reply.told
    c.loop-reply.invariant (sym c.in_default.is ∙ c.settle.ensures.reply) c.settle.ensures.requests)
