-- What is sent, or sent again, is among the messages ever sent.
use Rattle.std.proofs.Common.{◌≡◌, inl, inr, ℕ, List, [], ◌∷◌, map, Option, Some, None, slice_get, refl, subst, sym}
use Rattle.checkpoint_image.specs.gd_words.specs.Members.{IsAmong}
use Rattle.checkpoint_image.specs.gd_words.specs.declared.message.Request.{Request}
use Rattle.checkpoint_image.specs.gd_words.specs.declared.message.Reply.{Reply}
use Rattle.checkpoint_image.specs.tal_tree.specs.declared.act.Act.{Act}
use Rattle.checkpoint_image.specs.tal_tree.specs.declared.site.Site.{Site}
use Rattle.schedule.specs.declared.event.Event.{Event}
use Rattle.checkpoint_image.specs.Receive.{reply_sent_again, all_repeated}
use Rattle.world_semantics.specs.Core.{Core, Deed}
use Rattle.world_semantics.specs.World.{Copy, Pair, World, Which, First, Second, copy_of, terminal_node}
use Rattle.world_semantics.specs.Messages.{Message, Asking, Replying, Checkpointing, Taking, Sending, sent_at, Cause}
use Rattle.world_semantics.specs.Own.{Around, Causes, by_inner, by_take, by_ask, by_answer, by_device, by_write}
use Rattle.world_semantics.specs.Own.{by_reply, asked_on}
use Rattle.world_semantics.specs.Passes.{Passes, by_send, by_pass_again, by_pass, by_end, by_apply_behind}
use Rattle.world_semantics.specs.Passes.{by_apply, by_acknowledge}
use Rattle.world_semantics.specs.Passes.{checkpoint_of, taken_of}
use Rattle.world_semantics.specs.Rules.{Change, by_own, by_checkpoint, by_request, by_early_request, by_enter, by_print}
use Rattle.world_semantics.specs.Rules.{by_stop, by_mark, by_reload, told_at_down, takeover_sendings, taker}
use Rattle.world_semantics.specs.Rules.{entered_request}
use Rattle.world_semantics.specs.Follows.{IsRun}
use Rattle.world_semantics.specs.Laws.{WasSent}
use Rattle.world_semantics.proofs.Lists.{set-there}
use Rattle.checkpoint_image.specs.gd_words.proofs.Among.{among-left}
use Rattle.world_semantics.proofs.Members.{among-map, among-flat_map}
use Rattle.world_semantics.proofs.KeptReplies.{repeated-sent}
use Rattle.world_semantics.proofs.Fair.{AllFair, CopyIsFair, fair-of, run-fair}

-- the messages of one node
from-node : (w : World) (node : ℕ) (messages : List Message)
    → ((message : Message) → IsAmong message messages → WasSent w message) → (sending : Sending)
    → IsAmong sending (sent_at node messages) → WasSent w sending.message
from-node w node messages all sending i =
    let from = among-map (λ (message : Message). record { node = node; message = message }) messages sending i in
    subst (λ (s : Sending). WasSent w s.message) (sym from.same) (all from.item from.among)

-- the one message of one node
one-sent : (w : World) (node : ℕ) (new : Message) → WasSent w new → (sending : Sending)
    → IsAmong sending (sent_at node (new ∷ [])) → WasSent w sending.message
one-sent w node new sent sending (inl same) = subst (λ (s : Sending). WasSent w s.message) (sym same) sent
one-sent w node new sent sending (inr i) = absurd i

asked-sent : (w : World) (requests : List Request) (message : Message)
    → ((request : Request) → IsAmong request requests → IsAmong request w.requests)
    → IsAmong message (map Asking requests) → WasSent w message
asked-sent w requests message all i =
    let from = among-map Asking requests message i in subst (WasSent w) (sym from.same) (all from.item from.among)

replied-sent : (w : World) (replies : List Reply) (message : Message)
    → ((reply : Reply) → IsAmong reply replies → IsAmong reply w.replies)
    → IsAmong message (map Replying replies) → WasSent w message
replied-sent w replies message all i =
    let from = among-map Replying replies message i in subst (WasSent w) (sym from.same) (all from.item from.among)

own-sends : {site : Site} {number node : ℕ} {core : Core} {before after : Around} {cause : Cause} {deed : Deed}
    {done : Act} {messages : List Message}
    (w : World) → w.requests ≡ after.requests → w.replies ≡ after.replies
    → Causes site number node core before cause deed done messages after
    → (message : Message) → IsAmong message messages → WasSent w message
own-sends w r p by_inner message i = absurd i
own-sends w r p (by_take c) message i = absurd i
own-sends {site = site} {number = n} {core = core} {before = before} w r p (by_ask {file = file} {words = words})
    message i =
    asked-sent w (asked_on site n core file words) message
    (λ request j. rw r (among-left request (asked_on site n core file words) before.requests j)) i
own-sends w r p (by_answer s) message (inl same) = subst (WasSent w) (sym same) (rw p (inl refl))
own-sends w r p (by_answer s) message (inr i) = absurd i
own-sends w r p (by_device n) message i = absurd i
own-sends w r p (by_write n) message i = absurd i
own-sends w r p (by_reply j o n u) message i = absurd i

passes-sends : {number : ℕ} {downs : List _} {kept after : List Act} {pair next : Pair} {cause : Cause}
    {sendings : List Sending} (w : World)
    → slice_get w.processes number ≡ Some next → Passes number downs kept pair cause sendings next after
    → (sending : Sending) → IsAmong sending sendings
    → WasSent w sending.message
passes-sends {number = n} {pair = pair} w there (by_send First role p s m) sending i =
    one-sent w pair.first.processor (Checkpointing (checkpoint_of n pair.first)) (n, _, there, inl refl) sending i
passes-sends {number = n} {pair = pair} w there (by_send Second role p s m) sending i =
    one-sent w pair.second.processor (Checkpointing (checkpoint_of n pair.second)) (n, _, there, inl refl) sending i
passes-sends w there (by_pass_again k role p m l) sending i = absurd i
passes-sends w there (by_pass k role p m l) sending i = absurd i
passes-sends w there (by_end k role s p m) sending i = absurd i
passes-sends {number = n} {pair = pair} w there (by_apply_behind First new applied role j era next a l) sending i =
    one-sent w pair.first.processor (Taking (taken_of new)) (n, _, there, inl refl) sending i
passes-sends {number = n} {pair = pair} w there (by_apply_behind Second new applied role j era next a l) sending i =
    one-sent w pair.second.processor (Taking (taken_of new)) (n, _, there, inl refl) sending i
passes-sends {number = n} {pair = pair} w there (by_apply First new applied role j era next a l) sending i =
    one-sent w pair.first.processor (Taking (taken_of new)) (n, _, there, inl refl) sending i
passes-sends {number = n} {pair = pair} w there (by_apply Second new applied role j era next a l) sending i =
    one-sent w pair.second.processor (Taking (taken_of new)) (n, _, there, inl refl) sending i
passes-sends w there (by_acknowledge k taken role s j era same) sending i = absurd i

again-sent : (w : World) (number : ℕ) (copy : Copy) → CopyIsFair number w.replies copy → (reply : Reply)
    → IsAmong reply (all_repeated copy.core.receive copy.waiting)
    → IsAmong reply w.replies
again-sent w number copy ok reply i =
    let of = among-flat_map (reply_sent_again copy.core.receive) copy.waiting reply i in
    repeated-sent w.replies copy.core.receive of.item reply (rw (ok.waiting of.item of.among) ok.core.kept) of.within

told-sent : (w next : World) (number : ℕ) (pair : Pair) (k : Option Which) → next.replies ≡ w.replies
    → ((k : Which) → CopyIsFair number w.replies (copy_of k pair))
    → (sending : Sending) → IsAmong sending (takeover_sendings k pair) → WasSent next sending.message
told-sent w next number pair None same ok sending i = absurd i
told-sent w next number pair (Some k) same ok sending i =
    let copy = copy_of k pair in
    let again = all_repeated copy.core.receive copy.waiting in
    from-node next copy.processor (map Replying again)
    (λ message j. replied-sent next again message (λ reply l. rw same (again-sent w number copy (ok k) reply l)) j)
    sending i

change-sends : {site : Site} (w next : World) (cause : Cause) (sendings : List Sending) → AllFair w
    → Change site w cause sendings next → (sending : Sending)
    → IsAmong sending sendings → WasSent next sending.message
change-sends w next cause sendings ok (by_own {messages = messages} number k pair there role c a e fr) sending i =
    from-node next (copy_of k pair).processor messages (own-sends next refl refl c) sending i
change-sends w next cause sendings ok (by_checkpoint number pair there p) sending i =
    passes-sends next (set-there w.processes number pair _ there) p sending i
change-sends w next cause sendings ok (by_request request k pair j there r) sending i =
    let fair = fair-of request.process w.replies k pair (ok request.process pair there) in
    let copy = copy_of k pair in
    let again = reply_sent_again copy.core.receive request in
    from-node next copy.processor (map Replying again)
    (λ message l. replied-sent next again message
    (λ reply m. repeated-sent w.replies copy.core.receive request reply fair.core.kept m) l) sending i
change-sends w next cause sendings ok (by_early_request request k pair j there r) sending i = absurd i
change-sends w next cause sendings ok (by_enter {words = words} number terminal opener t f r o) sending i =
    one-sent next terminal_node (Asking (entered_request opener terminal words)) (inl refl) sending i
change-sends w next cause sendings ok (by_print number terminal reply t f j o n) sending i = absurd i
change-sends w next cause sendings ok (by_stop x r h) sending i = absurd i
change-sends w next cause sendings ok (by_reload x s m t l) sending i = absurd i
change-sends w next cause sendings ok (by_mark m x s r n) sending i =
    let of = among-flat_map (told_at_down m x) w.processes sending i in
    told-sent w next of.place of.item (taker m x of.item) refl
    (λ k. fair-of of.place w.replies k of.item (ok of.place of.item of.there)) sending of.within

pub run-sends : {site : Site} {events : List Event} {w : World} → IsRun site events w
    → (next : World) (cause : Cause) (sendings : List Sending)
    → Change site w cause sendings next → (sending : Sending) → IsAmong sending sendings → WasSent next sending.message
run-sends {w = w} run next cause sendings c = change-sends w next cause sendings (run-fair run) c
