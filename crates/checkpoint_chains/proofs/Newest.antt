-- A checkpoint that a change sends is the newest one of its process.
use Rattle.std.proofs.Common.{◌≡◌, inl, inr, ℕ, List, [], ◌∷◌, map, Option, Some, None, slice_get, refl, subst, sym}
use Rattle.gd_words.specs.Members.{IsAmong}
use Rattle.gd_words.specs.declared.message.Reply.{Reply}
use Rattle.gd_words.specs.declared.message.Request.{Request}
use Rattle.tal_tree.specs.declared.act.Act.{Act}
use Rattle.tal_tree.specs.declared.site.Site.{Site}
use Rattle.checkpoint_image.specs.Receive.{all_repeated, reply_sent_again}
use Rattle.checkpoint_image.specs.declared.message.ImageMessage.{ImageMessage}
use Rattle.world_semantics.specs.declared.which.Which.{Which}
use Rattle.world_semantics.specs.declared.which.Which.TheVariants.{First, Second}
use Rattle.world_semantics.specs.Core.{Core, Deed}
use Rattle.world_semantics.specs.Messages.{Asking, Cause, Checkpointing, Message, Replying, Sending, Taking, sent_at}
use Rattle.world_semantics.specs.Own.{Around, Causes, asked_on, by_answer, by_ask, by_device, by_inner, by_reply}
use Rattle.world_semantics.specs.Own.{by_take, by_write}
use Rattle.world_semantics.specs.Passes.{Passes, by_acknowledge, by_apply, by_apply_behind, by_end, by_pass}
use Rattle.world_semantics.specs.Passes.{by_pass_again, by_send}
use Rattle.world_semantics.specs.Passes.{checkpoint_of, taken_of}
use Rattle.world_semantics.specs.Rules.{Change, by_checkpoint, by_early_request, by_enter, by_mark, by_own, by_print}
use Rattle.world_semantics.specs.Rules.{by_reload, by_request, by_stop, entered_request, takeover_sendings, taker}
use Rattle.world_semantics.specs.Rules.{told_at_down}
use Rattle.world_semantics.specs.World.{Down, Pair, World, copy_of, terminal_node}
use Rattle.world_semantics.proofs.Lists.{set-there}
use Rattle.world_semantics.proofs.Members.{among-flat_map, among-map}
use Rattle.checkpoint_chains.specs.Chains.{IsNewest}

-- a message is the newest checkpoint, if it is one
abbrev pub IsNewestIfOne : World → Message → Type 0
IsNewestIfOne w message = (one : ImageMessage) → message ≡ Checkpointing one → IsNewest w one

from-node : (w : World) (node : ℕ) (messages : List Message)
    → ((message : Message) → IsAmong message messages → IsNewestIfOne w message) → (sending : Sending)
    → IsAmong sending (sent_at node messages) → IsNewestIfOne w sending.message
from-node w node messages all sending among =
    let from = among-map (λ (message : Message). record { node = node; message = message }) messages sending among in
    subst (λ (s : Sending). IsNewestIfOne w s.message) (sym from.same) (all from.item from.among)

asked-new : (w : World) (requests : List Request) (message : Message) → IsAmong message (map Asking requests)
    → IsNewestIfOne w message
asked-new w requests message among =
    let from = among-map Asking requests message among in
    subst (IsNewestIfOne w) (sym from.same) (λ one is. absurd cc)

replied-new : (w : World) (replies : List Reply) (message : Message) → IsAmong message (map Replying replies)
    → IsNewestIfOne w message
replied-new w replies message among =
    let from = among-map Replying replies message among in
    subst (IsNewestIfOne w) (sym from.same) (λ one is. absurd cc)

own-new : {site : Site} {number node : ℕ} {core : Core} {before after : Around} {cause : Cause} {deed : Deed}
    {done : Act} {messages : List Message} (w : World)
    → Causes site number node core before cause deed done messages after
    → (message : Message) → IsAmong message messages → IsNewestIfOne w message
own-new w by_inner message among = absurd among
own-new w (by_take found) message among = absurd among
own-new {site = site} {number = number} {core = core} w (by_ask {file = file} {words = words}) message among =
    asked-new w (asked_on site number core file words) message among
own-new w (by_answer there) message (inl same) = subst (IsNewestIfOne w) (sym same) (λ one is. absurd cc)
own-new w (by_answer there) message (inr among) = absurd among
own-new w (by_device old) message among = absurd among
own-new w (by_write new) message among = absurd among
own-new w (by_reply sent opens next same) message among = absurd among

-- the one message of one node
taken-new : (w : World) (node : ℕ) (message : ImageMessage) (sending : Sending)
    → IsAmong sending (sent_at node (Taking (taken_of message) ∷ [])) → IsNewestIfOne w sending.message
taken-new w node message sending (inl same) =
    subst (λ (s : Sending). IsNewestIfOne w s.message) (sym same) (λ one is. absurd cc)
taken-new w node message sending (inr among) = absurd among

sent-new : (w : World) (node : ℕ) (message : ImageMessage) → IsNewest w message → (sending : Sending)
    → IsAmong sending (sent_at node (Checkpointing message ∷ [])) → IsNewestIfOne w sending.message
sent-new w node message newest sending (inl same) =
    subst (λ (s : Sending). IsNewestIfOne w s.message) (sym same)
    (λ one is. let it : message ≡ one = cc in subst (IsNewest w) it newest)
sent-new w node message newest sending (inr among) = absurd among

passes-new : {number : ℕ} {downs : List Down} {kept after : List Act} {pair next : Pair} {cause : Cause}
    {sendings : List Sending} (w : World)
    → slice_get w.processes number ≡ Some next → Passes number downs kept pair cause sendings next after
    → (sending : Sending) → IsAmong sending sendings → IsNewestIfOne w sending.message
passes-new {number = number} {pair = pair} w there (by_send First acting at unsent unmarked) sending among =
    sent-new w pair.first.processor (checkpoint_of number pair.first)
    (record { pair = _; older = pair.checkpoints; there = there; first = refl }) sending among
passes-new {number = number} {pair = pair} w there (by_send Second acting at unsent unmarked) sending among =
    sent-new w pair.second.processor (checkpoint_of number pair.second)
    (record { pair = _; older = pair.checkpoints; there = there; first = refl }) sending among
passes-new w there (by_pass_again k acting at may less) sending among = absurd among
passes-new w there (by_pass k acting at may most) sending among = absurd among
passes-new w there (by_end k acting sent at may) sending among = absurd among
passes-new {pair = pair} w there (by_apply_behind First message applied watching known era next put less) sending
    among =
    taken-new w pair.first.processor message sending among
passes-new {pair = pair} w there (by_apply_behind Second message applied watching known era next put less) sending
    among =
    taken-new w pair.second.processor message sending among
passes-new {pair = pair} w there (by_apply First message applied watching known era next put most) sending among =
    taken-new w pair.first.processor message sending among
passes-new {pair = pair} w there (by_apply Second message applied watching known era next put most) sending among =
    taken-new w pair.second.processor message sending among
passes-new w there (by_acknowledge k taken acting sent known era same) sending among = absurd among

told-new : (w : World) (pair : Pair) (k : Option Which) (sending : Sending)
    → IsAmong sending (takeover_sendings k pair) → IsNewestIfOne w sending.message
told-new w pair None sending among = absurd among
told-new w pair (Some k) sending among =
    let again = all_repeated (copy_of k pair).core.receive (copy_of k pair).waiting in
    from-node w (copy_of k pair).processor (map Replying again) (replied-new w again) sending among

entered-new : (w : World) (request : Request) (sending : Sending)
    → IsAmong sending (sent_at terminal_node (Asking request ∷ [])) → IsNewestIfOne w sending.message
entered-new w request sending (inl same) =
    subst (λ (s : Sending). IsNewestIfOne w s.message) (sym same) (λ one is. absurd cc)
entered-new w request sending (inr among) = absurd among

pub change-new : {site : Site} (w next : World) (cause : Cause) (sendings : List Sending)
    → Change site w cause sendings next → (sending : Sending) → IsAmong sending sendings
    → IsNewestIfOne next sending.message
change-new w next cause sendings (by_own {messages = messages} number k pair there acting causes advances enters
    fr) sending among =
    from-node next (copy_of k pair).processor messages (own-new next causes) sending among
change-new w next cause sendings (by_checkpoint number pair there passes) sending among =
    passes-new next (set-there w.processes number pair _ there) passes sending among
change-new w next cause sendings (by_request request k pair sent there acting) sending among =
    let again = reply_sent_again (copy_of k pair).core.receive request in
    from-node next (copy_of k pair).processor (map Replying again) (replied-new next again) sending among
change-new w next cause sendings (by_early_request request k pair sent there watching) sending among = absurd among
change-new w next cause sendings (by_enter {words = words} number terminal opener there even is opens) sending among =
    entered-new next (entered_request opener terminal words) sending among
change-new w next cause sendings (by_print number terminal reply there odd sent opens is) sending among = absurd among
change-new w next cause sendings (by_stop processor alive whole) sending among = absurd among
change-new w next cause sendings (by_mark node processor down alive unmarked) sending among =
    let of = among-flat_map (told_at_down node processor) w.processes sending among in
    told-new next of.item (taker node processor of.item) sending of.within
change-new w next cause sendings (by_reload processor down all times few) sending among = absurd among
