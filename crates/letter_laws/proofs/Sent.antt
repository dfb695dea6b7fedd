-- What was sent stays sent.
use Rattle.std.proofs.Common.{List, sym, subst}
use Rattle.gd_words.specs.Members.{IsAmong}
use Rattle.gd_words.proofs.Among.{among-right}
use Rattle.tal_tree.specs.declared.site.Site.{Site}
use Rattle.world_semantics.specs.Laws.{HasGrown}
use Rattle.world_semantics.specs.Messages.{Message, Asking, Replying, Checkpointing, Taking, Sending, Cause}
use Rattle.world_semantics.specs.Rules.{Change}
use Rattle.world_semantics.specs.World.{World}
use Rattle.world_semantics.proofs.Growing.{change-grows}
use Rattle.world_semantics.proofs.Later.{change-later}
use Rattle.computed_changes.specs.Laws.{IsSent}

pub among-grown : {A : Type 0} (x : A) {before after : List A} → HasGrown before after → IsAmong x before
    → IsAmong x after
among-grown x {before = before} grown among = subst (IsAmong x) (sym grown.1) (among-right x grown.0 before among)

pub sent-stays : {site : Site} (w next : World) (cause : Cause) (sendings : List Sending)
    → Change site w cause sendings next → (message : Message)
    → IsSent w message → IsSent next message
sent-stays w next cause sendings change (Asking request) sent =
    among-grown _ (change-grows w next cause sendings change).requests sent
sent-stays w next cause sendings change (Replying reply) sent =
    among-grown _ (change-grows w next cause sendings change).replies sent
sent-stays w next cause sendings change (Checkpointing message) (pair, there, among) =
    let later = change-later w next cause sendings change message.process pair there in
    (later.0, later.1, among-grown _ later.2.checkpoints among)
sent-stays w next cause sendings change (Taking taken) (pair, there, among) =
    let later = change-later w next cause sendings change taken.process pair there in
    (later.0, later.1, among-grown _ later.2.takens among)
