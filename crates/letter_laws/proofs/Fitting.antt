-- A checkpoint that comes fits its process.
use Rattle.std.proofs.Common.{◌<◌, ℕ, List, length, sym, subst, ◌∙◌}
use Rattle.gd_words.specs.Members.{IsAmong}
use Rattle.tal_tree.specs.declared.site.Site.{Site}
use Rattle.schedule.specs.declared.event.Event.{Event}
use Rattle.world_semantics.specs.Messages.{Message, Asking, Replying, Checkpointing, Taking}
use Rattle.world_semantics.specs.World.{Pair, World}
use Rattle.world_semantics.proofs.Lists.{some-same}
use Rattle.computed_changes.specs.Laws.{IsSent, FitsWhereItComes}
use Rattle.computed_changes.proofs.Fitting.{sent-fits}
use Rattle.awaited_requests.specs.takeover_laws.specs.Fit.{IsFit}
use Rattle.awaited_requests.specs.takeover_laws.specs.Invariant.{Invariant}
use Rattle.awaited_requests.specs.takeover_laws.proofs.Kept.{run-keeps}
use Rattle.awaited_requests.specs.letters.proofs.Worlds.{played-run}
use Rattle.awaited_requests.specs.letters.specs.Posts.{Post, HasPlayed}
use Rattle.awaited_requests.specs.letters.specs.Routes.{Letter}
use Rattle.letter_laws.specs.Known.{CheckpointsNameFiles}
use Rattle.letter_laws.proofs.Honest.{played-honest}
use Rattle.letter_laws.proofs.Reached.{IsReached}

pub sent-fit : (site : Site) (events : ℕ) (w : World) → IsReached site w → Invariant site events w
    → CheckpointsNameFiles site w → (node : ℕ) (message : Message)
    → IsSent w message → FitsWhereItComes site w node message
sent-fit site events w reached invariant files node (Asking request) sent = tt
sent-fit site events w reached invariant files node (Replying reply) sent = tt
sent-fit site events w reached invariant files node (Taking taken) sent = tt
sent-fit site events w reached invariant files node (Checkpointing message) (from, known, among) = λ pair k there here.
    let spec = invariant.processes message.process pair there in
    let sent : IsAmong message pair.checkpoints =
    subst (λ (p : Pair). IsAmong message p.checkpoints) (some-same (sym known ∙ there)) among in
    sent-fits w message.process spec.0 pair k message reached.1 spec.1 there sent
    (files message.process pair spec.0 there spec.1 message sent)

pub letter-fits : (site : Site) → IsFit site → (events : List Event) (post : Post) → length events < 4294967296
    → HasPlayed site events post → (letter : Letter)
    → IsAmong letter post.sent → (node : ℕ) → FitsWhereItComes site post.world node letter.message
letter-fits site fit events post few played letter among node =
    let honest = played-honest site fit events post few played in
    sent-fit site (length events) post.world honest.reached
    (run-keeps site fit events post.world few (played-run played)) honest.files node letter.message
    (honest.letters letter among)
