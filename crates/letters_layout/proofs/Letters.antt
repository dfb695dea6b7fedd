-- Every letter, by what it carries.
use Rattle.std.proofs.Common.{◌<◌, List, length}
use Rattle.gd_words.specs.Members.{IsAmong}
use Rattle.tal_tree.specs.declared.site.Site.{Site}
use Rattle.schedule.specs.declared.event.Event.{Event}
use Rattle.letter_laws.specs.awaited_requests.specs.Seats.{IsLaidOut}
use Rattle.world_semantics.specs.Messages.{Message, Asking, Replying, Checkpointing, Taking}
use Rattle.letter_laws.specs.computed_changes.specs.Laws.{IsSent}
use Rattle.letter_laws.specs.takeover_laws.specs.Fit.{IsFit}
use Rattle.letter_laws.specs.letters.specs.Posts.{Post, HasPlayed}
use Rattle.letter_laws.specs.letters.specs.Routes.{Letter}
use Rattle.letter_laws.specs.letters.proofs.Worlds.{played-run}
use Rattle.letter_laws.proofs.Honest.{played-honest}
use Rattle.message_layout.specs.Messages.{Carrying}
use Rattle.letters_layout.specs.Fitting.{IsSmall}
use Rattle.message_layout.specs.Layout.{Fits}
use Rattle.letters_layout.proofs.Checkpoints.{checkpoint-fits, taken-fits}
use Rattle.letters_layout.proofs.Replies.{reply-fits}
use Rattle.letters_layout.proofs.Requests.{request-fits}

pub all-fit : (site : Site) → IsFit site → IsSmall site → IsLaidOut site → (events : List Event) (post : Post)
    → length events < 4294967296 → HasPlayed site events post
    → (letter : Letter) → IsAmong letter post.sent → Fits site (Carrying letter.message)
all-fit site fit small out events post few played letter among =
    by letter.message ((played-honest site fit events post few played).letters letter among)
  where
    by : (message : Message) → IsSent post.world message → Fits site (Carrying message)
    by (Asking request) sent = request-fits site events post request fit small out few played sent
    by (Replying reply) sent = reply-fits site events post.world reply fit small out few (played-run played) sent
    by (Checkpointing message) sent =
        checkpoint-fits site fit small events post.world few (played-run played) message sent
    by (Taking taken) sent = taken-fits site fit small events post.world few (played-run played) taken sent
