-- Sites that are small enough for the layout of messages. The limits themselves are those of decks and programs.
use Rattle.std.specs.Prelude.{◌≡◌, ◌≤◌, ◌<◌, ℕ, ℤ, List, length, slice_get, Some}
use Rattle.gd_words.specs.declared.limits.TheConstants.{MOST_DEPTH}
use Rattle.gd_words.specs.Members.{IsAmong}
use Rattle.tal_tree.specs.Limits.{IsWithinLimits}
use Rattle.tal_tree.specs.Ordered.{IsOrdered}
use Rattle.tal_tree.specs.declared.program.Program.{Program}
use Rattle.tal_tree.specs.declared.site.Kind.TheVariants.{Pair}
use Rattle.tal_tree.specs.declared.site.OpenerSpec.{OpenerSpec}
use Rattle.tal_tree.specs.declared.site.ProcessSpec.{ProcessSpec}
use Rattle.tal_tree.specs.declared.site.Site.{Site}
use Rattle.schedule.specs.declared.event.Event.{Event}
use Rattle.plain_semantics.specs.Openers.{openers_of}
use Rattle.plain_semantics.specs.Machine.{next_request}
use Rattle.letter_laws.specs.letters.specs.Posts.{Post, HasPlayed}
use Rattle.letter_laws.specs.letters.specs.Routes.{Letter}
use Rattle.change_layout.specs.Changing.{change_of}
use Rattle.checkpoint_image.specs.declared.message.ImageMessage.{ImageMessage}
use Rattle.letter_laws.specs.computed_changes.specs.Laws.{IsSent}
use Rattle.world_semantics.specs.Messages.{Checkpointing}
use Rattle.message_layout.specs.Messages.{Carrying, Changing}
use Rattle.message_layout.specs.Layout.{Fits}

-- a site has few processes, each with few openers, of small depths; its terminals send few requests; and its programs
-- are in order and keep their limits
pub record IsSmall (site : Site) : Type 0 where
  pub processes : length site.processes ≤ 256
  pub openers : (process : ℕ) → length (openers_of site process) < 4096
  pub depths : (process place : ℕ) (opener : OpenerSpec) → slice_get (openers_of site process) place ≡ Some opener
      → opener.depth ≤ MOST_DEPTH
  pub requests : (terminal number : ℕ) (words : List ℤ) → next_request site terminal number ≡ Some words
      → number < 4294967295
  pub programs : (number : ℕ) (spec : ProcessSpec) (program : Program) → slice_get site.processes number ≡ Some spec
      → spec.what ≡ Pair program
      → IsOrdered program × IsWithinLimits program

-- whatever fewer than 4,294,967,296 events do to a post, each checkpoint that was ever sent fits the site as what
-- changed since any other one
abbrev pub HasFittingChanges : Site → Type 0
HasFittingChanges site =
    (events : List Event) (post : Post) → length events < 4294967296 → HasPlayed site events post
    → (before message : ImageMessage) → IsSent post.world (Checkpointing message)
    → Fits site (Changing (change_of before message))

-- whatever fewer than 4,294,967,296 events do to a post, each letter that was ever sent fits the site
abbrev pub HasFittingLetters : Site → Type 0
HasFittingLetters site =
    (events : List Event) (post : Post) → length events < 4294967296 → HasPlayed site events post → (letter : Letter)
    → IsAmong letter post.sent
    → Fits site (Carrying letter.message)
