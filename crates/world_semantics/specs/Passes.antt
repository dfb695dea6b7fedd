-- How a checkpoint goes from one copy of a process to the other: Bartlett's checkpoint, applied whole. That era and
-- number choose it is our own rule.
use Rattle.std.specs.Prelude.{◌≡◌, ◌≤◌, ◌<◌, ℕ, ◌+◌, Bool, true, false, nat_lt, List, [], ◌∷◌, Some, ◌≢◌, ◌⊎◌}
use Rattle.checkpoint_image.specs.gd_words.specs.Members.{IsAmong}
use Rattle.checkpoint_image.specs.tal_tree.specs.declared.act.Act.{Act}
use Rattle.plain_semantics.specs.process_semantics.specs.declared.point.Point.TheVariants as point
use Rattle.plain_semantics.specs.process_semantics.specs.Process as process
use Rattle.plain_semantics.specs.process_semantics.specs.declared.point.Point.{Point}
use Rattle.checkpoint_image.specs.declared.message.ImageMessage.{ImageMessage}
use Rattle.checkpoint_image.specs.declared.message.TakenMessage.{TakenMessage}
use Rattle.world_semantics.specs.declared.role.Role.TheVariants.{Acting, Watching}
use Rattle.world_semantics.specs.Core.{Core, after_passing, put_in, carried_by}
use Rattle.world_semantics.specs.World.{Copy, Pair, Down, has_marked, Which, other_of, copy_of, with_copy, may_pass}
use Rattle.world_semantics.specs.World.{receives}
use Rattle.world_semantics.specs.Kept.{own_acts}
use Rattle.world_semantics.specs.Shares.{kept_with_checkpoint, share_of, with_share, kept_up_to, covering_where}
use Rattle.world_semantics.specs.Shares.{covered_where}
use Rattle.world_semantics.specs.Messages.{Checkpointing, Taking, Sending, sent_at, Cause, Running, Handing}

-- the next checkpoint of an era, behind that of a number, which carries what it does of a core, or everything
abbrev pub next_checkpoint : ℕ → ℕ → ℕ → Bool → Core → ImageMessage
next_checkpoint process era number everything core =
    record { process = process; era = era; number = number + 1; image = carried_by everything core }

-- the checkpoint that a copy of a process sends: the next one of its era
abbrev pub checkpoint_of : ℕ → Copy → ImageMessage
checkpoint_of number copy = next_checkpoint number copy.era copy.number copy.renewal copy.core

-- the message that a checkpoint was taken
abbrev pub taken_of : ImageMessage → TakenMessage
taken_of message = record { process = message.process; era = message.era; number = message.number }

-- the copy after it sent its checkpoint
abbrev pub after_sending : Copy → Copy
after_sending copy = record copy { number = copy.number + 1; sent = true; acknowledged = false }

-- the copy after it passed its checkpoint
abbrev pub copy_at_checkpoint : Copy → Copy
copy_at_checkpoint copy = record copy { core = after_passing copy.core; sent = false; acknowledged = false }

-- the kept acts after a copy's held acts and the step at its checkpoint were added
abbrev pub kept_at_checkpoint : ℕ → Copy → List Act → List Act
kept_at_checkpoint number copy kept = kept_with_checkpoint number kept (share_of copy)

abbrev pub point_at : Copy → Point
point_at copy = process.point copy.core.state

-- the kept acts after a copy's held acts were added, and the step at its checkpoint if it stands at one
abbrev pub kept_at : ℕ → Copy → List Act → List Act
kept_at number copy kept = kept_up_to number (point_at copy) kept (share_of copy)

-- whether a copy may send a checkpoint where it stands: at a checkpoint, or, where it has to send everything, at any
-- point at which it awaits no reply
abbrev pub MaySend : Copy → Type 0
MaySend copy = (point_at copy ≡ point.AtCheckpoint) ⊎ ((copy.renewal ≡ true) × (point_at copy ≢ point.Await))

-- the copy after what it has sent came to its end elsewhere than at a checkpoint
abbrev pub after_sent : Copy → Copy
after_sent copy = record copy { sent = false; acknowledged = false }

-- the copy after it was told that what it has sent was taken: it has sent everything, if it had to
abbrev pub after_told : Copy → Copy
after_told copy = record copy { acknowledged = true; renewal = false }

-- a copy after it applied a checkpoint of this number, by which it has this core
abbrev pub after_getting : ℕ → Core → Copy → Copy
after_getting number applied copy = record copy { role = Watching; core = applied; number = number }

-- a process after the other one of its copies applied a checkpoint of this copy, which is behind the kept acts or
-- isn't: this copy's share, the base, and that the checkpoint was taken
abbrev pub after_covering_where : ℕ → Which → TakenMessage → List Act → Pair → Bool → Pair
after_covering_where number k taken kept pair behind =
    with_copy k
    (with_share (covering_where number (point_at (copy_of k pair)) kept (share_of (copy_of k pair)) behind).share
    (copy_of k pair))
    (record pair {
      base = covered_where number (point_at (copy_of k pair)) kept (share_of (copy_of k pair)) behind;
      takens = taken ∷ pair.takens;
    })

-- the same, and whether it is behind them is seen from its share
abbrev pub after_covering : ℕ → Which → TakenMessage → List Act → Pair → Pair
after_covering number k taken kept pair =
    after_covering_where number k taken kept pair (nat_lt (copy_of k pair).position (own_acts number kept))

-- the process after one of its copies applied a checkpoint of the other one, which is behind the kept acts or isn't
abbrev pub after_applying_where : ℕ → Which → ImageMessage → Core → List Act → Pair → Bool → Pair
after_applying_where number k message applied kept pair behind =
    with_copy k (after_getting message.number applied (copy_of k pair))
    (after_covering_where number (other_of k) (taken_of message) kept pair behind)

-- the process after one of its copies applied a checkpoint of the other one, which is behind the kept acts: that one's
-- share stays, and the base is where it stands, behind its checkpoint if it stands at one
abbrev pub after_applying_behind : ℕ → Which → ImageMessage → Core → List Act → Pair → Pair
after_applying_behind number k message applied kept pair =
    after_applying_where number k message applied kept pair true

-- the process after one of its copies applied a checkpoint of the other one, which isn't behind them: that one's held
-- acts are kept, and its checkpoint if it stands at one; the base is behind them, and that one stands before the
-- checkpoint. It is so too where that copy is gone: what a copy that is gone keeps is all but its role, its position
-- and its held acts
abbrev pub after_applying : ℕ → Which → ImageMessage → Core → List Act → Pair → Pair
after_applying number k message applied kept pair =
    after_applying_where number k message applied kept pair false

-- how a checkpoint goes from one copy of a process to the other. A copy that acts sends one where it may, unless it did
-- or its node has marked the other copy's processor. A copy that watches or is blank applies a sent checkpoint whose
-- era is its own and whose number is the next, and watches then. A copy that acts is told that what it has sent was
-- taken. It passes its checkpoint, which it did already, or which is kept now with its held acts before it; elsewhere
-- what it has sent comes to its end
pub data Passes (number : ℕ) (downs : List Down) (kept : List Act) (pair : Pair) : Cause → List Sending → Pair
    → List Act → Type 0 where
  by_send : (k : Which) → (copy_of k pair).role ≡ Acting → MaySend (copy_of k pair) → (copy_of k pair).sent ≡ false
      → has_marked downs (copy_of k pair).processor (copy_of (other_of k) pair).processor ≡ false
      → Passes number downs kept pair (Running number)
      (sent_at (copy_of k pair).processor (Checkpointing (checkpoint_of number (copy_of k pair)) ∷ []))
      (with_copy k (after_sending (copy_of k pair))
      (record pair { checkpoints = checkpoint_of number (copy_of k pair) ∷ pair.checkpoints })) kept
  by_pass_again : (k : Which) → (copy_of k pair).role ≡ Acting
      → process.point (copy_of k pair).core.state ≡ point.AtCheckpoint → may_pass downs k pair ≡ true
      → (copy_of k pair).position < own_acts number kept
      → Passes number downs kept pair (Running number) []
      (with_copy k (record (copy_at_checkpoint (copy_of k pair)) { position = (copy_of k pair).position + 1 }) pair)
      kept
  by_pass : (k : Which) → (copy_of k pair).role ≡ Acting
      → process.point (copy_of k pair).core.state ≡ point.AtCheckpoint → may_pass downs k pair ≡ true
      → own_acts number kept ≤ (copy_of k pair).position
      → Passes number downs kept pair (Running number) []
      (with_copy k (record (copy_at_checkpoint (copy_of k pair))
      { position = own_acts number (kept_at_checkpoint number (copy_of k pair) kept); held = [] }) pair)
      (kept_at_checkpoint number (copy_of k pair) kept)
  by_end : (k : Which) → (copy_of k pair).role ≡ Acting → (copy_of k pair).sent ≡ true
      → point_at (copy_of k pair) ≢ point.AtCheckpoint
      → may_pass downs k pair ≡ true
      → Passes number downs kept pair (Running number) []
      (with_copy k (after_sent (copy_of k pair)) pair) kept
  by_apply_behind : (k : Which) (message : ImageMessage) (applied : Core) → receives (copy_of k pair).role ≡ true
      → IsAmong message pair.checkpoints
      → message.era ≡ (copy_of k pair).era → message.number ≡ (copy_of k pair).number + 1
      → put_in (copy_of k pair).core message.image ≡ Some applied
      → (copy_of (other_of k) pair).position < own_acts number kept
      → Passes number downs kept pair (Handing (copy_of k pair).processor (Checkpointing message))
      (sent_at (copy_of k pair).processor (Taking (taken_of message) ∷ []))
      (after_applying_behind number k message applied kept pair) kept
  by_apply : (k : Which) (message : ImageMessage) (applied : Core) → receives (copy_of k pair).role ≡ true
      → IsAmong message pair.checkpoints
      → message.era ≡ (copy_of k pair).era → message.number ≡ (copy_of k pair).number + 1
      → put_in (copy_of k pair).core message.image ≡ Some applied
      → own_acts number kept ≤ (copy_of (other_of k) pair).position
      → Passes number downs kept pair (Handing (copy_of k pair).processor (Checkpointing message))
      (sent_at (copy_of k pair).processor (Taking (taken_of message) ∷ []))
      (after_applying number k message applied kept pair)
      (kept_at number (copy_of (other_of k) pair) kept)
  by_acknowledge : (k : Which) (taken : TakenMessage) → (copy_of k pair).role ≡ Acting → (copy_of k pair).sent ≡ true
      → IsAmong taken pair.takens
      → taken.era ≡ (copy_of k pair).era → taken.number ≡ (copy_of k pair).number
      → Passes number downs kept pair (Handing (copy_of k pair).processor (Taking taken)) []
      (with_copy k (after_told (copy_of k pair)) pair) kept
