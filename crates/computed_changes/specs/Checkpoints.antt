-- What a checkpoint does that comes to a copy of a process, and the message that it was taken, computed.
use Rattle.std.specs.Prelude.{ℕ, ◌+◌, ◌==◌, ◌&&◌, Bool, true, false, nat_lt, List, [], ◌∷◌, Option, Some}
use Rattle.std.specs.Prelude.{None}
use Rattle.std.specs.Option.{option_map}
use Rattle.tal_tree.specs.declared.site.Site.{Site}
use Rattle.world_semantics.specs.checkpoint_image.specs.declared.message.ImageMessage.{ImageMessage}
use Rattle.world_semantics.specs.checkpoint_image.specs.declared.message.TakenMessage.{TakenMessage}
use Rattle.world_semantics.specs.declared.role.Role.{Role}
use Rattle.world_semantics.specs.declared.role.Role.TheVariants.{Acting, Watching, Blank, Gone}
use Rattle.world_semantics.specs.declared.which.Which.{Which}
use Rattle.world_semantics.specs.Core.{Core}
use Rattle.world_semantics.specs.World.{Copy, Pair, copy_of, other_of, with_copy}
use Rattle.world_semantics.specs.Messages.{Taking, sent_at}
use Rattle.world_semantics.specs.Kept.{own_acts}
use Rattle.world_semantics.specs.Passes.{taken_of, after_applying_where, after_told, point_at}
use Rattle.world_semantics.specs.Records.{Records}
use Rattle.world_semantics.specs.Shares.{covering_where, share_of}
use Rattle.world_semantics.specs.Running.{Stepped}
use Rattle.computed_changes.specs.Fitting.{depths_of, put_fitting}

-- A checkpoint

-- whether a checkpoint is the next one for a copy of this era, which applied that of this number last: of the copy's
-- own era, and of the number next to its own
abbrev pub is_next_for : ℕ → ℕ → ImageMessage → Bool
is_next_for era number message = message.era == era && message.number == number + 1

abbrev pub core_where : List ℕ → Core → ImageMessage → Bool → Option Core
core_where depths core message true = put_fitting depths core message.image
core_where depths core message false = None

-- the core of a copy of this era, number and role after a checkpoint came to it; none where it is ignored. A copy that
-- watches or is blank applies it whole where it is the next one and fits
abbrev pub core_as : List ℕ → ℕ → ℕ → Core → ImageMessage → Role → Option Core
core_as depths era number core message Watching = core_where depths core message (is_next_for era number message)
core_as depths era number core message Blank = core_where depths core message (is_next_for era number message)
core_as depths era number core message Acting = None
core_as depths era number core message Gone = None

abbrev pub core_applying : List ℕ → Copy → ImageMessage → Option Core
core_applying depths copy message = core_as depths copy.era copy.number copy.core message copy.role

-- the records after a checkpoint of this copy of a process was applied, which is behind the kept acts or isn't
abbrev pub records_covering_where : ℕ → Copy → Records → Bool → Records
records_covering_where number copy records behind =
    record records { kept = (covering_where number (point_at copy) records.kept (share_of copy) behind).kept }

-- the same, and whether it is behind them is seen from its share
abbrev pub records_covering : ℕ → Copy → Records → Records
records_covering number copy records =
    records_covering_where number copy records (nat_lt copy.position (own_acts number records.kept))

-- a copy of a process applies a checkpoint of the other one, by which it has this core, and says that it was taken.
-- Where the other one is behind the kept acts nothing is kept; else what it holds is, and its act at its checkpoint
abbrev pub applied_step_where : ℕ → Which → Pair → Records → ImageMessage → Core → Bool → Stepped
applied_step_where number k pair records message applied behind = record {
  pair = after_applying_where number k message applied records.kept pair behind;
  records = records_covering_where number (copy_of (other_of k) pair) records behind;
  sendings = sent_at (copy_of k pair).processor (Taking (taken_of message) ∷ []);
}

abbrev pub applied_step : ℕ → Which → Pair → Records → ImageMessage → Core → Stepped
applied_step number k pair records message applied =
    applied_step_where number k pair records message applied
    (nat_lt (copy_of (other_of k) pair).position (own_acts number records.kept))

abbrev pub checkpoint_step : Site → ℕ → Which → Pair → Records → ImageMessage → Role → Option Stepped
checkpoint_step site number k pair records message role =
    option_map (applied_step number k pair records message)
    (core_as (depths_of site number) (copy_of k pair).era (copy_of k pair).number (copy_of k pair).core message role)

-- That a checkpoint was taken

-- whether it is what a copy of this era sent last, under this number, that was taken
abbrev pub is_of_last : Bool → ℕ → ℕ → TakenMessage → Bool
is_of_last sent era number taken = sent && (taken.era == era && taken.number == number)

abbrev pub taken_step_where : Which → Pair → Records → Bool → Option Stepped
taken_step_where k pair records true =
    Some (record {
      pair = with_copy k (after_told (copy_of k pair)) pair;
      records = records;
      sendings = [];
    })
taken_step_where k pair records false = None

-- a copy that acts is told that the checkpoint which it sent last was taken
abbrev pub taken_step : Which → Pair → Records → TakenMessage → Role → Option Stepped
taken_step k pair records taken Acting =
    taken_step_where k pair records (is_of_last (copy_of k pair).sent (copy_of k pair).era (copy_of k pair).number
    taken)
taken_step k pair records taken Watching = None
taken_step k pair records taken Blank = None
taken_step k pair records taken Gone = None
