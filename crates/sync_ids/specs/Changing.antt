-- Whether a change fits, told opener by opener: what the calls compare. That it is `fits_change` is shown in the
-- proofs.
use Rattle.std.specs.Prelude.{ℕ, ◌+◌, ◌==◌, Bool, true, false, ◌&&◌, if◌then◌else◌, nat_le, nat_lt, List, [], ◌∷◌}
use Rattle.std.specs.Prelude.{length}
use Rattle.std.specs.Prelude.{slice_get, Option, Some, None}
use Rattle.checkpoint_image.specs.declared.receive.OpenerBlock.{OpenerBlock}
use Rattle.sync_ids.specs.Changes.{put_in}
use Rattle.sync_ids.specs.declared.change.OpenerChange.{OpenerChange}

-- whether a change can be put into a block of an opener of this depth: it adds no more replies than the depth, and no
-- more are kept then than were taken
abbrev pub fits_block : ℕ → OpenerBlock → OpenerChange → Bool
fits_block depth block change =
    nat_le (length change.added) depth && nat_le (length (put_in depth block change).kept) change.taken

abbrev pub fits_at : Option ℕ → Option OpenerBlock → OpenerChange → Bool
fits_at None block change = false
fits_at (Some depth) None change = false
fits_at (Some depth) (Some block) change = fits_block depth block change

-- whether the places rise, none below a least one, and each change can be put into the block of an opener that is there
abbrev pub all_fit : List ℕ → List OpenerBlock → ℕ → List OpenerChange → Bool
all_fit depths blocks least [] = true
all_fit depths blocks least (change ∷ changes) =
    nat_le least change.opener
    && (fits_at (slice_get depths change.opener) (slice_get blocks change.opener) change
    && all_fit depths blocks (change.opener + 1) changes)

-- whether the request of the opener at a place has no reply after changes, of which the first that names it counts
abbrev pub is_unanswered_after : ℕ → OpenerBlock → ℕ → List OpenerChange → Bool
is_unanswered_after depth block place [] = nat_lt (length block.kept) block.taken
is_unanswered_after depth block place (change ∷ changes) =
    if change.opener == place then nat_lt (length (put_in depth block change).kept) change.taken
    else is_unanswered_after depth block place changes

abbrev pub unanswered_at : Option ℕ → Option OpenerBlock → ℕ → List OpenerChange → Bool
unanswered_at None block place changes = false
unanswered_at (Some depth) None place changes = false
unanswered_at (Some depth) (Some block) place changes = is_unanswered_after depth block place changes

-- whether nothing is in hand after changes, or it is the unanswered request of an opener
abbrev pub can_hold_after : List ℕ → List OpenerBlock → List OpenerChange → Option ℕ → Bool
can_hold_after depths blocks changes None = true
can_hold_after depths blocks changes (Some place) =
    unanswered_at (slice_get depths place) (slice_get blocks place) place changes
