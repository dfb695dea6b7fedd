-- What changed in a receive table since an earlier moment, and a table with such a change put in. That a checkpoint
-- need carry no more of what was received than changed since the one before it is Bartlett's; the rest is our own rule.
use Rattle.std.specs.Prelude.{ℕ, ◌+◌, ◌-◌, ◌==◌, Bool, true, false, ◌&&◌, if◌then◌else◌, nat_le, List, [], ◌∷◌, ◌++◌}
use Rattle.std.specs.Prelude.{length, slice_get, slice_set, Option, Some, None}
use Rattle.checkpoint_image.specs.Receive.{answered, is_place, last_ones}
use Rattle.checkpoint_image.specs.declared.receive.OpenerBlock.{OpenerBlock}
use Rattle.checkpoint_image.specs.declared.receive.ReceiveBlock.{ReceiveBlock}
use Rattle.sync_ids.specs.Tables.{Remembered, fits}
use Rattle.sync_ids.specs.declared.change.OpenerChange.{OpenerChange}
use Rattle.sync_ids.specs.declared.change.ReceiveChange.{ReceiveChange}

-- What changed

-- whether nothing was taken from an opener and nothing answered to it, of which a request was in hand or not, then and
-- now
abbrev pub is_untouched : Bool → Bool → OpenerBlock → OpenerBlock → Bool
is_untouched before now old new = old.taken == new.taken && answered before old == answered now new

-- what changed of the opener at a place; the replies that were added are as many of the last as it was answered since,
-- of those that are kept
abbrev pub change_at : Bool → Bool → ℕ → OpenerBlock → OpenerBlock → OpenerChange
change_at before now place old new =
    record {
      opener = place;
      taken = new.taken;
      added = last_ones (answered now new - answered before old) new.kept;
    }

-- what changed of the openers from a place on, with the places in hand then and now
abbrev pub changes_from : Option ℕ → Option ℕ → ℕ → List OpenerBlock → List OpenerBlock → List OpenerChange
changes_from before now place [] news = []
changes_from before now place (old ∷ olds) [] = []
changes_from before now place (old ∷ olds) (new ∷ news) =
    if is_untouched (is_place before place) (is_place now place) old new
    then changes_from before now (place + 1) olds news
    else change_at (is_place before place) (is_place now place) place old new
    ∷ changes_from before now (place + 1) olds news

-- what changed from a receive table to a later one of the same openers
abbrev pub change_between : ReceiveBlock → ReceiveBlock → ReceiveChange
change_between base later =
    record {
      changes = changes_from base.in_hand later.in_hand 0 base.openers later.openers;
      in_hand = later.in_hand;
    }

-- A table with a change put in

-- an opener's block with a change put in: of the replies that were kept and those that were added the last are kept, as
-- many as its depth
abbrev pub put_in : ℕ → OpenerBlock → OpenerChange → OpenerBlock
put_in depth block change =
    record { taken = change.taken; kept = last_ones depth (block.kept ++ change.added) }

abbrev pub put_at : Option ℕ → Option OpenerBlock → OpenerChange → List OpenerBlock → List OpenerBlock
put_at None block change blocks = blocks
put_at (Some depth) None change blocks = blocks
put_at (Some depth) (Some block) change blocks = slice_set blocks change.opener (put_in depth block change)

-- the blocks with the change of one opener put in
abbrev pub with_change : List ℕ → List OpenerBlock → OpenerChange → List OpenerBlock
with_change depths blocks change =
    put_at (slice_get depths change.opener) (slice_get blocks change.opener) change blocks

-- the blocks with each change put in
abbrev pub with_changes : List ℕ → List OpenerBlock → List OpenerChange → List OpenerBlock
with_changes depths blocks [] = blocks
with_changes depths blocks (change ∷ changes) = with_changes depths (with_change depths blocks change) changes

-- a receive table of openers of these depths with a change put in
abbrev pub table_with_change : List ℕ → ReceiveBlock → ReceiveChange → ReceiveBlock
table_with_change depths table change =
    record { openers = with_changes depths table.openers change.changes; in_hand = change.in_hand }

-- Which changes fit

-- whether there is such an opener, and no more replies are added than its depth
abbrev pub adds_few : Option ℕ → OpenerChange → Bool
adds_few None change = false
adds_few (Some depth) change = nat_le (length change.added) depth

-- whether the places rise, none below a least one, and each change adds few replies to an opener that is there
abbrev pub add_few : List ℕ → ℕ → List OpenerChange → Bool
add_few depths least [] = true
add_few depths least (change ∷ changes) =
    nat_le least change.opener && (adds_few (slice_get depths change.opener) change
    && add_few depths (change.opener + 1) changes)

-- whether a change can be put into what is remembered: its openers are there and rise, it adds no more replies than a
-- depth, and the table that comes of it fits: no more replies are kept of an opener than were taken, and what is in
-- hand is an unanswered request of an opener
abbrev pub fits_change : Remembered → ReceiveChange → Bool
fits_change remembered change =
    add_few remembered.depths 0 change.changes
    && fits remembered (table_with_change remembered.depths remembered.table change)
