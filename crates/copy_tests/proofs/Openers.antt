-- The openers of a copy.
use Rattle.std.proofs.Common.{◌≡◌, ◌∙◌, ℕ, ◌<◌, length, ap, subst}
use Rattle.std.specs.Prelude.{All, replicate}
use Rattle.std.proofs.lemmas.List.Elements.{All-replicate}
use Rattle.tal_tree.specs.declared.site.OpenerSpec.{OpenerSpec}
use Rattle.checkpoint_image.specs.declared.receive.ReceiveBlock.{ReceiveBlock}
use Rattle.sync_ids.specs.Tables.{IsDepth, IsSound, Remembered, are_of_depths, can_hold}
use Rattle.sync_ids.proofs.Tables.{and-left, lengths}

-- there is a depth for each block
pub has_opener : (one : Remembered) (table : ReceiveBlock) (opener : ℕ) → IsSound one → table ≡ one.table
    → opener < length table.openers
    → opener < length one.depths
has_opener one table opener sound same there =
    subst (λ (n : ℕ). opener < n)
    (ap (λ (t : ReceiveBlock). length t.openers) same
    ∙ lengths one.table.openers one.depths (and-left (are_of_depths one.table.openers one.depths)
    (can_hold one.table.openers one.table.in_hand) sound.table))
    there

-- openers that are all the same one
pub all_of_depth : (count : ℕ) (opener : OpenerSpec) → IsDepth opener.depth
    → All (λ (o : OpenerSpec). IsDepth o.depth) (replicate count opener)
all_of_depth count opener is = All-replicate (λ (o : OpenerSpec). IsDepth o.depth) count opener is
